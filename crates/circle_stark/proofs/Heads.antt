-- Equal lists have equal heads, and equal rests.
use Rattle.std.specs.Prelude.{◌≡◌, List, [], ◌∷◌}
use Rattle.std.proofs.Common.{ap}

head_or : {T : Type 0} → T → List T → T
head_or d [] = d
head_or d (x ∷ xs) = x

rest_of : {T : Type 0} → List T → List T
rest_of [] = []
rest_of (x ∷ xs) = xs

pub heads : {T : Type 0} (x y : T) (xs ys : List T) → x ∷ xs ≡ y ∷ ys → x ≡ y
unfolding head_or
heads x y xs ys same = ap (head_or x) same

pub rests : {T : Type 0} (x y : T) (xs ys : List T) → x ∷ xs ≡ y ∷ ys → xs ≡ ys
unfolding rest_of
rests x y xs ys same = ap rest_of same
