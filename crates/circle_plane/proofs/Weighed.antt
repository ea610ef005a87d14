-- Lists that stand place by place beside another list.
use Rattle.std.specs.Prelude.{◌≡◌, ◌<◌, List, [], ◌∷◌, length, map, slice_index_or, All}
use Rattle.std.specs.List.{AllZip}
use Rattle.std.proofs.Common.{sym, ◌∙◌, ap, subst, arith}
use Rattle.std.proofs.lemmas.List.{length-map, get_or-map}
use Rattle.std.proofs.lemmas.List.Elements.{All-map}
use Rattle.circle_domain.proofs.Twiddles.{map-map}

-- what is made of each element
pub all_zip-own : {X Y : Type 0} (R : X → Y → Type 0) (h : X → Y) → ((x : X) → R x (h x)) →
    (xs : List X) → AllZip R xs (map h xs)
all_zip-own R h each [] = tt
all_zip-own R h each (x ∷ xs) = (each x, all_zip-own R h each xs)

-- what holds of what is shown of one list holds of what is shown alike of another
pub all-across : {X Y Z : Type 0} (P : Z → Type 0) (f : X → Z) (h : Y → Z) (xs : List X)
    (ys : List Y) → map f xs ≡ map h ys → All (λ y. P (h y)) ys → All (λ x. P (f x)) xs
all-across P f h xs ys same each = λ k d lt.
    let inside : k < length (map h ys) = omega (arith, lt, ap length same, length-map xs f) in
    subst P (ap (λ zs. slice_index_or zs k (f d)) (sym same) ∙ get_or-map f xs k d (f d) lt)
    (All-map P h ys each k (f d) inside)

-- what is made of what is shown alike
pub map-across : {X Y Z U : Type 0} (F : Z → U) (f : X → Z) (h : Y → Z) (xs : List X)
    (ys : List Y) → map f xs ≡ map h ys → map (λ x. F (f x)) xs ≡ map (λ y. F (h y)) ys
map-across F f h xs ys same = sym (map-map F f xs) ∙ ap (map F) same ∙ map-map F h ys
