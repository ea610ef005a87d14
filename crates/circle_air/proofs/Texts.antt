-- Texts one after another.
use Rattle.std.proofs.Common.{◌≡◌, ℕ, ◌+◌, ◌<◌, List, [], ◌∷◌, ◌++◌, length, get_or, take, sym, ◌∙◌}
use Rattle.std.proofs.Common.{ap, map}
use Rattle.std.specs.List.{flat_map}
use Rattle.std.proofs.lemmas.List.{take_more, flat_map_more, length-map}
use Rattle.std.proofs.lemmas.List.Folds.{flat_map-map}
use Rattle.circle_air.specs.Text.{be64, listed}

-- one more text behind those of the items so far
pub text_more : {X : Type 0} (f : X → List ℕ) (m : List ℕ) (xs : List X) (i : ℕ) (x : X)
    → i < length xs → x ≡ get_or xs i x
    → (m ++ flat_map f (take i xs)) ++ f x ≡ m ++ flat_map f (take (i + 1) xs)
text_more f m xs i x below is =
    flat_map_more f m (take i xs) x
    ∙ ap (λ y. m ++ flat_map f (take i xs ++ y ∷ [])) is
    ∙ sym (ap (λ ys. m ++ flat_map f ys) (take_more xs i x below))

-- texts of a list whose items are seen in another form
pub listed_map : {X Y : Type 0} (f : Y → List ℕ) (v : X → Y) (xs : List X)
    → listed (λ x. f (v x)) xs ≡ listed f (map v xs)
listed_map f v xs =
    ap (λ n. be64 n ++ flat_map (λ x. f (v x)) xs) (sym (length-map xs v))
    ∙ ap (λ t. be64 (length (map v xs)) ++ t) (sym (flat_map-map f v xs))
