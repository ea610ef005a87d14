-- Lists that a loop makes, one value for each element of another list.
use Rattle.std.specs.Prelude.{◌≡◌, ℕ, ◌+◌, ◌<◌, List, [], ◌∷◌, ◌++◌, length, map, take}
use Rattle.std.specs.Prelude.{slice_index_or}
use Rattle.std.proofs.Common.{sym, ◌∙◌, ap}
use Rattle.std.proofs.lemmas.List.{map_more}

-- the value of the next element is pushed
pub map_pushed : {X Y : Type 0} (f : X → Y) (xs : List X) (i : ℕ) (x : X) (old new : List Y)
    (y : Y) → i < length xs → x ≡ slice_index_or xs i x →
    new ≡ old ++ y ∷ [] → old ≡ map f (take i xs) → y ≡ f x → new ≡ map f (take (i + 1) xs)
map_pushed f xs i x old new y below read pushed before value =
    pushed ∙ ap (λ ys. ys ++ y ∷ []) before ∙ ap (λ v. map f (take i xs) ++ v ∷ [])
    (value ∙ ap f read)
    ∙ sym (map_more f xs i x below)
