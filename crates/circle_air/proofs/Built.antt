-- Columns that were appended and given up again.
use Rattle.std.proofs.Common.{◌≡◌, ℕ, List, [], ◌∷◌, ◌++◌, length, map, take, sym, ◌∙◌, ap}
use Rattle.std.proofs.Common.{Vec, Global}
use Rattle.std.proofs.lemmas.List.{take-map, take_at}

abbrev pub entries_of : {F : Type 0} → List (Vec F Global) → List (List F)
entries_of columns = map (λ column. column.items) columns

-- what is kept of columns that are seen as these and one more
pub given_up : {F : Type 0} (old after kept : List (Vec F Global)) (column : Vec F Global) (n : ℕ)
    → length old ≡ n → entries_of after ≡ entries_of (old ++ column ∷ []) → kept ≡ take n after
    → entries_of kept ≡ entries_of old
given_up old after kept column n count seen is =
    ap entries_of is ∙ sym (take-map (λ c. c.items) n after) ∙ ap (take n) seen
    ∙ take-map (λ c. c.items) n (old ++ column ∷ [])
    ∙ ap entries_of (take_at old (column ∷ []) n count)
