-- Lists of powers.
use Rattle.std.specs.Prelude.{◌≡◌, ℕ, List, length, map}
use Rattle.std.specs.List.{range_with_len}
use Rattle.std.proofs.Common.{sym, ◌∙◌, ap}
use Rattle.std.proofs.lemmas.List.{length-map}
use Rattle.std.proofs.lemmas.List.FromFn.{length-range_with_len}
use Rattle.circle_field.specs.Field.{FieldOps, nth_power}
use Rattle.circle_folding.specs.Quotient.{ArePowers}

pub length-powers : {E : Type 0} (l : FieldOps E) (a : E) (n : ℕ) (ps : List E) →
    ps ≡ map (λ i. nth_power l a i) (range_with_len 0 n) → length ps ≡ n
length-powers l a n ps is = ap length is ∙ length-map (range_with_len 0 n) (λ i. nth_power l a i)
    ∙ length-range_with_len 0 n

pub are-powers : {E : Type 0} (l : FieldOps E) (a : E) (n : ℕ) (ps : List E) →
    ps ≡ map (λ i. nth_power l a i) (range_with_len 0 n) → ArePowers l a ps
are-powers l a n ps is =
    is ∙ ap (λ m. map (nth_power l a) (range_with_len 0 m)) (sym (length-powers l a n ps is))
