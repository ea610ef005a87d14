-- The terms of constraints one after another, and values in one lane.
use Rattle.std.specs.Prelude.{◌≡◌, ℕ, ◌+◌, ◌/◌, ◌<◌, List, [], ◌∷◌, length, map, take}
use Rattle.std.specs.Prelude.{slice_index_or}
use Rattle.std.proofs.Common.{◌∙◌, ap, arith}
use Rattle.std.proofs.lemmas.List.{map-id}
use Rattle.std.proofs.lemmas.List.Sums.{fold_more}
use Rattle.circle_field.specs.Field.{FieldOps}
use Rattle.circle_commit.specs.Matrix.{rows_from}
use Rattle.circle_commit.specs.RowFacts.{rows_from-single}
use Rattle.circle_domain.proofs.Twiddles.{map-map}
use Rattle.circle_air.specs.declared.node.Constraint.{Constraint}
use Rattle.circle_air.specs.Lanes.{lane}
use Rattle.circle_air.specs.Values.{entry}
use Rattle.circle_quotient.specs.Composition.{Selectors, term, together}

-- the terms of one constraint more
pub together-more : {E : Type 0} (l : FieldOps E) (s : Selectors E) (nodes : List E) (alpha : E)
    (cs : List Constraint) (i : ℕ) (d : Constraint) → i < length cs →
    together l (take (i + 1) cs) nodes s alpha
    ≡ l.add (l.mul alpha (together l (take i cs) nodes s alpha))
    (term l s nodes (slice_index_or cs i d))
together-more l s nodes alpha cs i d below =
    fold_more (λ v n. l.add (l.mul alpha v) (term l s nodes n)) l.zero cs i d below

-- values in one lane
pub lane-one : {E : Type 0} (l : FieldOps E) (xs : List E) → lane l 1 0 xs ≡ xs
lane-one l xs =
    let all : length xs / 1 ≡ length xs = omega arith in
    ap (λ n. map (λ row. entry l row 0) (rows_from 1 n xs)) all
    ∙ ap (map (λ row. entry l row 0)) (rows_from-single xs)
    ∙ map-map (λ row. entry l row 0) (λ x. x ∷ []) xs ∙ map-id xs
