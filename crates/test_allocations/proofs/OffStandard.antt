-- Points that a standard domain is clear of, and two challenges.
use Rattle.std.specs.Prelude.{◌≡◌, ◌≢◌, ℕ, ◌+◌, ◌^◌, List, [], ◌∷◌, length, slice_index_or}
use Rattle.std.proofs.Common.{sym, ◌∙◌, ap, subst, arith}
use Rattle.std.proofs.lemmas.List.Elements.{All-cons, All-nil}
use Rattle.circle_field.specs.Circle.{Coordinates, IsOnCircle, opposite, plus}
use Rattle.circle_field.specs.CircleGroup.{plus-opposite}
use Rattle.circle_field.specs.Field.{FieldOps, FieldLaws}
use Rattle.circle_domain.proofs.Powers.{pow_injective}
use Rattle.circle_domain.specs.Clear.{IsClearOf}
use Rattle.circle_domain.specs.Order.{natural_order}
use Rattle.circle_folding.specs.Claims.{AreDistinct, IsOffStandard}
use Rattle.circle_folding.specs.Queries.{IsApart}

-- they are none of its points
pub off-standard : {F E : Type 0} (k : FieldOps F) {l : FieldOps E} (laws : FieldLaws l)
    (m : F → E) (gen : ℕ → Coordinates F) (h n size : ℕ) (s : Coordinates F) (q : Coordinates E) →
    n ≡ h → s ≡ gen (h + 1) → size ≡ 2 ^ h → IsOnCircle l q →
    IsClearOf l m (natural_order k gen n s) q → IsOffStandard k gen m size q
off-standard k {l = l} laws m gen h n size s q order shift is on_circle clear other same =
    let known = subst (λ i. IsClearOf l m (natural_order k gen i (gen (h + 1))) q) order
    (subst (λ p. IsClearOf l m (natural_order k gen n p) q) shift clear) in
    subst (λ i. IsApart m (natural_order k gen i (gen (i + 1))) q)
    (pow_injective h other (sym is ∙ same))
    (λ i d lt met. known i d lt
    (ap (λ (p : Coordinates _). (plus l q (opposite l p)).y) met
    ∙ ap (λ (p : Coordinates _). p.y) (plus-opposite laws.ring q on_circle)))

-- two that differ are distinct
pub two-distinct : {E : Type 0} (xs : List E) (a b : E) → length xs ≡ 2 →
    a ≡ slice_index_or xs 0 a → b ≡ slice_index_or xs 1 b → a ≢ b → AreDistinct xs
two-distinct [] a b two is_a is_b differ = absurd (omega (arith, two))
two-distinct (x ∷ []) a b two is_a is_b differ = absurd (omega (arith, two))
two-distinct (x ∷ y ∷ []) a b two is_a is_b differ = (
  All-cons (λ z. z ≢ x) y [] (λ same. differ (is_a ∙ sym same ∙ sym is_b)) (All-nil (λ z. z ≢ x)),
  (All-nil (λ z. z ≢ y), tt),
)
two-distinct (x ∷ y ∷ z ∷ xs) a b two is_a is_b differ = absurd (omega (arith, two))
