-- The step from the coordinate of one point to that of the next.
use Rattle.std.specs.Prelude.{◌≡◌, ◌≢◌, ℕ, ◌+◌, ◌%◌, ◌^◌, ◌≤◌, Option, None, Some, IsNone, IfSome}
use Rattle.std.specs.Prelude.{slice_get}
use Rattle.std.proofs.Common.{sym, ◌∙◌, ap, refl}
use Rattle.circle_field.specs.Field.{FieldOps, FieldLaws, IsEmbedding}
use Rattle.circle_field.specs.Circle.{Coordinates, AreGenerators, plus, lifted}
use Rattle.circle_field.specs.CircleGroup.{lifted-on_circle}
use Rattle.circle_point.specs.Projective.{to_line, from_line}
use Rattle.circle_domain.specs.Order.{natural_order}
use Rattle.circle_domain.specs.Selectors.{IsFinite, IsStandard, next_from}
use Rattle.circle_domain.proofs.Lifted.{lifted-plus}
use Rattle.circle_domain.proofs.Walking.{standard-next, standard-on_circle, standard-finite}
use Rattle.circle_domain.proofs.Walking.{lifted-finite, back, coordinate-finite}

pub some_of : {A : Type 0} (o : Option A) (v : A) → (IsNone o → ⊥) → IfSome o (λ t. t ≡ v) →
    o ≡ Some v
some_of None v h e = absurd (h refl)
some_of (Some t) v h e = ap Some e

module _ {F E : Type 0} {k : FieldOps F} {l : FieldOps E} {m : F → E} (laws : FieldLaws k)
    (laws' : FieldLaws l) (embedding : IsEmbedding k l m)
    {gen : ℕ → Coordinates F} {bits : ℕ} (gens : AreGenerators k bits gen) (n : ℕ)
    (positive : 1 ≤ n) (s : Coordinates F) (standard : IsStandard bits gen n s)
    (i : ℕ) (p : Coordinates F) (here : slice_get (natural_order k gen n s) i ≡ Some p) (t : E)
    (coordinate : t ≡ to_line l (lifted m p)) where
  first : slice_get (natural_order k gen n (gen (n + 1))) i ≡ Some p
  first = ap (λ r. slice_get (natural_order k gen n r) i) (sym standard.1) ∙ here

  lifted_finite : (lifted m p).x ≢ l.neg l.one
  lifted_finite =
      lifted-finite embedding p (standard-finite laws gens n positive standard.0 i p first)

  pub walk-finite : IsFinite l t
  walk-finite =
      let c =
      lifted-on_circle embedding p
      (standard-on_circle laws.ring gens n positive standard.0 i p first) in
      λ z. coordinate-finite laws' (lifted m p) c lifted_finite
      (sym (ap (λ v. l.mul v v) coordinate) ∙ z)

  module _ (q : Coordinates F) (next : slice_get (natural_order k gen n s) ((i + 1) % 2 ^ n)
      ≡ Some q) where
    there : slice_get (natural_order k gen n (gen (n + 1))) ((i + 1) % 2 ^ n) ≡ Some q
    there = ap (λ r. slice_get (natural_order k gen n r) ((i + 1) % 2 ^ n)) (sym standard.1) ∙ next

    pub walk-next : next_from l m gen n t ≡ lifted m q
    walk-next =
        let c =
        lifted-on_circle embedding p
        (standard-on_circle laws.ring gens n positive standard.0 i p first) in
        ap (λ v. plus l (from_line l v) (lifted m (gen n))) coordinate
        ∙ ap (λ r. plus l r (lifted m (gen n))) (back laws' (lifted m p) c lifted_finite)
        ∙ sym (lifted-plus embedding p (gen n))
        ∙ ap (lifted m) (standard-next laws.ring gens n positive standard.0 i p q first there)

    pub walk-next-finite : (lifted m q).x ≢ l.neg l.one
    walk-next-finite =
        lifted-finite embedding q
        (standard-finite laws gens n positive standard.0 ((i + 1) % 2 ^ n) q there)
