-- The standard domains are genuine.
use Rattle.std.specs.Prelude.{◌≡◌, ℕ, ◌+◌, ◌≤◌, ◌<◌}
use Rattle.std.proofs.Common.{sym, ◌∙◌, ap, arith}
use Rattle.circle_field.specs.Field.{FieldOps, FieldLaws}
use Rattle.circle_field.specs.Circle.{Coordinates, AreGenerators}
use Rattle.circle_domain.specs.Order.{IsGenuine}
use Rattle.circle_domain.proofs.Blocks.{times-generator}

module _ {F : Type 0} {k : FieldOps F} (laws : FieldLaws k) {bits : ℕ} {gen : ℕ → Coordinates F}
    (gens : AreGenerators k bits gen) where
  -- 2^n times a point of order 2^(n + 1) is the half turn, which is not neutral
  pub standard-genuine : (n : ℕ) → 1 ≤ n → n < bits → IsGenuine k n (gen (n + 1))
  standard-genuine n positive below = (
    positive,
    λ bad.
        let minus : k.neg k.one ≡ k.one =
        ap (λ (p : Coordinates F). p.x)
        (sym gens.half_turn ∙ sym (times-generator laws.ring gens n 1 (omega (arith, below)))
        ∙ bad) in
        laws.two_nonzero (ap (λ v. k.add v k.one) (sym minus) ∙ laws.ring.neg_add k.one),
  )
