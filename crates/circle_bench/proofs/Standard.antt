-- The standard domains of the field of 2^31 - 1 elements are genuine.
use Rattle.std.specs.Prelude.{◌≡◌, ◌≢◌, ℕ, ◌+◌, ◌^◌, ◌≤◌, ◌<◌}
use Rattle.std.proofs.Common.{zero, suc, sym, ◌∙◌, ap, subst, arith, add-one}
use Rattle.std.proofs.Math.Nat.{pow-suc}
use Rattle.circle_field.specs.Field.{FieldOps, RingLaws}
use Rattle.circle_field.specs.Circle.{Coordinates, at, origin, times, AreGenerators}
use Rattle.circle_field.specs.Mersenne31.{operations, generators, residue}
use Rattle.circle_field.specs.Mersenne31Laws.{laws}
use Rattle.circle_field.specs.Mersenne31Circle.{are_generators}
use Rattle.circle_field.specs.declared.mersenne31.Mersenne31.{Mersenne31}
use Rattle.circle_domain.specs.Order.{IsGenuine}
use Rattle.circle_point.proofs.Multiples.{times-one, times-double}

-- 2^n times a point of order 2^(n + 1) is the half turn
module _ {F : Type 0} {k : FieldOps F} (ring : RingLaws k) {two_adicity : ℕ}
    {gen : ℕ → Coordinates F} (are : AreGenerators k two_adicity gen) where
  half_turned : (n : ℕ) → n < two_adicity → times k (2 ^ n) (gen (suc n)) ≡ gen 1
  half_turned zero h = times-one ring (gen 1)
  half_turned (suc n) h =
      let e : 2 ^ suc n ≡ 2 ^ n + 2 ^ n = omega (arith, pow-suc 2 n) in
      let below : suc n < two_adicity = h in
      ap (λ m. times k m (gen (suc (suc n)))) e
      ∙ sym (times-double ring (2 ^ n) (gen (suc (suc n))))
      ∙ ap (times k (2 ^ n)) (are.doubled (suc n) below)
      ∙ half_turned n (omega (arith, h))

-- -1 is not 1
not_origin : generators 1 ≢ origin operations
not_origin e =
    let turned : at (operations.neg operations.one) operations.zero ≡ origin operations =
    sym are_generators.half_turn ∙ e in
    let same : 2147483646 ≡ 1 = ap (λ p. residue p.x) turned in
    omega (arith, same)

-- a standard domain of at most 2^30 points is genuine
pub standard-genuine : (n m : ℕ) (s : Coordinates Mersenne31) → m ≡ n → s ≡ generators (n + 1) →
    1 ≤ n → n < 31 → IsGenuine operations m s
standard-genuine n m s size shift h below =
    let next : n + 1 ≡ suc n = add-one n in
    let first : generators (n + 1) ≡ generators (suc n) = ap generators next in (
      subst (λ k. 1 ≤ k) (sym size) h,
      λ e. not_origin (sym (half_turned laws.ring are_generators n below)
          ∙ ap (times operations (2 ^ n)) (sym (shift ∙ first))
          ∙ ap (λ k. times operations (2 ^ k) s) (sym size)
          ∙ e),
    )
