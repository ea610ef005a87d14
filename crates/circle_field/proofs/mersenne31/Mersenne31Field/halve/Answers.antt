use Rattle.std.specs.Prelude.{◌≡◌, ℕ, ◌+◌, ◌%◌}
use Rattle.std.proofs.Common.{◌∙◌, ap, arith}
use Rattle.std.proofs.Math.Nat.{add-mod_right}
use Rattle.circle_field.specs.declared.mersenne31.Mersenne31.{Mersenne31}
use Rattle.circle_field.specs.Mersenne31.{order, residue}
use Rattle.circle_field.specs.Mersenne31Laws.{laws, same_residue, residue_reduced}
use Rattle.circle_field.proofs.Halves.{half_unique}
use Rattle.circle_field.proofs.mersenne31.Mersenne31Field.halve.Goals as goal
use Rattle.circle_field.proofs.mersenne31.Mersenne31Field.halve.Goals.{then-self-eq1, else-self-eq1}

doubled_even : (a : Mersenne31) (r : ℕ) → r + r ≡ residue a → (r + r) % order ≡ residue a
doubled_even a r e = ap (λ n. n % order) e ∙ residue_reduced a

doubled_odd : (a : Mersenne31) (r : ℕ) → r + r ≡ residue a + order → (r + r) % order ≡ residue a
doubled_odd a r e = ap (λ n. n % order) e ∙ add-mod_right (residue a) order ∙ residue_reduced a

pub returns : goal.returns
returns c =
    let a = c.args.self.now in
    let r = c.if-self-eq1.result in
    let doubled : (r + r) % order ≡ residue a = elim c.if-self-eq1.branch [
      | then-self-eq1 w ↦ doubled_odd a r (omega (arith, w.result-is, w.if-self-eq1.true))
      | else-self-eq1 w ↦ doubled_even a r (omega (arith, w.result-is, w.if-self-eq1.false))
    ] in
    half_unique laws a _ (same_residue _ _ doubled)
