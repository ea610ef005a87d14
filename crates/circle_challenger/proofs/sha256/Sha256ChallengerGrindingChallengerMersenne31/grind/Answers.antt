use Rattle.std.proofs.Common.{◌≡◌, ℕ, ◌<◌, false, ap, Some, refl, sym, ◌∙◌, subst, arith}
use Rattle.circle_field.specs.Field.{of_nat}
use Rattle.circle_field.specs.Mersenne31.{order, operations}
use Rattle.circle_field.specs.Mersenne31Laws.{same_residue}
use Rattle.circle_challenger.specs.Sha256Challenger.{state_of}
use Rattle.circle_challenger.specs.Grinding.{passes}
use Rattle.circle_challenger.specs.Sponge.{absorbed_element, sampled_number, least_witness}
use Rattle.circle_challenger.proofs.Witnesses.{easy_witness, first_witness, no_witness, none_passes}
use Rattle.circle_challenger.proofs.Witnesses.{missed_more}
use Rattle.circle_challenger.proofs.sha256.Sha256ChallengerGrindingChallengerMersenne31.grind.Goals as goal

pub returns-then-bits-eq0-clause-answer : goal.returns-then-bits-eq0-clause-answer
returns-then-bits-eq0-clause-answer c =
    easy_witness (state_of c.args.self.now) c.args.bits _ c.if-bits-eq0.true (same_residue _ _ refl)

pub returns-then-bits-eq0-clause-easy : goal.returns-then-bits-eq0-clause-easy
returns-then-bits-eq0-clause-easy c = λ h. ap Some (same_residue _ _ refl)

pub returns-in-Some-clause-answer : goal.returns-in-Some-clause-answer
returns-in-Some-clause-answer c =
    let bits = c.args.bits in
    let below : c.loop-n.n < order = omega arith in
    first_witness (state_of c.loop-n.self) bits c.loop-n.n c.from_u64-witness.result below
    (c.from_u64-witness.ensures ∙ ap (of_nat operations) c.from.ensures)
    (sym c.in-Some.ensures.answer) c.loop-n.invariant.missed
    ∙ ap (λ s. least_witness s bits) c.loop-n.invariant.unchanged

pub loop-n-preserved : goal.loop-n-preserved
loop-n-preserved c = record {
  missed = missed_more (state_of c.loop-n.self) c.args.bits c.loop-n.n c.from_u64-witness.result
      (c.from_u64-witness.ensures ∙ ap (of_nat operations) c.from.ensures)
      (sym c.in_default.ensures.answer) c.loop-n.invariant.missed;
  unchanged = c.loop-n.invariant.unchanged;
}

pub returns-clause-answer : goal.returns-clause-answer
returns-clause-answer c =
    let missed = λ (k : ℕ) (below : k < order). let over = c.loop-n-test.false in
    c.loop-n.invariant.missed k (omega arith) in
    no_witness (state_of c.loop-n.self) c.args.bits missed
    ∙ ap (λ s. least_witness s c.args.bits) c.loop-n.invariant.unchanged

pub returns-clause-none : goal.returns-clause-none
returns-clause-none c = λ w.
    let missed = λ (k : ℕ) (below : k < order). let over = c.loop-n-test.false in
    c.loop-n.invariant.missed k (omega arith) in
    subst (λ s. passes absorbed_element sampled_number s c.args.bits w ≡ false)
    c.loop-n.invariant.unchanged (none_passes (state_of c.loop-n.self) c.args.bits missed w)
