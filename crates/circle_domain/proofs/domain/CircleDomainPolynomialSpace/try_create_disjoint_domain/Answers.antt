use Rattle.std.proofs.Common.{◌≡◌, ◌≢◌, ◌≤◌, ◌+◌, ◌^◌, ◌∙◌, sym, ap, subst, arith}
use Rattle.circle_field.specs.Circle.{Coordinates}
use Rattle.circle_domain.specs.Domain.{log_size, shift_of}
use Rattle.circle_domain.specs.Order.{natural_order}
use Rattle.circle_domain.specs.Selectors.{AreDisjoint}
use Rattle.circle_domain.proofs.Powers.{pow_within}
use Rattle.circle_domain.proofs.Disjoint.{standards-disjoint}
use Rattle.circle_domain.proofs.domain.CircleDomainPolynomialSpace.try_create_disjoint_domain.Goals as goal
use Rattle.circle_domain.proofs.domain.CircleDomainPolynomialSpace.try_create_disjoint_domain.Goals.{then-least-self}
use Rattle.circle_domain.proofs.domain.CircleDomainPolynomialSpace.try_create_disjoint_domain.Goals.{else-least-self}

pub
    returns-then-log_n-CIRCLE_TWO_ADICITY-clause-disjoint :
    goal.returns-then-log_n-CIRCLE_TWO_ADICITY-clause-disjoint
returns-then-log_n-CIRCLE_TWO_ADICITY-clause-disjoint g c =
    let k = g.F.Operations.ops in
    let gen = g.F.ComplexExtendable.generators in
    let a = log_size c.standard.result in
    let b = log_size c.args.self.now in
    let standard = c.is_standard.ensures.0 c.if-not-is_standard.false in
    let facts : (b ≢ c.if-least-self.log_n) × (1 ≤ c.if-least-self.log_n) =
    elim c.if-least-self.branch [
      | then-least-self w ↦ (
        λ e. omega (arith, e, w.if-least-self.true, w.log_n-is),
        omega (arith, w.log_n-is),
      )
      | else-least-self w ↦ (
        λ e. w.if-least-self.false (omega (arith, e, w.log_n-is)),
        omega (arith, w.log_n-is, c.least_log-least.ensures.least.0),
      )
    ] in
    let different : a ≢ b = λ e. facts.0 (omega (arith, e, c.standard.ensures.size)) in
    let disjoint = standards-disjoint g.F.Operations.laws g.met.F.ComplexExtendable.generators_law a
    b different
    (omega (arith, facts.1, c.standard.ensures.size))
    (omega (
      arith,
      c.standard.ensures.size,
      c.if-log_n-CIRCLE_TWO_ADICITY.true,
      c.CIRCLE_TWO_ADICITY.ensures,
    )) c.requires.positive standard.0 in
    subst
    (λ (s : Coordinates g.row.F.Denot). AreDisjoint (natural_order k gen a s)
    (natural_order k gen b (shift_of c.args.self.now)))
    (ap gen (let e : a + 1 ≡ c.if-least-self.log_n + 1 = omega (arith, c.standard.ensures.size) in
    e) ∙ sym c.standard.ensures.shift)
    (subst (λ (s : Coordinates g.row.F.Denot). AreDisjoint (natural_order k gen a (gen (a + 1)))
    (natural_order k gen b s)) (sym standard.1) disjoint)

pub
    returns-then-log_n-CIRCLE_TWO_ADICITY-clause-enough :
    goal.returns-then-log_n-CIRCLE_TWO_ADICITY-clause-enough
returns-then-log_n-CIRCLE_TWO_ADICITY-clause-enough g c =
    let least = c.least_log-least.result in
    let le : least ≤ c.if-least-self.log_n = elim c.if-least-self.branch [
      | then-least-self w ↦ omega (arith, w.log_n-is)
      | else-least-self w ↦ omega (arith, w.log_n-is)
    ] in
    let within : 2 ^ least ≤ 2 ^ c.if-least-self.log_n = pow_within
    least c.if-least-self.log_n le in
    omega (
      arith,
      c.least_log-least.ensures.least.1,
      within,
      ap (λ n. 2 ^ n) c.standard.ensures.size,
    )
