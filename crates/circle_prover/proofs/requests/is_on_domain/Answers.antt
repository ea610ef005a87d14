use Rattle.std.proofs.Common.{sym, ◌∙◌, subst, arith}
use Rattle.circle_commit.specs.RowMajorMatrix.{height_of}
use Rattle.circle_codewords.specs.Requests.{log_of}
use Rattle.circle_relation.specs.Accepts.{Fields}
use Rattle.circle_codewords.specs.Values.{AreOff}
use Rattle.circle_prover.proofs.OnDomain.{off-told}
use Rattle.circle_prover.proofs.requests.is_on_domain.Goals as goal

pub log2_strict-requires : goal.log2_strict-requires
log2_strict-requires g c =
    (log_of (height_of c.args.matrix.now), c.height.ensures ∙ c.requires.domain.power)

pub are_off_domain-requires-clause-positive : goal.are_off_domain-requires-clause-positive
are_off_domain-requires-clause-positive g c =
    let is = c.log2_strict.ensures.only (log_of (height_of c.args.matrix.now))
    (c.height.ensures ∙ c.requires.domain.power) in
    let positive = c.requires.domain.positive in
    omega (arith, is, positive)

pub are_off_domain-requires-clause-in_group : goal.are_off_domain-requires-clause-in_group
are_off_domain-requires-clause-in_group g c =
    let is = c.log2_strict.ensures.only (log_of (height_of c.args.matrix.now))
    (c.height.ensures ∙ c.requires.domain.power) in
    let below = c.requires.domain.in_group in
    omega (arith, is, below)

pub returns : goal.returns
returns g c =
    let k : Fields g.row.F.Denot g.row.EF.Denot =
    record {
      field = g.F.Operations.ops;
      gen = g.F.ComplexExtendable.generators;
      two_adicity =
          g.F.ComplexExtendable.CIRCLE_TWO_ADICITY;
      is_zero = λ w. g.F.PartialEq.eq w g.F.Field.ZERO;
      extension = g.EF.Operations.ops;
      embed = g.EF.ExtensionField.embed;
      same =
          g.EF.PartialEq.eq;
    } in
    let m = c.args.matrix.now in
    let points = c.args.points.now in
    let is =
    c.log2_strict.ensures.only (log_of (height_of m))
    (c.height.ensures ∙ c.requires.domain.power) in
    off-told k g.EF.PartialEq.eq g.met.EF.Field.eq_law g.F.Operations.laws g.EF.Operations.laws
    g.met.EF.ExtensionField.embedding g.met.F.ComplexExtendable.generators_law
    m c.requires.domain points c.requires.finite c.are_off_domain.result
    (λ yes. subst (λ h. AreOff k h points) is (c.are_off_domain.ensures.yes yes))
    (λ off. c.are_off_domain.ensures.no (subst (λ h. AreOff k h points) (sym is) off))
