use Rattle.std.proofs.Common.{◌∙◌, ◌+◌, ap, arith, refl, sym}
use Rattle.std.specs.Prelude.{Err}
use Rattle.circle_domain.specs.Domain.{IsStandardOf, log_size}
use Rattle.p3_circle.specs.Committing.{target_tests_at}
use Rattle.circle_stark.proofs.Committable.{only-memory, target-passes}
use Rattle.circle_stark.proofs.CommittedValues.{continues, continues-tall}
use Rattle.circle_stark.proofs.committing.extended_rows.Goals as goal

pub returns-in-Ok-clause-height : goal.returns-in-Ok-clause-height
returns-in-Ok-clause-height g c =
    let gen = g.Val.ComplexExtendable.generators in
    let target = c.standard.result in
    let on : IsStandardOf gen c.args.log_size target = (
      c.standard.ensures.size,
      c.standard.ensures.shift ∙ ap (λ i. gen (i + 1)) (sym c.standard.ensures.size),
    ) in
    continues-tall g.Val.Operations.laws g.met.Val.ComplexExtendable.generators_law
    c.args.pcs.now.fri_params.log_blowup c.args.statement.now.log_n c.args.log_size
    (omega (arith, c.requires.foldable)) (omega (arith, c.requires.foldable, c.requires.larger))
    c.requires.extended
    target on c.in-Ok.rows (g.InputMmcs.Mmcs.matrices c.args.trace.now) c.in-Ok.ensures.values
    c.requires.kept.domain c.requires.kept.given c.requires.kept.standard c.requires.kept.extended

pub returns-in-Ok-clause-values : goal.returns-in-Ok-clause-values
returns-in-Ok-clause-values g c =
    let gen = g.Val.ComplexExtendable.generators in
    let target = c.standard.result in
    let on : IsStandardOf gen c.args.log_size target = (
      c.standard.ensures.size,
      c.standard.ensures.shift ∙ ap (λ i. gen (i + 1)) (sym c.standard.ensures.size),
    ) in
    continues g.Val.Operations.laws g.met.Val.ComplexExtendable.generators_law
    c.args.pcs.now.fri_params.log_blowup c.args.statement.now.log_n c.args.log_size
    (omega (arith, c.requires.foldable)) (omega (arith, c.requires.foldable, c.requires.larger))
    c.requires.extended
    target on c.in-Ok.rows (g.InputMmcs.Mmcs.matrices c.args.trace.now) c.in-Ok.ensures.values

pub out_of_memory-requires : goal.out_of_memory-requires
out_of_memory-requires g c =
    let p = c.args.pcs.now.fri_params in
    let kept = c.requires.kept in
    let matrices = g.InputMmcs.Mmcs.matrices c.args.trace.now in
    only-memory (target_tests_at g.Val.ComplexExtendable.CIRCLE_TWO_ADICITY p matrices 0
    (log_size c.standard.result)) (Err c.in-Err.error) c.in-Err.error
    (target-passes g.Val.Operations.ops g.Val.ComplexExtendable.generators
    g.Val.ComplexExtendable.CIRCLE_TWO_ADICITY p c.args.statement.now.log_n
    (log_size c.standard.result) c.requires.foldable c.requires.extended
    (omega (arith, c.requires.larger, c.standard.ensures.size)) kept.domain kept.given kept.standard
    matrices kept.extended)
    refl c.in-Err.ensures.refused
