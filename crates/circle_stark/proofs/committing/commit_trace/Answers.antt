use Rattle.std.proofs.Common.{[], ◌∷◌, ◌∙◌, ◌+◌, ap, arith, refl, subst, sym}
use Rattle.circle_domain.specs.Domain.{IsStandardOf}
use Rattle.p3_circle.specs.Committing.{AreExtensions, RefusesInOrder, commit_tests}
use Rattle.p3_circle.specs.SchemeLaws.HonestTests.{batch-passes}
use Rattle.std.specs.Prelude.{Err}
use Rattle.circle_stark.proofs.Committable.{only-memory, trace-committable}
use Rattle.circle_stark.proofs.committing.commit_trace.Goals as goal

pub out_of_memory-requires : goal.out_of_memory-requires
out_of_memory-requires g c =
    let t = c.args.provable.now in
    let p = t.pcs.now.fri_params in
    let n = t.statement.log_n in
    let k = g.Val.Operations.ops in
    let gen = g.Val.ComplexExtendable.generators in
    let two = g.Val.ComplexExtendable.CIRCLE_TWO_ADICITY in
    let eq = g.Val.PartialEq.eq in
    let domain = c.standard-domain.result in
    let on : IsStandardOf gen n domain = (
      c.standard-domain.ensures.size,
      c.standard-domain.ensures.shift ∙ ap (λ i. gen (i + 1)) (sym c.standard-domain.ensures.size),
    ) in
    let batch = (domain, c.args.rows) ∷ [] in
    only-memory (commit_tests two p eq k batch) (Err c.in-Err.error) c.in-Err.error
    (batch-passes k eq g.met.Val.Field.eq_law two p batch (omega arith)
    (trace-committable g.Val.Operations.laws g.met.Val.ComplexExtendable.generators_law p n
    (omega (arith, t.provable.large)) t.provable.extended domain c.args.rows on))
    refl
    (subst (λ items. RefusesInOrder (commit_tests two p eq k items) (Err c.in-Err.error))
    c.in_ok-batch.ensures c.in-Err.ensures.refused)

pub returns-in-Ok-clause-committed : goal.returns-in-Ok-clause-committed
returns-in-Ok-clause-committed g c =
    let gen = g.Val.ComplexExtendable.generators in
    let pcs = c.args.provable.now.pcs.now in record {
      domain = c.standard-domain.result;
      standard = (
        c.standard-domain.ensures.size,
        c.standard-domain.ensures.shift
            ∙ ap (λ i. gen (i + 1)) (sym c.standard-domain.ensures.size),
      );
      committed = record {
        extended = subst
            (λ batch. AreExtensions g.Val.Operations.ops gen pcs.fri_params.log_blowup batch
            (g.InputMmcs.Mmcs.matrices c.in-Ok.committed.1)) c.in_ok-batch.ensures
            c.in-Ok.ensures.matrices;
        committed = c.in-Ok.ensures.commitment;
      };
    }
