use Rattle.std.proofs.lemmas.Result.{IfOk-weaker}
use Rattle.circle_stark.proofs.committing.commit_quotient.Goals as goal

pub returns-clause-committed : goal.returns-clause-committed
returns-clause-committed g c =
    IfOk-weaker c.commit_chunks.result _ _
    (λ r chunks. record {
      extended = c.in_ok-rows.rows;
      continues = c.in_ok-rows.ensures.values;
      values = c.in_ok-values.values.items;
      quotients = c.in_ok-values.ensures.columns;
      chunks = chunks;
    })
    c.commit_chunks.ensures.committed
