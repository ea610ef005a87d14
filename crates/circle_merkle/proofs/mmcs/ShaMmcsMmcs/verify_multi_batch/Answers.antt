use Rattle.sha2.specs.Sha256.{sha256}
use Rattle.std.proofs.Common.{IfErr, subst, List, ℕ}
use Rattle.circle_commit.specs.Mmcs.{opened_rows}
use Rattle.circle_merkle.specs.Verdict.{IsFirstRefusal}
use Rattle.circle_merkle.proofs.Refusals.{refused-first}
use Rattle.circle_merkle.proofs.mmcs.ShaMmcsMmcs.verify_multi_batch.Goals as goal

pub returns-clause-refused : goal.returns-clause-refused
returns-clause-refused g c =
    let a = c.args in
    refused-first sha256 g.T.ElementBytes.bytes a.commitment.now a.dimensions.now a.indices.now
    (opened_rows a.opened_values.now) a.proof.now.items c.verify.result
    (subst
    (λ (proof : List (List ℕ)). IfErr c.verify.result
    (IsFirstRefusal sha256 g.T.ElementBytes.bytes a.commitment.now a.dimensions.now
    a.indices.now (opened_rows a.opened_values.now) proof)) c.deref.ensures.value
    c.verify.ensures.refused)
