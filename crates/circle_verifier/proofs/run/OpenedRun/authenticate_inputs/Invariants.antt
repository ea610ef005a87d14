use Rattle.std.proofs.Common.{length, take}
use Rattle.std.specs.Prelude.{All, map, zip}
use Rattle.circle_relation.specs.Accepts.{InputAuthenticates}
use Rattle.circle_relation.specs.RunOf.{opened_batch}
use Rattle.circle_verifier.specs.OfRun.{fields_of, run_of}
use Rattle.circle_relation.specs.StatementOf.{batch_claims}
use Rattle.circle_verifier.proofs.run.OpenedRun.authenticate_inputs.Given as goal

-- the rows of the batches so far authenticate
abbrev pub invariant-loop-batch : goal.invariant-loop-batch
invariant-loop-batch g l =
    let k = fields_of l.self in
    let opened = l.self.proof.now.fri_proof.input_openings.input_openings.items in
    All
    (InputAuthenticates k l.self.params.now (run_of l.self)
    (g.InputMmcs.Mmcs.authenticates l.self.mmcs.now))
    (take (length l.yielded) (zip (batch_claims l.self.claims.now) (map opened_batch opened)))
