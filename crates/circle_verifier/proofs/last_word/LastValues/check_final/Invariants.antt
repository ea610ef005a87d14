use Rattle.std.proofs.Common.{ℕ, ◌<◌}
use Rattle.circle_verifier.specs.OfRun.{fields_of, run_of}
use Rattle.circle_relation.proofs.Ends.{EndsAt}
use Rattle.circle_verifier.proofs.last_word.LastValues.check_final.Given as goal

abbrev pub invariant-loop-j : goal.invariant-loop-j
invariant-loop-j g l =
    let o = l.self.run.now.run in
    (j : ℕ) → j < l.j → EndsAt (fields_of o) o.params.now (run_of o) j
