use Rattle.std.proofs.Common.{⊎_elim, inl, inr}
use Rattle.circle_challenger.specs.Sha256Challenger.{state_of}
use Rattle.circle_relation.proofs.Results.{on_one, if_err}
use Rattle.circle_commands.proofs.Absorbing.{from_new}
use Rattle.circle_commands.proofs.Verified.{commitment_of, unverified_from, verified_from}
use Rattle.circle_commands.proofs.verify.verify.Goals as goal

pub returns-clause-accepted : goal.returns-clause-accepted
returns-clause-accepted c =
    on_one c.verify_from.result
    (λ v. record {
      start = c.observe_commitments.new.challenger;
      left = c.verify_from.new.challenger;
      taken =
          from_new commitment_of _ _ _ _ c.new-challenger.ensures c.deref.ensures.value
          c.observe_commitments.ensures;
      verified = v;
    }) c.verify_from.ensures.accepted

pub returns-clause-complete : goal.returns-clause-complete
returns-clause-complete c =
    if_err _ _ c.verify_from.result
    (λ e complete v. complete (state_of v.left)
    (verified_from c.args.input (state_of c.observe_commitments.new.challenger)
    (from_new commitment_of _ _ _ _ c.new-challenger.ensures c.deref.ensures.value
    c.observe_commitments.ensures) v))
    c.verify_from.ensures.complete

pub returns-clause-reason : goal.returns-clause-reason
returns-clause-reason c =
    if_err _ _ c.verify_from.result
    (λ e h. ⊎_elim (λ m. inl m)
    (λ u. inr (unverified_from c.args.input e
    (state_of c.observe_commitments.new.challenger) (state_of c.verify_from.new.challenger)
    (from_new commitment_of _ _ _ _ c.new-challenger.ensures c.deref.ensures.value
    c.observe_commitments.ensures) u)) h)
    c.verify_from.ensures.reason
