use Rattle.std.proofs.Common.{refl}
use Rattle.circle_prover.proofs.rounds.add_round.Goals as goal

pub returns-clause-commitments : goal.returns-clause-commitments
returns-clause-commitments g c = c.in_ok-push.ensures.items

pub returns-clause-kept : goal.returns-clause-kept
returns-clause-kept g c = c.in_ok-push-2.ensures.items

pub returns-clause-witnesses : goal.returns-clause-witnesses
returns-clause-witnesses g c = c.in_ok-push-3.ensures.items

pub returns-clause-betas : goal.returns-clause-betas
returns-clause-betas g c = c.in_ok-push-4.ensures.items

pub returns-clause-word : goal.returns-clause-word
returns-clause-word g c = refl
