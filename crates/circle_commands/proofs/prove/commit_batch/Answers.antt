use Rattle.std.proofs.Common.{refl, inr}
use Rattle.circle_commands.proofs.Proving.{are_extended, extended_heights, rows_for_points}
use Rattle.circle_commands.proofs.Unproved.{error-is, in_order}
use Rattle.circle_commands.proofs.prove.commit_batch.Goals as goal

pub commit-requires : goal.commit-requires
commit-requires c = rows_for_points c.args.traces.now c.in_ok-evaluations.field-0.items
    c.in_ok-evaluations.ensures

pub returns-clause-made : goal.returns-clause-made
returns-clause-made c =
    let blowup = c.args.scheme.now.fri_params.log_blowup in
    let es = c.in_ok-evaluations.field-0.items in
    record {
      given = refl;
      fitting = c.requires;
      commitment = c.in_ok-commitment.ensures.commitment;
      extended = are_extended blowup c.args.traces.now es _ c.in_ok-evaluations.ensures
          c.in_ok-commitment.ensures.matrices;
      powers = extended_heights blowup es _ c.in_ok-commitment.ensures.matrices;
    }

pub returns-in_err-commitment-clause-reason : goal.returns-in_err-commitment-clause-reason
returns-in_err-commitment-clause-reason c =
    error-is _ _ c.in_err-commitment.field-0.0 c.from_residual-in_err-commitment.ensures.1
    (inr (record {
      evaluations = c.in_ok-evaluations.field-0.items;
      placed = c.in_ok-evaluations.ensures;
      refuses = in_order _ _ c.in_err-commitment.field-0.0 c.in_err-commitment.ensures.refused;
    }))
