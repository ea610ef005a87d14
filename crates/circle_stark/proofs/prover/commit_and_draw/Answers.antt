use Rattle.circle_stark.specs.OfProvable.{own_of}
use Rattle.circle_stark.proofs.Verdicts.{drawn-in-turn}
use Rattle.circle_stark.proofs.prover.commit_and_draw.Goals as goal

pub commit_quotient-requires-clause-kept : goal.commit_quotient-requires-clause-kept
commit_quotient-requires-clause-kept g c =
    let trace = c.in_ok-trace_commitment.ensures.committed in record {
      given = c.args.rows;
      domain = trace.domain;
      standard = trace.standard;
      columns = c.requires.width;
      extended = trace.committed.extended;
    }

pub returns-clause-drawn : goal.returns-clause-drawn
returns-clause-drawn g c =
    drawn-in-turn (own_of c.args.provable.now) _ _ _ _ _ _ _ _ c.in_ok-run.ensures.alpha
    c.in_ok-run.ensures.state c.out_of_domain_point-zeta.ensures.zeta
    c.out_of_domain_point-zeta.ensures.state
