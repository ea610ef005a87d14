use Rattle.stark_commands.proofs.prove.InputCommandFrom.line_from.Goals as goal

pub returns-clause-result : goal.returns-clause-result
returns-clause-result c =
    record {
      claim = c.in_ok-claim.claim;
      written = c.in_ok-claim_line.ensures;
      proved = c.in_ok-claim.ensures.proved;
    }
