use Rattle.circle_commands.proofs.prove.InputCommand.line.Goals as goal

pub returns-clause-result : goal.returns-clause-result
returns-clause-result c =
    record {
      claims = c.in_ok-claims.claims;
      written = c.in_ok-claims_line.ensures;
      proved = c.in_ok-claims.ensures.proof;
      accepted = c.in_ok-claims.ensures.accepted;
    }
