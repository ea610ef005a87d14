use Rattle.circle_commands.proofs.prove.InputCommandFrom.line_from.Goals as goal

pub returns-clause-result : goal.returns-clause-result
returns-clause-result c =
    record {
      claims = c.in_ok-claims.claims;
      written = c.in_ok-claims_line.ensures;
      proved = c.in_ok-claims.ensures.proof;
      committed = c.in_ok-claims.ensures.commitments;
      accepted = c.in_ok-claims.ensures.accepted;
    }
