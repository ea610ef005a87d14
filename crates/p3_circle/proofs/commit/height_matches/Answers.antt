use Rattle.std.proofs.Common.{◌≤◌, arith}
use Rattle.std.proofs.lemmas.Bool.{leb-true, le-leb}
use Rattle.circle_domain.specs.Domain.{log_size}
use Rattle.circle_prover.proofs.CommittedHeights.{log_small}
use Rattle.p3_circle.proofs.commit.height_matches.Goals as goal

pub returns-else-log_n-le63 : goal.returns-else-log_n-le63
returns-else-log_n-le63 g c = (
  λ yes. let small : c.log_n.result ≤ 63 = leb-true c.log_n.result 63 yes in
      absurd (omega (arith, small, c.if-log_n-le63.false)),
  λ tall.
      let small : log_size c.args.domain.now ≤ 63 =
      log_small c.args.matrix.now (log_size c.args.domain.now) tall in
      le-leb c.log_n.result 63 (omega (arith, small, c.log_n.ensures)),
)
