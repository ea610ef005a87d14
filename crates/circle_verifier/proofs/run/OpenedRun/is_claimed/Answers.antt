use Rattle.circle_verifier.proofs.Claimed.{has-height, has-none}
use Rattle.circle_verifier.proofs.run.OpenedRun.is_claimed.Goals as goal

pub returns-then-log_height-log_blowup : goal.returns-then-log_height-log_blowup
returns-then-log_height-log_blowup g c =
    has-height c.args.self.now.params.now.log_blowup c.args.log_height c.args.self.now.claims.now
    c.has_domain.result c.if-log_height-log_blowup.true c.has_domain.ensures

pub returns-else-log_height-log_blowup : goal.returns-else-log_height-log_blowup
returns-else-log_height-log_blowup g c =
    has-none c.args.self.now.params.now.log_blowup c.args.log_height c.args.self.now.claims.now
    c.if-log_height-log_blowup.false
