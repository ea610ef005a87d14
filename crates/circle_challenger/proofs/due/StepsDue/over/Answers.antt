use Rattle.std.proofs.Common.{rules, lives}
use Rattle.circle_challenger.proofs.due.StepsDue.over.Goals as goal

pub picked-requires : goal.picked-requires
picked-requires g c κs within = search (rules, lives, within) depth 24 fits 20000
