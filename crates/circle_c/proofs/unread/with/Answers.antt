use Rattle.std.proofs.Common.{◌∙◌, arith}
use Rattle.circle_commands.proofs.Texts.{cut-fits}
use Rattle.circle_c.proofs.unread.with.Goals as goal

pub returns : goal.returns
returns c = c.and_str.ensures.to_end (omega arith) ∙ cut-fits 64 _ c.requires
