use Rattle.std.proofs.Common.{◌∙◌, arith}
use Rattle.circle_commands.proofs.Texts.{cut-fits}
use Rattle.stark_commands.proofs.failure.with.Goals as goal

pub returns : goal.returns
returns c = c.and_str.ensures.to_end (omega arith) ∙ cut-fits 128 _ c.requires
