use Rattle.circle_cfft.proofs.BlockSizes.{small-shift}
use Rattle.circle_cfft.proofs.passes.half_of.Goals as goal

pub overflow_shl-result : goal.overflow_shl-result
overflow_shl-result c = small-shift c.args.layer c.args.width c.requires.wide c.requires.fits
