use Rattle.circle_domain.proofs.ReversedBlocks.{word_reversed}
use Rattle.circle_domain.proofs.ordering.reverse_bits_len.Goals as goal

pub returns : goal.returns
returns c = word_reversed c.args.bit_len c.args.x c.requires.small c.ranges.x.fits
