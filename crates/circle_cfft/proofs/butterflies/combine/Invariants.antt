use Rattle.std.proofs.Common.{◌≡◌}
use Rattle.circle_commit.proofs.Written.{written}
use Rattle.circle_commit.specs.DotProduct.{pairwise}
use Rattle.circle_cfft.proofs.butterflies.combine.Given as goal

abbrev pub invariant-loop-i : goal.invariant-loop-i
invariant-loop-i g l = record {
  low : l.lows ≡ written l.i (pairwise (g.B.Butterfly.lower l.factor) l.fn.lows l.fn.highs)
      l.fn.lows;
  high : l.highs ≡ written l.i (pairwise (g.B.Butterfly.upper l.factor) l.fn.lows l.fn.highs)
      l.fn.highs;
}
