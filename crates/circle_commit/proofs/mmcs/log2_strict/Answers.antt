use Rattle.std.proofs.Common.{sym, ◌∙◌}
use Rattle.circle_commit.proofs.Powers.{power_between, exponent_unique}
use Rattle.circle_commit.proofs.mmcs.log2_strict.Goals as goal

pub returns-clause-power : goal.returns-clause-power
returns-clause-power c =
    sym (power_between _ _ c.requires.0 c.ilog2.ensures.power_le c.ilog2.ensures.next_power_gt
    c.requires.1)

pub returns-clause-only : goal.returns-clause-only
returns-clause-only c =
    λ m power. exponent_unique _ m
    (sym (power_between _ _ m c.ilog2.ensures.power_le c.ilog2.ensures.next_power_gt power) ∙ power)
