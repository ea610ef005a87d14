use Rattle.std.proofs.Common.{◌^◌, ◌∙◌, ap, sym, arith}
use Rattle.circle_commit.specs.Mmcs.{row_at}
use Rattle.circle_commit.specs.MmcsFacts.{row_at-powers}
use Rattle.circle_merkle.proofs.Powers.{exponent_within}
use Rattle.circle_merkle.proofs.mmcs.row_at.Goals as goal

pub overflow_sub-result : goal.overflow_sub-result
overflow_sub-result c =
    exponent_within
    c.log2_strict-2.result c.log2_strict.result
    (omega (
      arith,
      c.log2_strict.ensures.power,
      c.log2_strict-2.ensures.power,
      c.requires.within,
    ))

pub returns : goal.returns
returns c =
    let above = c.log2_strict.result in
    let below = c.log2_strict-2.result in
    let within = exponent_within
    below above
    (omega (
      arith,
      c.log2_strict.ensures.power,
      c.log2_strict-2.ensures.power,
      c.requires.within,
    )) in
    sym (row_at-powers above below c.args.index within)
    ∙ ap (λ t. row_at t (2 ^ below) c.args.index) c.log2_strict.ensures.power
    ∙ ap (λ h. row_at c.args.top h c.args.index) c.log2_strict-2.ensures.power
