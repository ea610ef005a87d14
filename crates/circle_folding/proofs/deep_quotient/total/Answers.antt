use Rattle.std.proofs.Common.{◌∙◌, sym, ap}
use Rattle.std.proofs.lemmas.List.{take_all}
use Rattle.circle_folding.specs.Blocks.{sum_of}
use Rattle.circle_folding.proofs.BlockSums.{sum-more}
use Rattle.circle_folding.proofs.deep_quotient.total.Goals as goal

pub loop-entry-preserved : goal.loop-entry-preserved
loop-entry-preserved g c =
    let k = g.F.Operations.ops in
    let x = c.entry-item.result in
    g.met.F.Field.add_law _ _ _ c.add-sum.ensures ∙ ap (λ s. k.add s x) c.loop-entry.invariant
    ∙ sym (sum-more g.F.Operations.laws.ring c.args.entries.now c.loop-entry.entry-index x
    c.loop-entry-test.true c.entry-item.is)

pub returns : goal.returns
returns g c = c.loop-entry.invariant
    ∙ ap (sum_of g.F.Operations.ops)
    (take_all c.loop-entry.entry-index c.args.entries.now c.loop-entry-test.false)
