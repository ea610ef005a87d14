use Rattle.std.proofs.Common.{◌≡◌, ◌<◌, ◌∙◌, sym, ap, length, arith}
use Rattle.circle_commit.proofs.ColumnSums.{dot-more}
use Rattle.circle_folding.proofs.Weighted.{dot-take}
use Rattle.circle_codewords.proofs.reduced.combined_values.Goals as goal

pub loop-j-preserved : goal.loop-j-preserved
loop-j-preserved g c =
    let l = g.EF.Operations.ops in
    let j = c.loop-j.j in
    let p = c.index-powers-j.result in
    let v = c.index-values-j.result in
    let within : j < length c.args.values.now = c.loop-j-test.true in
    let made : c.add-sum.result ≡ l.add c.loop-j.sum (l.mul p v) =
    g.met.EF.Field.add_law _ _ _ c.add-sum.ensures
    ∙ ap (l.add c.loop-j.sum) (g.met.EF.Field.mul_law _ _ _ c.mul.ensures) in
    made ∙ ap (λ s. l.add s (l.mul p v)) c.loop-j.invariant
    ∙ sym (dot-more l (λ (x : g.row.EF.Denot). x) g.EF.Operations.laws.ring j c.args.powers.now
    c.args.values.now p v
    (omega (arith, within, c.requires)) within c.index-powers-j.is c.index-values-j.is)

pub returns : goal.returns
returns g c = c.loop-j.invariant ∙ dot-take g.EF.Operations.ops c.loop-j.j c.args.powers.now
    c.args.values.now (omega (arith, c.loop-j-test.false))
