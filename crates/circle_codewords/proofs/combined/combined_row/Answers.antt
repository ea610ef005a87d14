use Rattle.std.proofs.Common.{◌≡◌, ◌<◌, ◌∙◌, sym, ap, length, map, slice_index_or, arith}
use Rattle.std.proofs.lemmas.List.{length-map, get_or-map}
use Rattle.circle_commit.proofs.ColumnSums.{dot-more}
use Rattle.circle_folding.proofs.Weighted.{dot-take}
use Rattle.circle_codewords.proofs.combined.combined_row.Goals as goal

pub loop-j-preserved : goal.loop-j-preserved
loop-j-preserved g c =
    let l = g.EF.Operations.ops in
    let m = g.EF.ExtensionField.embed in
    let row = c.args.row.now in
    let powers = c.args.powers.now in
    let j = c.loop-j.j in
    let p = c.index-powers-j.result in
    let e = c.index-row-j.result in
    let within : j < length row = c.loop-j-test.true in
    let at : m e ≡ slice_index_or (map m row) j (m e) = ap m c.index-row-j.is
    ∙ sym (get_or-map m row j e (m e) within) in
    let made : c.add-sum.result ≡ l.add c.loop-j.sum (l.mul p (m e)) =
    g.met.EF.Field.add_law _ _ _ c.add-sum.ensures
    ∙ ap (l.add c.loop-j.sum) (c.times_base.ensures ∙ g.EF.Operations.laws.ring.mul_comm (m e) p) in
    made ∙ ap (λ s. l.add s (l.mul p (m e))) c.loop-j.invariant
    ∙ sym (dot-more l m g.EF.Operations.laws.ring j powers (map m row) p (m e)
    (omega (arith, within, c.requires)) (omega (arith, within, length-map row m))
    c.index-powers-j.is at)

pub returns : goal.returns
returns g c =
    let m = g.EF.ExtensionField.embed in
    c.loop-j.invariant ∙ dot-take g.EF.Operations.ops c.loop-j.j c.args.powers.now
    (map m c.args.row.now)
    (omega (arith, c.loop-j-test.false, length-map c.args.row.now m))
