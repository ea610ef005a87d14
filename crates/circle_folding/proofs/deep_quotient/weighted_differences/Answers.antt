use Rattle.std.proofs.Common.{◌≡◌, ◌<◌, ◌∙◌, sym, ap, length, get_or, arith}
use Rattle.circle_field.specs.Field.{sub}
use Rattle.circle_commit.proofs.Written.{length-pairwise, pairwise-read}
use Rattle.circle_commit.proofs.ColumnSums.{dot-more}
use Rattle.circle_folding.specs.Quotient.{differences}
use Rattle.circle_folding.proofs.Weighted.{dot-take}
use Rattle.circle_folding.proofs.deep_quotient.weighted_differences.Goals as goal

pub loop-j-init : goal.loop-j-init
loop-j-init g c = c.ZERO-sum.ensures ∙ g.met.EF.Field.zero_law

pub bounds-values-j : goal.bounds-values-j
bounds-values-j g c = omega (arith, c.loop-j-test.true, c.requires.widths)

pub offset_bounds-values-j : goal.offset_bounds-values-j
offset_bounds-values-j g c = omega (arith, c.loop-j-test.true, c.requires.widths)

pub bounds-weights-j : goal.bounds-weights-j
bounds-weights-j g c = omega (arith, c.loop-j-test.true, c.requires.enough)

pub offset_bounds-weights-j : goal.offset_bounds-weights-j
offset_bounds-weights-j g c = omega (arith, c.loop-j-test.true, c.requires.enough)

pub loop-j-preserved : goal.loop-j-preserved
loop-j-preserved g c =
    let l = g.EF.Operations.ops in
    let m = g.EF.ExtensionField.embed in
    let row = c.args.row.now in
    let values = c.args.values.now in
    let weights = c.args.weights.now in
    let j = c.loop-j.j in
    let f = λ (r : g.row.F.Denot) (v : g.row.EF.Denot). sub l (m r) v in
    let w = c.index-weights-j.result in
    let d = f c.index-row-j.result c.index-values-j.result in
    let within : j < length row = omega (arith, c.loop-j-test.true) in
    let of_values : j < length values = omega (arith, within, c.requires.widths) in
    let at : d ≡ get_or (differences l m row values) j d =
    ap (λ r. f r c.index-values-j.result) c.index-row-j.is
    ∙ ap (f (get_or row j c.index-row-j.result)) c.index-values-j.is
    ∙ sym (pairwise-read f row values j c.index-row-j.result c.index-values-j.result d within
    of_values) in
    let made : c.add-sum.result ≡ l.add c.loop-j.sum (l.mul w d) =
    g.met.EF.Field.add_law _ _ _ c.add-sum.ensures
    ∙ ap (l.add c.loop-j.sum) (g.met.EF.Field.mul_law _ _ _ c.mul.ensures
    ∙ ap (l.mul w) (g.met.EF.Field.sub_law _ _ _ c.sub.ensures
    ∙ ap (λ a. sub l a c.index-values-j.result) c.from_base.ensures)) in
    made ∙ ap (λ s. l.add s (l.mul w d)) c.loop-j.invariant
    ∙ sym (dot-more l m g.EF.Operations.laws.ring j weights (differences l m row values) w d
    (omega (arith, within, c.requires.enough))
    (omega (arith, within, length-pairwise f row values c.requires.widths)) c.index-weights-j.is
    at)

pub returns : goal.returns
returns g c =
    let l = g.EF.Operations.ops in
    let m = g.EF.ExtensionField.embed in
    let row = c.args.row.now in
    let values = c.args.values.now in
    let f = λ (r : g.row.F.Denot) (v : g.row.EF.Denot). sub l (m r) v in
    c.loop-j.invariant ∙ dot-take l c.loop-j.j c.args.weights.now (differences l m row values)
    (omega (arith, c.loop-j-test.false, length-pairwise f row values c.requires.widths))
