use Rattle.std.proofs.Common.{◌≡◌, ◌<◌, ◌∙◌, List, ap, arith, length, map, slice_index_or}
use Rattle.std.specs.Borrow.{Bor}
use Rattle.std.specs.Vec.{with_items}
use Rattle.std.proofs.lemmas.List.{length-map, with_items_is}
use Rattle.circle_commit.proofs.Written.{written-all, length-pairwise, partnered-more}
use Rattle.circle_commit.specs.DotProduct.{pairwise}
use Rattle.circle_domain.specs.declared.lagrange.LagrangeWeights.{LagrangeWeights}
use Rattle.circle_plane.proofs.cfft.scale_each.Goals as goal

pub loop-i-preserved : goal.loop-i-preserved
loop-i-preserved g c =
    let k = g.EF.Operations.ops in
    let f = λ (found : List g.row.EF.Denot) (w : Bor (LagrangeWeights g.row.EF.Denot)). map
    (λ a. k.mul a w.now.scale) found in
    let i = c.loop-i.i in
    let v = c.index-values-i.result in
    let old = c.args.values.now in
    let now = c.loop-i.values in
    let w = c.index-weights-i.result in
    let here : i < length old = omega (arith, c.loop-i-test.true, c.requires) in
    let new = c.scale.new.entries in
    let whole : (with_items (slice_index_or now i v) new).items ≡ new =
    with_items_is (slice_index_or now i v) new
    (c.scale.auto.entries ∙ c.deref_mut.ensures.len) in
    partnered-more (λ s. s.items) f i old now c.args.weights.now v c.requires here
    c.loop-i.auto.values c.loop-i.invariant
    w (with_items (slice_index_or now i v) new) c.index-weights-i.is
    (whole ∙ c.scale.ensures ∙ ap (λ s. f s w) c.deref_mut.ensures.value)

pub returns : goal.returns
returns g c =
    let k = g.EF.Operations.ops in
    let f = λ (found : List g.row.EF.Denot) (w : Bor (LagrangeWeights g.row.EF.Denot)). map
    (λ a. k.mul a w.now.scale) found in
    let old = map (λ v. v.items) c.args.values.now in
    let listed : length old ≡ length c.args.values.now =
    length-map c.args.values.now (λ s. s.items) in
    c.loop-i.invariant ∙ written-all c.loop-i.i (pairwise f old c.args.weights.now) old
    (length-pairwise f old c.args.weights.now (listed ∙ c.requires))
    (omega (arith, c.loop-i-test.false, c.requires, listed))
