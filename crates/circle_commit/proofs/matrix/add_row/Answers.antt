use Rattle.std.proofs.Common.{◌≡◌, ◌<◌, ◌∙◌, List, sym, ap, subst, arith, length, map}
use Rattle.std.proofs.Common.{slice_index_or}
use Rattle.std.specs.Borrow.{Bor}
use Rattle.std.specs.Vec.{with_items}
use Rattle.std.proofs.lemmas.List.{get_or_default, length-map, with_items_is}
use Rattle.circle_commit.proofs.Written.{written-all, length-pairwise, partnered-read}
use Rattle.circle_commit.proofs.Written.{partnered-more}
use Rattle.circle_commit.specs.DotProduct.{pairwise}
use Rattle.circle_commit.proofs.matrix.add_row.Goals as goal

pub add_multiple-requires : goal.add_multiple-requires
add_multiple-requires g c =
    let k = g.EF.Operations.ops in
    let f = λ (s : List g.row.EF.Denot) (ws : Bor (List g.row.EF.Denot)). pairwise
    (λ a x. k.add a
    (k.mul (g.EF.ExtensionField.embed x) (slice_index_or ws.now c.args.r k.zero))) s
    c.args.row.now in
    let i = c.loop-p.p in
    let v = c.index-sums-p.result in
    let old = c.args.sums.now in
    let here : i < length old = omega (arith, c.loop-p-test.true, c.requires.lists) in
    ap length (c.deref_mut.ensures.value ∙ partnered-read (λ s. s.items) f i old c.loop-p.sums
    c.args.weights.now v c.requires.lists here c.loop-p.auto.sums c.loop-p.invariant)
    ∙ c.requires.widths i v here

pub offset_bounds-list-r : goal.offset_bounds-list-r
offset_bounds-list-r g c =
    let list = c.index-weights-p.result in
    let weighted = c.requires.weighted c.loop-p.p list c.loop-p-test.true in
    let is = ap (λ (ws : Bor (List g.row.EF.Denot)). length ws.now) c.index-weights-p.is in
    omega (arith, weighted, is)

pub loop-p-preserved : goal.loop-p-preserved
loop-p-preserved g c =
    let k = g.EF.Operations.ops in
    let f = λ (s : List g.row.EF.Denot) (ws : Bor (List g.row.EF.Denot)). pairwise
    (λ a x. k.add a
    (k.mul (g.EF.ExtensionField.embed x) (slice_index_or ws.now c.args.r k.zero))) s
    c.args.row.now in
    let i = c.loop-p.p in
    let v = c.index-sums-p.result in
    let old = c.args.sums.now in
    let now = c.loop-p.sums in
    let list = c.index-weights-p.result in
    let weighted : c.args.r < length list.now =
    subst (λ (ws : Bor (List g.row.EF.Denot)). c.args.r < length ws.now) (sym c.index-weights-p.is)
    (c.requires.weighted i list c.loop-p-test.true) in
    let here : i < length old = omega (arith, c.loop-p-test.true, c.requires.lists) in
    let new = c.add_multiple.new.sums in
    let whole : (with_items (slice_index_or now i v) new).items ≡ new =
    with_items_is (slice_index_or now i v) new
    (c.add_multiple.auto.sums ∙ c.deref_mut.ensures.len) in
    partnered-more (λ s. s.items) f i old now c.args.weights.now v c.requires.lists here
    c.loop-p.auto.sums c.loop-p.invariant
    list (with_items (slice_index_or now i v) new) c.index-weights-p.is
    (whole ∙ c.add_multiple.ensures
    ∙ ap
    (λ w. pairwise (λ a x. k.add a (k.mul (g.EF.ExtensionField.embed x) w))
    c.deref_mut.result.now c.args.row.now)
    (c.index-list-r.is ∙ get_or_default list.now c.args.r c.index-list-r.result k.zero weighted)
    ∙ ap (λ s. f s list) c.deref_mut.ensures.value)

pub returns : goal.returns
returns g c =
    let k = g.EF.Operations.ops in
    let f = λ (s : List g.row.EF.Denot) (ws : Bor (List g.row.EF.Denot)). pairwise
    (λ a x. k.add a
    (k.mul (g.EF.ExtensionField.embed x) (slice_index_or ws.now c.args.r k.zero))) s
    c.args.row.now in
    let old = map (λ s. s.items) c.args.sums.now in
    let listed : length old ≡ length c.args.sums.now = length-map c.args.sums.now (λ s. s.items) in
    c.loop-p.invariant ∙ written-all c.loop-p.p (pairwise f old c.args.weights.now) old
    (length-pairwise f old c.args.weights.now (listed ∙ c.requires.lists))
    (omega (arith, c.loop-p-test.false, c.requires.lists, listed))
