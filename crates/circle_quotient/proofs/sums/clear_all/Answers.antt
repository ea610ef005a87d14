use Rattle.std.proofs.Common.{◌≡◌, ◌<◌, ◌∙◌, List, sym, ap, arith, length, replicate}
use Rattle.std.proofs.Common.{slice_index_or}
use Rattle.std.specs.Vec.{with_items}
use Rattle.std.proofs.lemmas.List.{get_or-map, length-map, map-set, with_items_is}
use Rattle.circle_commit.specs.PeriodicLdeTable.{columns_of}
use Rattle.circle_commit.proofs.Written.{mapped-more}
use Rattle.circle_quotient.proofs.LaneLists.{all-same}
use Rattle.circle_quotient.proofs.sums.clear_all.Goals as goal

pub loop-i-preserved : goal.loop-i-preserved
loop-i-preserved g c =
    let zero = g.F.Operations.ops.zero in
    let f = λ (xs : List g.row.F.Denot). replicate (length xs) zero in
    let i = c.loop-i.i in
    let v = c.index-lists-i.result in
    let old = columns_of c.args.lists.now in
    let now = c.loop-i.lists in
    let here = slice_index_or now i v in
    let new = c.write_same.new.lanes in
    let below : i < length now = omega (arith, c.loop-i-test.true, c.loop-i.auto.lists) in
    let long : length new ≡ length here.items =
    c.write_same.auto.lanes ∙ ap length c.deref_mut.ensures.value in
    let whole : (with_items here new).items ≡ new =
    with_items_is here new (c.write_same.auto.lanes ∙ c.deref_mut.ensures.len) in
    let zeros : new ≡ f here.items =
    all-same zero new (λ r d lt. c.write_same.ensures r d lt ∙ c.ZERO.ensures
    ∙ g.met.F.Field.zero_law)
    ∙ ap (λ n. replicate n zero) long in
    map-set (λ x. x.items) now i (with_items here new)
    ∙ mapped-more f i old (columns_of now) here.items (with_items here new).items
    (omega (arith, below, c.loop-i.auto.lists, length-map c.args.lists.now (λ x. x.items)))
    c.loop-i.invariant (sym (get_or-map (λ x. x.items) now i v here.items below)) (whole ∙ zeros)
