use Rattle.std.proofs.Common.{◌≡◌, ◌<◌, ◌∙◌, sym, ap, arith, length, map, take, slice_index_or, ◌≤◌}
use Rattle.std.specs.List.{range_with_len}
use Rattle.std.proofs.lemmas.List.{take_all, length-map}
use Rattle.std.proofs.lemmas.List.FromFn.{fill_by_all, length-map-range_with_len}
use Rattle.std.proofs.lemmas.List.FromFn.{get_or-map-range_with_len}
use Rattle.std.proofs.lemmas.Option.{get_or_from_slice_get}
use Rattle.circle_field.proofs.Inverses.{take-whole}
use Rattle.circle_commit.specs.Matrix.{column}
use Rattle.circle_commit.proofs.ColumnSums.{partial, partial-more}
use Rattle.circle_commit.specs.DotProduct.{dot, pairwise}
use Rattle.circle_commit.proofs.matrix.FieldMatrix.columnwise_dot_product.Goals as goal

pub add_multiple-requires : goal.add_multiple-requires
add_multiple-requires g c =
    let m = c.args.self.now in
    let rows = g.Self.Matrix.rows m in
    let row = c.row.result.now in
    let i = c.loop-i.i in
    let here : i < length rows =
    omega (arith, c.loop-i-test.true, c.requires, g.met.Self.Matrix.height_law m) in
    let there : slice_index_or rows i row ≡ row =
    get_or_from_slice_get rows i row row c.row.ensures in
    ap length c.deref_mut.ensures.value ∙ ap length c.loop-i.invariant
    ∙ length-map-range_with_len _ 0 (g.Self.MatrixShape.width m)
    ∙ sym (ap length (sym there) ∙ g.met.Self.Matrix.width_law m i row here)

pub loop-i-preserved : goal.loop-i-preserved
loop-i-preserved g c =
    let l = g.EF.Operations.ops in
    let z = g.F.Operations.ops.zero in
    let matrix = c.args.self.now in
    let rows = g.Self.Matrix.rows matrix in
    let width = g.Self.MatrixShape.width matrix in
    let ws = c.args.weights.now in
    let row = c.row.result.now in
    let i = c.loop-i.i in
    let w = c.index-weights-i.result in
    let old = c.loop-i.sums in
    let new = c.add_multiple.new.sums in
    let f =
    λ (a : g.row.EF.Denot) (x : g.row.F.Denot). l.add a
    (l.mul (g.EF.ExtensionField.embed x) w) in
    let here : i < length rows =
    omega (arith, c.loop-i-test.true, c.requires, g.met.Self.Matrix.height_law matrix) in
    let there : slice_index_or rows i row ≡ row =
    get_or_from_slice_get rows i row row c.row.ensures in
    let wide : length row ≡ width = ap length (sym there)
    ∙ g.met.Self.Matrix.width_law matrix i row here in
    let kept : length new ≡ length old.items = c.add_multiple.auto.sums
    ∙ ap length c.deref_mut.ensures.value in
    take-whole old.len new old.items old.ok.0 kept
    ∙ c.add_multiple.ensures ∙ ap (λ xs. pairwise f xs row) c.deref_mut.ensures.value
    ∙ partial-more l g.EF.ExtensionField.embed g.EF.Operations.laws.ring z ws rows width i w row
    old.items c.loop-i-test.true here c.index-weights-i.is (sym there) wide c.loop-i.invariant

pub returns : goal.returns
returns g c =
    let l = g.EF.Operations.ops in
    let m = g.EF.ExtensionField.embed in
    let z = g.F.Operations.ops.zero in
    let matrix = c.args.self.now in
    let rows = g.Self.Matrix.rows matrix in
    let width = g.Self.MatrixShape.width matrix in
    let ws = c.args.weights.now in
    let i = c.loop-i.i in
    let part = partial l m g.EF.Operations.laws.ring z ws rows i in
    let end : length ws ≤ i = omega (arith, c.loop-i-test.false) in
    c.loop-i.invariant
    ∙ fill_by_all (λ j. dot l ws (map m (column z rows j))) (map part (range_with_len 0 width))
    width l.zero (length-map-range_with_len part 0 width)
    (λ j lt.
    let col = map m (column z rows j) in
    let tall : length col ≡ length rows = length-map (column z rows j) m
    ∙ length-map rows (λ r. slice_index_or r j z) in
    get_or-map-range_with_len part 0 width j j l.zero lt (omega arith)
    ∙ ap (λ xs. dot l xs (take i col)) (take_all i ws end)
    ∙ ap (dot l ws)
    (take_all i col
    (omega (arith, tall, end, c.requires, g.met.Self.Matrix.height_law matrix))))
