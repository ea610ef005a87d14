use Rattle.std.proofs.Common.{◌≡◌, ◌<◌, ◌≤◌, ◌∙◌, sym, ap, arith, length, map, slice_index_or, All}
use Rattle.std.proofs.Common.{List}
use Rattle.std.specs.Borrow.{Bor}
use Rattle.std.specs.List.{range_with_len}
use Rattle.std.proofs.lemmas.List.{with_items_is}
use Rattle.std.proofs.lemmas.Option.{get_or_from_slice_get}
use Rattle.circle_commit.specs.DotProduct.{pairwise}
use Rattle.circle_commit.proofs.ColumnSums.{partials-none, partials-more, partials-all}
use Rattle.circle_commit.proofs.ColumnSums.{partials-widths}
use Rattle.circle_commit.proofs.matrix.FieldMatrix.columnwise_dot_products.Goals as goal

pub add_row-requires-clause-widths : goal.add_row-requires-clause-widths
add_row-requires-clause-widths g c =
    let m = c.args.self.now in
    let rows = g.Self.Matrix.rows m in
    let width = g.Self.MatrixShape.width m in
    let row = c.row.result.now in
    let i = c.loop-i.i in
    let here : i < length rows =
    omega (arith, c.loop-i-test.true, c.height-i-end.ensures, g.met.Self.Matrix.height_law m) in
    let there : slice_index_or rows i row ≡ row =
    get_or_from_slice_get rows i row row c.row.ensures in
    let wide : length row ≡ width = ap length (sym there)
    ∙ g.met.Self.Matrix.width_law m i row here in
    let widths =
    partials-widths g.EF.Operations.ops g.EF.ExtensionField.embed g.EF.Operations.laws.ring
    (λ (ws : Bor (List g.row.EF.Denot)). ws.now) g.F.Operations.ops.zero c.args.weights.now rows
    width
    (λ v. v.items) c.deref_mut.result.now i (ap (map (λ v. v.items)) c.deref_mut.ensures.value
    ∙ c.loop-i.invariant) in
    λ k d lt. widths k d lt ∙ sym wide

pub loop-i-init : goal.loop-i-init
loop-i-init g c =
    let matrix = c.args.self.now in
    let width = g.Self.MatrixShape.width matrix in
    let l = g.EF.Operations.ops in
    c.in_ok-sums.ensures
    ∙ ap
    (λ n. map (λ _. map (λ _. l.zero) (range_with_len 0 n))
    (range_with_len 0 (length c.args.weights.now))) c.width.ensures
    ∙ partials-none l g.EF.ExtensionField.embed g.EF.Operations.laws.ring
    (λ (ws : Bor (List g.row.EF.Denot)). ws.now) g.F.Operations.ops.zero c.args.weights.now
    (g.Self.Matrix.rows matrix) width

pub loop-i-preserved : goal.loop-i-preserved
loop-i-preserved g c =
    let l = g.EF.Operations.ops in
    let embed = g.EF.ExtensionField.embed in
    let matrix = c.args.self.now in
    let rows = g.Self.Matrix.rows matrix in
    let width = g.Self.MatrixShape.width matrix in
    let weights = c.args.weights.now in
    let row = c.row.result.now in
    let i = c.loop-i.i in
    let old = c.loop-i.sums in
    let new = c.add_row.new.sums in
    let f = λ (s : List g.row.EF.Denot) (ws : Bor (List g.row.EF.Denot)). pairwise
    (λ a x. l.add a (l.mul (embed x) (slice_index_or ws.now i l.zero))) s row in
    let here : i < length rows =
    omega (
      arith,
      c.loop-i-test.true,
      c.height-i-end.ensures,
      g.met.Self.Matrix.height_law matrix,
    ) in
    let there : slice_index_or rows i row ≡ row =
    get_or_from_slice_get rows i row row c.row.ensures in
    let wide : length row ≡ width = ap length (sym there)
    ∙ g.met.Self.Matrix.width_law matrix i row here in
    let weighted : All (λ (ws : Bor (List g.row.EF.Denot)). i < length ws.now) weights =
    λ q d lt. omega (arith, c.requires q d lt, c.loop-i-test.true, c.height-i-end.ensures) in
    ap (map (λ v. v.items)) (with_items_is old new (c.add_row.auto.sums ∙ c.deref_mut.ensures.len))
    ∙ c.add_row.ensures ∙ ap (λ vs. pairwise f (map (λ v. v.items) vs) weights)
    c.deref_mut.ensures.value
    ∙ partials-more l embed g.EF.Operations.laws.ring (λ (ws : Bor (List g.row.EF.Denot)). ws.now)
    g.F.Operations.ops.zero weights rows width i row (map (λ v. v.items) old.items) here
    (sym there) wide weighted c.loop-i.invariant

pub returns : goal.returns
returns g c =
    let matrix = c.args.self.now in
    let rows = g.Self.Matrix.rows matrix in
    let weights = c.args.weights.now in
    let i = c.loop-i.i in
    let weighted : All (λ (ws : Bor (List g.row.EF.Denot)). length ws.now ≤ i) weights =
    λ q d lt. omega (arith, c.requires q d lt, c.loop-i-test.false, c.height-i-end.ensures) in
    c.loop-i.invariant
    ∙ partials-all g.EF.Operations.ops g.EF.ExtensionField.embed g.EF.Operations.laws.ring
    (λ (ws : Bor (List g.row.EF.Denot)). ws.now) g.F.Operations.ops.zero weights rows
    (g.Self.MatrixShape.width matrix) i weighted
    (omega (
      arith,
      c.loop-i-test.false,
      c.height-i-end.ensures,
      g.met.Self.Matrix.height_law matrix,
    ))
