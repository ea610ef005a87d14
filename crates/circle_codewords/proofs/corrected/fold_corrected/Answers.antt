use Rattle.std.proofs.Common.{◌≡◌, ◌<◌, ◌++◌, [], ◌∷◌, ◌-◌, ◌^◌, ◌∙◌, List, ℕ, sym, ap, subst}
use Rattle.std.proofs.Common.{arith, length, map, take, slice_index_or}
use Rattle.std.proofs.lemmas.List.{take_all, map-append, take_more, length-map, get_or-map}
use Rattle.circle_commit.specs.RowMajorMatrix.{rows, width_of, height_of}
use Rattle.circle_commit.specs.declared.matrix.RowMajorMatrix.{RowMajorMatrix}
use Rattle.circle_commit.proofs.Written.{length-pairwise, pairwise-read}
use Rattle.circle_commit.specs.DotProduct.{pairwise}
use Rattle.circle_folding.specs.Fold.{y_folds}
use Rattle.circle_codewords.proofs.corrected.fold_corrected.Goals as goal

pub fold_y-requires-clause-width : goal.fold_y-requires-clause-width
fold_y-requires-clause-width g c =
    let i = c.loop-layer.layer-index in
    subst (λ (m : RowMajorMatrix g.row.EF.Denot). width_of m ≡ 2) (sym c.layer-item.is)
    (c.requires.shapes.width i c.layer-item.result c.loop-layer-test.true)

pub fold_y-requires-clause-height : goal.fold_y-requires-clause-height
fold_y-requires-clause-height g c =
    let i = c.loop-layer.layer-index in
    let m = c.layer-item.result in
    let lt = c.loop-layer-test.true in
    let hs = c.args.heights.now in
    let below : i < length hs = omega (arith, lt, c.requires.shapes.count) in
    let h = slice_index_or hs i 0 in
    let fits = c.requires.heights i 0 below in
    let positive = fits.0 in
    let top = fits.1 in
    let tall : height_of m ≡ 2 ^ (h - 1) =
    ap height_of c.layer-item.is ∙ sym (get_or-map height_of c.args.layers.now i m 0 lt)
    ∙ ap (λ ns. slice_index_or ns i 0) c.requires.shapes.height
    ∙ get_or-map (λ n. 2 ^ (n - 1)) hs i 0 0 below in
    (h - 1, tall, omega (arith, positive, top))

pub loop-layer-preserved : goal.loop-layer-preserved
loop-layer-preserved g c =
    let i = c.loop-layer.layer-index in
    let m = c.layer-item.result in
    let lt = c.loop-layer-test.true in
    let hs = c.args.heights.now in
    let ms = c.args.layers.now in
    let f : ℕ → List (List g.row.EF.Denot) → List g.row.EF.Denot =
    λ h rs. y_folds g.F.Operations.ops g.F.ComplexExtendable.generators g.EF.Operations.ops
    g.EF.ExtensionField.embed (h - 1) c.args.bivariate rs in
    let all = pairwise f hs (map rows ms) in
    let listed : length (map rows ms) ≡ length ms = length-map ms rows in
    let long : length all ≡ length hs =
    length-pairwise f hs (map rows ms) (sym (listed ∙ c.requires.shapes.count)) in
    let below : i < length hs = omega (arith, lt, c.requires.shapes.count) in
    let h = slice_index_or hs i 0 in
    let tall : height_of m ≡ 2 ^ (h - 1) =
    ap height_of c.layer-item.is ∙ sym (get_or-map height_of ms i m 0 lt)
    ∙ ap (λ ns. slice_index_or ns i 0) c.requires.shapes.height
    ∙ get_or-map (λ n. 2 ^ (n - 1)) hs i 0 0 below in
    let word = c.in_ok-fold_y.field-0 in
    let is : word.items ≡ slice_index_or all i word.items =
    c.in_ok-fold_y.ensures.folds (h - 1) tall ∙ ap (λ x. f h (rows x)) c.layer-item.is
    ∙ ap (f h) (sym (get_or-map rows ms i m [] lt))
    ∙ sym (pairwise-read f hs (map rows ms) i 0 [] word.items below (omega (arith, lt, listed))) in
    ap (map (λ w. w.items)) c.in_ok-push.ensures.items
    ∙ map-append (λ w. w.items) c.loop-layer.folded.items (word ∷ [])
    ∙ ap (λ xs. xs ++ word.items ∷ []) c.loop-layer.invariant ∙ ap (λ x. take i all ++ x ∷ []) is
    ∙ sym (take_more all i word.items (omega (arith, below, long)))

pub returns : goal.returns
returns g c =
    let hs = c.args.heights.now in
    let ms = c.args.layers.now in
    let f : ℕ → List (List g.row.EF.Denot) → List g.row.EF.Denot =
    λ h rs. y_folds g.F.Operations.ops g.F.ComplexExtendable.generators g.EF.Operations.ops
    g.EF.ExtensionField.embed (h - 1) c.args.bivariate rs in
    let listed : length (map rows ms) ≡ length ms = length-map ms rows in
    c.loop-layer.invariant ∙ take_all c.loop-layer.layer-index (pairwise f hs (map rows ms))
    (omega (
      arith,
      c.loop-layer-test.false,
      length-pairwise f hs (map rows ms) (sym (listed ∙ c.requires.shapes.count)),
      c.requires.shapes.count,
    ))
