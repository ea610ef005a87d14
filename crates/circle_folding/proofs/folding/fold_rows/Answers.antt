use Rattle.std.proofs.Common.{◌≡◌, ◌<◌, ◌++◌, [], ◌∷◌, ◌∙◌, sym, ap, length, map, take, get_or}
use Rattle.std.proofs.Common.{arith}
use Rattle.std.proofs.lemmas.List.{take_more, take_all, length-map, get_or-map}
use Rattle.std.proofs.lemmas.Option.{get_or_from_slice_get}
use Rattle.circle_commit.proofs.Written.{length-pairwise, pairwise-read}
use Rattle.circle_folding.specs.Fold.{fold_pair, folds}
use Rattle.circle_folding.proofs.Folds.{two-entries}
use Rattle.circle_folding.proofs.folding.fold_rows.Goals as goal

pub row-row-requires : goal.row-row-requires
row-row-requires g c =
    let k = g.F.Operations.ops in
    let ts = c.args.twiddles.now in
    let inverses : c.deref-inverse-items.result.now ≡ map k.inv ts =
    c.deref-inverse-items.ensures.value ∙ c.in_ok-inverses.ensures in
    omega (arith, c.loop-j-test.true, ap length inverses, length-map ts k.inv, c.requires.height)

pub bounds-row-0 : goal.bounds-row-0
bounds-row-0 g c =
    let k = g.F.Operations.ops in
    let ts = c.args.twiddles.now in
    let matrix = c.args.evals.now in
    let rows = g.M.Matrix.rows matrix in
    let j = c.loop-j.j in
    let row = c.row-row.result.now in
    let inverses : c.deref-inverse-items.result.now ≡ map k.inv ts =
    c.deref-inverse-items.ensures.value ∙ c.in_ok-inverses.ensures in
    let of_rows : j < length rows =
    omega (
      arith,
      c.loop-j-test.true,
      ap length inverses,
      length-map ts k.inv,
      c.requires.height,
      g.met.M.Matrix.height_law matrix,
    ) in
    let there : get_or rows j row ≡ row = get_or_from_slice_get rows j row row c.row-row.ensures in
    omega (
      arith,
      ap length (sym there) ∙ g.met.M.Matrix.width_law matrix j row of_rows
          ∙ c.requires.width,
    )

pub bounds-row-1 : goal.bounds-row-1
bounds-row-1 g c =
    let k = g.F.Operations.ops in
    let ts = c.args.twiddles.now in
    let matrix = c.args.evals.now in
    let rows = g.M.Matrix.rows matrix in
    let j = c.loop-j.j in
    let row = c.row-row.result.now in
    let inverses : c.deref-inverse-items.result.now ≡ map k.inv ts =
    c.deref-inverse-items.ensures.value ∙ c.in_ok-inverses.ensures in
    let of_rows : j < length rows =
    omega (
      arith,
      c.loop-j-test.true,
      ap length inverses,
      length-map ts k.inv,
      c.requires.height,
      g.met.M.Matrix.height_law matrix,
    ) in
    let there : get_or rows j row ≡ row = get_or_from_slice_get rows j row row c.row-row.ensures in
    omega (
      arith,
      ap length (sym there) ∙ g.met.M.Matrix.width_law matrix j row of_rows
          ∙ c.requires.width,
    )

pub batch_multiplicative_inverse-requires : goal.batch_multiplicative_inverse-requires
batch_multiplicative_inverse-requires g c = c.requires.nonzero

pub loop-j-preserved : goal.loop-j-preserved
loop-j-preserved g c =
    let k = g.F.Operations.ops in
    let l = g.EF.Operations.ops in
    let m = g.EF.ExtensionField.embed in
    let beta = c.args.beta in
    let ts = c.args.twiddles.now in
    let matrix = c.args.evals.now in
    let rows = g.M.Matrix.rows matrix in
    let all = folds l beta (map m ts) rows in
    let j = c.loop-j.j in
    let i = c.inverse-item.result in
    let row = c.row-row.result.now in
    let x = c.fold_row_with_inv_twiddle.result in
    let t = get_or ts j k.zero in
    let inverses : c.deref-inverse-items.result.now ≡ map k.inv ts =
    c.deref-inverse-items.ensures.value ∙ c.in_ok-inverses.ensures in
    let within : j < length ts =
    omega (arith, c.loop-j-test.true, ap length inverses, length-map ts k.inv) in
    let of_rows : j < length rows =
    omega (arith, within, c.requires.height, g.met.M.Matrix.height_law matrix) in
    let inverse : i ≡ k.inv t = c.inverse-item.is ∙ ap (λ xs. get_or xs j i) inverses
    ∙ get_or-map k.inv ts j k.zero i within in
    let there : get_or rows j row ≡ row = get_or_from_slice_get rows j row row c.row-row.ensures in
    let wide : length row ≡ 2 = ap length (sym there)
    ∙ g.met.M.Matrix.width_law matrix j row of_rows ∙ c.requires.width in
    let folded : x ≡ fold_pair l beta (m t) row =
    c.fold_row_with_inv_twiddle.ensures t (c.requires.nonzero j k.zero within) inverse
    ∙ sym
    (two-entries l beta (m t) row c.index-row-0.result c.index-row-1.result wide
    c.index-row-0.is c.index-row-1.is) in
    let of_twiddles : j < length (map m ts) = omega (arith, within, length-map ts m) in
    let read : get_or all j x ≡ x =
    pairwise-read (fold_pair l beta) (map m ts) rows j l.zero row x of_twiddles of_rows
    ∙ ap (λ v. fold_pair l beta v (get_or rows j row)) (get_or-map m ts j k.zero l.zero within)
    ∙ ap (fold_pair l beta (m t)) there ∙ sym folded in
    let same : length (map m ts) ≡ length rows =
    omega (arith, length-map ts m, c.requires.height, g.met.M.Matrix.height_law matrix) in
    c.in_ok-push.ensures.items ∙ ap (λ before. before ++ x ∷ []) c.loop-j.invariant
    ∙ ap (λ v. take j all ++ v ∷ []) (sym read)
    ∙ sym
    (take_more all j x
    (omega (arith, of_twiddles, length-pairwise (fold_pair l beta) (map m ts) rows same)))

pub returns : goal.returns
returns g c =
    let k = g.F.Operations.ops in
    let l = g.EF.Operations.ops in
    let m = g.EF.ExtensionField.embed in
    let ts = c.args.twiddles.now in
    let matrix = c.args.evals.now in
    let rows = g.M.Matrix.rows matrix in
    let f = fold_pair l c.args.beta in
    let inverses : c.deref-inverse-items.result.now ≡ map k.inv ts =
    c.deref-inverse-items.ensures.value ∙ c.in_ok-inverses.ensures in
    let same : length (map m ts) ≡ length rows =
    omega (arith, length-map ts m, c.requires.height, g.met.M.Matrix.height_law matrix) in
    c.loop-j.invariant
    ∙ take_all c.loop-j.j (folds l c.args.beta (map m ts) rows)
    (omega (
      arith,
      c.loop-j-test.false,
      ap length inverses,
      length-map ts k.inv,
      length-map ts m,
      length-pairwise f (map m ts) rows same,
    ))
