use Rattle.std.proofs.Common.{◌≡◌, ◌<◌, ◌++◌, ◌∙◌, [], ◌∷◌, sym, ap, arith, length, map, take}
use Rattle.std.proofs.Common.{slice_index_or}
use Rattle.std.proofs.lemmas.List.{take_all, take_more, map-append}
use Rattle.std.proofs.lemmas.Option.{get_or_from_slice_get}
use Rattle.circle_commit.specs.RowMajorMatrix.{rows, length-rows, rows-width}
use Rattle.circle_codewords.proofs.combined.word_of_rows.Goals as goal

pub from_coefficients-requires : goal.from_coefficients-requires
from_coefficients-requires g c =
    let m = c.args.matrix.now in
    let row = c.row.result.now in
    let here : c.loop-r.r < length (rows m) =
    omega (arith, c.loop-r-test.true, c.height-r-end.ensures, length-rows m) in
    let there : slice_index_or (rows m) c.loop-r.r row ≡ row =
    get_or_from_slice_get (rows m) c.loop-r.r row row c.row.ensures in
    sym (ap length there) ∙ rows-width m c.loop-r.r row here ∙ c.requires.width

pub loop-r-preserved : goal.loop-r-preserved
loop-r-preserved g c =
    let coefficients = g.EF.ExtensionField.coefficients in
    let all = rows c.args.matrix.now in
    let r = c.loop-r.r in
    let row = c.row.result.now in
    let here : r < length all =
    omega (arith, c.loop-r-test.true, c.height-r-end.ensures, length-rows c.args.matrix.now) in
    ap (map coefficients) c.in_ok-push.ensures.items
    ∙ map-append coefficients c.loop-r.word.items (c.from_coefficients.result ∷ [])
    ∙ ap (λ before. before ++ coefficients c.from_coefficients.result ∷ []) c.loop-r.invariant
    ∙ ap (λ last. take r all ++ last ∷ [])
    (c.from_coefficients.ensures ∙ sym (get_or_from_slice_get all r row row c.row.ensures))
    ∙ sym (take_more all r row here)

pub returns : goal.returns
returns g c =
    let m = c.args.matrix.now in
    c.loop-r.invariant
    ∙ take_all c.loop-r.r (rows m)
    (omega (arith, c.loop-r-test.false, c.height-r-end.ensures, length-rows m))
