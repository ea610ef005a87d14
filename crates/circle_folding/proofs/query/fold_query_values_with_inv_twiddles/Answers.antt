use Rattle.std.proofs.Common.{◌≡◌, ◌/◌, ◌^◌, ◌<◌, ◌∙◌, sym, ap, length, map, slice_index_or}
use Rattle.std.proofs.Common.{slice_set, arith}
use Rattle.std.proofs.lemmas.List.{get_or-map, length-map}
use Rattle.circle_commit.proofs.Written.{written, written-read, written-more, written-all}
use Rattle.circle_folding.specs.Fold.{fold_pair, folds}
use Rattle.circle_folding.specs.Chain.{asked_pairs, next_value}
use Rattle.circle_folding.proofs.Queries.{folds-read, length-folds}
use Rattle.circle_folding.proofs.query.fold_query_values_with_inv_twiddles.Goals as goal

pub loop-i-preserved : goal.loop-i-preserved
loop-i-preserved g c = λ ts nonzero are.
    let k = g.F.Operations.ops in
    let l = g.EF.Operations.ops in
    let m = g.EF.ExtensionField.embed in
    let beta = c.args.beta in
    let bits = c.args.bits in
    let qs = c.args.indices.now in
    let vs = c.args.values.now in
    let ss = c.args.siblings.now in
    let i = c.loop-i.i in
    let v = c.index-values-i.result in
    let s = c.index-siblings-i.result in
    let x = c.fold_row_with_inv_twiddle.result in
    let place = slice_index_or qs i 0 / 2 ^ bits in
    let t = slice_index_or ts i k.zero in
    let new = folds l beta (map m ts) (asked_pairs bits qs vs ss) in
    let within : i < length qs = omega (arith, c.loop-i-test.true, c.requires.values) in
    let counted : length ts ≡ length qs = sym (length-map ts k.inv) ∙ ap length (sym are)
    ∙ c.requires.inverses in
    let of_twiddles : i < length ts = omega (arith, within, counted) in
    let long : length new ≡ length vs =
    length-folds bits qs vs ss c.requires.values c.requires.siblings l beta m ts counted
    ∙ sym c.requires.values in
    let now = c.loop-i.invariant ts nonzero are in
    let read : slice_index_or c.loop-i.values i v ≡ slice_index_or vs i v =
    ap (λ xs. slice_index_or xs i v) now ∙ written-read i new vs v long in
    let inverse : c.index-inv_twiddles-i.result ≡ k.inv t =
    c.index-inv_twiddles-i.is ∙ ap (λ xs. slice_index_or xs i c.index-inv_twiddles-i.result) are
    ∙ get_or-map k.inv ts i k.zero c.index-inv_twiddles-i.result of_twiddles in
    let made : x ≡ slice_index_or new i x =
    c.fold_row_with_inv_twiddle.ensures t (nonzero i k.zero of_twiddles) inverse
    ∙ ap (fold_pair l beta (m t)) c.ordered-low.ensures
    ∙ ap (λ y. next_value l beta (m t) place y s) read
    ∙ ap (next_value l beta (m t) place (slice_index_or vs i v)) c.index-siblings-i.is
    ∙ sym (folds-read bits qs vs ss c.requires.values c.requires.siblings l beta m ts i k.zero v s x
    counted within) in
    ap (λ xs. slice_set xs i x) now
    ∙ ap (slice_set (written i new vs) i) made
    ∙ written-more i new vs x long c.loop-i-test.true

pub returns : goal.returns
returns g c = λ ts nonzero are.
    let k = g.F.Operations.ops in
    let l = g.EF.Operations.ops in
    let m = g.EF.ExtensionField.embed in
    let bits = c.args.bits in
    let qs = c.args.indices.now in
    let vs = c.args.values.now in
    let ss = c.args.siblings.now in
    let new = folds l c.args.beta (map m ts) (asked_pairs bits qs vs ss) in
    let counted : length ts ≡ length qs = sym (length-map ts k.inv) ∙ ap length (sym are)
    ∙ c.requires.inverses in
    let long : length new ≡ length vs =
    length-folds bits qs vs ss c.requires.values c.requires.siblings l c.args.beta m ts counted
    ∙ sym c.requires.values in
    c.loop-i.invariant ts nonzero are ∙ written-all c.loop-i.i new vs long c.loop-i-test.false
