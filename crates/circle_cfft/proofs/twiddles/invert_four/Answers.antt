use Rattle.std.proofs.Common.{◌≡◌, ◌≢◌, ◌≤◌, ◌<◌, ◌+◌, ◌-◌, ◌*◌, ◌/◌, ◌∙◌, length, slice_index_or}
use Rattle.std.proofs.Common.{refl, ap, arith}
use Rattle.std.proofs.lemmas.List.{get_or_default}
use Rattle.circle_cfft.proofs.TwiddleInverses.{mapped_four, mapped_read, first-inverse}
use Rattle.circle_cfft.proofs.TwiddleInverses.{second-inverse, twice-comm}
use Rattle.circle_cfft.proofs.twiddles.invert_four.Goals as goal

pub returns : goal.returns
returns g c =
    let k = g.F.Operations.ops in
    let laws = g.F.Operations.laws in
    let xs = c.args.factors.now in
    let old = c.args.inverses.now in
    let j = c.args.j in
    let h = (length xs + 1) / 2 in
    let twice_h : h + h ≡ length xs + 1 = omega (arith, c.requires.fours) in
    let same : length xs / 2 + 1 ≡ h = omega (arith, c.requires.fours) in
    let low : 4 * j + 7 ≤ length xs = c.requires.room in
    let here : 4 * j + 3 < length xs = omega (arith, low) in
    let a = slice_index_or xs (4 * j) k.zero in
    let b = slice_index_or xs (4 * j + 1) k.zero in
    let p = slice_index_or xs (4 * j + 2) k.zero in
    let q = slice_index_or xs (4 * j + 3) k.zero in
    let u = slice_index_or xs (h + 2 * j) k.zero in
    let v = slice_index_or xs (h + (2 * j + 1)) k.zero in
    let above : h + (2 * j + 1) < length xs = omega (arith, low, twice_h) in
    let linked = c.requires.linked j k.zero here in
    let some_u : u ≢ k.zero = c.requires.nonzero (h + 2 * j) k.zero (omega (arith, above)) in
    let some_v : v ≢ k.zero = c.requires.nonzero (h + (2 * j + 1)) k.zero above in
    let place_v : length xs / 2 + 1 + 2 * j + 1 ≡ h + (2 * j + 1) = omega (arith, same) in
    let place_u : length xs / 2 + 1 + 2 * j ≡ h + 2 * j = omega (arith, same) in
    let read_v : slice_index_or old (length xs / 2 + 1 + 2 * j + 1) c.index-inverses-above.result ≡
    k.inv v =
    ap (λ n. slice_index_or old n c.index-inverses-above.result) place_v
    ∙ mapped_read k.inv xs old (4 * j + 4) (h + (2 * j + 1)) c.index-inverses-above.result k.zero
    (omega (arith, low)) (omega (arith, low, twice_h)) above c.requires.above in
    let read_u : slice_index_or old (length xs / 2 + 1 + 2 * j) c.index-inverses-above-2.result ≡
    k.inv u =
    ap (λ n. slice_index_or old n c.index-inverses-above-2.result) place_u
    ∙ mapped_read k.inv xs old (4 * j + 4) (h + 2 * j) c.index-inverses-above-2.result k.zero
    (omega (arith, low)) (omega (arith, low, twice_h)) (omega (arith, above))
    c.requires.above in
    let first : c.double-first.result ≡ k.add (k.inv v) (k.inv v) = c.double-first.ensures
    ∙ ap (λ x. k.add x x) read_v in
    let second : c.neg-second.result ≡ k.neg (k.add (k.inv u) (k.inv u)) =
    g.met.F.Field.neg_law _ c.neg-second.result c.neg-second.ensures
    ∙ ap k.neg (c.double.ensures ∙ ap (λ x. k.add x x) read_u) in
    let times = g.met.F.Field.mul_law in
    mapped_four k.inv xs old (4 * j) (4 * j + 4) k.zero c.mul.result c.mul-2.result c.mul-3.result
    c.mul-4.result here refl c.requires.above
    (times _ _ c.mul.result c.mul.ensures
    ∙ ap (λ x. k.mul x c.double-first.result)
    (c.index-factors-j.is ∙ get_or_default xs (4 * j + 1) _ k.zero (omega (arith, here)))
    ∙ ap (k.mul b) first ∙ first-inverse laws a b v some_v linked.0)
    (times _ _ c.mul-2.result c.mul-2.ensures
    ∙ ap (λ x. k.mul x c.double-first.result)
    (c.index-factors-j-2.is ∙ get_or_default xs (4 * j) _ k.zero (omega (arith, here)))
    ∙ ap (k.mul a) first ∙ first-inverse laws b a v some_v (twice-comm laws b a ∙ linked.0))
    (times _ _ c.mul-3.result c.mul-3.ensures
    ∙ ap (λ x. k.mul x c.neg-second.result)
    (c.index-factors-j-3.is ∙ get_or_default xs (4 * j + 3) _ k.zero here)
    ∙ ap (k.mul q) second ∙ second-inverse laws p q u some_u linked.1)
    (times _ _ c.mul-4.result c.mul-4.ensures
    ∙ ap (λ x. k.mul x c.neg-second.result)
    (c.index-factors-j-4.is ∙ get_or_default xs (4 * j + 2) _ k.zero (omega (arith, here)))
    ∙ ap (k.mul p) second ∙ second-inverse laws q p u some_u (twice-comm laws q p ∙ linked.1))
