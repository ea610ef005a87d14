use Rattle.std.proofs.Common.{◌≡◌, ◌<◌, ◌%◌, ◌+◌, ◌-◌, ◌^◌, ◌++◌, ◌∙◌, [], ◌∷◌, List, sym, ap}
use Rattle.std.proofs.Common.{length, map, take, arith, get_or, append_assoc}
use Rattle.std.proofs.Math.Nat.{mod-lt}
use Rattle.std.proofs.lemmas.List.{length-map, map-append, take_more, get_or_default}
use Rattle.std.proofs.lemmas.Nat.{pow_pos}
use Rattle.std.specs.Int.Bits.{bit_and}
use Rattle.circle_plane.proofs.EachMore.{items-at}
use Rattle.circle_plane.proofs.Periods.{low-bits}
use Rattle.circle_plane.proofs.periodic.append_row.Goals as goal

pub overflow_sub-len : goal.overflow_sub-len
overflow_sub-len g c =
    let columns = c.args.columns.now in
    let i = c.loop-column.column-index in
    let v = c.column-item.result in
    let at = items-at columns i v c.loop-column-test.true c.column-item.is in
    let power =
    c.requires.powers i []
    (omega (arith, c.loop-column-test.true, length-map columns (λ column. column.items))) in
    omega (arith, c.len.ensures, v.ok.0, power.1, pow_pos power.0, ap length at)

pub index-requires : goal.index-requires
index-requires g c =
    let columns = c.args.columns.now in
    let i = c.loop-column.column-index in
    let v = c.column-item.result in
    let r = c.args.r in
    let at = items-at columns i v c.loop-column-test.true c.column-item.is in
    let power =
    c.requires.powers i []
    (omega (arith, c.loop-column-test.true, length-map columns (λ column. column.items))) in
    let size : c.len.result ≡ 2 ^ power.0 = c.len.ensures ∙ v.ok.0 ∙ sym (ap length at) ∙ power.1 in
    let positive : 0 < c.len.result = omega (arith, size, pow_pos power.0) in
    omega (arith, c.len.ensures, mod-lt r positive, low-bits r c.len.result (power.0, size))

pub loop-column-preserved : goal.loop-column-preserved
loop-column-preserved g c =
    let z = g.F.Operations.ops.zero in
    let columns = c.args.columns.now in
    let i = c.loop-column.column-index in
    let v = c.column-item.result in
    let r = c.args.r in
    let old = c.args.values.now.items in
    let entry = λ (xs : List g.row.F.Denot). get_or xs (r % length xs) z in
    let all = map (λ column. column.items) columns in
    let within : i < length all =
    omega (arith, c.loop-column-test.true, length-map columns (λ column. column.items)) in
    let at = items-at columns i v c.loop-column-test.true c.column-item.is in
    let power = c.requires.powers i [] within in
    let size : c.len.result ≡ length v.items = c.len.ensures ∙ v.ok.0 in
    let positive : 0 < length v.items = omega (arith, power.1, pow_pos power.0, ap length at) in
    let place : bit_and r (c.len.result - 1) ≡ r % length v.items = ap (λ n. bit_and r (n - 1)) size
    ∙ low-bits r (length v.items) (power.0, sym (ap length at) ∙ power.1) in
    let x = c.index.result.now in
    let read : x ≡ entry (get_or all i []) =
    c.index.ensures ∙ ap (λ n. get_or v.items n x) place
    ∙ get_or_default v.items (r % length v.items) x z (mod-lt r positive) ∙ ap entry (sym at) in
    let split : map entry (take (i + 1) all) ≡ map entry (take i all) ++ x ∷ [] =
    ap (map entry) (take_more all i [] within)
    ∙ map-append entry (take i all) (get_or all i [] ∷ [])
    ∙ ap (λ y. map entry (take i all) ++ y ∷ []) (sym read) in
    c.in_ok-push.ensures.items
    ∙ ap (λ before. before ++ x ∷ []) c.loop-column.invariant
    ∙ append_assoc old (map entry (take i all)) (x ∷ []) ∙ ap (λ more. old ++ more) (sym split)
