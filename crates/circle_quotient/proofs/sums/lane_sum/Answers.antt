use Rattle.std.proofs.Common.{◌≡◌, ◌<◌, ◌∙◌, List, sym, ap, subst, arith, length, slice_index_or}
use Rattle.std.proofs.Common.{slice_set}
use Rattle.std.specs.Prelude.{Vec}
use Rattle.std.specs.declared.alloc.Global.{Global}
use Rattle.std.proofs.lemmas.List.{get_or-map, get_or_default, length-map}
use Rattle.circle_commit.proofs.Written.{written, written-more, written-all}
use Rattle.circle_air.specs.Values.{entry}
use Rattle.circle_quotient.specs.Lanes.{lane_of}
use Rattle.circle_quotient.proofs.LaneLists.{vec-each}
use Rattle.circle_quotient.proofs.sums.lane_sum.Goals as goal

pub index-requires : goal.index-requires
index-requires g c =
    let vs = c.args.coefficients.now in
    let i = c.loop-i.i in
    let v = c.index-coefficients-i.result in
    let here : i < length vs =
    omega (arith, c.loop-i-test.true, c.DEGREE-i-end.ensures, c.requires.degree) in
    let room : c.args.lane < length v.items =
    subst (λ (u : Vec g.row.F.Denot Global). c.args.lane < length u.items)
    (sym c.index-coefficients-i.is)
    (vec-each (λ (xs : List g.row.F.Denot). c.args.lane < length xs) vs c.requires.lane i v here) in
    omega (arith, room, v.ok.0)

pub loop-i-init : goal.loop-i-init
loop-i-init g c =
    ap g.EF.ExtensionField.coefficients (c.ZERO-sum.ensures ∙ g.met.EF.Field.zero_law)

pub loop-i-preserved : goal.loop-i-preserved
loop-i-preserved g c =
    let k = g.F.Operations.ops in
    let vs = c.args.coefficients.now in
    let lane = c.args.lane in
    let at = λ (v : Vec g.row.F.Denot Global). entry k v.items lane in
    let new = lane_of k vs lane in
    let old = g.EF.ExtensionField.coefficients g.EF.Operations.ops.zero in
    let i = c.loop-i.i in
    let v = c.index-coefficients-i.result in
    let x = c.index.result.now in
    let here : i < length vs =
    omega (arith, c.loop-i-test.true, c.DEGREE-i-end.ensures, c.requires.degree) in
    let room : lane < length v.items =
    subst (λ (u : Vec g.row.F.Denot Global). lane < length u.items) (sym c.index-coefficients-i.is)
    (vec-each (λ (xs : List g.row.F.Denot). lane < length xs) vs c.requires.lane i v here) in
    let is : x ≡ slice_index_or new i x =
    c.index.ensures ∙ get_or_default v.items lane x k.zero room
    ∙ ap at c.index-coefficients-i.is ∙ sym (get_or-map at vs i v x here) in
    let count = g.met.EF.ExtensionField.are_coefficients.count g.EF.Operations.ops.zero in
    let listed : length new ≡ length old = length-map vs at ∙ c.requires.degree ∙ sym count in
    c.with_coefficient-sum.ensures ∙ ap (λ xs. slice_set xs i x) c.loop-i.invariant
    ∙ ap (slice_set (written i new old) i) is
    ∙ written-more i new old x listed (omega (arith, here, c.requires.degree, count))

pub returns : goal.returns
returns g c =
    let k = g.F.Operations.ops in
    let vs = c.args.coefficients.now in
    let at = λ (v : Vec g.row.F.Denot Global). entry k v.items c.args.lane in
    let old = g.EF.ExtensionField.coefficients g.EF.Operations.ops.zero in
    let count = g.met.EF.ExtensionField.are_coefficients.count g.EF.Operations.ops.zero in
    let listed : length (lane_of k vs c.args.lane) ≡ length old =
    length-map vs at ∙ c.requires.degree ∙ sym count in
    c.loop-i.invariant
    ∙ written-all c.loop-i.i (lane_of k vs c.args.lane) old listed
    (omega (arith, c.loop-i-test.false, c.DEGREE-i-end.ensures, count))
