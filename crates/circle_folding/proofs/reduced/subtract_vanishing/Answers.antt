use Rattle.std.proofs.Common.{◌≡◌, ◌<◌, ◌∙◌, sym, ap, length, map, slice_index_or, slice_set, arith}
use Rattle.std.proofs.lemmas.List.{length-map, get_or-map}
use Rattle.circle_field.specs.Field.{sub}
use Rattle.circle_field.specs.Circle.{Coordinates}
use Rattle.circle_point.specs.Point.{coordinates}
use Rattle.circle_point.specs.Basis.{vanishing}
use Rattle.circle_commit.proofs.Written.{written, written-read, written-more, written-all}
use Rattle.circle_commit.proofs.Written.{length-pairwise, pairwise-read}
use Rattle.circle_commit.specs.DotProduct.{pairwise}
use Rattle.circle_folding.proofs.reduced.subtract_vanishing.Goals as goal

pub bounds-points-i : goal.bounds-points-i
bounds-points-i g c = omega (arith, c.loop-i-test.true, c.requires.points)

pub offset_bounds-points-i : goal.offset_bounds-points-i
offset_bounds-points-i g c = omega (arith, c.loop-i-test.true, c.requires.points)

pub v_n-requires : goal.v_n-requires
v_n-requires g c = c.requires.positive

pub loop-i-preserved : goal.loop-i-preserved
loop-i-preserved g c =
    let l = g.EF.Operations.ops in
    let m = g.EF.ExtensionField.embed in
    let lambda = c.args.lambda in
    let v_n = λ (p : Coordinates g.row.F.Denot). m (vanishing g.F.Operations.ops c.args.n p) in
    let i = c.loop-i.i in
    let old = c.args.values.now in
    let points = c.args.points.now in
    let ps = map coordinates points in
    let f = λ (v : g.row.EF.Denot) (p : Coordinates g.row.F.Denot). sub l v
    (l.mul lambda (v_n p)) in
    let new = pairwise f old ps in
    let counted : length ps ≡ length points = length-map points coordinates in
    let long : length new ≡ length old =
    length-pairwise f old ps (sym (counted ∙ c.requires.points)) in
    let here : i < length old = c.loop-i-test.true in
    let p = c.index-points-i.result in
    let a = c.index-values-i.result in
    let v = c.sub.result in
    let read : slice_index_or c.loop-i.values i a ≡ slice_index_or old i a =
    ap (λ vs. slice_index_or vs i a) c.loop-i.invariant ∙ written-read i new old a long in
    let x : coordinates p ≡ slice_index_or ps i (coordinates p) =
    ap coordinates c.index-points-i.is
    ∙ sym
    (get_or-map coordinates points i p (coordinates p)
    (omega (arith, here, c.requires.points))) in
    let amount : c.times_base.result ≡ l.mul lambda (v_n (coordinates p)) =
    c.times_base.ensures ∙ ap (λ y. l.mul (m y) lambda) c.v_n.ensures.polynomial
    ∙ g.EF.Operations.laws.ring.mul_comm (v_n (coordinates p)) lambda in
    let made : v ≡ slice_index_or new i v =
    g.met.EF.Field.sub_law _ _ _ c.sub.ensures ∙ ap (λ s. sub l s c.times_base.result) read
    ∙ ap (sub l (slice_index_or old i a)) amount
    ∙ ap (f (slice_index_or old i a)) x
    ∙ sym
    (pairwise-read f old ps i a (coordinates p) v here
    (omega (arith, here, counted, c.requires.points))) in
    ap (λ vs. slice_set vs i v) c.loop-i.invariant ∙ ap (slice_set (written i new old) i) made
    ∙ written-more i new old v long here

pub returns : goal.returns
returns g c =
    let l = g.EF.Operations.ops in
    let old = c.args.values.now in
    let points = c.args.points.now in
    let ps = map coordinates points in
    let f = λ (v : g.row.EF.Denot) (p : Coordinates g.row.F.Denot). sub l v
    (l.mul c.args.lambda
    (g.EF.ExtensionField.embed (vanishing g.F.Operations.ops c.args.n p))) in
    let new = pairwise f old ps in
    let long : length new ≡ length old =
    length-pairwise f old ps (sym (length-map points coordinates ∙ c.requires.points)) in
    c.loop-i.invariant ∙ written-all c.loop-i.i new old long c.loop-i-test.false
