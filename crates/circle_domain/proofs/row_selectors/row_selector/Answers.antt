use Rattle.std.proofs.Common.{◌≡◌, ◌≢◌, ◌<◌, ◌++◌, [], ◌∷◌, ◌∙◌, sym, ap, arith, length, map, take}
use Rattle.std.proofs.Common.{slice_index_or, All, subst}
use Rattle.std.proofs.lemmas.List.{length-map, take_more, take_all, get_or-map}
use Rattle.circle_field.specs.Circle.{Coordinates, plus, opposite}
use Rattle.circle_point.specs.Point.{coordinates}
use Rattle.circle_point.specs.Projective.{to_line}
use Rattle.circle_point.specs.declared.point.Point.{Point}
use Rattle.circle_commit.specs.DotProduct.{pairwise}
use Rattle.circle_domain.specs.Selectors.{zero_at}
use Rattle.circle_domain.proofs.Reciprocals.{reciprocal}
use Rattle.circle_commit.proofs.Written.{length-pairwise, pairwise-read}
use Rattle.circle_domain.proofs.row_selectors.row_selector.Goals as goal

pub batch_multiplicative_inverse-requires : goal.batch_multiplicative_inverse-requires
batch_multiplicative_inverse-requires g c =
    let NonZero : g.row.F.Denot → Type 0 = λ y. y ≢ g.F.Operations.ops.zero in
    subst (All NonZero) (sym (c.deref.ensures.value ∙ c.in_ok-differences.ensures)) c.requires.apart

pub loop-i-init : goal.loop-i-init
loop-i-init g c = c.in_ok-values.ensures.items

pub bounds-vanishing-i : goal.bounds-vanishing-i
bounds-vanishing-i g c = omega (arith, c.loop-i-test.true, c.requires.count)

pub index-requires : goal.index-requires
index-requires g c =
    let k = g.F.Operations.ops in
    let points = c.args.points.now in
    let height =
    λ (q : Point g.row.F.Denot g.F.Operations).
    (plus k (coordinates q) (opposite k (coordinates c.args.row))).y in
    let inverses = c.in_ok-inverses.inverses in
    let made : inverses.items ≡ map k.inv (map height points) =
    c.in_ok-inverses.ensures
    ∙ ap (map k.inv) (c.deref.ensures.value ∙ c.in_ok-differences.ensures) in
    let long : length inverses.items ≡ length points =
    ap length made ∙ length-map (map height points) k.inv ∙ length-map points height in
    omega (arith, long, inverses.ok.0, c.loop-i-test.true)

pub loop-i-preserved : goal.loop-i-preserved
loop-i-preserved g c =
    let k = g.F.Operations.ops in
    let row = coordinates c.args.row in
    let points = c.args.points.now in
    let zs = c.args.vanishing.now in
    let i = c.loop-i.i in
    let p = c.index-points-i.result in
    let z = c.index-vanishing-i.result in
    let u = c.index.result.now in
    let v = c.mul-in-loop-i.result in
    let d = coordinates c.sub.result in
    let height =
    λ (q : Point g.row.F.Denot g.F.Operations). (plus k (coordinates q) (opposite k row)).y in
    let f = λ (a : g.row.F.Denot) (q : Point g.row.F.Denot g.F.Operations). k.mul a
    (k.inv (zero_at k row (coordinates q))) in
    let whole = pairwise f zs points in
    let below : i < length points = c.loop-i-test.true in
    let in_zs : i < length zs = omega (arith, below, c.requires.count) in
    let in_map : i < length (map height points) = omega (arith, below, length-map points height) in
    let read : slice_index_or (map height points) i (height p) ≡ height p =
    get_or-map height points i p (height p) below ∙ ap height (sym c.index-points-i.is) in
    let inverse : u ≡ k.inv (height p) =
    c.index.ensures
    ∙ ap (λ xs. slice_index_or xs i u)
    (c.in_ok-inverses.ensures
    ∙ ap (map k.inv) (c.deref.ensures.value ∙ c.in_ok-differences.ensures))
    ∙ get_or-map k.inv (map height points) i (height p) u in_map
    ∙ ap k.inv read in
    let difference : d ≡ plus k (coordinates p) (opposite k row) = c.sub.ensures.difference in
    let level : d.y ≡ height p = ap (λ (q : Coordinates g.row.F.Denot). q.y) difference in
    let apart : d.y ≢ k.zero = λ e. c.requires.apart i (height p) in_map (read ∙ sym level ∙ e) in
    let numerator : c.add-numerator.result ≡ k.add d.x k.one =
    g.met.F.Field.add_law _ _ _ c.add-numerator.ensures ∙ ap (λ a. k.add a c.ONE.result) c.x.ensures
    ∙ ap (k.add d.x) (c.ONE.ensures ∙ g.met.F.Field.one_law) in
    let quotient : c.mul.result ≡ k.inv (zero_at k row (coordinates p)) =
    g.met.F.Field.mul_law _ _ _ c.mul.ensures
    ∙ ap (λ a. k.mul a u) numerator
    ∙ ap (k.mul (k.add d.x k.one)) (inverse ∙ ap k.inv (sym level))
    ∙ reciprocal g.F.Operations.laws d c.sub.result.on_circle apart
    ∙ ap (λ (q : Coordinates g.row.F.Denot). k.inv (to_line k q)) difference in
    let value : v ≡ slice_index_or whole i v =
    g.met.F.Field.mul_law _ _ _ c.mul-in-loop-i.ensures
    ∙ ap (k.mul z) quotient
    ∙ ap (λ a. f a p) c.index-vanishing-i.is
    ∙ ap (f (slice_index_or zs i z)) c.index-points-i.is
    ∙ sym (pairwise-read f zs points i z p v in_zs below) in
    c.in_ok-push.ensures.items ∙ ap (λ xs. xs ++ v ∷ []) c.loop-i.invariant
    ∙ ap (λ x. take i whole ++ x ∷ []) value
    ∙ sym (take_more whole i v (omega (arith, in_zs, length-pairwise f zs points c.requires.count)))

pub returns : goal.returns
returns g c =
    let k = g.F.Operations.ops in
    let f = λ (a : g.row.F.Denot) (q : Point g.row.F.Denot g.F.Operations). k.mul a
    (k.inv (zero_at k (coordinates c.args.row) (coordinates q))) in
    let zs = c.args.vanishing.now in
    let points = c.args.points.now in
    c.loop-i.invariant
    ∙ take_all c.loop-i.i (pairwise f zs points)
    (omega (
      arith,
      c.loop-i-test.false,
      c.requires.count,
      length-pairwise f zs points c.requires.count,
    ))

pub add-numerator-requires : goal.add-numerator-requires
add-numerator-requires g c = g.met.F.Field.can_add_law c.x.result c.ONE.result

pub mul-requires : goal.mul-requires
mul-requires g c = g.met.F.Field.can_mul_law c.add-numerator.result c.index.result.now

pub mul-requires-in-loop-i : goal.mul-requires-in-loop-i
mul-requires-in-loop-i g c = g.met.F.Field.can_mul_law c.index-vanishing-i.result c.mul.result
