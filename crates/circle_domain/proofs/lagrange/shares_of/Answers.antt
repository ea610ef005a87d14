use Rattle.std.proofs.Common.{◌≡◌, ◌≢◌, ◌<◌, ◌++◌, [], ◌∷◌, ◌∙◌, refl, sym, ap, subst, arith}
use Rattle.std.proofs.Common.{length, map, take, slice_index_or, All}
use Rattle.std.proofs.lemmas.List.{length-map, map_more, take_all, get_or-map}
use Rattle.circle_field.specs.Circle.{lifted}
use Rattle.circle_field.specs.Field.{sub}
use Rattle.circle_field.specs.Ring.{var, plus as sum, times as prod, minus}
use Rattle.circle_field.specs.RingSound.{ring}
use Rattle.circle_point.specs.Point.{coordinates}
use Rattle.circle_point.specs.declared.point.Point.{Point}
use Rattle.circle_domain.specs.Lagrange.{shares}
use Rattle.circle_domain.proofs.LagrangeShares.{shares-more}
use Rattle.circle_domain.proofs.lagrange.shares_of.Goals as goal

pub loop-i-init : goal.loop-i-init
loop-i-init g c = c.in_ok-shares.ensures.items

pub index-inverse-requires : goal.index-inverse-requires
index-inverse-requires g c =
    let l = g.EF.Operations.ops in
    let points = c.args.points.now in
    let apart =
    λ (r : Point g.row.F.Denot g.F.Operations). sub l
    (g.EF.ExtensionField.embed (coordinates r).x) (coordinates c.args.at).x in
    let inverses = c.in_ok-inverses.inverses in
    let made : inverses.items ≡ map l.inv (map apart points) =
    c.in_ok-inverses.ensures
    ∙ ap (map l.inv) (c.deref.ensures.value ∙ c.in_ok-differences.ensures) in
    let long : length inverses.items ≡ length points =
    ap length made ∙ length-map (map apart points) l.inv ∙ length-map points apart in
    omega (arith, long, inverses.ok.0, c.loop-i-test.true)

pub batch_multiplicative_inverse-requires : goal.batch_multiplicative_inverse-requires
batch_multiplicative_inverse-requires g c =
    let NonZero : g.row.EF.Denot → Type 0 = λ d. d ≢ g.EF.Operations.ops.zero in
    subst (All NonZero) (sym (c.deref.ensures.value ∙ c.in_ok-differences.ensures)) c.requires

pub loop-i-preserved : goal.loop-i-preserved
loop-i-preserved g c =
    let l = g.EF.Operations.ops in
    let m = g.EF.ExtensionField.embed in
    let q = coordinates c.args.at in
    let points = c.args.points.now in
    let i = c.loop-i.i in
    let p = c.index-points-i.result in
    let up = λ (r : Point g.row.F.Denot g.F.Operations). lifted m (coordinates r) in
    let apart = λ (r : Point g.row.F.Denot g.F.Operations). sub l (m (coordinates r).x) q.x in
    let before = map up (take i points) in
    let below : i < length points = c.loop-i-test.true in
    let inverses : c.in_ok-inverses.inverses.items ≡ map l.inv (map apart points) =
    c.in_ok-inverses.ensures
    ∙ ap (map l.inv) (c.deref.ensures.value ∙ c.in_ok-differences.ensures) in
    let v = c.index-inverse.result.now in
    let inverse : v ≡ l.inv (apart p) =
    c.index-inverse.ensures ∙ ap (λ xs. slice_index_or xs i v) inverses
    ∙ get_or-map l.inv (map apart points) i (apart p) v
    (omega (arith, below, length-map points apart))
    ∙ ap l.inv (get_or-map apart points i p (apart p) below ∙ ap apart (sym c.index-points-i.is)) in
    let own : c.times_base-own.result ≡ l.mul (up p).y (l.inv (apart p)) =
    c.times_base-own.ensures ∙ ap (λ y. l.mul (m y) v) c.y.ensures ∙ ap (l.mul (up p).y) inverse in
    let other : c.mul-other.result ≡ l.mul (l.inv (apart p)) q.y =
    g.met.EF.Field.mul_law _ _ _ c.mul-other.ensures ∙ ap (l.mul v) c.y-in-loop-i.ensures
    ∙ ap (λ a. l.mul a q.y) inverse in
    let env = (up p).y ∷ q.y ∷ l.inv (apart p) ∷ [] in
    let first : c.add.result ≡ l.mul (l.add (up p).y q.y) (l.inv (apart p)) =
    g.met.EF.Field.add_law _ _ _ c.add.ensures ∙ ap (λ a. l.add a c.mul-other.result) own
    ∙ ap (l.add (l.mul (up p).y (l.inv (apart p)))) other
    ∙ ring g.EF.Operations.laws.ring env (sum (prod (var 0) (var 2)) (prod (var 2) (var 1)))
    (prod (sum (var 0) (var 1)) (var 2)) refl in
    let second : c.sub.result ≡ l.mul (sub l (up p).y q.y) (l.inv (apart p)) =
    g.met.EF.Field.sub_law _ _ _ c.sub.ensures ∙ ap (λ a. sub l a c.mul-other.result) own
    ∙ ap (sub l (l.mul (up p).y (l.inv (apart p)))) other
    ∙ ring g.EF.Operations.laws.ring env (sum (prod (var 0) (var 2)) (minus (prod (var 2) (var 1))))
    (prod (sum (var 0) (minus (var 1))) (var 2)) refl in
    c.in_ok-push-2.ensures.items
    ∙ ap (λ xs. xs ++ c.sub.result ∷ [])
    (c.in_ok-push.ensures.items ∙ ap (λ xs. xs ++ c.add.result ∷ []) c.loop-i.invariant)
    ∙ ap (λ a. (shares l q before ++ a ∷ []) ++ c.sub.result ∷ []) first
    ∙ ap (λ b. (shares l q before ++ l.mul (l.add (up p).y q.y) (l.inv (apart p)) ∷ []) ++ b ∷ [])
    second
    ∙ sym (shares-more l q before (up p))
    ∙ ap (λ r. shares l q (before ++ up r ∷ [])) c.index-points-i.is
    ∙ ap (shares l q) (sym (map_more up points i p below))

pub returns : goal.returns
returns g c =
    let l = g.EF.Operations.ops in
    let up = λ (r : Point g.row.F.Denot g.F.Operations). lifted g.EF.ExtensionField.embed
    (coordinates r) in
    c.loop-i.invariant ∙ ap (λ ps. shares l (coordinates c.args.at) (map up ps))
    (take_all c.loop-i.i c.args.points.now (omega (arith, c.loop-i-test.false)))

pub mul-other-requires : goal.mul-other-requires
mul-other-requires g c = g.met.EF.Field.can_mul_law c.index-inverse.result.now c.y-in-loop-i.result

pub add-requires : goal.add-requires
add-requires g c = g.met.EF.Field.can_add_law c.times_base-own.result c.mul-other.result

pub sub-requires : goal.sub-requires
sub-requires g c = g.met.EF.Field.can_sub_law c.times_base-own.result c.mul-other.result
