use Rattle.std.proofs.Common.{◌≡◌, ◌+◌, ◌*◌, ◌%◌, ◌++◌, [], ◌∷◌, ◌∙◌, sym, ap, map, drop}
use Rattle.std.proofs.Common.{slice_index_or, length, arith, append_assoc, List, append-nil}
use Rattle.std.proofs.Math.ListN.{get_or-map}
use Rattle.std.proofs.lemmas.List.{length-map, at_drop_all}
use Rattle.circle_field.specs.Circle.{Coordinates}
use Rattle.circle_domain.specs.Layers.{every_second}
use Rattle.circle_point.specs.Point.{coordinates}
use Rattle.circle_domain.proofs.Twiddles.{every_second-more}
use Rattle.circle_domain.proofs.factors.every_second_abscissa.Goals as goal

pub loop-i-init : goal.loop-i-init
loop-i-init g c =
    let rest =
    map (λ (p : Coordinates g.row.F.Denot). p.x)
    (every_second (map coordinates c.args.points.now)) in
    ap (λ ys. ys ++ rest) c.in_ok-abscissas.ensures.items

pub loop-i-preserved : goal.loop-i-preserved
loop-i-preserved g c =
    let f = λ (p : Coordinates g.row.F.Denot). p.x in
    let points = c.args.points.now in
    let xs = map coordinates points in
    let i = c.loop-i.i in
    let made = c.loop-i.abscissas.items in
    let x = c.x.result in
    let rest = map f (every_second (drop (2 * (i + 1)) xs)) in
    let p = c.index-points-i.result in
    let long : length xs ≡ length points = length-map points coordinates in
    let even : length xs % 2 ≡ 0 = ap (λ n. n % 2) long ∙ c.requires in
    let read : coordinates p ≡ slice_index_or xs (2 * i) (coordinates p) =
    ap coordinates c.index-points-i.is ∙ sym (get_or-map coordinates points (2 * i) p) in
    let next = every_second-more xs i (coordinates p) even (omega (arith, long)) in
    ap (λ ys. ys ++ rest) c.in_ok-push.ensures.items
    ∙ append_assoc made (x ∷ []) rest
    ∙ ap (λ y. made ++ (y ∷ rest)) (c.x.ensures ∙ ap f read)
    ∙ ap (λ ys. made ++ map f ys) (sym next)
    ∙ c.loop-i.invariant

pub returns : goal.returns
returns g c =
    let f = λ (p : Coordinates g.row.F.Denot). p.x in
    let points = c.args.points.now in
    let made = c.loop-i.abscissas.items in
    let none =
    at_drop_all (λ (ys : List (Coordinates g.row.F.Denot)). made ++ map f (every_second ys))
    (map coordinates points) (2 * c.loop-i.i)
    (omega (arith, c.loop-i-test.false, c.requires, length-map points coordinates)) in
    sym (append-nil made) ∙ sym none ∙ c.loop-i.invariant
