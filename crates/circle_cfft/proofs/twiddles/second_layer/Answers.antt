use Rattle.std.proofs.Common.{◌≡◌, ◌<◌, ◌-◌, ◌+◌, ◌++◌, [], ◌∷◌, ◌∙◌, sym, ap, map, drop, length}
use Rattle.std.proofs.Common.{slice_index_or, arith, append_assoc, append-nil, ◌≤◌}
use Rattle.std.proofs.Math.ListN.{get_or-map}
use Rattle.std.proofs.lemmas.List.{drop_more, drop_all, length-map}
use Rattle.circle_point.specs.Point.{coordinates}
use Rattle.circle_domain.specs.Domain.{shift_of, log_size}
use Rattle.circle_domain.specs.Layers.{block_starts}
use Rattle.circle_cfft.proofs.QuarterTurns.{with_turns, second_layer-is}
use Rattle.circle_cfft.proofs.twiddles.second_layer.Goals as goal

pub loop-point-init : goal.loop-point-init
loop-point-init g c =
    let rest = with_turns g.F.Operations.ops (g.F.ComplexExtendable.generators 2).y
    (map coordinates c.deref-point-items.result.now) in
    ap (λ ys. ys ++ rest) c.in_ok-factors.ensures.items

pub loop-point-preserved : goal.loop-point-preserved
loop-point-preserved g c =
    let k = g.F.Operations.ops in
    let e = (g.F.ComplexExtendable.generators 2).y in
    let own = with_turns k e in
    let points = map coordinates c.deref-point-items.result.now in
    let i = c.loop-point.point-index in
    let made = c.loop-point.factors.items in
    let p = coordinates c.point-item.result in
    let x = c.x.result in
    let z = c.neg.result in
    let rest = own (drop (i + 1) points) in
    let here : i < length points =
    omega (
      arith,
      c.loop-point-test.true,
      length-map c.deref-point-items.result.now coordinates,
    ) in
    let read : slice_index_or points i p ≡ p =
    get_or-map coordinates c.deref-point-items.result.now i c.point-item.result
    ∙ sym (ap coordinates c.point-item.is) in
    let second : z ≡ k.neg (k.mul e p.y) =
    g.met.F.Field.neg_law _ z c.neg.ensures
    ∙ ap k.neg (c.turned.ensures ∙ ap (k.mul e) c.y.ensures) in
    ap (λ ys. ys ++ rest)
    (c.in_ok-push-2.ensures.items ∙ ap (λ ys. ys ++ z ∷ []) c.in_ok-push.ensures.items)
    ∙ ap (λ ys. ys ++ rest) (append_assoc made (x ∷ []) (z ∷ []))
    ∙ append_assoc made (x ∷ z ∷ []) rest
    ∙ ap (λ y. made ++ (y ∷ z ∷ rest)) c.x.ensures
    ∙ ap (λ y. made ++ (p.x ∷ y ∷ rest)) second
    ∙ ap (λ q. made ++ own (q ∷ drop (i + 1) points)) (sym read)
    ∙ ap (λ qs. made ++ own qs) (sym (drop_more points i p here))
    ∙ c.loop-point.invariant

pub returns : goal.returns
returns g c =
    let k = g.F.Operations.ops in
    let gen = g.F.ComplexExtendable.generators in
    let n = log_size c.args.domain in
    let s = shift_of c.args.domain in
    let own = with_turns k (gen 2).y in
    let points = map coordinates c.deref-point-items.result.now in
    let i = c.loop-point.point-index in
    let made = c.loop-point.factors.items in
    let end : length points ≤ i =
    omega (
      arith,
      c.loop-point-test.false,
      length-map c.deref-point-items.result.now coordinates,
    ) in
    let all : points ≡ block_starts k gen (n - 3) 3 s =
    ap (map coordinates) c.deref-point-items.ensures.value ∙ c.in_ok-points.ensures in
    sym (append-nil made) ∙ ap (λ qs. made ++ own qs) (sym (drop_all i points end))
    ∙ c.loop-point.invariant ∙ ap own all
    ∙ sym
    (second_layer-is g.F.Operations.laws g.met.F.ComplexExtendable.generators_law
    g.met.F.ComplexExtendable.at_least_two n s c.requires.eights)

pub neg-requires : goal.neg-requires
neg-requires g c = g.met.F.Field.can_neg_law _
