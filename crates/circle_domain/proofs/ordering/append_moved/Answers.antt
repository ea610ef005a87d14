use Rattle.std.proofs.Common.{◌≡◌, ◌<◌, ◌≤◌, ◌++◌, [], ◌∷◌, ◌∙◌, sym, ap, map, take, slice_index_or}
use Rattle.std.proofs.Common.{length, arith, append_assoc}
use Rattle.std.proofs.Math.ListN.{get_or-map}
use Rattle.std.proofs.lemmas.List.{length-map, take_more, take_all, map-append, get_or_append_left}
use Rattle.circle_field.specs.Circle.{Coordinates, plus}
use Rattle.circle_point.specs.Point.{coordinates}
use Rattle.circle_domain.proofs.ordering.append_moved.Goals as goal

pub loop-i-preserved : goal.loop-i-preserved
loop-i-preserved g c =
    let k = g.F.Operations.ops in
    let f = λ (p : Coordinates g.row.F.Denot). plus k p (coordinates c.args.step) in
    let before = map coordinates c.args.points.now.items in
    let i = c.loop-i.i in
    let now = c.loop-i.points.items in
    let p = c.index.result.now in
    let q = c.add-moved.result in
    let here : i < length before =
    omega (
      arith,
      c.loop-i-test.true,
      c.len-i-end.ensures,
      length-map c.args.points.now.items coordinates,
      c.args.points.now.ok.0,
    ) in
    let read : coordinates p ≡ slice_index_or before i (coordinates p) =
    ap coordinates c.index.ensures ∙ sym (get_or-map coordinates now i p)
    ∙ ap (λ xs. slice_index_or xs i (coordinates p)) c.loop-i.invariant.moved
    ∙ get_or_append_left before (map f (take i before)) (coordinates p) i here in
    record {
      moved =
          ap (map coordinates) c.in_ok-push.ensures.items
          ∙ map-append coordinates now (q ∷ [])
          ∙ ap (λ xs. xs ++ coordinates q ∷ []) c.loop-i.invariant.moved
          ∙ append_assoc before (map f (take i before)) (coordinates q ∷ [])
          ∙ ap (λ x. before ++ (map f (take i before) ++ x ∷ []))
          (c.add-moved.ensures.sum ∙ ap f read)
          ∙ ap (λ xs. before ++ xs)
          (sym (map-append f (take i before) (slice_index_or before i (coordinates p) ∷ []))
          ∙ ap (map f) (sym (take_more before i (coordinates p) here)));
      long = omega arith;
    }

pub returns : goal.returns
returns g c =
    let f =
    λ (p : Coordinates g.row.F.Denot). plus g.F.Operations.ops p (coordinates c.args.step) in
    let before = map coordinates c.args.points.now.items in
    let end : length before ≤ c.loop-i.i =
    omega (
      arith,
      c.loop-i-test.false,
      c.len-i-end.ensures,
      length-map c.args.points.now.items coordinates,
      c.args.points.now.ok.0,
    ) in
    c.loop-i.invariant.moved ∙ ap (λ xs. before ++ map f xs) (take_all c.loop-i.i before end)
