use Rattle.std.proofs.Common.{◌<◌, ◌++◌, ◌∙◌, length, map, sym, ap, arith, slice_index_or}
use Rattle.std.proofs.lemmas.List.{length_push, length-map, take_all}
use Rattle.std.proofs.lemmas.Slice.Zip.{zip_turn, zip_end}
use Rattle.circle_commit.specs.DotProduct.{pairwise}
use Rattle.circle_point.specs.Projective.{from_line}
use Rattle.circle_transcript.specs.Claims.{claims_of, claim_of as taken_of}
use Rattle.circle_transcript.specs.Draw.{claim}
use Rattle.circle_codewords.specs.Points.{coordinates_of}
use Rattle.circle_codewords.specs.Words.{claim_of}
use Rattle.circle_codewords.specs.Requests.{lists_of}
use Rattle.circle_codewords.specs.declared.points.OpeningPoint.{OpeningPoint}
use Rattle.circle_relation.specs.Taken.{point_taken}
use Rattle.circle_relation.proofs.Pairs.{pair-sources}
use Rattle.circle_prover.proofs.Requested.{map-at, pairwise-at, pairwise-long, push-after}
use Rattle.circle_prover.proofs.claims.append_claims.Goals as goal

pub loop-point-preserved : goal.loop-point-preserved
loop-point-preserved g c =
    let l = g.EF.Operations.ops in
    let points = c.args.points.now in
    let vectors = c.args.values.now in
    let i = length c.loop-point.yielded in
    let from = pair-sources c.into_iter-point-iterator.ensures.into_iter_gives
    c.zip-point-items.ensures.first c.iter.ensures.rest c.zip-point-items.ensures.second.0 in
    let turn = zip_turn points vectors c.loop-point.yielded _ _ c.next.new.self _ from.0 from.1
    c.loop-point.yielded_by _ c.in-Some.is c.next.ensures.steps in
    let p = c.in-Some.point.now in
    let v = c.in-Some.values.now in
    let coordinate = λ (p : OpeningPoint g.row.EF.Denot _). p.coordinate in
    let here = pairwise claim_of (coordinates_of points) (lists_of vectors) in
    let all = map (point_taken l) here in
    let inside : i < length (coordinates_of points) =
    omega (arith, turn.0, length-map points coordinate) in
    let inside' : i < length (lists_of vectors) =
    omega (arith, turn.1, length-map vectors (λ v. v.items)) in
    let long = pairwise-long claim_of (coordinates_of points) (lists_of vectors) in
    let within : i < length here = omega (arith, inside, inside', long) in
    let made = ap (λ q. claim q c.deref.result.now) p.at
    ∙ ap (claim (from_line l p.coordinate)) c.deref.ensures.value in
    push-after taken_of (claims_of c.args.claims.now.items) all i _ c.loop-point.claims.items
    c.push.new.self.items _ (length_push c.loop-point.yielded (c.in-Some.point, c.in-Some.values))
    (omega (arith, within, length-map here (point_taken l)))
    (made
    ∙ map-at (point_taken l) here i (claim_of p.coordinate v.items) within
    (pairwise-at claim_of (coordinates_of points) (lists_of vectors) i p.coordinate v.items inside
    inside' (map-at coordinate points i p turn.0 (turn.2 p))
    (map-at (λ v. v.items) vectors i v turn.1 (turn.3 v)))
    ∙ ap (slice_index_or all i) (sym made))
    c.in_ok-push.ensures.items c.loop-point.invariant

pub returns : goal.returns
returns g c =
    let l = g.EF.Operations.ops in
    let points = c.args.points.now in
    let vectors = c.args.values.now in
    let from = pair-sources c.into_iter-point-iterator.ensures.into_iter_gives
    c.zip-point-items.ensures.first c.iter.ensures.rest c.zip-point-items.ensures.second.0 in
    let last = zip_end points vectors c.loop-point.yielded _ _ c.next.new.self _ from.0 from.1
    c.loop-point.yielded_by c.in-None.is c.next.ensures.steps in
    let here = pairwise claim_of (coordinates_of points) (lists_of vectors) in
    c.loop-point.invariant
    ∙ ap (λ cs. claims_of c.args.claims.now.items ++ cs)
    (take_all (length c.loop-point.yielded) (map (point_taken l) here)
    (omega (
      arith,
      last,
      length-map here (point_taken l),
      pairwise-long claim_of (coordinates_of points) (lists_of vectors),
      length-map points (λ p. p.coordinate),
      length-map vectors (λ v. v.items),
    )))
