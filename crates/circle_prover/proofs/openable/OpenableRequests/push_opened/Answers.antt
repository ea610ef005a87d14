use Rattle.std.proofs.Common.{◌≡◌, ◌<◌, ◌++◌, ◌∙◌, List, Vec, Global, length, map, sym, ap}
use Rattle.std.proofs.Common.{subst, arith, All, slice_index_or}
use Rattle.std.proofs.lemmas.List.{length_push, length-map, take_all}
use Rattle.std.proofs.lemmas.Slice.Zip.{zip_turn, zip_end}
use Rattle.circle_commit.specs.DotProduct.{pairwise}
use Rattle.circle_commit.specs.Mmcs.{opened_rows}
use Rattle.circle_commit.specs.RowMajorMatrix.{width_of}
use Rattle.circle_commit.specs.declared.matrix.RowMajorMatrix.{RowMajorMatrix}
use Rattle.circle_relation.proofs.Pairs.{pair-sources}
use Rattle.circle_codewords.specs.Points.{coordinates_of}
use Rattle.circle_codewords.specs.Requests.{AreValuesOf, committed, lists_of}
use Rattle.circle_codewords.specs.Words.{committed_of}
use Rattle.circle_codewords.proofs.AtPoints.{All-unmap}
use Rattle.circle_prover.specs.OfRequests.{asked_of, fields_of}
use Rattle.circle_prover.proofs.Requested.{at-place, committed-is, log-is, map-at, pairwise-at}
use Rattle.circle_prover.proofs.Requested.{pairwise-long, push-after}
use Rattle.circle_prover.proofs.openable.OpenableRequests.push_opened.Goals as goal

pub invariant_of-push : goal.invariant_of-push
invariant_of-push g c =
    let o = c.args.self.now in
    let ms = c.args.matrices.now in
    let vs = c.args.values.now in
    let i = length c.loop-matrix.yielded in
    let from = pair-sources c.into_iter-matrix-iterator.ensures.into_iter_gives
    c.zip-matrix-items.ensures.first c.iter.ensures.rest c.zip-matrix-items.ensures.second.0 in
    let turn = zip_turn ms vs c.loop-matrix.yielded _ _ c.next.new.self _ from.0 from.1
    c.loop-matrix.yielded_by _ c.in-Some.is c.next.ensures.steps in
    let m = c.in-Some.matrix.now in
    let v = c.in-Some.values.now in
    let rows : Vec (Vec g.row.EF.Denot Global) Global → List (List g.row.EF.Denot) =
    λ v. lists_of v.items in
    let valued = at-place (λ a v. AreValuesOf (fields_of o) o.params.now.log_blowup a.0 a.1 v)
    (map asked_of ms) (opened_rows vs) i (asked_of m) (rows v) c.requires.valued
    (omega (arith, turn.0, length-map ms asked_of)) (map-at asked_of ms i m turn.0 (turn.2 m))
    (map-at rows vs i v turn.1 (turn.3 v)) in
    record {
      openable = m.openable;
      valued = ap length c.deref.ensures.value ∙ sym (length-map v.items (λ v. v.items))
          ∙ valued.count ∙ length-map m.points.now (λ p. p.coordinate);
      widths = subst (All (λ v. length v.items ≡ width_of m.rows.now)) (sym c.deref.ensures.value)
          (All-unmap (λ w. length w ≡ width_of m.rows.now) (λ v. v.items) v.items valued.widths);
    }

pub loop-matrix-preserved : goal.loop-matrix-preserved
loop-matrix-preserved g c =
    let o = c.args.self.now in
    let k = fields_of o in
    let b = o.params.now.log_blowup in
    let ms = c.args.matrices.now in
    let vs = c.args.values.now in
    let i = length c.loop-matrix.yielded in
    let from = pair-sources c.into_iter-matrix-iterator.ensures.into_iter_gives
    c.zip-matrix-items.ensures.first c.iter.ensures.rest c.zip-matrix-items.ensures.second.0 in
    let turn = zip_turn ms vs c.loop-matrix.yielded _ _ c.next.new.self _ from.0 from.1
    c.loop-matrix.yielded_by _ c.in-Some.is c.next.ensures.steps in
    let m = c.in-Some.matrix.now in
    let v = c.in-Some.values.now in
    let rows : Vec (Vec g.row.EF.Denot Global) Global → List (List g.row.EF.Denot) =
    λ v. lists_of v.items in
    let C = λ (a : RowMajorMatrix g.row.Val.Denot × List g.row.EF.Denot)
    (w : List (List g.row.EF.Denot)). committed k b a.0 a.1 w in
    let all = pairwise C (map asked_of ms) (opened_rows vs) in
    let inside : i < length (map asked_of ms) = omega (arith, turn.0, length-map ms asked_of) in
    let inside' : i < length (opened_rows vs) = omega (arith, turn.1, length-map vs rows) in
    let made = committed-is k b m.log_height m.rows.now (coordinates_of m.points.now)
    c.deref.result.now (log-is k b g.met.Val.ComplexExtendable.at_most_62 m.log_height
    m.rows.now (coordinates_of m.points.now) m.openable)
    ∙ ap (λ ws. C (asked_of m) (lists_of ws)) c.deref.ensures.value in
    push-after (committed_of k b) (map (committed_of k b) c.args.list.now.items) all i _
    c.loop-matrix.list.items c.push.new.self.items _
    (length_push c.loop-matrix.yielded (c.in-Some.matrix, c.in-Some.values))
    (omega (arith, inside, inside', pairwise-long C (map asked_of ms) (opened_rows vs)))
    (made
    ∙ pairwise-at C (map asked_of ms) (opened_rows vs) i (asked_of m) (rows v) inside inside'
    (map-at asked_of ms i m turn.0 (turn.2 m)) (map-at rows vs i v turn.1 (turn.3 v))
    ∙ ap (slice_index_or all i) (sym made))
    c.in_ok-push.ensures.items c.loop-matrix.invariant

pub returns : goal.returns
returns g c =
    let o = c.args.self.now in
    let k = fields_of o in
    let b = o.params.now.log_blowup in
    let ms = c.args.matrices.now in
    let vs = c.args.values.now in
    let from = pair-sources c.into_iter-matrix-iterator.ensures.into_iter_gives
    c.zip-matrix-items.ensures.first c.iter.ensures.rest c.zip-matrix-items.ensures.second.0 in
    let last = zip_end ms vs c.loop-matrix.yielded _ _ c.next.new.self _ from.0 from.1
    c.loop-matrix.yielded_by c.in-None.is c.next.ensures.steps in
    let C = λ (a : RowMajorMatrix g.row.Val.Denot × List g.row.EF.Denot)
    (w : List (List g.row.EF.Denot)). committed k b a.0 a.1 w in
    let rows : Vec (Vec g.row.EF.Denot Global) Global → List (List g.row.EF.Denot) =
    λ v. lists_of v.items in
    c.loop-matrix.invariant
    ∙ ap (λ ds. map (committed_of k b) c.args.list.now.items ++ ds)
    (take_all (length c.loop-matrix.yielded) (pairwise C (map asked_of ms) (opened_rows vs))
    (omega (
      arith,
      last,
      pairwise-long C (map asked_of ms) (opened_rows vs),
      length-map ms asked_of,
      length-map vs rows,
    )))
