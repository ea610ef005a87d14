use Rattle.std.proofs.Common.{◌≡◌, ◌++◌, ◌∙◌, ◌<◌, drop, flat_map, length, map}
use Rattle.std.proofs.Common.{sym, ap, arith, slice_index_or}
use Rattle.std.specs.Prelude.{zip}
use Rattle.std.proofs.lemmas.List.{drop_all, length_push, length-map, take_all}
use Rattle.std.proofs.lemmas.List.Elements.{All-push, All-same}
use Rattle.std.proofs.lemmas.Slice.Zip.{AllZip-long, length-zip, zip_turn, zip_end}
use Rattle.circle_commit.specs.RowMajorMatrix.{height_of}
use Rattle.circle_relation.proofs.Pairs.{pair-sources}
use Rattle.circle_codewords.specs.Points.{coordinates_of}
use Rattle.circle_codewords.specs.Requests.{IsOpenable, lists_of, log_of}
use Rattle.circle_codewords.specs.declared.matrix.MatrixAtPoints.{MatrixAtPoints}
use Rattle.circle_codewords.specs.declared.points.OpeningPoint.{OpeningPoint}
use Rattle.circle_prover.specs.OfRequests.{asked_of, fields_of}
use Rattle.circle_prover.proofs.RequestLists.{pair-at, pairs-within}
use Rattle.circle_prover.proofs.Requested.{behind, can-open, fits, front, map-at}
use Rattle.circle_prover.proofs.Requested.{openable-at, push-after}
use Rattle.circle_prover.proofs.openable.OpenableRequests.push_matrices.Goals as goal

pub log2_strict-requires : goal.log2_strict-requires
log2_strict-requires g c =
    let o = c.args.self.now in
    let ms = c.args.matrices.now in
    let coords = c.args.coordinates.now in
    let i = length c.loop-matrix.yielded in
    let from = pair-sources c.into_iter-matrix-iterator.ensures.into_iter_gives
    c.zip-matrix-items.ensures.first c.iter.ensures.rest c.zip-matrix-items.ensures.second.0 in
    let turn = zip_turn ms coords c.loop-matrix.yielded _ _ c.next.new.self _ from.0 from.1
    c.loop-matrix.yielded_by _ c.in-Some.is c.next.ensures.steps in
    let m = c.in-Some.matrix.now in
    let v = c.in-Some.asked.now in
    let can = openable-at (fields_of o) o.params.now.log_blowup (fields_of o).two_adicity ms coords
    i m v c.requires.fit turn.0 turn.1 (turn.2 m) (turn.3 v) in
    (log_of (height_of m), c.height.ensures ∙ can.power)

pub split_at-requires : goal.split_at-requires
split_at-requires g c =
    let o = c.args.self.now in
    let ms = c.args.matrices.now in
    let coords = c.args.coordinates.now in
    let i = length c.loop-matrix.yielded in
    let from = pair-sources c.into_iter-matrix-iterator.ensures.into_iter_gives
    c.zip-matrix-items.ensures.first c.iter.ensures.rest c.zip-matrix-items.ensures.second.0 in
    let turn = zip_turn ms coords c.loop-matrix.yielded _ _ c.next.new.self _ from.0 from.1
    c.loop-matrix.yielded_by _ c.in-Some.is c.next.ensures.steps in
    let m = c.in-Some.matrix.now in
    let v = c.in-Some.asked.now in
    let count : c.len.result ≡ length v.items = omega (arith, c.len.ensures, v.ok.0) in
    let before = c.requires.front in
    fits (λ (p : OpeningPoint g.row.EF.Denot _). p.coordinate) (λ v. v.items)
    c.loop-matrix.rest.now coords i c.len.result v turn.1 (turn.3 v) count before.0
    (c.loop-matrix.invariant.rest before.0 before.1)

pub invariant_of-push : goal.invariant_of-push
invariant_of-push g c =
    let o = c.args.self.now in
    let ms = c.args.matrices.now in
    let coords = c.args.coordinates.now in
    let i = length c.loop-matrix.yielded in
    let from = pair-sources c.into_iter-matrix-iterator.ensures.into_iter_gives
    c.zip-matrix-items.ensures.first c.iter.ensures.rest c.zip-matrix-items.ensures.second.0 in
    let turn = zip_turn ms coords c.loop-matrix.yielded _ _ c.next.new.self _ from.0 from.1
    c.loop-matrix.yielded_by _ c.in-Some.is c.next.ensures.steps in
    let m = c.in-Some.matrix.now in
    let v = c.in-Some.asked.now in
    let can = openable-at (fields_of o) o.params.now.log_blowup (fields_of o).two_adicity ms coords
    i m v c.requires.fit turn.0 turn.1 (turn.2 m) (turn.3 v) in
    let count : c.len.result ≡ length v.items = omega (arith, c.len.ensures, v.ok.0) in
    let before = c.requires.front in
    let log : c.log2_strict.result ≡ log_of (height_of m) =
    c.log2_strict.ensures.only (log_of (height_of m)) (c.height.ensures ∙ can.power) in
    let here : coordinates_of c.split_at.result.0.now ≡ v.items =
    ap coordinates_of c.split_at.ensures.front
    ∙ front (λ (p : OpeningPoint g.row.EF.Denot _). p.coordinate) (λ v. v.items)
    c.loop-matrix.rest.now coords i c.len.result v turn.1 (turn.3 v) count before.0
    (c.loop-matrix.invariant.rest before.0 before.1) in
    record {
      openable = can-open (fields_of o) o.params.now.log_blowup c.log2_strict.result m v.items
          (coordinates_of c.split_at.result.0.now) log here can;
    }

pub loop-matrix-preserved : goal.loop-matrix-preserved
loop-matrix-preserved g c =
    let o = c.args.self.now in
    let ms = c.args.matrices.now in
    let coords = c.args.coordinates.now in
    let i = length c.loop-matrix.yielded in
    let from = pair-sources c.into_iter-matrix-iterator.ensures.into_iter_gives
    c.zip-matrix-items.ensures.first c.iter.ensures.rest c.zip-matrix-items.ensures.second.0 in
    let turn = zip_turn ms coords c.loop-matrix.yielded _ _ c.next.new.self _ from.0 from.1
    c.loop-matrix.yielded_by _ c.in-Some.is c.next.ensures.steps in
    let m = c.in-Some.matrix.now in
    let v = c.in-Some.asked.now in
    let can = openable-at (fields_of o) o.params.now.log_blowup (fields_of o).two_adicity ms coords
    i m v c.requires.fit turn.0 turn.1 (turn.2 m) (turn.3 v) in
    let count : c.len.result ≡ length v.items = omega (arith, c.len.ensures, v.ok.0) in
    let before = c.requires.front in
    let log : c.log2_strict.result ≡ log_of (height_of m) =
    c.log2_strict.ensures.only (log_of (height_of m)) (c.height.ensures ∙ can.power) in
    let here : coordinates_of c.split_at.result.0.now ≡ v.items =
    ap coordinates_of c.split_at.ensures.front
    ∙ front (λ (p : OpeningPoint g.row.EF.Denot _). p.coordinate) (λ v. v.items)
    c.loop-matrix.rest.now coords i c.len.result v turn.1 (turn.3 v) count before.0
    (c.loop-matrix.invariant.rest before.0 before.1) in
    let lists = lists_of coords in
    let asked = zip ms lists in
    let next = length_push c.loop-matrix.yielded (c.in-Some.matrix, c.in-Some.asked) in
    let listed : i < length lists = omega (arith, turn.1, length-map coords (λ v. v.items)) in
    let IsHigh : MatrixAtPoints g.row.Val.Denot g.row.EF.Denot _ g.EF.Operations → Type 0 =
    λ m. o.params.now.log_blowup < m.log_height in
    record {
      list = push-after asked_of (map asked_of c.args.list.now.items) asked i _
          c.loop-matrix.list.items c.push.new.self.items _ next
          (pairs-within ms lists i turn.0 listed)
          (ap (λ t. (m, t)) here
          ∙ pair-at ms lists i m v.items turn.0 listed (turn.2 m)
          (map-at (λ v. v.items) coords i v turn.1 (turn.3 v))
          ∙ ap (λ t. slice_index_or asked i (m, t)) (sym here))
          c.in_ok-push.ensures.items c.loop-matrix.invariant.list;
      high = λ before. All-same IsHigh _ _ c.in_ok-push.ensures.items
          (All-push IsHigh c.loop-matrix.list.items _ (c.loop-matrix.invariant.high before)
          (omega (arith, log, can.blowup)));
      rest = λ tail begins. ap coordinates_of c.split_at.ensures.back
          ∙ behind (λ (p : OpeningPoint g.row.EF.Denot _). p.coordinate) (λ v. v.items)
          c.loop-matrix.rest.now coords i c.len.result v turn.1 (turn.3 v) count tail
          (c.loop-matrix.invariant.rest tail begins)
          ∙ ap (λ a. flat_map (λ v. v.items) (drop a coords) ++ tail) (sym next);
    }

pub returns : goal.returns
returns g c =
    let ms = c.args.matrices.now in
    let coords = c.args.coordinates.now in
    let i = length c.loop-matrix.yielded in
    let from = pair-sources c.into_iter-matrix-iterator.ensures.into_iter_gives
    c.zip-matrix-items.ensures.first c.iter.ensures.rest c.zip-matrix-items.ensures.second.0 in
    let last = zip_end ms coords c.loop-matrix.yielded _ _ c.next.new.self _ from.0 from.1
    c.loop-matrix.yielded_by c.in-None.is c.next.ensures.steps in
    let lists = lists_of coords in
    let k = fields_of c.args.self.now in
    let long = AllZip-long (IsOpenable k k.two_adicity c.args.self.now.params.now.log_blowup) ms
    lists c.requires.fit in
    let count = length-map coords (λ v. v.items) in
    record {
      list = c.loop-matrix.invariant.list
          ∙ ap (λ a. map asked_of c.args.list.now.items ++ a)
          (take_all i (zip ms lists) (omega (arith, last, count, length-zip ms lists)));
      high = c.loop-matrix.invariant.high;
      rest = λ tail begins. c.loop-matrix.invariant.rest tail begins
          ∙ ap (λ vs. flat_map (λ v. v.items) vs ++ tail)
          (drop_all i coords (omega (arith, last, count, long)));
    }
