use Rattle.std.proofs.Common.{◌≡◌, ◌-◌, ◌/◌, ◌%◌, ◌^◌, ◌∙◌, ℕ, List, Vec, Global, sym, ap, arith}
use Rattle.std.proofs.Common.{length, slice_index_or}
use Rattle.std.proofs.lemmas.List.{get_or_default, length_push}
use Rattle.std.proofs.lemmas.Slice.Zip.{zip_turn, zip_end}
use Rattle.circle_codewords.specs.Openings.{sibling_in}
use Rattle.circle_prover.proofs.Sided.{pair-pushed, pair-all}
use Rattle.circle_relation.proofs.Pairs.{pair-sources}
use Rattle.circle_prover.proofs.openings.siblings_of.Goals as goal

pub loop-log_height-preserved : goal.loop-log_height-preserved
loop-log_height-preserved g c =
    let E : Type 0 = g.row.EF.Denot in
    let heights = c.args.heights.now in
    let rows = c.args.rows.now in
    let from = pair-sources c.into_iter-log_height-iterator.ensures.into_iter_gives
    c.zip-log_height-items.ensures.first c.iter.ensures.rest
    c.zip-log_height-items.ensures.second.0 in
    let turn = zip_turn heights rows c.loop-log_height.yielded _ _ c.next.new.self _ from.0 from.1
    c.loop-log_height.yielded_by _ c.in-Some.is c.next.ensures.steps in
    let h = c.in-Some.log_height.now in
    let row = c.in-Some.row.now in
    let n = length c.loop-log_height.yielded in
    let f : ℕ → List E → E = λ m r. sibling_in
    g.EF.Operations.ops.zero (c.args.index / 2 ^ (c.args.log_max_height - m)) r in
    let view : Vec E Global → List E = λ r. r.items in
    let place = 1 - c.args.index / 2 ^ (c.args.log_max_height - h) % 2 in
    let two : length row.items ≡ 2 = ap (λ r. length r.items) (turn.3 row)
    ∙ c.requires.pairs n row turn.1 in
    let is : c.index.result.now ≡ slice_index_or row.items place g.EF.Operations.ops.zero =
    c.index.ensures
    ∙ sym
    (get_or_default row.items place g.EF.Operations.ops.zero c.index.result.now
    (omega (arith, two))) in
    pair-pushed f view heights rows c.requires.count n _ h row c.index.result.now
    c.loop-log_height.siblings.items c.push.new.self.items turn.0 (turn.2 h) (turn.3 row)
    c.in_ok-push.ensures.items c.loop-log_height.invariant is
    (length_push c.loop-log_height.yielded (c.in-Some.log_height, c.in-Some.row))

pub returns : goal.returns
returns g c =
    let E : Type 0 = g.row.EF.Denot in
    let heights = c.args.heights.now in
    let rows = c.args.rows.now in
    let from = pair-sources c.into_iter-log_height-iterator.ensures.into_iter_gives
    c.zip-log_height-items.ensures.first c.iter.ensures.rest
    c.zip-log_height-items.ensures.second.0 in
    let last = zip_end heights rows c.loop-log_height.yielded _ _ c.next.new.self _ from.0 from.1
    c.loop-log_height.yielded_by c.in-None.is c.next.ensures.steps in
    let f : ℕ → List E → E = λ m r. sibling_in
    g.EF.Operations.ops.zero (c.args.index / 2 ^ (c.args.log_max_height - m)) r in
    let view : Vec E Global → List E = λ r. r.items in
    c.loop-log_height.invariant ∙ pair-all f view heights rows c.requires.count _ last
