use Rattle.std.proofs.Common.{◌∙◌, ℕ, [], get_or, slice_index, sym, ap}
use Rattle.sha2.specs.Sha256.{add32, add_state, compress, schedule}
use Rattle.circle_merkle.specs.Lanes.{lane}
use Rattle.circle_merkle.proofs.Sixteen.{eight_same, lane-at}
use Rattle.circle_merkle.proofs.lanes.compress.Goals as goal

pub returns : goal.returns
unfolding compress
returns c i block lt is =
    let old = c.args.state.now in
    let v = c.rounds.result in
    let sum = λ (k : ℕ). ap (λ x. add32 x (slice_index (get_or v k []) i)) (sym (lane-at i k old))
    ∙ ap (add32 (slice_index (lane i old) k)) (sym (lane-at i k v)) in
    eight_same _ _ _ _ _ _ _ _ _ _ _ _ _ _ _ _
    (c.sums.ensures i lt ∙ sum 0)
    (c.sums-2.ensures i lt ∙ sum 1)
    (c.sums-3.ensures i lt ∙ sum 2)
    (c.sums-4.ensures i lt ∙ sum 3)
    (c.sums-5.ensures i lt ∙ sum 4)
    (c.sums-6.ensures i lt ∙ sum 5)
    (c.sums-7.ensures i lt ∙ sum 6)
    (c.sums-8.ensures i lt ∙ sum 7)
    ∙ ap (add_state (lane i old))
    (c.rounds.ensures i (schedule block 48) lt (c.schedule.ensures i block lt is))
