use Rattle.std.proofs.Common.{◌≡◌, ◌+◌, ◌<◌, ℕ, [], slice_index, sym, ap, ◌∙◌, arith}
use Rattle.sha2.specs.Sha256.{round_constants}
use Rattle.circle_merkle.proofs.Sixteen.{lane-at, lane-variables, part-at, rounds_more}
use Rattle.circle_merkle.proofs.lanes.eight_rounds.Goals as goal

pub returns : goal.returns
returns c i h w lt words v =
    let t = c.args.t in
    let k = λ (j p : ℕ) (low : j < 8) (is : p ≡ t + j). part-at round_constants t j p 0 low is in
    let word = λ (j p : ℕ) (low : j < 8) (is : p ≡ t + j).
    ap (λ x. slice_index x i) (part-at c.args.words.now t j p [] low is)
    ∙ sym (lane-at i p c.args.words.now) ∙ ap (λ ws. slice_index ws p) words in
    let s0 = lane-variables i c.args.v.now c.told-v ∙ v in
    let s1 = rounds_more h w _ _ t (t + 1) _ _ (omega arith) s0 (k 0 t (omega arith) (omega arith))
    (word 0 t (omega arith) (omega arith)) (c.round.ensures i lt) in
    let s2 =
    rounds_more h w _ _ (t + 1) (t + 2) _ _ (omega arith) s1
    (k 1 (t + 1) (omega arith) (omega arith)) (word 1 (t + 1) (omega arith) (omega arith))
    (c.round-2.ensures i lt) in
    let s3 =
    rounds_more h w _ _ (t + 2) (t + 3) _ _ (omega arith) s2
    (k 2 (t + 2) (omega arith) (omega arith)) (word 2 (t + 2) (omega arith) (omega arith))
    (c.round-3.ensures i lt) in
    let s4 =
    rounds_more h w _ _ (t + 3) (t + 4) _ _ (omega arith) s3
    (k 3 (t + 3) (omega arith) (omega arith)) (word 3 (t + 3) (omega arith) (omega arith))
    (c.round-4.ensures i lt) in
    let s5 =
    rounds_more h w _ _ (t + 4) (t + 5) _ _ (omega arith) s4
    (k 4 (t + 4) (omega arith) (omega arith)) (word 4 (t + 4) (omega arith) (omega arith))
    (c.round-5.ensures i lt) in
    let s6 =
    rounds_more h w _ _ (t + 5) (t + 6) _ _ (omega arith) s5
    (k 5 (t + 5) (omega arith) (omega arith)) (word 5 (t + 5) (omega arith) (omega arith))
    (c.round-6.ensures i lt) in
    let s7 =
    rounds_more h w _ _ (t + 6) (t + 7) _ _ (omega arith) s6
    (k 6 (t + 6) (omega arith) (omega arith)) (word 6 (t + 6) (omega arith) (omega arith))
    (c.round-7.ensures i lt) in
    rounds_more h w _ _ (t + 7) (t + 8) _ _ (omega arith) s7
    (k 7 (t + 7) (omega arith) (omega arith)) (word 7 (t + 7) (omega arith) (omega arith))
    (c.round-8.ensures i lt)
