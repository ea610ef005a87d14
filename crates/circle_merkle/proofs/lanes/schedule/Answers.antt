use Rattle.std.proofs.Common.{rules, ◌≡◌, ◌+◌, ◌-◌, ◌*◌, ◌<◌, ℕ, List, [], slice_index, sym, ◌∙◌}
use Rattle.std.proofs.Common.{arith}
use Rattle.sha2.specs.Sha256.{schedule}
use Rattle.sha2.proofs.Schedule256.{slice_index-schedule_first}
use Rattle.circle_merkle.specs.Lanes.{IsBlock}
use Rattle.circle_merkle.proofs.Sixteen.{lane-at, lane-schedule, scheduled, set-more}
use Rattle.circle_merkle.proofs.lanes.schedule.Goals as goal

pub loop-t-init : goal.loop-t-init
loop-t-init c = (
  search rules,
  λ t lt i block small is.
      sym (lane-at i t c.first_words-words.result) ∙ c.first_words-words.ensures i t small lt
      ∙ is t lt
      ∙ sym (slice_index-schedule_first block 48 t lt),
)

pub loop-t-preserved : goal.loop-t-preserved
loop-t-preserved c =
    let t = c.loop-t.t in
    let before = c.loop-t.invariant.1 in
    let holds : ℕ → List ℕ → Type 0 = λ t word. (i : ℕ) (block : List ℕ) → i < 16 →
    IsBlock c.args.bytes.now (i * c.args.stride + c.args.at) block
    → slice_index word i ≡ slice_index (schedule block 48) t in (
      search rules,
      set-more holds c.loop-t.words t c.next_words.result [] (omega (arith, c.loop-t.invariant.0))
          before
          (λ i block small is.
          scheduled block _ _ _ _ i t _ (omega arith) (omega arith)
          (before (t - 2) (omega arith) i block small is)
          (before (t - 7) (omega arith) i block small is)
          (before (t - 15) (omega arith) i block small is)
          (before (t - 16) (omega arith) i block small is)
          (c.next_words.ensures i small)),
    )

pub returns : goal.returns
returns c i block small is =
    lane-schedule block c.loop-t.words i c.loop-t.invariant.0
    (λ t lt. c.loop-t.invariant.1 t (omega arith) i block small is)
