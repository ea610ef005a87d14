use Rattle.std.proofs.Common.{suc, ◌≡◌, ◌==◌, ◌∙◌, ◌+◌, ℕ, Bool, sym, ap, arith, map}
use Rattle.std.specs.List.{list_any, filter, range_with_len}
use Rattle.circle_commit.specs.Mmcs.{greatest}
use Rattle.circle_relation.proofs.Kept.{more-kept, more-left}
use Rattle.circle_prover.proofs.Seen.{heights-seen}
use Rattle.circle_prover.proofs.heights.committed_heights.Goals as goal
use Rattle.circle_prover.proofs.heights.committed_heights.Goals.{else-loop-log_height-test}
use Rattle.circle_prover.proofs.heights.committed_heights.Goals.{then-loop-log_height-test+else-log_height-log_height-end}
use Rattle.circle_prover.proofs.heights.committed_heights.Goals.{then-has_height+in_ok-push}
use Rattle.circle_prover.proofs.heights.committed_heights.Goals.{else-has_height}

pub loop-log_height-preserved : goal.loop-log_height-preserved
loop-log_height-preserved g c =
    let matrices = c.args.matrices.now in
    let h = c.loop-log_height.log_height in
    let test : ℕ → Bool = λ h. list_any (λ m. m.log_height == h) matrices in
    let is : test h ≡ c.has_height.result = sym c.has_height.ensures in
    elim c.if-has_height.branch [
      | then-has_height+in_ok-push w ↦ ap (λ v. v.items) w.heights-is
          ∙ more-kept test h _ _ c.loop-log_height.invariant w.in_ok-push.ensures.items
          (is ∙ w.if-has_height.true)
      | else-has_height w ↦ ap (λ v. v.items) w.heights-is
          ∙ more-left test h _ c.loop-log_height.invariant (is ∙ w.if-has_height.false)
    ]

pub returns : goal.returns
returns g c = λ k blowup.
    let matrices = c.args.matrices.now in
    let h = c.loop-log_height.log_height in
    let test : ℕ → Bool = λ h. list_any (λ m. m.log_height == h) matrices in
    elim c.loop-log_height-test.branch [
      | else-loop-log_height-test w ↦ absurd (omega arith)
      | then-loop-log_height-test+else-log_height-log_height-end w ↦
          let last : h + 1 ≡ suc (greatest (map (λ m. m.log_height) matrices)) =
          omega (arith, c.greatest_height-log_height-end.ensures) in
          let all = ap (λ n. filter test (range_with_len 0 n)) last
          ∙ heights-seen k blowup matrices in
          let is : test h ≡ w.has_height.result = sym w.has_height.ensures in
          ap (λ v. v.items) w.heights-is ∙ elim w.if-has_height.branch [
            | then-has_height+in_ok-push w' ↦ ap (λ v. v.items) w'.heights-is
                ∙ more-kept test h _ _ c.loop-log_height.invariant w'.in_ok-push.ensures.items
                (is ∙ w'.if-has_height.true) ∙ all
            | else-has_height w' ↦ ap (λ v. v.items) w'.heights-is
                ∙ more-left test h _ c.loop-log_height.invariant (is ∙ w'.if-has_height.false) ∙ all
          ]
    ]
