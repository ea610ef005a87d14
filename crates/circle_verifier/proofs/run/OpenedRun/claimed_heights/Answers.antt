use Rattle.std.proofs.Common.{suc, ◌≡◌, ◌==◌, ◌∙◌, ◌+◌, ℕ, Bool, sym, ap, arith}
use Rattle.std.specs.List.{list_any, filter, range_with_len}
use Rattle.circle_relation.specs.Statement.{all_matrices, log_height, log_max_height}
use Rattle.circle_relation.specs.StatementOf.{batch_claims}
use Rattle.circle_relation.proofs.Kept.{more-kept, more-left}
use Rattle.circle_verifier.proofs.run.OpenedRun.claimed_heights.Goals as goal
use Rattle.circle_verifier.proofs.run.OpenedRun.claimed_heights.Goals.{else-loop-log_height-test}
use Rattle.circle_verifier.proofs.run.OpenedRun.claimed_heights.Goals.{then-loop-log_height-test+else-log_height-log_height-end}
use Rattle.circle_verifier.proofs.run.OpenedRun.claimed_heights.Goals.{then-is_claimed+in_ok-push}
use Rattle.circle_verifier.proofs.run.OpenedRun.claimed_heights.Goals.{else-is_claimed}

pub loop-log_height-preserved : goal.loop-log_height-preserved
loop-log_height-preserved g c =
    let run = c.args.self.now in
    let test : ℕ → Bool = λ h. list_any (λ m. log_height run.params.now.log_blowup m == h)
    (all_matrices (batch_claims run.claims.now)) in
    elim c.if-is_claimed.branch [
      | then-is_claimed+in_ok-push w ↦ ap (λ v. v.items) w.heights-is
          ∙ more-kept test c.loop-log_height.log_height _ _ c.loop-log_height.invariant
          w.in_ok-push.ensures.items (sym c.is_claimed.ensures ∙ w.if-is_claimed.true)
      | else-is_claimed w ↦ ap (λ v. v.items) w.heights-is
          ∙ more-left test c.loop-log_height.log_height _ c.loop-log_height.invariant
          (sym c.is_claimed.ensures ∙ w.if-is_claimed.false)
    ]

pub returns : goal.returns
returns g c =
    let run = c.args.self.now in
    let h = c.loop-log_height.log_height in
    let blowup = run.params.now.log_blowup in
    let matrices = all_matrices (batch_claims run.claims.now) in
    let test : ℕ → Bool = λ h. list_any (λ m. log_height blowup m == h) matrices in
    elim c.loop-log_height-test.branch [
      | else-loop-log_height-test w ↦ absurd (omega arith)
      | then-loop-log_height-test+else-log_height-log_height-end w ↦
          let last : h + 1 ≡ suc (log_max_height blowup matrices) =
          omega (arith, run.drawn.top) in
          let all = ap (λ n. filter test (range_with_len 0 n)) last in
          ap (λ v. v.items) w.heights-is ∙ elim w.if-is_claimed.branch [
            | then-is_claimed+in_ok-push w' ↦ ap (λ v. v.items) w'.heights-is
                ∙ more-kept test h _ _ c.loop-log_height.invariant w'.in_ok-push.ensures.items
                (sym w.is_claimed.ensures ∙ w'.if-is_claimed.true) ∙ all
            | else-is_claimed w' ↦ ap (λ v. v.items) w'.heights-is
                ∙ more-left test h _ c.loop-log_height.invariant
                (sym w.is_claimed.ensures ∙ w'.if-is_claimed.false) ∙ all
          ]
    ]
