use Rattle.std.proofs.Common.{◌==◌, ◌+◌, ◌∙◌, sym, refl, arith}
use Rattle.circle_relation.specs.Statement.{all_matrices}
use Rattle.circle_relation.specs.StatementOf.{batch_claims}
use Rattle.circle_relation.specs.Reasons.{IsReason}
use Rattle.circle_verifier.proofs.Claimed.{any-batches}
use Rattle.circle_verifier.proofs.Sizes.{room, some-size, all-larger}
use Rattle.circle_verifier.proofs.run.OpenedRun.check_sizes.Goals as goal

pub overflow_add-next_log_height : goal.overflow_add-next_log_height
overflow_add-next_log_height g c =
    let run = c.args.self.now in
    let params = run.params.now in
    let fits =
    room params.log_blowup params.log_final_poly_len
    (all_matrices (batch_claims run.claims.now)) run.drawn.some_matrix
    run.drawn.large in
    omega (
      arith,
      fits,
      run.drawn.top,
      run.drawn.in_group,
      g.met.Val.ComplexExtendable.at_most_62,
    )

pub overflow_add-self : goal.overflow_add-self
overflow_add-self g c =
    let run = c.args.self.now in
    let params = run.params.now in
    let fits =
    room params.log_blowup params.log_final_poly_len
    (all_matrices (batch_claims run.claims.now)) run.drawn.some_matrix
    run.drawn.large in
    omega (
      arith,
      fits,
      run.drawn.top,
      run.drawn.in_group,
      g.met.Val.ComplexExtendable.at_most_62,
    )

pub returns-then-has_domain-clause-refused : goal.returns-then-has_domain-clause-refused
unfolding IsReason
returns-then-has_domain-clause-refused g c =
    let run = c.args.self.now in
    let n = run.params.now.log_final_poly_len + 1 in
    let claims = run.claims.now in
    record {
      next = refl;
      one = refl;
      some =
          some-size n (all_matrices (batch_claims claims)) (sym (any-batches (λ m. m == n) claims)
          ∙ sym c.has_domain.ensures ∙ c.if-has_domain.true);
    }

pub returns-clause-large : goal.returns-clause-large
returns-clause-large g c =
    let run = c.args.self.now in
    let final = run.params.now.log_final_poly_len in
    let claims = run.claims.now in
    all-larger final (all_matrices (batch_claims claims))
    (sym (any-batches (λ m. m == final + 1) claims) ∙ sym c.has_domain.ensures
    ∙ c.if-has_domain.false) run.drawn.large
