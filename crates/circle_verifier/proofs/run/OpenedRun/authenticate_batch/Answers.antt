use Rattle.std.proofs.Common.{◌≡◌, ◌∙◌, map, refl, sym, ap, subst, arith, ◌+◌, ◌≤◌, List, le_trans}
use Rattle.std.proofs.Common.{ℕ}
use Rattle.std.specs.Prelude.{All}
use Rattle.std.proofs.lemmas.Result.{IfOk-from_err}
use Rattle.circle_commit.specs.Mmcs.{opened_rows}
use Rattle.circle_commit.specs.declared.pcs.MatrixOpening.{MatrixOpening}
use Rattle.circle_domain.specs.declared.domain.CircleDomain.{CircleDomain}
use Rattle.circle_domain.specs.Domain.{log_size}
use Rattle.circle_relation.specs.Statement.{log_max_height}
use Rattle.circle_relation.specs.StatementOf.{matrix_claims}
use Rattle.circle_verifier.specs.Batches.{claimed_shape, AreShown, RefusesRows}
use Rattle.circle_verifier.proofs.Rows.{at-most, refusal-refuses}
use Rattle.circle_relation.proofs.Shown.{moved, same-bits}
use Rattle.circle_verifier.proofs.run.OpenedRun.authenticate_batch.Goals as goal

small-heights : {E F : Type 0} {g : _} (blowup top : ℕ)
    (ms ds : List (MatrixOpening E (CircleDomain F g))) →
    All (λ m. log_size m.domain + blowup ≤ top) ms → top ≤ 62 → ds ≡ ms →
    All (λ m. log_size m.domain + blowup ≤ 62) ds
small-heights blowup top ms ds all small is =
    subst (All (λ m. log_size m.domain + blowup ≤ 62)) (sym is)
    (λ i d lt. le_trans (all i d lt) small)

pub claimed_shapes-requires : goal.claimed_shapes-requires
claimed_shapes-requires g c =
    let run = c.args.self.now in
    small-heights run.params.now.log_blowup run.log_max_height c.args.batch.now.matrices.items
    c.deref.result.now
    c.requires.heights
    c.requires.small
    c.deref.ensures.value

pub returns-in_err-shapes-clause-shown : goal.returns-in_err-shapes-clause-shown
returns-in_err-shapes-clause-shown g c =
    IfOk-from_err c.from_residual.result _ c.from_residual.ensures.0

pub log_max_height-height-requires : goal.log_max_height-height-requires
log_max_height-height-requires g c =
    let run = c.args.self.now in
    small-heights run.params.now.log_blowup run.log_max_height c.args.batch.now.matrices.items
    c.deref-2.result.now
    c.requires.heights
    c.requires.small
    c.deref-2.ensures.value

pub overflow_sub-self : goal.overflow_sub-self
overflow_sub-self g c =
    let run = c.args.self.now in
    let blowup = run.params.now.log_blowup in
    let matrices = c.args.batch.now.matrices.items in
    let is : c.log_max_height-height.result ≡ log_max_height blowup (matrix_claims matrices) =
    c.log_max_height-height.ensures ∙ ap (λ ms. log_max_height blowup (matrix_claims ms))
    c.deref-2.ensures.value in
    let below = at-most blowup run.log_max_height matrices c.requires.heights in
    omega (arith, is, below)

pub without_bits-requires : goal.without_bits-requires
without_bits-requires g c =
    omega (arith, c.requires.small)

pub returns-in_err-places-clause-shown : goal.returns-in_err-places-clause-shown
returns-in_err-places-clause-shown g c =
    IfOk-from_err c.from_residual-in_err-places.result _ c.from_residual-in_err-places.ensures.0

pub returns-in-Ok-clause-shown : goal.returns-in-Ok-clause-shown
returns-in-Ok-clause-shown g c =
    let batch = c.args.batch.now in
    let run = c.args.self.now in
    let blowup = run.params.now.log_blowup in
    moved (g.InputMmcs.Mmcs.authenticates run.mmcs.now) batch.commitment
    c.args.opening.now.opening_proof _ _ _ _ _ _
    (c.deref-3.ensures.value ∙ c.in_ok-shapes.ensures
    ∙ ap (λ ms. map (claimed_shape blowup) (matrix_claims ms)) c.deref.ensures.value)
    (c.deref-4.ensures.value ∙ c.in_ok-places.ensures
    ∙ same-bits run.indices.now _ _ _ _ run.drawn.top (c.log_max_height-height.ensures
    ∙ ap (λ ms. log_max_height blowup (matrix_claims ms)) c.deref-2.ensures.value))
    (ap opened_rows c.deref-5.ensures.value) c.in-Ok.ensures.accepted

pub returns-clause-refused : goal.returns-clause-refused
returns-clause-refused g c =
    let batch = c.args.batch.now in
    let run = c.args.self.now in
    let A = g.InputMmcs.Mmcs.authenticates run.mmcs.now in
    let blowup = run.params.now.log_blowup in
    let Shown = AreShown run batch c.args.opening.now in
    subst (RefusesRows g.InputMmcs.Mmcs.is_memory Shown) (sym c.refusal.ensures)
    (refusal-refuses _ g.InputMmcs.Mmcs.is_memory Shown _ _ refl
    (λ shown. c.in-Err.ensures.refused
    (moved A batch.commitment c.args.opening.now.opening_proof _ _ _ _ _ _
    (sym (c.deref-3.ensures.value ∙ c.in_ok-shapes.ensures
    ∙ ap (λ ms. map (claimed_shape blowup) (matrix_claims ms)) c.deref.ensures.value))
    (sym (c.deref-4.ensures.value ∙ c.in_ok-places.ensures
    ∙ same-bits run.indices.now _ _ _ _ run.drawn.top (c.log_max_height-height.ensures
    ∙ ap (λ ms. log_max_height blowup (matrix_claims ms)) c.deref-2.ensures.value)))
    (sym (ap opened_rows c.deref-5.ensures.value)) shown)))
