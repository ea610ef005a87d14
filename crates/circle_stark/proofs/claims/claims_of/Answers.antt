use Rattle.std.proofs.Common.{◌≡◌, List, [], ◌∷◌, ◌∙◌, ap, map}
use Rattle.std.proofs.lemmas.Result.{IfOk-weaker}
use Rattle.circle_relation.specs.Statement.{BatchClaim, MatrixClaim}
use Rattle.circle_relation.specs.StatementOf.{batch_claims, matrix_claims, point_claim}
use Rattle.circle_stark.specs.Claims.{at, claimed}
use Rattle.circle_stark.proofs.claims.claims_of.Goals as goal

pub returns : goal.returns
returns g c =
    let n = c.args.log_n in
    let proof = c.args.proof.now in
    let zeta = c.args.points.zeta in
    let local : point_claim c.in_ok-local.local
    ≡ at zeta proof.opened_values.trace_local.items =
    c.in_ok-local.ensures ∙ ap (at zeta) c.deref.ensures.value in
    let next : point_claim c.in_ok-next.next
    ≡ at c.args.points.next proof.opened_values.trace_next.items =
    c.in_ok-next.ensures ∙ ap (at c.args.points.next) c.deref-2.ensures.value in
    let trace = c.in_ok-trace_claims.ensures
    ∙ ap (λ p. claimed n (p ∷ point_claim c.in_ok-next.next ∷ []) ∷ []) local
    ∙ ap (λ p. claimed n (at zeta proof.opened_values.trace_local.items ∷ p ∷ []) ∷ []) next in
    let quotient = c.in_ok-chunk_claims.ensures
    ∙ ap (λ cs. map (λ chunk. claimed n (at zeta chunk ∷ [])) (map (λ chunk. chunk.items) cs))
    c.deref-3.ensures.value in
    let both : List (MatrixClaim g.row.EF.Denot) → List (MatrixClaim g.row.EF.Denot)
    → List (BatchClaim g.row.InputMmcs-Commitment.Denot g.row.EF.Denot) = λ ms qs. record {
      commitment = proof.trace_commitment;
      matrices = ms;
    }
    ∷ record {
      commitment = proof.quotient_commitment;
      matrices = qs;
    }
    ∷ [] in
    IfOk-weaker c.pair.result _ _
    (λ claims items. ap batch_claims items
    ∙ ap (λ ms. both ms (matrix_claims c.in_ok-chunk_claims.field-0.items)) trace
    ∙ ap (both (claimed n (at zeta proof.opened_values.trace_local.items
    ∷ at c.args.points.next proof.opened_values.trace_next.items ∷ []) ∷ [])) quotient)
    c.pair.ensures
