use Rattle.std.proofs.Common.{◌≡◌, [], ◌∷◌, Ok, Err, not, ◌==◌, false, length, map, vec_len, sym}
use Rattle.std.proofs.Common.{ap, ◌∙◌}
use Rattle.std.proofs.lemmas.List.{length-map}
use Rattle.std.specs.List.{list_all}
use Rattle.circle_commit.specs.declared.error.FriError.TheVariants.{CommitPowWitnessCountMismatch}
use Rattle.circle_commit.specs.declared.error.FriError.TheVariants.{CommitPhaseOpeningsCountMismatch}
use Rattle.circle_commit.specs.declared.params.PowPhase.TheVariants.{CommitPhase, Query}
use Rattle.circle_relation.specs.TestsInOrder.{answer}
use Rattle.circle_verifier.specs.Refusals.{witness_test, rounds_tests}
use Rattle.circle_verifier.proofs.ShapeTests.{answer-fifth, not_different, different}
use Rattle.circle_verifier.proofs.ShapeTests.{second_refuses, third_refuses, fourth_refuses}
use Rattle.circle_verifier.proofs.ShapeTests.{fifth_refuses}
use Rattle.circle_relation.proofs.Answering.{refused-is}
use Rattle.circle_verifier.proofs.verifier.validate_proof_shape.Goals as goal

pub returns-then-got-expected-2 : goal.returns-then-got-expected-2
returns-then-got-expected-2 g c =
    let f = c.args.proof.now in
    let due = c.args.num_commit_rounds in
    let count : length f.commit_pow_witnesses.items ≡ vec_len f.commit_pow_witnesses =
    sym f.commit_pow_witnesses.ok.0 in
    let commits : not (vec_len f.commit_phase_commits == due) ≡ false =
    not_different _ _ (sym c.len-got.ensures ∙ c.if-got-expected.false) in
    let same : c.len-got-2.result ≡ length f.commit_pow_witnesses.items = c.len-got-2.ensures
    ∙ sym count in
    ap (λ n. Err (CommitPowWitnessCountMismatch due n)) same
    ∙ sym
    (second_refuses _ _ _ _ _ _ commits
    (different _ _ (λ is. c.if-got-expected-2.true (same ∙ is))))

pub returns-in_err-check_witnesses : goal.returns-in_err-check_witnesses
returns-in_err-check_witnesses g c =
    let p = c.args.params.now in
    let f = c.args.proof.now in
    let due = c.args.num_commit_rounds in
    let zero = λ (w : g.row.Witness.Denot). g.Witness.PartialEq.eq w g.Witness.Field.ZERO in
    let witness = witness_test {C = g.row.M-Error.Denot} {I = g.row.InputErr.Denot} in
    let count : length f.commit_pow_witnesses.items ≡ vec_len f.commit_pow_witnesses =
    ap length (sym c.deref.ensures.value) ∙ c.deref.ensures.len in
    let commits : not (vec_len f.commit_phase_commits == due) ≡ false =
    not_different _ _ (sym c.len-got.ensures ∙ c.if-got-expected.false) in
    let witnesses : not (length f.commit_pow_witnesses.items == due) ≡ false =
    not_different _ _ (count ∙ sym c.len-got-2.ensures ∙ c.if-got-expected-2.false) in
    let first : c.are_zero.result ≡ list_all zero f.commit_pow_witnesses.items = c.are_zero.ensures
    ∙ ap (list_all zero) c.deref.ensures.value in
    let refused : answer
    (witness CommitPhase p.commit_proof_of_work_bits
    (list_all zero f.commit_pow_witnesses.items) ∷ []) (tt {0}) ≡ Err
    c.in_err-check_witnesses.field-0.0 =
    ap (λ b. answer (witness CommitPhase p.commit_proof_of_work_bits b ∷ []) (tt {0})) (sym first)
    ∙ sym c.check_witnesses.ensures ∙ c.in_err-check_witnesses.was in
    refused-is c.from_residual.result c.in_err-check_witnesses.field-0.0 c.from_residual.ensures.1
    ∙ sym (third_refuses _ _ _ _ _ _ commits witnesses c.in_err-check_witnesses.field-0.0 refused)

pub returns-in_err-check_witnesses-2 : goal.returns-in_err-check_witnesses-2
returns-in_err-check_witnesses-2 g c =
    let p = c.args.params.now in
    let f = c.args.proof.now in
    let due = c.args.num_commit_rounds in
    let zero = λ (w : g.row.Witness.Denot). g.Witness.PartialEq.eq w g.Witness.Field.ZERO in
    let witness = witness_test {C = g.row.M-Error.Denot} {I = g.row.InputErr.Denot} in
    let count : length f.commit_pow_witnesses.items ≡ vec_len f.commit_pow_witnesses =
    ap length (sym c.deref.ensures.value) ∙ c.deref.ensures.len in
    let commits : not (vec_len f.commit_phase_commits == due) ≡ false =
    not_different _ _ (sym c.len-got.ensures ∙ c.if-got-expected.false) in
    let witnesses : not (length f.commit_pow_witnesses.items == due) ≡ false =
    not_different _ _ (count ∙ sym c.len-got-2.ensures ∙ c.if-got-expected-2.false) in
    let first : c.are_zero.result ≡ list_all zero f.commit_pow_witnesses.items = c.are_zero.ensures
    ∙ ap (list_all zero) c.deref.ensures.value in
    let second : c.eq.result ≡ zero f.pow_witness =
    c.eq.ensures ∙ ap (g.Witness.PartialEq.eq f.pow_witness) c.ZERO.ensures in
    let of_rounds : answer
    (witness CommitPhase p.commit_proof_of_work_bits
    (list_all zero f.commit_pow_witnesses.items) ∷ []) (tt {0}) ≡ Ok (tt {0}) =
    ap (λ b. answer (witness CommitPhase p.commit_proof_of_work_bits b ∷ []) (tt {0})) (sym first)
    ∙ sym c.check_witnesses.ensures ∙ c.in_ok-check_witnesses.was in
    let refused : answer (witness Query p.query_proof_of_work_bits (zero f.pow_witness) ∷ [])
    (tt {0}) ≡ Err c.in_err-check_witnesses-2.field-0.0 =
    ap (λ b. answer (witness Query p.query_proof_of_work_bits b ∷ []) (tt {0})) (sym second)
    ∙ sym c.check_witnesses-2.ensures ∙ c.in_err-check_witnesses-2.was in
    refused-is c.from_residual-in_err-check_witnesses-2.result c.in_err-check_witnesses-2.field-0.0
    c.from_residual-in_err-check_witnesses-2.ensures.1
    ∙ sym
    (fourth_refuses _ _ _ _ _ _ commits witnesses of_rounds c.in_err-check_witnesses-2.field-0.0
    refused)

pub returns-then-got-expected-3 : goal.returns-then-got-expected-3
returns-then-got-expected-3 g c =
    let p = c.args.params.now in
    let f = c.args.proof.now in
    let due = c.args.num_commit_rounds in
    let zero = λ (w : g.row.Witness.Denot). g.Witness.PartialEq.eq w g.Witness.Field.ZERO in
    let witness = witness_test {C = g.row.M-Error.Denot} {I = g.row.InputErr.Denot} in
    let count : length f.commit_pow_witnesses.items ≡ vec_len f.commit_pow_witnesses =
    ap length (sym c.deref.ensures.value) ∙ c.deref.ensures.len in
    let opened : length f.commit_phase_openings.items ≡ vec_len f.commit_phase_openings =
    sym f.commit_phase_openings.ok.0 in
    let commits : not (vec_len f.commit_phase_commits == due) ≡ false =
    not_different _ _ (sym c.len-got.ensures ∙ c.if-got-expected.false) in
    let witnesses : not (length f.commit_pow_witnesses.items == due) ≡ false =
    not_different _ _ (count ∙ sym c.len-got-2.ensures ∙ c.if-got-expected-2.false) in
    let first : c.are_zero.result ≡ list_all zero f.commit_pow_witnesses.items = c.are_zero.ensures
    ∙ ap (list_all zero) c.deref.ensures.value in
    let second : c.eq.result ≡ zero f.pow_witness =
    c.eq.ensures ∙ ap (g.Witness.PartialEq.eq f.pow_witness) c.ZERO.ensures in
    let of_rounds : answer
    (witness CommitPhase p.commit_proof_of_work_bits
    (list_all zero f.commit_pow_witnesses.items) ∷ []) (tt {0}) ≡ Ok (tt {0}) =
    ap (λ b. answer (witness CommitPhase p.commit_proof_of_work_bits b ∷ []) (tt {0})) (sym first)
    ∙ sym c.check_witnesses.ensures ∙ c.in_ok-check_witnesses.was in
    let of_queries : answer (witness Query p.query_proof_of_work_bits (zero f.pow_witness) ∷ [])
    (tt {0}) ≡ Ok (tt {0}) =
    ap (λ b. answer (witness Query p.query_proof_of_work_bits b ∷ []) (tt {0})) (sym second)
    ∙ sym c.check_witnesses-2.ensures ∙ c.in_ok-check_witnesses-2.was in
    let same : c.len-got-3.result ≡ length
    (map (λ o. map vec_len o.sibling_values.items) f.commit_phase_openings.items) =
    c.len-got-3.ensures
    ∙ sym (length-map f.commit_phase_openings.items (λ o. map vec_len o.sibling_values.items)
    ∙ opened) in
    ap (λ n. Err (CommitPhaseOpeningsCountMismatch due n)) same
    ∙ sym
    (fifth_refuses _ _ _ _ _ _ commits witnesses of_rounds of_queries
    (different _ _ (λ is. c.if-got-expected-3.true (same ∙ is))))

pub returns : goal.returns
returns g c =
    let p = c.args.params.now in
    let f = c.args.proof.now in
    let due = c.args.num_commit_rounds in
    let zero = λ (w : g.row.Witness.Denot). g.Witness.PartialEq.eq w g.Witness.Field.ZERO in
    let witness = witness_test {C = g.row.M-Error.Denot} {I = g.row.InputErr.Denot} in
    let count : length f.commit_pow_witnesses.items ≡ vec_len f.commit_pow_witnesses =
    ap length (sym c.deref.ensures.value) ∙ c.deref.ensures.len in
    let opened : length f.commit_phase_openings.items ≡ vec_len f.commit_phase_openings =
    ap length (sym c.deref-2.ensures.value) ∙ c.deref-2.ensures.len in
    let commits : not (vec_len f.commit_phase_commits == due) ≡ false =
    not_different _ _ (sym c.len-got.ensures ∙ c.if-got-expected.false) in
    let witnesses : not (length f.commit_pow_witnesses.items == due) ≡ false =
    not_different _ _ (count ∙ sym c.len-got-2.ensures ∙ c.if-got-expected-2.false) in
    let openings : not
    (length (map (λ o. map vec_len o.sibling_values.items) f.commit_phase_openings.items) ==
    due) ≡ false =
    not_different _ _
    (length-map f.commit_phase_openings.items (λ o. map vec_len o.sibling_values.items) ∙ opened
    ∙ sym c.len-got-3.ensures ∙ c.if-got-expected-3.false) in
    let first : c.are_zero.result ≡ list_all zero f.commit_pow_witnesses.items = c.are_zero.ensures
    ∙ ap (list_all zero) c.deref.ensures.value in
    let second : c.eq.result ≡ zero f.pow_witness =
    c.eq.ensures ∙ ap (g.Witness.PartialEq.eq f.pow_witness) c.ZERO.ensures in
    let of_rounds : answer
    (witness CommitPhase p.commit_proof_of_work_bits
    (list_all zero f.commit_pow_witnesses.items) ∷ []) (tt {0}) ≡ Ok (tt {0}) =
    ap (λ b. answer (witness CommitPhase p.commit_proof_of_work_bits b ∷ []) (tt {0})) (sym first)
    ∙ sym c.check_witnesses.ensures ∙ c.in_ok-check_witnesses.was in
    let of_queries : answer (witness Query p.query_proof_of_work_bits (zero f.pow_witness) ∷ [])
    (tt {0}) ≡ Ok (tt {0}) =
    ap (λ b. answer (witness Query p.query_proof_of_work_bits b ∷ []) (tt {0})) (sym second)
    ∙ sym c.check_witnesses-2.ensures ∙ c.in_ok-check_witnesses-2.was in
    answer-fifth _ _ _ _ _ _ c.check_rounds.result commits witnesses of_rounds of_queries openings
    (c.check_rounds.ensures
    ∙ ap
    (λ os. answer
    (rounds_tests {C = g.row.M-Error.Denot} {I = g.row.InputErr.Denot} p.num_queries 0
    (map (λ o. map vec_len o.sibling_values.items) os)) (tt {0})) c.deref-2.ensures.value)
