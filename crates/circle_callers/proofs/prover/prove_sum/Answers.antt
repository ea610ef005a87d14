use Rattle.std.proofs.Common.{◌∙◌, ◌^◌, ℕ, List, [], ◌∷◌, ap, length, sym}
use Rattle.std.proofs.Common.{slice_index_or}
use Rattle.circle_air.specs.Air.{air_of}
use Rattle.circle_airs.specs.Fibonacci.{fibonacci_rows, term}
use Rattle.circle_callers.proofs.Claimed.{of_parts, proved, stated}
use Rattle.circle_callers.proofs.Fitting.{height-is, log-is, otherwise, shifted}
use Rattle.circle_callers.proofs.Fitting.{still-satisfied, unlucky, width-is}
use Rattle.circle_callers.specs.Sums.{schemes}
use Rattle.circle_callers.specs.Unlucky.{IsUnlucky}
use Rattle.circle_callers.specs.declared.claim.Claim.{Claim}
use Rattle.circle_challenger.specs.Sha256Challenger.{state_of}
use Rattle.circle_codewords.specs.Requests.{log_of}
use Rattle.circle_commit.specs.RowMajorMatrix.{height_of, rows, width_of}
use Rattle.circle_field.specs.Mersenne31.{operations}
use Rattle.circle_field.specs.declared.mersenne31.Mersenne31.{Mersenne31}
use Rattle.circle_round_trip.proofs.Batches.{handed}
use Rattle.circle_stark.specs.Unproved.{IsTraceUnproved}
use Rattle.circle_callers.proofs.prover.prove_sum.Goals as goal

pub returns-in_err-proof-clause-reason : goal.returns-in_err-proof-clause-reason
returns-in_err-proof-clause-reason c =
    let m = c.in_ok-made.made.rows in
    let first = c.args.first in
    let second = c.args.second in
    let n = c.args.log_n in
    let e = c.in_err-proof.field-0.0 in
    let pcs = c.args.pcs.now in
    let public = c.deref.result.now in
    let parts = c.in-Ok.ensures.parts in
    let given = c.deref.ensures.value in
    let made =
    c.in_ok-made.ensures.rows
    ∙ ap (λ (h : ℕ). fibonacci_rows operations first second h)
    (shifted pcs.fri_params n c.requires.fits) in
    let high = height-is operations first second (2 ^ n) m made in
    let wide =
    width-is operations first second n m made
    c.in_ok-made.made.public_values.items c.in_ok-made.ensures.satisfies in
    let s = of_parts (air_of c.in-Ok.air) (log_of (height_of m)) public in
    handed IsUnlucky c.from_residual-in_err-proof.result e c.from_residual-in_err-proof.ensures.1
    (unlucky schemes pcs s 1 m c.new.result c.prove.new.challenger e
    (still-satisfied operations (air_of c.in-Ok.air) (rows m)
    c.in_ok-made.made.public_values.items public parts given c.in_ok-made.ensures.satisfies)
    (otherwise pcs.fri_params s n (width_of m) (height_of m) parts
    (ap length given ∙ ap length c.in_ok-made.ensures.public) wide high
    (log-is pcs.fri_params (height_of m) n high c.requires.fits) c.requires.fits
    (λ kk error. IsTraceUnproved schemes pcs s kk m c.new.result c.prove.new.challenger error)
    c.new.result c.prove.new.challenger e c.in_err-proof.ensures.reason))

pub returns-clause-claim : goal.returns-clause-claim
returns-clause-claim c =
    let first = c.args.first in
    let second = c.args.second in
    let claim_of : Mersenne31 → Claim = λ last.
    record { log_n = c.args.log_n; first = first; second = second; last = last } in
    ap claim_of
    (c.index.ensures
    ∙ ap (λ (v : List Mersenne31). slice_index_or v 2 c.index.result.now)
    c.in_ok-made.ensures.public
    ∙ ap (λ (h : ℕ). term operations first second h)
    (shifted c.args.pcs.now.fri_params c.args.log_n c.requires.fits))

pub returns-clause-proof : goal.returns-clause-proof
returns-clause-proof c =
    let m = c.in_ok-made.made.rows in
    let first = c.args.first in
    let second = c.args.second in
    let n = c.args.log_n in
    let last = c.index.result.now in
    let pcs = c.args.pcs.now in
    let claim : Claim = record { log_n = n; first = first; second = second; last = last } in
    let made =
    c.in_ok-made.ensures.rows
    ∙ ap (λ (h : ℕ). fibonacci_rows operations first second h)
    (shifted pcs.fri_params n c.requires.fits) in
    let high = height-is operations first second (2 ^ n) m made in
    let is_last =
    c.index.ensures
    ∙ ap (λ (v : List Mersenne31). slice_index_or v 2 last) c.in_ok-made.ensures.public in
    proved pcs claim c.in_ok-proof.proof _ (state_of c.new.result)
    (stated claim (air_of c.in-Ok.air) (log_of (height_of m)) c.deref.result.now
    c.in-Ok.ensures.parts (log-is pcs.fri_params (height_of m) n high c.requires.fits)
    (c.deref.ensures.value ∙ c.in_ok-made.ensures.public
    ∙ ap (λ (x : Mersenne31). first ∷ second ∷ x ∷ []) (sym is_last))) c.new.ensures
    (state_of c.prove.new.challenger) c.in_ok-proof.ensures.accepted
