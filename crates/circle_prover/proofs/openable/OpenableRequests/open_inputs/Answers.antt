use Rattle.std.specs.List.{AllZip}
use Rattle.std.proofs.Common.{◌≡◌, ◌<◌, ◌*◌, ◌-◌, ◌+◌, ◌^◌, ◌∷◌, [], ◌∙◌, All, map, take, sym}
use Rattle.std.proofs.Common.{ap, subst, arith}
use Rattle.std.proofs.lemmas.Nat.{pow-add}
use Rattle.std.proofs.lemmas.List.{map-append, take_all}
use Rattle.circle_commit.specs.Mmcs.{max_height}
use Rattle.circle_commit.specs.declared.pcs.BatchMultiOpening.{BatchMultiOpening}
use Rattle.circle_commit.specs.declared.pcs.OpeningRequest.{OpeningRequest}
use Rattle.circle_relation.specs.RunOf.{opened_batch}
use Rattle.circle_codewords.specs.Openings.{OpensRows, places_of}
use Rattle.circle_codewords.specs.Requests.{AreHeights, HasBatchRows, log_of}
use Rattle.circle_prover.proofs.Requested.{pushed-more}
use Rattle.circle_prover.proofs.openable.OpenableRequests.open_inputs.Goals as goal

pub log2_strict-log_height-requires : goal.log2_strict-log_height-requires
log2_strict-log_height-requires g c =
    let r = c.request-item.result in
    let known =
    subst (λ (q : OpeningRequest g.row.InputMmcs-ProverData.Denot g.row.EF.Denot). AreHeights
    c.args.log_max_height (g.InputMmcs.Mmcs.matrices q.prover_data.now)) (sym c.request-item.is)
    (c.requires.heights c.loop-request.request-index r c.loop-request-test.true) in (
      log_of (max_height (g.InputMmcs.Mmcs.matrices r.prover_data.now)),
      c.get_max_height.ensures
          ∙ known.power,
    )

pub overflow_sub-bits : goal.overflow_sub-bits
overflow_sub-bits g c =
    let r = c.request-item.result in
    let known =
    subst (λ (q : OpeningRequest g.row.InputMmcs-ProverData.Denot g.row.EF.Denot). AreHeights
    c.args.log_max_height (g.InputMmcs.Mmcs.matrices q.prover_data.now)) (sym c.request-item.is)
    (c.requires.heights c.loop-request.request-index r c.loop-request-test.true) in
    let h = log_of (max_height (g.InputMmcs.Mmcs.matrices r.prover_data.now)) in
    let is : c.log2_strict-log_height.result ≡ h =
    c.log2_strict-log_height.ensures.only h (c.get_max_height.ensures ∙ known.power) in
    omega (arith, known.fits, is)

pub open_rows-requires-clause-powers : goal.open_rows-requires-clause-powers
open_rows-requires-clause-powers g c =
    let r = c.request-item.result in
    let known =
    subst (λ (q : OpeningRequest g.row.InputMmcs-ProverData.Denot g.row.EF.Denot). AreHeights
    c.args.log_max_height (g.InputMmcs.Mmcs.matrices q.prover_data.now)) (sym c.request-item.is)
    (c.requires.heights c.loop-request.request-index r c.loop-request-test.true) in
    known.powers

pub open_rows-requires-clause-below : goal.open_rows-requires-clause-below
open_rows-requires-clause-below g c =
    let r = c.request-item.result in
    let top = c.args.log_max_height in
    let known =
    subst (λ (q : OpeningRequest g.row.InputMmcs-ProverData.Denot g.row.EF.Denot). AreHeights
    top (g.InputMmcs.Mmcs.matrices q.prover_data.now)) (sym c.request-item.is)
    (c.requires.heights c.loop-request.request-index r c.loop-request-test.true) in
    let greatest = max_height (g.InputMmcs.Mmcs.matrices r.prover_data.now) in
    let h = log_of greatest in
    let is : c.log2_strict-log_height.result ≡ h =
    c.log2_strict-log_height.ensures.only h (c.get_max_height.ensures ∙ known.power) in
    let whole : h + (top - h) ≡ top = omega (arith, known.fits) in
    let all : 2 ^ top ≡ greatest * 2 ^ (top - c.log2_strict-log_height.result) =
    ap (λ n. 2 ^ n) (sym whole) ∙ pow-add 2 h (top - h)
    ∙ ap (λ n. n * 2 ^ (top - h)) (sym known.power)
    ∙ ap (λ n. greatest * 2 ^ (top - n)) (sym is) in
    subst (λ n. All (λ q. q < n) c.args.indices.now) all c.requires.below

pub loop-request-preserved : goal.loop-request-preserved
loop-request-preserved g c =
    let r = c.request-item.result in
    let top = c.args.log_max_height in
    let i = c.loop-request.request-index in
    let queries = c.args.indices.now in
    let matrices = g.InputMmcs.Mmcs.matrices r.prover_data.now in
    let Commits = g.InputMmcs.Mmcs.commits c.args.self.now.mmcs.now in
    let authenticates = g.InputMmcs.Mmcs.authenticates c.args.self.now.mmcs.now in
    let known =
    subst (λ (q : OpeningRequest g.row.InputMmcs-ProverData.Denot g.row.EF.Denot). AreHeights
    top (g.InputMmcs.Mmcs.matrices q.prover_data.now)) (sym c.request-item.is)
    (c.requires.heights i r c.loop-request-test.true) in
    let is : c.log2_strict-log_height.result ≡ log_of (max_height matrices) =
    c.log2_strict-log_height.ensures.only (log_of (max_height matrices))
    (c.get_max_height.ensures ∙ known.power) in
    let R = HasBatchRows {E = g.row.EF.Denot} g.InputMmcs.Mmcs.matrices Commits authenticates top
    queries in
    let opening : BatchMultiOpening g.row.Val.Denot g.row.InputMmcs.Denot
    g.row.InputMmcs-Commitment.Denot g.row.InputMmcs-ProverData.Denot
    g.row.InputMmcs-MultiProof.Denot g.row.InputMmcs-Error.Denot =
    record {
      opened_values = c.in_ok-opened_values.opened_values;
      opening_proof =
          c.in_ok-opened_values.opening_proof;
    } in
    let here =
    subst
    (λ n. OpensRows Commits authenticates matrices (places_of (top - n) queries)
    (opened_batch opening).entries (opened_batch opening).proof) is
    c.in_ok-opened_values.ensures in
    subst (AllZip R (take (i + 1) c.args.self.now.requests.now))
    (sym (ap (map opened_batch) c.in_ok-push.ensures.items
    ∙ map-append opened_batch c.loop-request.openings.items (opening ∷ [])))
    (pushed-more R c.args.self.now.requests.now i r
    (map opened_batch c.loop-request.openings.items) (opened_batch opening)
    c.loop-request-test.true c.request-item.is c.loop-request.invariant here)

pub returns : goal.returns
returns g c =
    subst
    (λ xs. AllZip
    (HasBatchRows {E = g.row.EF.Denot} g.InputMmcs.Mmcs.matrices
    (g.InputMmcs.Mmcs.commits c.args.self.now.mmcs.now)
    (g.InputMmcs.Mmcs.authenticates c.args.self.now.mmcs.now)
    c.args.log_max_height c.args.indices.now) xs
    (map opened_batch c.loop-request.openings.items))
    (take_all c.loop-request.request-index c.args.self.now.requests.now
    (omega (arith, c.loop-request-test.false))) c.loop-request.invariant
