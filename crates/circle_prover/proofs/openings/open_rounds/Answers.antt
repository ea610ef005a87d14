use Rattle.std.proofs.Common.{◌≡◌, ◌-◌, ◌+◌, ◌^◌, ◌∷◌, [], ◌∙◌, length, map, refl, ap, arith}
use Rattle.std.proofs.lemmas.List.{length-append}
use Rattle.std.proofs.lemmas.Option.{slice_get_read}
use Rattle.circle_relation.specs.declared.proof.CircleCommitPhaseMultiStep.{CircleCommitPhaseMultiStep}
use Rattle.circle_codewords.specs.Openings.{OpensSiblings}
use Rattle.circle_prover.proofs.OpenedPairs.{one-highest}
use Rattle.circle_prover.proofs.Sided.{step-more}
use Rattle.circle_prover.proofs.openings.open_rounds.Goals as goal

pub open_siblings-requires-clause-shapes : goal.open_siblings-requires-clause-shapes
open_siblings-requires-clause-shapes g c =
    let d = c.index-kept-round.result in
    let r = c.loop-round.round in
    c.requires.words r d
    (slice_get_read c.args.kept.now (length c.args.kept.now) r d refl c.loop-round-test.true
    c.index-kept-round.is)

pub open_siblings-requires-clause-greatest : goal.open_siblings-requires-clause-greatest
open_siblings-requires-clause-greatest g c =
    let d = c.index-kept-round.result in
    let r = c.loop-round.round in
    let top = c.args.log_max_height in
    let left : top - 1 - r - 1 ≡ top - (r + 2) = omega arith in
    one-highest (top - 1 - r) (g.M.Mmcs.matrices d)
    (c.requires.words r d
    (slice_get_read c.args.kept.now (length c.args.kept.now) r d refl c.loop-round-test.true
    c.index-kept-round.is))
    ∙ ap (λ n. 2 ^ n) left

pub loop-round-preserved : goal.loop-round-preserved
loop-round-preserved g c =
    let d = c.index-kept-round.result in
    let r = c.loop-round.round in
    let Step : Type 0 =
    CircleCommitPhaseMultiStep g.row.EF.Denot g.row.M.Denot g.row.M-Commitment.Denot
    g.row.M-ProverData.Denot g.row.M-MultiProof.Denot g.row.M-Error.Denot in
    let step : Step =
    record {
      sibling_values = c.in_ok-sibling_values.sibling_values;
      opening_proof =
          c.in_ok-sibling_values.opening_proof;
    } in
    let old = c.loop-round.openings.items in
    let inv = c.loop-round.invariant in
    let pushed = c.in_ok-push.ensures.items in
    record {
      count = ap length pushed ∙ length-append old (step ∷ []) ∙ ap (λ n. n + 1) inv.count;
      opened = step-more
          (λ n (x : g.row.M-ProverData.Denot) (s : Step).
          OpensSiblings (g.M.Mmcs.commits c.args.mmcs.now) (g.M.Mmcs.authenticates c.args.mmcs.now)
          (g.M.Mmcs.matrices x) g.EF.Operations.ops.zero c.args.log_max_height
          ((c.args.log_max_height - 1 - n) ∷ []) (n + 2) c.args.indices.now
          (map (λ v. v.items) s.sibling_values.items) s.opening_proof)
          c.args.kept.now old c.push.new.self.items r d step inv.count c.index-kept-round.is pushed
          inv.opened c.in_ok-sibling_values.ensures;
    }
