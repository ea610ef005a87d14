use Rattle.std.specs.Prelude.{Ok, Some, unwrap_or}
use Rattle.std.proofs.lemmas.List.{length-map}
use Rattle.std.proofs.Common.{◌≡◌, ◌<◌, All, ◌∙◌, sym, ap, subst, arith, length, map, inr}
use Rattle.circle_commit.specs.declared.params.PowPhase.TheVariants.{CommitPhase}
use Rattle.circle_commit.specs.RowMajorMatrix.{length-rows, rows, width_of}
use Rattle.circle_codewords.specs.Words.{IsNextWord, pairs_of}
use Rattle.circle_transcript.specs.Transcript.{commit_from, run_of, state_of}
use Rattle.circle_transcript.proofs.Phases.{missed_in}
use Rattle.circle_transcript.proofs.Playing.{handed_on, unwrap_none}
use Rattle.circle_prover.specs.Failure.{IsRoundFailure}
use Rattle.circle_relation.specs.Failures.{prover_error}
use Rattle.circle_prover.proofs.Growing.{even_power, first_rows, length-pairs_of}
use Rattle.circle_prover.proofs.foldable.FoldableMatrices.play_round.Goals as goal

pub commit_word-requires-clause-power : goal.commit_word-requires-clause-power
commit_word-requires-clause-power g c = (c.args.log_height, c.requires.word)

pub commit_word-requires-clause-pairs : goal.commit_word-requires-clause-pairs
commit_word-requires-clause-pairs g c =
    even_power c.args.log_height (length c.args.word.items) c.requires.positive c.requires.word

pub fold_round-requires-clause-rows : goal.fold_round-requires-clause-rows
fold_round-requires-clause-rows g c =
    let layer = c.index-get_matrices-0.result in
    let matrices = c.get_matrices.result.now in
    let word = c.args.word.items in
    let is_layer : rows layer ≡ pairs_of word =
    ap rows c.index-get_matrices-0.is
    ∙ first_rows matrices (pairs_of word) layer (ap (map rows) c.get_matrices.ensures
    ∙ c.in_ok-commitment.ensures.rows) in
    sym (length-rows layer) ∙ ap length is_layer
    ∙ length-pairs_of word c.args.log_height c.requires.positive c.requires.word

pub returns-in_err-beta-clause-failure : goal.returns-in_err-beta-clause-failure
returns-in_err-beta-clause-failure g c =
    handed_on c.from_residual-in_err-beta.result (prover_error c.in_err-beta.field-0.0)
    (IsRoundFailure (run_of c.args.transcript.now)
    (g.M.Mmcs.commits c.args.self.now.params.now.mmcs)
    c.args.transcript.now c.args.word.items) c.from_residual-in_err-beta.ensures.1
    (inr (
      ap prover_error c.in_err-beta.ensures.failure,
      c.in_ok-commitment.commitment,
      (g.M.Mmcs.matrices c.in_ok-commitment.kept, c.in_ok-commitment.ensures),
      λ w. missed_in CommitPhase _ _ _ (c.in_err-beta.ensures.none w),
    ))

pub commit_round-requires-clause-next : goal.commit_round-requires-clause-next
commit_round-requires-clause-next g c = c.requires.next

pub commit_round-requires-clause-small : goal.commit_round-requires-clause-small
commit_round-requires-clause-small g c = c.requires.small

pub returns-in_err-beta-clause-same : goal.returns-in_err-beta-clause-same
returns-in_err-beta-clause-same g c = c.commit_round.ensures.same

pub returns-in_err-next-clause-same : goal.returns-in_err-next-clause-same
returns-in_err-next-clause-same g c = c.commit_round.ensures.same

pub returns-clause-same : goal.returns-clause-same
returns-clause-same g c = c.commit_round.ensures.same

pub returns-clause-due : goal.returns-clause-due
returns-clause-due g c = c.in_ok-beta.ensures.due

pub returns-clause-easy : goal.returns-clause-easy
returns-clause-easy g c = λ none.
    c.unwrap_or.ensures
    ∙ ap (unwrap_or c.in_ok-beta.witness) (c.ZERO.ensures ∙ g.met.F.Field.zero_law)
    ∙ unwrap_none g.F.Operations.ops.zero c.in_ok-beta.witness (c.in_ok-beta.ensures.needed.1 none)

pub returns-clause-found : goal.returns-clause-found
returns-clause-found g c =
    let is_witness : c.unwrap_or.result ≡ unwrap_or c.in_ok-beta.witness g.F.Operations.ops.zero =
    c.unwrap_or.ensures
    ∙ ap (unwrap_or c.in_ok-beta.witness) (c.ZERO.ensures ∙ g.met.F.Field.zero_law) in
    c.in_ok-beta.ensures.found ∙ ap Some (sym is_witness)

pub returns-clause-played : goal.returns-clause-played
returns-clause-played g c =
    let is_witness : c.unwrap_or.result ≡ unwrap_or c.in_ok-beta.witness g.F.Operations.ops.zero =
    c.unwrap_or.ensures
    ∙ ap (unwrap_or c.in_ok-beta.witness) (c.ZERO.ensures ∙ g.met.F.Field.zero_law) in
    subst
    (λ w. commit_from c.args.transcript.now c.in_ok-commitment.commitment w
    ≡ Ok (g.EF.ExtensionField.coefficients c.in_ok-beta.beta, state_of c.commit_round.new.self))
    (sym is_witness) c.in_ok-beta.ensures.played

pub returns-clause-committed : goal.returns-clause-committed
returns-clause-committed g c = c.in_ok-commitment.ensures

pub bounds-get_matrices-0 : goal.bounds-get_matrices-0
bounds-get_matrices-0 g c =
    let matrices = c.get_matrices.result.now in
    let one = ap length (ap (map rows) c.get_matrices.ensures ∙ c.in_ok-commitment.ensures.rows) in
    omega (arith, one, length-map matrices rows)

pub fold_round-requires-clause-width : goal.fold_round-requires-clause-width
fold_round-requires-clause-width g c =
    let layer = c.index-get_matrices-0.result in
    let matrices = c.get_matrices.result.now in
    let one = ap length (ap (map rows) c.get_matrices.ensures ∙ c.in_ok-commitment.ensures.rows) in
    let within : 0 < length matrices = omega (arith, one, length-map matrices rows) in
    ap width_of c.index-get_matrices-0.is
    ∙ subst (All (λ m. width_of m ≡ 2)) (sym c.get_matrices.ensures)
    c.in_ok-commitment.ensures.width 0 layer within

pub fold_round-requires-clause-positive : goal.fold_round-requires-clause-positive
fold_round-requires-clause-positive g c = c.requires.positive

pub fold_round-requires-clause-in_group : goal.fold_round-requires-clause-in_group
fold_round-requires-clause-in_group g c = c.requires.in_group

pub fold_round-requires-clause-words : goal.fold_round-requires-clause-words
fold_round-requires-clause-words g c = c.requires.words

pub returns-clause-length : goal.returns-clause-length
returns-clause-length g c = c.in_ok-next.ensures.length

pub returns-clause-folds : goal.returns-clause-folds
returns-clause-folds g c =
    let layer = c.index-get_matrices-0.result in
    let matrices = c.get_matrices.result.now in
    let word = c.args.word.items in
    let is_layer : rows layer ≡ pairs_of word =
    ap rows c.index-get_matrices-0.is
    ∙ first_rows matrices (pairs_of word) layer (ap (map rows) c.get_matrices.ensures
    ∙ c.in_ok-commitment.ensures.rows) in
    subst
    (λ rs. IsNextWord g.F.Operations.ops g.F.ComplexExtendable.generators g.EF.Operations.ops
    g.EF.ExtensionField.embed c.args.heights.now c.args.folded.now c.args.log_height
    c.in_ok-beta.beta rs c.in_ok-next.next.items) is_layer c.in_ok-next.ensures.folds
