use Rattle.std.specs.Prelude.{All, zip}
use Rattle.std.proofs.Common.{◌≡◌, ℕ, List, ◌+◌, ◌-◌, ◌^◌, ◌<◌, ◌≤◌, ◌∷◌, [], length, map, refl}
use Rattle.std.proofs.Common.{sym, ap, ◌∙◌, subst, arith, inl, inr}
use Rattle.std.proofs.lemmas.List.{map-append, length_push}
use Rattle.std.proofs.lemmas.Slice.Zip.{length-zip}
use Rattle.std.proofs.lemmas.List.Elements.{All-nil}
use Rattle.circle_transcript.specs.Transcript.{numbers, run_of, state_of}
use Rattle.circle_transcript.proofs.Playing.{handed_on, zeros_pushed}
use Rattle.circle_transcript.proofs.Runs.{rounds_all, next_round, rounds_none}
use Rattle.circle_prover.specs.OfFoldable.{fields_of}
use Rattle.circle_prover.specs.Failure.{IsRoundsFailure}
use Rattle.circle_relation.specs.declared.error.ProverError.TheVariants.{Memory}
use Rattle.circle_prover.specs.Words.{word_at}
use Rattle.circle_prover.proofs.Transcripts.{same-both}
use Rattle.circle_prover.proofs.Growing.{word_at-kept, word_at-next, rounds_begun, rounds_more}
use Rattle.circle_prover.proofs.Growing.{played_begun, played_more, stuck_after, words_committed}
use Rattle.circle_prover.proofs.foldable.FoldableMatrices.play_rounds.Goals as goal

pub loop-i-init : goal.loop-i-init
loop-i-init g c =
    let bits = (numbers c.args.transcript.now).commit_pow_bits in
    let begun = state_of c.args.transcript.now in
    let coefficients = g.EF.ExtensionField.coefficients in
    let no_commitments = c.in_ok-rounds.ensures.commitments in
    let no_kept = c.in_ok-rounds.ensures.kept in
    let no_witnesses = c.in_ok-rounds.ensures.witnesses in
    let no_betas = c.in_ok-rounds.ensures.betas in
    record {
      same = record { challenger = refl; shape = refl };
      due = λ rest e. rounds_all g.EF.ExtensionField.DEGREE bits c.args.num_rounds rest _ e;
      commitments = ap length no_commitments;
      witnesses = ap length no_witnesses;
      betas = ap length no_betas;
      easy = λ none. subst (All (λ w. w ≡ g.F.Operations.ops.zero)) (sym no_witnesses)
          (All-nil (λ w. w ≡ g.F.Operations.ops.zero));
      played = played_begun (run_of c.args.transcript.now) bits begun begun _ _ _ no_commitments
          (ap (map coefficients) no_betas);
      length = c.requires.first ∙ ap (λ n. 2 ^ n) (omega arith);
      committed = λ f are. rounds_begun _ _ _ _ _ no_kept no_commitments;
      word = λ f are. refl;
    }

pub play_round-requires-clause-next : goal.play_round-requires-clause-next
play_round-requires-clause-next g c =
    let rest = c.requires.next.0 in
    let bits = (numbers c.args.transcript.now).commit_pow_bits in
    let same_bits = ap (λ v. v.commit_pow_bits) c.loop-i.invariant.same.shape in (
      _,
      next_round g.EF.ExtensionField.DEGREE bits _ c.args.num_rounds c.loop-i.i rest _ same_bits
          (omega arith) (c.loop-i.invariant.due rest c.requires.next.1),
    )

pub returns-in_err-round-clause-failure : goal.returns-in_err-round-clause-failure
returns-in_err-round-clause-failure g c =
    let r = run_of c.args.transcript.now in
    let bits = (numbers c.args.transcript.now).commit_pow_bits in
    let begun = state_of c.args.transcript.now in
    let same_bits = ap (λ v. v.commit_pow_bits) c.loop-i.invariant.same.shape in
    let before = c.loop-i.invariant in
    let rounds = c.loop-i.rounds in
    let commits = g.M.Mmcs.commits c.args.self.now.params.now.mmcs in
    let word : (ℕ → List g.row.EF.Denot) → List g.row.EF.Denot → ℕ → List g.row.EF.Denot =
    λ f. word_at (fields_of c.args.self.now) c.args.heights.now f c.args.log_height
    c.args.first.items in
    let played = zip rounds.commitments.items rounds.witnesses.items in
    let long : length played ≡ c.loop-i.i =
    (let e = length-zip rounds.commitments.items rounds.witnesses.items in
    omega (arith, e, before.commitments, before.witnesses)) in
    handed_on c.from_residual-in_err-round.result c.in_err-round.field-0.0
    (IsRoundsFailure r commits c.args.transcript.now (fields_of c.args.self.now) c.args.heights.now
    c.args.folded.now c.args.log_height c.args.first.items c.args.num_rounds)
    c.from_residual-in_err-round.ensures.1
    (elim c.in_err-round.ensures.failure [
      | inl refused ↦ inl refused
      | inr stuck ↦
          inr (
            stuck.0,
            λ f are. stuck_after r bits begun _ commits (word f) c.args.num_rounds played
                rounds.betas.items _ same_bits before.played
                (words_committed commits g.M.Mmcs.matrices (word f rounds.betas.items)
                rounds.kept.items rounds.commitments.items rounds.witnesses.items
                (before.committed f are))
                (omega (arith, long)) c.loop-i.word.items
                (before.word f are ∙ ap (word f rounds.betas.items) (sym long))
                stuck.1 stuck.2 stuck.3,
          )
    ])

pub loop-i-preserved : goal.loop-i-preserved
loop-i-preserved g c =
    let r = run_of c.args.transcript.now in
    let k = fields_of c.args.self.now in
    let degree = g.EF.ExtensionField.DEGREE in
    let coefficients = g.EF.ExtensionField.coefficients in
    let zero = g.F.Operations.ops.zero in
    let bits = (numbers c.args.transcript.now).commit_pow_bits in
    let begun = state_of c.args.transcript.now in
    let n = c.args.num_rounds in
    let i = c.loop-i.i in
    let h = c.args.log_height in
    let heights = c.args.heights.now in
    let first = c.args.first.items in
    let before = c.loop-i.invariant in
    let old = c.loop-i.rounds in
    let new = c.add_round.new.rounds in
    let round = c.in_ok-round.round in
    let played = c.in_ok-round.ensures in
    let added = c.in_ok-word.ensures in
    let within : i < n = omega arith in
    let same_bits = ap (λ v. v.commit_pow_bits) before.same.shape in
    let is_word = ap (λ v. v.items) added.word in
    record {
      same = same-both _ _ _ before.same c.play_round.ensures.same;
      due =
          λ rest e. played.due _ (next_round degree bits _ n i rest _ same_bits within
          (before.due rest e));
      commitments = ap length added.commitments ∙ length_push old.commitments.items round.commitment
          ∙ ap (λ m. m + 1) before.commitments;
      witnesses = ap length added.witnesses ∙ length_push old.witnesses.items round.witness
          ∙ ap (λ m. m + 1) before.witnesses;
      betas = ap length added.betas ∙ length_push old.betas.items round.beta
          ∙ ap (λ m. m + 1) before.betas;
      easy = λ none. zeros_pushed zero old.witnesses.items new.witnesses.items round.witness
          (before.easy none) (played.easy (same_bits ∙ none)) added.witnesses;
      played =
          played_more r bits begun _ old.commitments.items new.commitments.items old.witnesses.items
          new.witnesses.items round.commitment round.witness
          (map coefficients old.betas.items) (map coefficients new.betas.items)
          (coefficients round.beta) _ _ (before.commitments ∙ sym before.witnesses)
          added.commitments added.witnesses same_bits before.played
          played.found played.played (ap (map coefficients) added.betas
          ∙ map-append coefficients old.betas.items (round.beta ∷ []));
      length = ap length is_word ∙ played.length ∙ ap (λ m. 2 ^ m) (omega arith);
      committed = λ f are.
          rounds_more (g.M.Mmcs.commits c.args.self.now.params.now.mmcs) g.M.Mmcs.matrices
          (word_at k heights f h first old.betas.items)
          (word_at k heights f h first new.betas.items) c.loop-i.word.items
          old.kept.items new.kept.items old.commitments.items new.commitments.items round.kept
          round.commitment added.kept added.commitments
          (λ m low.
          let known = before.commitments in
          let counted = before.betas in
          ap (λ bs. word_at k heights f h first bs m) added.betas
          ∙ word_at-kept k heights f h first old.betas.items round.beta m
          (omega (arith, low, known, counted)))
          (before.word f are ∙ ap (word_at k heights f h first old.betas.items)
          (sym before.commitments))
          (before.committed f are) played.committed;
      word = λ f are.
          is_word ∙ played.folds f are
          ∙ word_at-next k heights f h first old.betas.items new.betas.items round.beta i
          c.loop-i.word.items added.betas before.betas (before.word f are);
    }

pub returns-clause-due : goal.returns-clause-due
returns-clause-due g c = λ rest e.
    c.loop-i.invariant.due rest e
    ∙ rounds_none g.EF.ExtensionField.DEGREE (numbers c.args.transcript.now).commit_pow_bits
    c.args.num_rounds c.loop-i.i rest (omega arith)

pub play_round-requires-clause-small : goal.play_round-requires-clause-small
play_round-requires-clause-small g c =
    subst (λ n. n.commit_pow_bits ≤ 63) (sym c.loop-i.invariant.same.shape) c.requires.small

pub play_round-requires-clause-word : goal.play_round-requires-clause-word
play_round-requires-clause-word g c = c.loop-i.invariant.length

pub play_round-requires-clause-words : goal.play_round-requires-clause-words
play_round-requires-clause-words g c = c.requires.words

pub returns-in_err-round-clause-same : goal.returns-in_err-round-clause-same
returns-in_err-round-clause-same g c =
    same-both _ _ _ c.loop-i.invariant.same c.play_round.ensures.same

pub returns-in_err-word-clause-same : goal.returns-in_err-word-clause-same
returns-in_err-word-clause-same g c =
    same-both _ _ _ c.loop-i.invariant.same c.play_round.ensures.same

pub returns-clause-same : goal.returns-clause-same
returns-clause-same g c = c.loop-i.invariant.same

pub returns-clause-commitments : goal.returns-clause-commitments
returns-clause-commitments g c = c.loop-i.invariant.commitments ∙ omega arith

pub returns-clause-witnesses : goal.returns-clause-witnesses
returns-clause-witnesses g c = c.loop-i.invariant.witnesses ∙ omega arith

pub returns-clause-easy : goal.returns-clause-easy
returns-clause-easy g c = c.loop-i.invariant.easy

pub returns-clause-played : goal.returns-clause-played
returns-clause-played g c = c.loop-i.invariant.played

pub returns-clause-length : goal.returns-clause-length
returns-clause-length g c =
    let ended : c.loop-i.i ≡ c.args.num_rounds = omega arith in
    c.loop-i.invariant.length ∙ ap (λ n. 2 ^ (c.args.log_height - n)) ended

pub returns-clause-committed : goal.returns-clause-committed
returns-clause-committed g c = c.loop-i.invariant.committed

pub returns-clause-word : goal.returns-clause-word
returns-clause-word g c = λ f are.
    let ended : c.loop-i.i ≡ c.args.num_rounds = omega arith in
    c.loop-i.invariant.word f are
    ∙ ap
    (word_at (fields_of c.args.self.now) c.args.heights.now f c.args.log_height c.args.first.items
    c.loop-i.rounds.betas.items) ended

pub play_round-requires-clause-positive : goal.play_round-requires-clause-positive
play_round-requires-clause-positive g c =
    let within : c.loop-i.i < c.args.num_rounds = omega arith in
    omega (arith, within, c.requires.fewer)

pub play_round-requires-clause-in_group : goal.play_round-requires-clause-in_group
play_round-requires-clause-in_group g c = omega (arith, c.requires.in_group)

pub returns-in_err-word-clause-failure : goal.returns-in_err-word-clause-failure
returns-in_err-word-clause-failure g c =
    handed_on c.from_residual-in_err-word.result Memory
    (IsRoundsFailure (run_of c.args.transcript.now)
    (g.M.Mmcs.commits c.args.self.now.params.now.mmcs)
    c.args.transcript.now (fields_of c.args.self.now) c.args.heights.now c.args.folded.now
    c.args.log_height
    c.args.first.items
    c.args.num_rounds) c.from_residual-in_err-word.ensures.1 (inl refl)
