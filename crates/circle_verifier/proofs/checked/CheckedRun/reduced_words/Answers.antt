use Rattle.std.proofs.Common.{◌≡◌, [], ◌∷◌, ◌++◌, ◌∙◌, sym, ap, subst, map, take}
use Rattle.std.proofs.Common.{All, arith, slice_index_or}
use Rattle.std.specs.Prelude.{slice_get, Some}
use Rattle.std.proofs.lemmas.List.{map-append, map_more, take_all}
use Rattle.std.proofs.lemmas.List.Elements.{All-more, All-nil}
use Rattle.std.proofs.lemmas.Option.{slice_get-get_or}
use Rattle.std.proofs.lemmas.Result.{IfOk-from_err}
use Rattle.circle_commit.specs.declared.error.FriError.TheVariants.{Memory}
use Rattle.circle_relation.specs.Reasons.{IsReason}
use Rattle.circle_relation.specs.RunOf.{queried}
use Rattle.circle_verifier.specs.OfRun.{fields_of, run_of, heights_of, Refuses}
use Rattle.circle_verifier.specs.Sums.{word_at, IsApartIn}
use Rattle.circle_verifier.proofs.ReducedValues.{handed_on, apart-all}
use Rattle.circle_verifier.proofs.FirstLayerRun.{claimed, height-within, height-large}
use Rattle.circle_verifier.proofs.checked.CheckedRun.reduced_words.Goals as goal

pub returns-in_err-powers-clause-apart : goal.returns-in_err-powers-clause-apart
returns-in_err-powers-clause-apart g c =
    IfOk-from_err c.from_residual.result _ c.from_residual.ensures.0

pub returns-in_err-powers-clause-refused : goal.returns-in_err-powers-clause-refused
unfolding IsReason
returns-in_err-powers-clause-refused g c =
    handed_on c.from_residual.result Memory (Refuses c.args.self.now.run)
    c.from_residual.ensures.1 tt

pub returns-in_err-rows-clause-apart : goal.returns-in_err-rows-clause-apart
returns-in_err-rows-clause-apart g c =
    IfOk-from_err c.from_residual-in_err-rows.result _ c.from_residual-in_err-rows.ensures.0

pub returns-in_err-rows-clause-refused : goal.returns-in_err-rows-clause-refused
unfolding IsReason
returns-in_err-rows-clause-refused g c =
    handed_on c.from_residual-in_err-rows.result Memory (Refuses c.args.self.now.run)
    c.from_residual-in_err-rows.ensures.1 tt

pub returns-in_err-words-clause-apart : goal.returns-in_err-words-clause-apart
returns-in_err-words-clause-apart g c =
    IfOk-from_err c.from_residual-in_err-words.result _ c.from_residual-in_err-words.ensures.0

pub returns-in_err-words-clause-refused : goal.returns-in_err-words-clause-refused
unfolding IsReason
returns-in_err-words-clause-refused g c =
    handed_on c.from_residual-in_err-words.result Memory (Refuses c.args.self.now.run)
    c.from_residual-in_err-words.ensures.1 tt

pub loop-log_height-init : goal.loop-log_height-init
loop-log_height-init g c =
    record {
      words = ap (map queried) c.in_ok-words.ensures.items;
      apart = All-nil (IsApartIn c.args.self.now.run);
    }

pub reduced_word-requires-clause-positive : goal.reduced_word-requires-clause-positive
reduced_word-requires-clause-positive g c =
    let checked = c.args.self.now in
    let heights = c.as_slice-heights.result.now in
    let i = c.loop-log_height.log_height-index in
    let h = slice_index_or heights i 0 in
    let at : slice_get (heights_of checked.run) i ≡ Some h =
    ap (λ hs. slice_get hs i) (sym (c.as_slice-heights.ensures.value ∙ checked.claimed))
    ∙ slice_get-get_or heights i 0 c.loop-log_height-test.true in
    omega (arith, height-large (claimed checked.run checked.opened i h at))

pub reduced_word-requires-clause-within : goal.reduced_word-requires-clause-within
reduced_word-requires-clause-within g c =
    let checked = c.args.self.now in
    let heights = c.as_slice-heights.result.now in
    let i = c.loop-log_height.log_height-index in
    let h = slice_index_or heights i 0 in
    let at : slice_get (heights_of checked.run) i ≡ Some h =
    ap (λ hs. slice_get hs i) (sym (c.as_slice-heights.ensures.value ∙ checked.claimed))
    ∙ slice_get-get_or heights i 0 c.loop-log_height-test.true in
    height-within (claimed checked.run checked.opened i h at)

pub returns-in_err-word-clause-apart : goal.returns-in_err-word-clause-apart
returns-in_err-word-clause-apart g c =
    IfOk-from_err c.from_residual-in_err-word.result _ c.from_residual-in_err-word.ensures.0

pub returns-in_err-word-clause-refused : goal.returns-in_err-word-clause-refused
returns-in_err-word-clause-refused g c =
    handed_on c.from_residual-in_err-word.result c.in_err-word.field-0.0
    (Refuses c.args.self.now.run)
    c.from_residual-in_err-word.ensures.1 c.in_err-word.ensures.refused

pub returns-in-Err-clause-refused : goal.returns-in-Err-clause-refused
unfolding IsReason
returns-in-Err-clause-refused g c = tt

pub loop-log_height-preserved : goal.loop-log_height-preserved
loop-log_height-preserved g c =
    let run = c.args.self.now.run in
    let heights = c.as_slice-heights.result.now in
    let i = c.loop-log_height.log_height-index in
    let h = slice_index_or heights i 0 in
    record {
      words =
          ap (map queried) c.in-Ok.ensures.items ∙ map-append queried c.loop-log_height.words.items
          (c.in_ok-word.word ∷ [])
          ∙ ap (λ ws. ws ++ queried c.in_ok-word.word ∷ []) c.loop-log_height.invariant.words
          ∙ ap (λ w. map (word_at run) (take i heights) ++ w ∷ []) c.in_ok-word.ensures.word
          ∙ sym (map_more (word_at run) heights i 0 c.loop-log_height-test.true);
      apart = All-more (IsApartIn run) heights i 0 c.loop-log_height-test.true
          c.loop-log_height.invariant.apart c.in_ok-word.ensures.apart;
    }

pub invariant_of-result : goal.invariant_of-result
invariant_of-result g c =
    let run = c.args.self.now.run in
    let i = c.loop-log_height.log_height-index in
    let whole : take i c.as_slice-heights.result.now ≡ heights_of run =
    take_all i c.as_slice-heights.result.now (omega (arith, c.loop-log_height-test.false))
    ∙ c.as_slice-heights.ensures.value ∙ c.args.self.now.claimed in
    record { sums = c.loop-log_height.invariant.words ∙ ap (map (word_at run)) whole }

pub returns-clause-apart : goal.returns-clause-apart
returns-clause-apart g c =
    let run = c.args.self.now.run in
    let i = c.loop-log_height.log_height-index in
    let whole : take i c.as_slice-heights.result.now ≡ heights_of run =
    take_all i c.as_slice-heights.result.now (omega (arith, c.loop-log_height-test.false))
    ∙ c.as_slice-heights.ensures.value ∙ c.args.self.now.claimed in
    apart-all (fields_of run) run.params.now (run_of run)
    (subst (All (IsApartIn run)) whole c.loop-log_height.invariant.apart)
