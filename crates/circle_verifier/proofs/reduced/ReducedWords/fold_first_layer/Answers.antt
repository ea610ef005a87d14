use Rattle.std.proofs.Common.{◌≡◌, ◌≤◌, ◌+◌, ◌++◌, [], ◌∷◌, ◌∙◌, List, Vec, Global, sym, ap, subst}
use Rattle.std.proofs.Common.{length, map, take, drop, arith}
use Rattle.std.specs.Prelude.{All}
use Rattle.std.specs.List.{flat_map}
use Rattle.std.proofs.lemmas.List.{length_push, map-append, length-map}
use Rattle.std.proofs.lemmas.Iterator.Adapters.{YieldsList-from_vec}
use Rattle.std.proofs.lemmas.Iterator.Consumers.{YieldsList-turn, YieldsList-end}
use Rattle.circle_field.proofs.Inverses.{take-whole}
use Rattle.circle_point.specs.Point.{coordinates}
use Rattle.circle_commit.specs.Mmcs.{opened_rows}
use Rattle.circle_folding.specs.Queries.{query_point}
use Rattle.circle_relation.specs.RunOf.{joining_of, queried}
use Rattle.circle_verifier.specs.OfRun.{fields_of, heights_of, folded_words}
use Rattle.circle_verifier.specs.FirstLayer.{twiddles_of}
use Rattle.circle_verifier.specs.Sums.{word_at}
use Rattle.circle_verifier.proofs.FirstLayerRun.{IsClaimed, AreReduced, pairs_up_to, word-of}
use Rattle.circle_verifier.proofs.FirstLayerRun.{place-of, none-yet, count-rows, pairs-all}
use Rattle.circle_verifier.proofs.FirstLayerRun.{folded-all, folded-more, pairs-more, next-inverses}
use Rattle.circle_verifier.proofs.FirstLayerTwiddles.{heights-fit, points-fit, twiddles-are}
use Rattle.circle_verifier.proofs.reduced.ReducedWords.fold_first_layer.Given as given
use Rattle.circle_verifier.proofs.reduced.ReducedWords.fold_first_layer.Goals as goal
use Rattle.circle_verifier.proofs.reduced.ReducedWords.fold_first_layer.Goals.{In-Some}

-- the codeword of this turn
word-here : (g : given.Over) (c : In-Some g) →
    IsClaimed c.args.self.run.now.run (length c.loop-word.yielded) c.in-Some.word.log_height
    × (queried c.in-Some.word ≡ word_at c.args.self.run.now.run c.in-Some.word.log_height)
word-here g c =
    let reduced : AreReduced c.args.self.run.now.run c.args.self.words.items =
    record { opened = c.args.self.run.now.opened; reduced = c.args.self.sums } in
    let given = c.into_iter-word-iterator.ensures.into_iter_gives in
    let all =
    YieldsList-from_vec c.args.self.words.items given.0 (given.1 ∙ c.args.self.words.ok.0) in
    let t = YieldsList-turn all c.loop-word.yielded _ c.loop-word.yielded_by _ c.next.new.self
    c.in-Some.word c.in-Some.is c.next.ensures.steps in
    word-of reduced (length c.loop-word.yielded) c.in-Some.word t.0 t.1

pub
    inverse_first_twiddles-requires-clause-in_group :
    goal.inverse_first_twiddles-requires-clause-in_group
inverse_first_twiddles-requires-clause-in_group g c = c.args.self.run.now.run.drawn.in_group

pub inverse_first_twiddles-requires-clause-below : goal.inverse_first_twiddles-requires-clause-below
inverse_first_twiddles-requires-clause-below g c = c.args.self.run.now.run.drawn.below

pub
    inverse_first_twiddles-requires-clause-heights :
    goal.inverse_first_twiddles-requires-clause-heights
inverse_first_twiddles-requires-clause-heights g c =
    let run = c.args.self.run.now.run in
    let reduced : AreReduced run c.args.self.words.items =
    record { opened = c.args.self.run.now.opened; reduced = c.args.self.sums } in
    subst (λ ws. All (λ w. (1 ≤ w.log_height) × (w.log_height ≤ run.log_max_height)) ws)
    (sym c.deref.ensures.value) (heights-fit reduced)

pub
    inverse_first_twiddles-requires-clause-points :
    goal.inverse_first_twiddles-requires-clause-points
inverse_first_twiddles-requires-clause-points g c =
    let run = c.args.self.run.now.run in
    let k = fields_of run in
    let reduced : AreReduced run c.args.self.words.items =
    record { opened = c.args.self.run.now.opened; reduced = c.args.self.sums } in
    subst
    (λ ws. All (λ w. map coordinates w.points.items
    ≡ map (query_point k.field k.gen w.log_height run.log_max_height) run.indices.now) ws)
    (sym c.deref.ensures.value) (points-fit reduced)

pub loop-word-init : goal.loop-word-init
loop-word-init g c =
    let run = c.args.self.run.now.run in
    let k = fields_of run in
    let reduced : AreReduced run c.args.self.words.items =
    record { opened = c.args.self.run.now.opened; reduced = c.args.self.sums } in
    record {
      count = c.in_ok-folded.ensures.len;
      folded = ap (map joining_of) c.in_ok-folded.ensures.items;
      pairs = none-yet reduced c.in_ok-pairs.ensures;
      later =
          c.as_slice-later.ensures.value ∙ c.in_ok-inverses.ensures
          ∙ ap (λ ws. map k.field.inv (flat_map (λ w. twiddles_of run w.log_height) ws))
          c.deref.ensures.value
          ∙ ap (map k.field.inv) (twiddles-are reduced);
    }

pub split_at-requires : goal.split_at-requires
split_at-requires g c =
    let word = word-here g (goal.at.split_at-requires g c).In-Some in
    let later = next-inverses word.0 c.loop-word.invariant.later in
    omega (arith, later.0)

pub fold_word-requires-clause-place : goal.fold_word-requires-clause-place
fold_word-requires-clause-place g c =
    let reduced : AreReduced c.args.self.run.now.run c.args.self.words.items =
    record { opened = c.args.self.run.now.opened; reduced = c.args.self.sums } in
    let word = word-here g (goal.at.fold_word-requires-clause-place g c).In-Some in
    place-of reduced (c.len-in-loop-word.ensures ∙ c.loop-word.invariant.count) word.0

pub fold_word-requires-clause-word : goal.fold_word-requires-clause-word
fold_word-requires-clause-word g c =
    let word = word-here g (goal.at.fold_word-requires-clause-word g c).In-Some in
    word.1

pub fold_word-requires-clause-inverses : goal.fold_word-requires-clause-inverses
fold_word-requires-clause-inverses g c =
    let word = word-here g (goal.at.fold_word-requires-clause-inverses g c).In-Some in
    c.split_at.ensures.front ∙ (next-inverses word.0 c.loop-word.invariant.later).1

pub fold_word-requires-clause-rows : goal.fold_word-requires-clause-rows
fold_word-requires-clause-rows g c =
    let reduced : AreReduced c.args.self.run.now.run c.args.self.words.items =
    record { opened = c.args.self.run.now.opened; reduced = c.args.self.sums } in
    let rows = c.loop-word.pairs.items in
    let entries : Vec (Vec g.row.EF.Denot Global) Global → List (List g.row.EF.Denot) =
    λ rows. map (λ row. row.items) rows.items in
    ap length c.deref_mut.ensures.value ∙ sym (length-map rows entries)
    ∙ count-rows reduced (opened_rows rows) (length c.loop-word.yielded) c.loop-word.invariant.pairs

pub loop-word-preserved : goal.loop-word-preserved
loop-word-preserved g c =
    let word = word-here g (goal.at.loop-word-preserved g c).In-Some in
    let run = c.args.self.run.now.run in
    let k = fields_of run in
    let done = length c.loop-word.yielded in
    let old = c.loop-word.pairs in
    let new = c.fold_word.new.rows in
    let more : done + 1 ≡ length (c.loop-word.yielded ++ c.in-Some.word ∷ []) =
    sym (length_push c.loop-word.yielded c.in-Some.word) in
    let whole : take old.len (new ++ drop (length new) old.items) ≡ new =
    take-whole old.len new old.items old.ok.0
    (c.fold_word.auto.rows ∙ ap length c.deref_mut.ensures.value) in
    let held = ap opened_rows c.deref_mut.ensures.value ∙ c.loop-word.invariant.pairs in
    record {
      count = c.in_ok-push.ensures.len ∙ ap (λ n. n + 1) c.loop-word.invariant.count ∙ more;
      folded =
          ap (map joining_of) c.in_ok-push.ensures.items
          ∙ map-append joining_of c.loop-word.folded.items (c.in_ok-values.values ∷ [])
          ∙ folded-more word.0 c.loop-word.invariant.folded c.in_ok-values.ensures.folded
          ∙ ap (λ n. take n (folded_words run)) more;
      later =
          c.split_at.ensures.back ∙ (next-inverses word.0 c.loop-word.invariant.later).2
          ∙ ap (λ n. map k.field.inv (flat_map (twiddles_of run) (drop n (heights_of run))))
          more;
      pairs = ap opened_rows whole ∙ pairs-more word.0 held c.in_ok-values.ensures.pairs
          ∙ ap (pairs_up_to run) more;
    }

pub invariant_of-result : goal.invariant_of-result
invariant_of-result g c =
    let words = c.args.self.words in
    let reduced : AreReduced c.args.self.run.now.run words.items =
    record { opened = c.args.self.run.now.opened; reduced = c.args.self.sums } in
    let done = length c.loop-word.yielded in
    let given = c.into_iter-word-iterator.ensures.into_iter_gives in
    let all = YieldsList-from_vec words.items given.0 (given.1 ∙ words.ok.0) in
    let t = YieldsList-end all c.loop-word.yielded _ c.loop-word.yielded_by _ c.next.new.self
    c.in-None.is c.next.ensures.steps in
    record {
      asked = pairs-all reduced (opened_rows c.loop-word.pairs.items) done t.1
          c.loop-word.invariant.pairs;
      folds = folded-all reduced (map joining_of c.loop-word.folded.items) done t.1
          c.loop-word.invariant.folded;
    }
