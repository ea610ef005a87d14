use Rattle.std.proofs.Common.{◌≡◌, ◌≢◌, ℕ, ◌+◌, ◌<◌, ◌≤◌, List, [], ◌∷◌, ◌++◌, ◌∙◌, sym, ap, subst}
use Rattle.std.proofs.Common.{length, map, take, get_or, arith, le_trans, le_of_lt}
use Rattle.std.specs.Prelude.{All, IfOk}
use Rattle.std.specs.List.{flat_map}
use Rattle.std.proofs.lemmas.List.{take_all, take_more, flat_map_more}
use Rattle.std.proofs.lemmas.List.Elements.{All-append, All-nil}
use Rattle.std.proofs.lemmas.Result.{IfOk-from_err}
use Rattle.circle_field.specs.Circle.{Coordinates}
use Rattle.circle_point.specs.Point.{coordinates}
use Rattle.circle_folding.specs.Queries.{query_point}
use Rattle.circle_folding.proofs.FirstLayer.{first_layer_twiddles-nonzero}
use Rattle.circle_relation.specs.declared.run.QueriedWord.{QueriedWord}
use Rattle.circle_verifier.proofs.first_layer.inverse_first_twiddles.Goals as goal

-- the codeword of this turn
module _ {F E : Type 0} {g : _} (words : List (QueriedWord F E g)) (i : ℕ) (w : QueriedWord F E g)
    (within : i < length words) (is : w ≡ get_or words i w) where
  bounded : (top : ℕ) → All (λ w. (1 ≤ w.log_height) × (w.log_height ≤ top)) words →
      (1 ≤ w.log_height) × (w.log_height ≤ top)
  bounded top all = subst (λ (v : QueriedWord F E g). (1 ≤ v.log_height) × (v.log_height ≤ top))
      (sym is) (all i w within)

  located : (points : ℕ → List (Coordinates F)) →
      All (λ w. map coordinates w.points.items ≡ points w.log_height) words →
      map coordinates w.points.items ≡ points w.log_height
  located points all =
      subst (λ (v : QueriedWord F E g). map coordinates v.points.items ≡ points v.log_height)
      (sym is) (all i w within)

module _ {W A : Type 0} (f : W → List A) (words : List W) (i : ℕ) where
  -- the lists of the first codewords, with that of one more, and of all
  one-more : (w : W) (before added : List A) → i < length words → w ≡ get_or words i w →
      before ≡ flat_map f (take i words) → added ≡ f w →
      before ++ added ≡ flat_map f (take (i + 1) words)
  one-more w before added within is are here =
      ap (λ xs. xs ++ added) are ∙ ap (λ xs. flat_map f (take i words) ++ xs) here
      ∙ flat_map_more f [] (take i words) w
      ∙ ap (flat_map f)
      (sym (take_more words i w within ∙ ap (λ x. take i words ++ x ∷ []) (sym is)))

  of-all : (before : List A) → length words ≤ i → before ≡ flat_map f (take i words) →
      before ≡ flat_map f words
  of-all before enough are = are ∙ ap (flat_map f) (take_all i words enough)

pub returns-in_err-twiddles : goal.returns-in_err-twiddles
returns-in_err-twiddles g c = IfOk-from_err c.from_residual.result _ c.from_residual.ensures.0

pub loop-word-init : goal.loop-word-init
loop-word-init g c =
    let nonzero = λ (t : g.row.Val.Denot). t ≢ g.Val.Operations.ops.zero in
    record {
      twiddles = c.in_ok-twiddles.ensures.items;
      nonzero = subst (All nonzero) (sym c.in_ok-twiddles.ensures.items) (All-nil nonzero);
    }

pub
    first_layer_twiddles-requires-clause-positive :
    goal.first_layer_twiddles-requires-clause-positive
first_layer_twiddles-requires-clause-positive g c =
    (bounded c.args.words.now c.loop-word.word-index c.word-item.result c.loop-word-test.true
    c.word-item.is c.args.log_max_height c.requires.heights).0

pub first_layer_twiddles-requires-clause-within : goal.first_layer_twiddles-requires-clause-within
first_layer_twiddles-requires-clause-within g c =
    (bounded c.args.words.now c.loop-word.word-index c.word-item.result c.loop-word-test.true
    c.word-item.is c.args.log_max_height c.requires.heights).1

pub
    first_layer_twiddles-requires-clause-in_group :
    goal.first_layer_twiddles-requires-clause-in_group
first_layer_twiddles-requires-clause-in_group g c =
    omega (
      arith,
      (bounded c.args.words.now c.loop-word.word-index c.word-item.result c.loop-word-test.true
          c.word-item.is c.args.log_max_height c.requires.heights).1,
      c.requires.in_group,
    )

pub first_layer_twiddles-requires-clause-small : goal.first_layer_twiddles-requires-clause-small
first_layer_twiddles-requires-clause-small g c =
    le_trans (le_of_lt c.requires.in_group) g.met.Val.ComplexExtendable.at_most_62

pub first_layer_twiddles-requires-clause-below : goal.first_layer_twiddles-requires-clause-below
first_layer_twiddles-requires-clause-below g c = c.requires.below

pub first_layer_twiddles-requires-clause-points : goal.first_layer_twiddles-requires-clause-points
first_layer_twiddles-requires-clause-points g c = ap (map coordinates) c.deref.ensures.value
    ∙ located c.args.words.now c.loop-word.word-index c.word-item.result c.loop-word-test.true
    c.word-item.is
    (λ h. map
    (query_point g.Val.Operations.ops g.Val.ComplexExtendable.generators h c.args.log_max_height)
    c.args.indices.now) c.requires.points

pub returns-in_err-of_word : goal.returns-in_err-of_word
returns-in_err-of_word g c =
    IfOk-from_err c.from_residual-in_err-of_word.result _ c.from_residual-in_err-of_word.ensures.0

pub returns-in_err-extend_from_slice : goal.returns-in_err-extend_from_slice
returns-in_err-extend_from_slice g c =
    IfOk-from_err c.from_residual-in_err-extend_from_slice.result _
    c.from_residual-in_err-extend_from_slice.ensures.0

pub loop-word-preserved : goal.loop-word-preserved
loop-word-preserved g c =
    let nonzero = λ (t : g.row.Val.Denot). t ≢ g.Val.Operations.ops.zero in
    let bounds = bounded c.args.words.now c.loop-word.word-index c.word-item.result
    c.loop-word-test.true c.word-item.is c.args.log_max_height c.requires.heights in
    let added = c.deref-in-loop-word.result.now in
    let read = c.deref-in-loop-word.ensures.value ∙ c.in_ok-of_word.ensures in
    let longer = c.in_ok-extend_from_slice.ensures.items in
    let others =
    subst (All nonzero) (sym read)
    (first_layer_twiddles-nonzero g.Val.Operations.laws g.met.Val.ComplexExtendable.generators_law
    c.word-item.result.log_height c.args.log_max_height c.args.indices.now
    bounds.0 bounds.1 (omega (arith, bounds.1, c.requires.in_group)) c.requires.below) in
    record {
      twiddles = longer ∙ one-more _ c.args.words.now c.loop-word.word-index c.word-item.result
          c.loop-word.twiddles.items added c.loop-word-test.true c.word-item.is
          c.loop-word.invariant.twiddles read;
      nonzero =
          subst (All nonzero) (sym longer)
          (All-append nonzero c.loop-word.twiddles.items added c.loop-word.invariant.nonzero
          others);
    }

pub batch_multiplicative_inverse-requires : goal.batch_multiplicative_inverse-requires
batch_multiplicative_inverse-requires g c =
    subst (All (λ (t : g.row.Val.Denot). t ≢ g.Val.Operations.ops.zero))
    (sym c.deref-2.ensures.value) c.loop-word.invariant.nonzero

pub returns : goal.returns
returns g c =
    let are = c.deref-2.ensures.value ∙ of-all _ c.args.words.now c.loop-word.word-index
    c.loop-word.twiddles.items c.loop-word-test.false c.loop-word.invariant.twiddles in
    subst
    (λ xs. IfOk c.batch_multiplicative_inverse.result
    (λ r. r.items ≡ map g.Val.Operations.ops.inv xs)) are c.batch_multiplicative_inverse.ensures
