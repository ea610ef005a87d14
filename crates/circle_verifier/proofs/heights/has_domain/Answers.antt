use Rattle.std.proofs.Common.{◌≡◌, ◌<◌, ◌∙◌, ◌+◌, ℕ, Bool, true, false, List, length, take, sym, ap}
use Rattle.std.proofs.Common.{slice_index_or}
use Rattle.std.specs.List.{list_any}
use Rattle.std.proofs.lemmas.Bool.{or_from}
use Rattle.std.proofs.lemmas.List.{take_all}
use Rattle.std.proofs.lemmas.List.Folds.{list_any_more, list_any_at}
use Rattle.circle_verifier.proofs.heights.has_domain.Goals as goal

module _ {X : Type 0} (p : X → Bool) (xs : List X) (i : ℕ) (x : X) (within : i < length xs)
    (is : x ≡ slice_index_or xs i x) where
  none-more : list_any p (take i xs) ≡ false → p x ≡ false → list_any p (take (i + 1) xs) ≡ false
  none-more none other = list_any_more p xs i x within ∙ or_from _ _ none (ap p (sym is) ∙ other)

  some-here : p x ≡ true → true ≡ list_any p xs
  some-here hit = sym (list_any_at p xs i x within (ap p (sym is) ∙ hit))

pub returns-then-batch_has_domain : goal.returns-then-batch_has_domain
returns-then-batch_has_domain g c =
    some-here _ c.args.claims.now c.loop-batch.batch-index c.batch-item.result
    c.loop-batch-test.true c.batch-item.is
    (ap (list_any _) (sym c.deref.ensures.value) ∙ sym c.batch_has_domain.ensures
    ∙ c.if-batch_has_domain.true)

pub loop-batch-preserved : goal.loop-batch-preserved
loop-batch-preserved g c =
    none-more _ c.args.claims.now c.loop-batch.batch-index c.batch-item.result
    c.loop-batch-test.true c.batch-item.is c.loop-batch.invariant
    (ap (list_any _) (sym c.deref.ensures.value) ∙ sym c.batch_has_domain.ensures
    ∙ c.if-batch_has_domain.false)

pub returns : goal.returns
returns g c =
    sym c.loop-batch.invariant
    ∙ ap (list_any _)
    (take_all c.loop-batch.batch-index c.args.claims.now c.loop-batch-test.false)
