-- A test of the items of a list, one after another.
use Rattle.std.specs.Prelude.{◌≡◌, ℕ, ◌+◌, ◌<◌, ◌≤◌, Bool, true, false, ◌||◌, List, length, take}
use Rattle.std.specs.Prelude.{zip, slice_index_or}
use Rattle.std.specs.List.{list_any}
use Rattle.std.proofs.Common.{sym, ◌∙◌, ap, arith}
use Rattle.std.proofs.lemmas.List.{take_all}
use Rattle.std.proofs.lemmas.List.Folds.{list_any_at, list_any_more}
use Rattle.std.proofs.lemmas.Slice.Zip.{get_or-zip, length-zip}

module _ {X : Type 0} (test : X → Bool) (xs : List X) where
  neither : (a b : Bool) → a ≡ false → b ≡ false → (a || b) ≡ false
  neither a b ea eb = ap (λ c. c || b) ea ∙ eb

  -- one more item that does not pass
  pub any-more : (i n : ℕ) (x : X) → i < length xs → x ≡ slice_index_or xs i x → n ≡ i + 1 →
      list_any test (take i xs) ≡ false → test x ≡ false → list_any test (take n xs) ≡ false
  any-more i n x lt is next before this =
      ap (λ j. list_any test (take j xs)) next ∙ list_any_more test xs i x lt
      ∙ neither (list_any test (take i xs)) (test (slice_index_or xs i x)) before
      (ap test (sym is) ∙ this)

  -- an item that passes
  pub any-here : (i : ℕ) (x : X) → i < length xs → x ≡ slice_index_or xs i x → test x ≡ true →
      list_any test xs ≡ true
  any-here i x lt is this = list_any_at test xs i x lt (ap test (sym is) ∙ this)

  -- none up to the end
  pub any-end : (i : ℕ) → length xs ≤ i → list_any test (take i xs) ≡ false → list_any test xs
      ≡ false
  any-end i le none = ap (list_any test) (sym (take_all i xs le)) ∙ none

module _ {A B : Type 0} (firsts : List A) (seconds : List B) where
  -- pairs are read from both lists
  pub pair-at : (i : ℕ) (a : A) (b : B) → i < length firsts → i < length seconds →
      a ≡ slice_index_or firsts i a → b ≡ slice_index_or seconds i b →
      (a, b) ≡ slice_index_or (zip firsts seconds) i (a, b)
  pair-at i a b la lb ea eb =
      sym (get_or-zip firsts seconds i (a, b) la lb
      ∙ ap (λ x. (x, slice_index_or seconds i b)) (sym ea) ∙ ap (λ y. (a, y)) (sym eb))

  pub pairs-within : (i : ℕ) → i < length firsts → i < length seconds →
      i < length (zip firsts seconds)
  pairs-within i la lb = let e = length-zip firsts seconds in omega (arith, e, la, lb)
