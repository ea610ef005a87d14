-- Values that are absorbed and drawn one after another.
use Rattle.std.proofs.Common.{◌≡◌, ℕ, zero, suc, ◌+◌, List, [], ◌∷◌, ◌++◌, length, take, Some}
use Rattle.std.proofs.Common.{slice_get, refl, sym, ap, ◌∙◌, add-one}
use Rattle.std.proofs.lemmas.List.{take_more, append-nil}
use Rattle.std.proofs.lemmas.Option.{slice_get_within, get_or_from_slice_get}
use Rattle.circle_challenger.specs.Observing.{after_all}
use Rattle.circle_challenger.specs.Sampling.{samples, after_samples}

-- one more of a list's values, as it is read there
pub take_read : {A : Type 0} (xs : List A) (i : ℕ) (x : A) → slice_get xs i ≡ Some x →
    take (i + 1) xs ≡ take i xs ++ x ∷ []
take_read xs i x h =
    take_more xs i x (slice_get_within xs i x h)
    ∙ ap (λ y. take i xs ++ y ∷ []) (get_or_from_slice_get xs i x x h)

-- values absorbed after others
pub after_all-append : {S A : Type 0} (f : S → A → S) (s : S) (xs ys : List A) →
    after_all f s (xs ++ ys) ≡ after_all f (after_all f s xs) ys
after_all-append f s [] ys = refl
after_all-append f s (x ∷ xs) ys = after_all-append f (f s x) xs ys

-- two lists of values absorbed, one after the other
pub after_all-pair : {S A : Type 0} (f : S → A → S) (s t u : S) (xs ys : List A) →
    t ≡ after_all f s xs → u ≡ after_all f t ys → u ≡ after_all f s (xs ++ (ys ++ []))
after_all-pair f s t u xs ys first second =
    second ∙ ap (λ v. after_all f v ys) first ∙ sym (after_all-append f s xs ys)
    ∙ ap (λ zs. after_all f s (xs ++ zs)) (sym (append-nil ys))

-- one more value of a list absorbed, as it is read there
pub after_all-read : {S A : Type 0} (f : S → A → S) (s t u : S) (xs : List A) (i : ℕ) (x : A) →
    t ≡ after_all f s (take i xs) → slice_get xs i ≡ Some x → u ≡ f t x →
    u ≡ after_all f s (take (i + 1) xs)
after_all-read f s t u xs i x before read more =
    more ∙ ap (λ v. f v x) before ∙ sym (after_all-append f s (take i xs) (x ∷ []))
    ∙ ap (after_all f s) (sym (take_read xs i x read))

module _ {S A : Type 0} (sampled : S → A) (after_sample : S → S) where
  samples-suc : (n : ℕ) (s : S) → samples sampled after_sample (suc n) s
      ≡ samples sampled after_sample n s ++ sampled (after_samples after_sample n s) ∷ []
  unfolding samples after_samples
  samples-suc zero s = refl
  samples-suc (suc n) s = ap (λ xs. sampled s ∷ xs) (samples-suc n (after_sample s))

  -- one more value
  pub samples-push : (n : ℕ) (s : S) → samples sampled after_sample (n + 1) s
      ≡ samples sampled after_sample n s ++ sampled (after_samples after_sample n s) ∷ []
  samples-push n s = rw add-one (samples-suc n s)

  -- no values
  pub samples-zero : (s : S) → samples sampled after_sample 0 s ≡ []
  unfolding samples
  samples-zero s = refl

  -- there are as many values as are drawn
  pub length-samples : (n : ℕ) (s : S) → length (samples sampled after_sample n s) ≡ n
  unfolding samples
  length-samples zero s = refl
  length-samples (suc n) s = ap suc (length-samples n (after_sample s))

module _ {S : Type 0} (after_sample : S → S) where
  after_samples-suc : (n : ℕ) (s : S) → after_samples after_sample (suc n) s
      ≡ after_sample (after_samples after_sample n s)
  unfolding after_samples
  after_samples-suc zero s = refl
  after_samples-suc (suc n) s = after_samples-suc n (after_sample s)

  -- the state after one more value
  pub after_samples-push : (n : ℕ) (s : S) → after_samples after_sample (n + 1) s
      ≡ after_sample (after_samples after_sample n s)
  after_samples-push n s = rw add-one (after_samples-suc n s)

  -- the state after no values
  pub after_samples-zero : (s : S) → after_samples after_sample 0 s ≡ s
  unfolding after_samples
  after_samples-zero s = refl

module _ {S A : Type 0} (sampled : S → A) (after_sample : S → S) (s t : S) (n : ℕ)
    (before : t ≡ after_samples after_sample n s) where
  -- the values so far, with one more
  pub samples-more : (xs ys : List A) (x : A) → xs ≡ samples sampled after_sample n s →
      x ≡ sampled t → ys ≡ xs ++ x ∷ [] → ys ≡ samples sampled after_sample (n + 1) s
  samples-more xs ys x so_far drawn more =
      more ∙ ap (λ zs. zs ++ x ∷ []) so_far ∙ ap (λ y. samples sampled after_sample n s ++ y ∷ [])
      (drawn ∙ ap sampled before)
      ∙ sym (samples-push sampled after_sample n s)

  -- the state after one more
  pub after_samples-more : (u : S) → u ≡ after_sample t → u ≡ after_samples after_sample (n + 1) s
  after_samples-more u next = next ∙ ap after_sample before
      ∙ sym (after_samples-push after_sample n s)
