-- Steps that are played, one after another.
use Rattle.std.proofs.Common.{◌≡◌, ℕ, ◌+◌, ◌<◌, List, [], ◌∷◌, ◌++◌, length, drop, take, flat_map}
use Rattle.std.proofs.Common.{get_or, Some, slice_get, refl, sym, ap, subst, inl, inr, ◌∙◌}
use Rattle.std.proofs.Common.{append_assoc}
use Rattle.std.specs.Prelude.{Result, Ok, Err, OnOk, IsErrAnd, IfOk, IfErr, Option, None, IsNone}
use Rattle.std.specs.Prelude.{unwrap_or, All, ◌⊎◌}
use Rattle.std.proofs.lemmas.List.{append-nil, drop_more, take_more}
use Rattle.std.proofs.lemmas.List.Elements.{All-push}
use Rattle.std.proofs.lemmas.Grind.{flat_map-append}
use Rattle.circle_challenger.specs.Observing.{after_all}
use Rattle.circle_challenger.proofs.Draws.{after_all-append}
use Rattle.circle_transcript.specs.Draw.{Claim, claim_elements, after_claims_by}

module _ {A : Type 0} where
  -- the first of the steps that are due
  pub next_is : (x : A) (xs due : List A) → due ≡ x ∷ xs → slice_get due 0 ≡ Some x
  next_is x xs due is = ap (λ v. slice_get v 0) is

  -- the steps that are due after it
  pub left_is : (x : A) (xs due left : List A) → due ≡ x ∷ xs → left ≡ drop 1 due → left ≡ xs
  left_is x xs due left is after = after ∙ ap (drop 1) is

module _ {S F E : Type 0} (f : S → F → S) (coefficients : E → List F) where
  -- a claim is absorbed: a point's coordinates, and values
  pub claim_taken : (s t u : S) (x y a b : E) (vs : List E) → a ≡ x → b ≡ y
      → t ≡ after_all f s (coefficients a ++ (coefficients b ++ [])) →
      u ≡ after_all f t (flat_map coefficients vs)
      → u ≡ after_all f s (coefficients x ++ (coefficients y ++ flat_map coefficients (vs ++ [])))
  claim_taken s t u x y a b vs same_x same_y first second =
      let joined : (coefficients a ++ (coefficients b ++ [])) ++ flat_map coefficients vs ≡
      coefficients a ++ (coefficients b ++ flat_map coefficients (vs ++ [])) =
      ap (λ zs. (coefficients a ++ zs) ++ flat_map coefficients vs) (append-nil (coefficients b))
      ∙ append_assoc (coefficients a) (coefficients b) (flat_map coefficients vs)
      ∙ ap (λ zs. coefficients a ++ (coefficients b ++ flat_map coefficients zs))
      (sym (append-nil vs)) in
      second ∙ ap (λ v. after_all f v (flat_map coefficients vs)) first
      ∙ sym
      (after_all-append f s (coefficients a ++ (coefficients b ++ []))
      (flat_map coefficients vs))
      ∙ ap (after_all f s) joined
      ∙ ap
      (λ v. after_all f s
      (coefficients v ++ (coefficients b ++ flat_map coefficients (vs ++ [])))) same_x
      ∙ ap
      (λ v. after_all f s
      (coefficients x ++ (coefficients v ++ flat_map coefficients (vs ++ [])))) same_y

  -- claims are absorbed after others
  pub claims-append : (s : S) (cs ds : List (Claim E)) → after_claims_by f coefficients s (cs ++ ds)
      ≡ after_claims_by f coefficients (after_claims_by f coefficients s cs) ds
  unfolding after_claims_by
  claims-append s cs ds =
      ap (λ v. after_all f s (flat_map coefficients v)) (flat_map-append claim_elements cs ds)
      ∙ ap (after_all f s)
      (flat_map-append coefficients (flat_map claim_elements cs) (flat_map claim_elements ds))
      ∙ after_all-append f s (flat_map coefficients (flat_map claim_elements cs))
      (flat_map coefficients (flat_map claim_elements ds))

-- the value at an index, and those after it
pub drop_read : {A : Type 0} (xs : List A) (i : ℕ) (x : A) → i < length xs → x ≡ get_or xs i x →
    drop i xs ≡ x ∷ drop (i + 1) xs
drop_read xs i x within is = drop_more xs i x within ∙ ap (λ v. v ∷ drop (i + 1) xs) (sym is)

-- the values up to an index, and the one there
pub take_read : {A : Type 0} (xs : List A) (i : ℕ) (x : A) → i < length xs → x ≡ get_or xs i x →
    take (i + 1) xs ≡ take i xs ++ x ∷ []
take_read xs i x within is = take_more xs i x within ∙ ap (λ v. take i xs ++ v ∷ []) (sym is)

-- what is drawn between two states of a challenger, told of the states before and after
pub drawn_between : {A E X S C : Type 0} (r : Result A E) (f : A → X) (state : C → S)
    (draw : S → X) (after : S → S) (old begun ended new : C) → begun ≡ old → new ≡ ended →
    IfOk r (λ v. f v ≡ draw (state begun)) → OnOk r (state ended ≡ after (state begun)) →
    IfOk r (λ v. ◌≡◌ {A = X × S} (f v, state new) (draw (state old), after (state old)))
drawn_between (Ok v) f state draw after old begun ended new first last drawn left =
    ap (λ x. (x, state new)) (drawn ∙ ap (λ c. draw (state c)) first)
    ∙ ap (λ t. (draw (state old), t)) (ap state last ∙ left ∙ ap (λ c. after (state c)) first)
drawn_between (Err e) f state draw after old begun ended new first last drawn left = tt

-- what holds of an error that is handed on
pub handed_on : {A E : Type 0} (r : Result A E) (e : E) (P : E → Type 0) → IsErrAnd r (λ x. x ≡ e) →
    P e → IfErr r P
handed_on (Ok x) e P h p = tt
handed_on (Err x) e P h p = subst P (sym h) p

-- where there is none, the other
pub unwrap_none : {A : Type 0} (zero : A) (o : Option A) → IsNone o → unwrap_or o zero ≡ zero
unwrap_none zero None none = refl
unwrap_none zero (Some x) none = cc

-- one more zero
pub zeros_pushed : {A : Type 0} (zero : A) (xs ys : List A) (x : A) → All (λ y. y ≡ zero) xs →
    x ≡ zero → ys ≡ xs ++ x ∷ [] → All (λ y. y ≡ zero) ys
zeros_pushed zero xs ys x zeros here pushed =
    subst (All (λ y. y ≡ zero)) (sym pushed) (All-push (λ y. y ≡ zero) xs x zeros here)

-- a fact of two values, where the values are the same
pub or_moved : {X A B : Type 0} (P : A → B → Type 0) (a c : A) (b d : B) → a ≡ c → b ≡ d →
    X ⊎ P a b → X ⊎ P c d
or_moved P a c b d same too (inl x) = inl x
or_moved P a c b d same too (inr p) = inr (subst (P c) too (subst (λ v. P v b) same p))

-- equal results hold equal values
pub same_ok : {A E : Type 0} (x y : Result A E) (a b : A) → x ≡ Ok a → y ≡ Ok b → x ≡ y → b ≡ a
same_ok x y a b first second same = cc

-- no result is both
pub not_both : {A E : Type 0} (x y : Result A E) (a : A) (e : E) → x ≡ Ok a → y ≡ Err e → x ≡ y → ⊥
not_both x y a e first second same = cc
