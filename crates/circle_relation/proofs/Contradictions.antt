-- Where the relation holds there is no reason for a refusal but want of memory.
use Rattle.std.specs.Prelude.{◌≡◌, Bool, ℕ, ◌+◌, ◌<◌, ◌≤◌, List, [], ◌∷◌, ◌++◌, length, flat_map}
use Rattle.std.specs.Prelude.{All, slice_get, slice_index_or, Some}
use Rattle.std.proofs.Common.{zero, suc, refl, ap, subst, arith}
use Rattle.std.proofs.lemmas.List.Elements.{All-append, All-head, All-nil, All-tail}
use Rattle.std.proofs.lemmas.Option.{slice_get_within, get_or_from_slice_get}
use Rattle.circle_commit.specs.declared.error.FriError.{FriError}
use Rattle.circle_commit.specs.declared.error.FriError.TheVariants.{InputError as OfInput}
use Rattle.circle_commit.specs.declared.error.FriError.TheVariants.{FinalPolyMismatch}
use Rattle.circle_commit.specs.declared.error.FriError.TheVariants.{UnconsumedReducedOpenings}
use Rattle.circle_commit.specs.declared.error.FriError.TheVariants.{CommitPhaseMmcsError, Memory}
use Rattle.circle_commit.specs.declared.params.FriParameters.{FriParameters}
use Rattle.circle_relation.specs.declared.error.InputError.{InputError}
use Rattle.circle_relation.specs.declared.error.InputError.TheVariants.{InputMmcsError}
use Rattle.circle_relation.specs.declared.error.InputError.TheVariants.{FirstLayerMmcsError}
use Rattle.circle_relation.specs.declared.error.InputError.TheVariants.{InputShapeError}
use Rattle.circle_relation.specs.declared.error.InputError.TheVariants.{OpeningPointMatchesQueryPoint}
use Rattle.circle_relation.specs.declared.error.InputError.TheVariants.{MatrixWithoutOpeningPoints}
use Rattle.circle_relation.specs.Accepts.{Fields, Run, Authenticates, HasInputs, HoldsWith}
use Rattle.circle_relation.specs.Accepts.{matrices}
use Rattle.circle_relation.specs.Reasons.{IsReason, IsUnclaimed, IsLeftOver}

-- what holds of all entries holds of the one at an index
pub All-at : {T : Type 0} (P : T → Type 0) (xs : List T) (i : ℕ) (x : T) → All P xs →
    slice_get xs i ≡ Some x → P x
All-at P xs i x all at =
    subst P (get_or_from_slice_get xs i x x at) (all i x (slice_get_within xs i x at))

All-front : {T : Type 0} (P : T → Type 0) (xs ys : List T) → All P (xs ++ ys) → (i : ℕ) (d : T) →
    i < length xs → P (slice_index_or xs i d)
All-front P [] ys all i d lt = absurd (omega (arith, lt))
All-front P (x ∷ xs) ys all zero d lt = All-head P x (xs ++ ys) all
All-front P (x ∷ xs) ys all (suc i) d lt =
    All-front P xs ys (All-tail P x (xs ++ ys) all) i d (omega (arith, lt))

All-back : {T : Type 0} (P : T → Type 0) (xs ys : List T) → All P (xs ++ ys) → All P ys
All-back P [] ys all = all
All-back P (x ∷ xs) ys all = All-back P xs ys (All-tail P x (xs ++ ys) all)

-- what holds of the entries of all lists holds of those of one
pub All-part : {S T : Type 0} (P : T → Type 0) (f : S → List T) (xs : List S) (i : ℕ) (x : S) →
    All P (flat_map f xs) → slice_get xs i ≡ Some x → All P (f x)
All-part P f [] i x all at = absurd (omega (arith, slice_get_within [] i x at))
All-part P f (y ∷ xs) zero x all at =
    subst (λ z. All P (f z)) (get_or_from_slice_get (y ∷ xs) zero x x at)
    (All-front P (f y) (flat_map f xs) all)
All-part P f (y ∷ xs) (suc i) x all at =
    All-part P f xs i x (All-back P (f y) (flat_map f xs) all) at

-- what holds of the entries of each list holds of those of all
pub All-flat : {S T : Type 0} (P : T → Type 0) (f : S → List T) (xs : List S) →
    All (λ x. All P (f x)) xs → All P (flat_map f xs)
All-flat P f [] all = All-nil P
All-flat P f (x ∷ xs) all =
    All-append P (f x) (flat_map f xs) (All-head (λ x. All P (f x)) x xs all)
    (All-flat P f xs (All-tail (λ x. All P (f x)) x xs all))

module _ {F E M Com InputCom InputProof WordProof : Type 0} (fields : Fields F E)
    (params : FriParameters M) (r : Run F E Com InputCom InputProof WordProof) where
  unclaimed-not : (batch matrix : ℕ) → IsUnclaimed fields params r batch matrix →
      All (λ m. 1 ≤ length m.claims) (matrices fields params r) → ⊥
  unclaimed-not batch matrix u claimed =
      let of_batch = All-part (λ m. 1 ≤ length m.claims) (λ b. b.matrices) r.batches batch u.of
      claimed u.there in
      let here = All-at (λ m. 1 ≤ length m.claims) u.of.matrices matrix u.claim of_batch u.here in
      omega (arith, here, ap length u.none)

  left_over-not : (next remaining : ℕ) → IsLeftOver fields params r next remaining →
      All (λ m. params.log_final_poly_len + 2 ≤ m.log_n) (matrices fields params r) → ⊥
  left_over-not next remaining o large =
      let here = large o.some.0 o.some.1 o.some.2 in
      let same = ap (λ m. m.log_n) o.some.3 in
      omega (arith, here, same, o.some.4)

  pub only_memory : {IE WE : Type 0} (inputs : Authenticates InputCom F InputProof)
      (words : Authenticates Com E WordProof) (input_memory : IE → Bool) (word_memory : WE → Bool)
      (e : FriError WE (InputError IE WE)) →
      IsReason fields params r inputs words input_memory word_memory e → HasInputs fields params r
      → All (λ m. 1 ≤ length m.claims) (matrices fields params r) →
      All (λ m. params.log_final_poly_len + 2 ≤ m.log_n) (matrices fields params r)
      → HoldsWith fields params r inputs words → e ≡ Memory
  unfolding IsReason
  only_memory inputs words input_memory word_memory (OfInput InputShapeError) why shape claimed
      large holds = absurd (why shape)
  only_memory inputs words input_memory word_memory (OfInput (MatrixWithoutOpeningPoints b m)) why
      shape claimed large holds = absurd (unclaimed-not b m why claimed)
  only_memory inputs words input_memory word_memory (OfInput (InputMmcsError e)) why shape claimed
      large holds = absurd (why.1 holds.inputs_authenticate)
  only_memory inputs words input_memory word_memory (OfInput OpeningPointMatchesQueryPoint) why
      shape claimed large holds = absurd (why holds.apart)
  only_memory inputs words input_memory word_memory (OfInput (FirstLayerMmcsError e)) why shape
      claimed large holds = absurd (why.1 holds.first_layer)
  only_memory inputs words input_memory word_memory FinalPolyMismatch why shape claimed large
      holds = absurd (why holds.chains)
  only_memory inputs words input_memory word_memory (UnconsumedReducedOpenings n m) why shape
      claimed large holds = absurd (left_over-not n m why large)
  only_memory inputs words input_memory word_memory (CommitPhaseMmcsError e) why shape claimed large
      holds = absurd (why.1 holds.rounds_authenticate)
  only_memory inputs words input_memory word_memory Memory why shape claimed large holds = refl
  only_memory inputs words input_memory word_memory _ why shape claimed large holds = absurd why
