-- Why `prove` refuses its input.
use Rattle.std.proofs.Common.{◌≡◌, ℕ, ◌<◌, ◌⊎◌, List, [], ◌∷◌, length, slice_index_or, take, All}
use Rattle.std.proofs.Common.{Result, Ok, Err, MatchResult, IfErr, IsErrAnd, inl, inr, ⊎_elim}
use Rattle.std.proofs.Common.{replicate, refl, ap, ◌∙◌, subst, sym, Vec, Global}
use Rattle.std.specs.List.{AllZip}
use Rattle.std.proofs.lemmas.List.Elements.{All-nil, All-cons}
use Rattle.circle_commit.specs.Parameters.{with_scheme}
use Rattle.circle_commit.specs.declared.params.FriParameters.{FriParameters}
use Rattle.circle_field.specs.declared.cubic.Cubic.{Cubic}
use Rattle.circle_merkle.specs.declared.mmcs.ShaMmcs.{ShaMmcs}
use Rattle.circle_relation.specs.declared.error.ProverError.{ProverError}
use Rattle.circle_relation.specs.declared.error.ProverError.TheVariants.{Memory}
use Rattle.circle_commands.specs.Preset.{Scheme}
use Rattle.circle_commands.specs.Proved.{AreCommitted, IsCommitted, after_batches}
use Rattle.circle_commands.specs.Reasons.{IsCommitReason, IsProveReasonFrom, IsProveRefusal}
use Rattle.circle_commands.specs.Reasons.{IsProverRefusal}
use Rattle.circle_commands.specs.Traces.{IsRefusalOfBatches}
use Rattle.circle_commands.specs.Unproved.{AreUnopened, IsFirstUncommitted, IsOfScheme}
use Rattle.circle_commands.specs.Unproved.{IsUncommittable, IsUncommitted, IsUnopened}
use Rattle.circle_commands.specs.Unproved.{IsUnopenedFrom}
use Rattle.circle_commands.specs.declared.prove.Committed.{Committed}
use Rattle.circle_commands.specs.declared.prove.Input.{Input}
use Rattle.circle_commands.specs.declared.prove.Refusal.{Refusal}
use Rattle.circle_commands.specs.declared.prove.Trace.{Trace}
use Rattle.circle_commands.specs.declared.prove.Refusal.TheVariants.{HeightNotPowerOfTwo, Prover}
use Rattle.circle_commands.specs.declared.prove.Refusal.TheVariants.{RaggedRows}
use Rattle.circle_commands.proofs.First.{first_at}

-- each of the first items has its fellow
pub each_has : {S T : Type 0} (P : S → T → Type 0) (xs : List S) (ys : List T) → AllZip P xs ys →
    All (λ x. (y : T) × P x y) xs
each_has {S} {T} P [] [] h = All-nil (λ x. (y : T) × P x y)
each_has P [] (y ∷ ys) h = absurd h
each_has P (x ∷ xs) [] h = absurd h
each_has {S} {T} P (x ∷ xs) (y ∷ ys) h =
    All-cons (λ x. (y : T) × P x y) x xs (y, h.0) (each_has P xs ys h.1)

-- a result that is this error
pub error-is : {A E : Type 0} (r : Result A E) (P : E → Type 0) (e : E) → IsErrAnd r (λ x. x ≡ e) →
    P e → IfErr r P
error-is (Ok x) P e is holds = absurd is
error-is (Err d) P e is holds = subst P (sym is) holds

-- the first refusal that there is reason for
pub in_order : {T : Type 0} (A : Type 0) (tests : Result T ProverError) (e : ProverError) →
    MatchResult tests (λ passed. e ≡ Memory) (λ first. let made : Result A ProverError = Err e in
    made ≡ Err first) → MatchResult tests (λ passed. e ≡ Memory) (λ first. e ≡ first)
in_order A (Ok passed) e h = h
in_order A (Err first) e h = cc

-- the parameters of a scheme that the input gives
pub in-params : (input : Input) (scheme : Scheme) (mmcs : ShaMmcs Cubic) → scheme.fri_params
    ≡ with_scheme input.params mmcs → scheme.fri_params
    ≡ with_scheme input.params scheme.fri_params.mmcs
in-params input scheme mmcs same =
    same
    ∙ ap (with_scheme input.params) (sym (ap (λ (p : FriParameters (ShaMmcs Cubic)). p.mmcs) same))

module _ (scheme : Scheme) where
  -- a batch that isn't committed to after others that are
  pub first-uncommitted : (batches : List (Vec Trace Global)) (committed : List Committed) (i : ℕ)
      (item : Vec Trace Global) (traces : List Trace) (e : ProverError) → i < length batches →
      item ≡ slice_index_or batches i item →
      AreCommitted scheme.mmcs scheme.fri_params.log_blowup (take i batches) committed →
      traces ≡ item.items → (e ≡ Memory) ⊎ IsUncommitted scheme traces e →
      (e ≡ Memory) ⊎ IsFirstUncommitted scheme batches e
  first-uncommitted batches committed i item traces e lt at before same h =
      let Is : Vec Trace Global → Committed → Type 0 =
      λ b m. IsCommitted scheme.mmcs scheme.fri_params.log_blowup b.items m in
      ⊎_elim (λ m. inl m)
      (λ n. inr
      (first_at (λ b. (c : Committed) × Is b c) (λ b. IsUncommitted scheme b.items e) batches i item
      lt at (each_has Is (take i batches) committed before)
      (subst (λ ts. IsUncommitted scheme ts e) same n))) h

-- a refusal of the scheme by an error that is so, where what is so is otherwise too
of_scheme : (Is Other : ProverError → Type 0) → ((e : ProverError) → Is e → Other e) →
    (r : Refusal) → IsOfScheme Is r → IsOfScheme Other r
of_scheme Is Other then RaggedRows h = h
of_scheme Is Other then HeightNotPowerOfTwo h = h
of_scheme Is Other then (Prover error) h = then error h

module _ (input : Input) where
  abbrev pub IsUncommittedOf : Refusal → Type 0
  IsUncommittedOf = IsProverRefusal (IsCommitReason input)

  -- rows that are refused
  pub by_rows : {A : Type 0} (r : Result A Refusal) (e : Refusal) → IsErrAnd r (λ x. x ≡ e) →
      IsRefusalOfBatches input.params.log_final_poly_len input.batches.items e →
      IfErr r IsUncommittedOf
  by_rows r e is h = error-is r IsUncommittedOf e is (inr (inl h))

  -- a batch that the scheme refuses to commit to
  pub by_commit : {A : Type 0} (r : Result A Refusal) (e : ProverError) (scheme : Scheme) →
      IsErrAnd r (λ x. x ≡ Prover e) →
      scheme.fri_params ≡ with_scheme input.params scheme.fri_params.mmcs →
      (e ≡ Memory) ⊎ IsFirstUncommitted scheme input.batches.items e → IfErr r IsUncommittedOf
  by_commit r e scheme is params h =
      error-is r IsUncommittedOf (Prover e) is
      (⊎_elim (λ m. inl (ap Prover m))
      (λ n. inr (inr (record { scheme = scheme; params = params; refuses = n }))) h)

  abbrev pub IsReasonedFrom : List ℕ → List ℕ → Refusal → Type 0
  IsReasonedFrom old new = IsProverRefusal (IsProveReasonFrom input old new)

  -- an input that isn't committed to isn't proved
  pub by_new : {A : Type 0} (r : Result A Refusal) (e : Refusal) → IsErrAnd r (λ x. x ≡ e) →
      IsUncommittedOf e → IfErr r (IsProveRefusal input)
  by_new r e is h =
      error-is r (IsProveRefusal input) e is
      (⊎_elim (λ m. inl m)
      (⊎_elim (λ rows. inr (inl rows))
      (λ u. inr (inr
      (of_scheme (IsUncommittable input) (λ error. IsUncommittable input error
      ⊎ IsUnopened input error) (λ error v. inl v) e u)))) h)

  -- and leaves the challenger as it was
  pub by_new_from : {A : Type 0} (r : Result A Refusal) (e : Refusal) (s : List ℕ) →
      IsErrAnd r (λ x. x ≡ e) → IsUncommittedOf e → IfErr r (IsReasonedFrom s s)
  by_new_from r e s is h =
      error-is r (IsReasonedFrom s s) e is
      (⊎_elim (λ m. inl m)
      (⊎_elim (λ rows. inr (inl (rows, refl)))
      (λ u. inr (inr
      (of_scheme (IsUncommittable input) (λ error. (IsUncommittable input error × (s ≡ s))
      ⊎ IsUnopenedFrom input s s error) (λ error v. inl (v, refl)) e u)))) h)

  module _ {A : Type 0} (r : Result A Refusal) (e : ProverError) (given : Input)
      (committed : List Committed) (old new : List ℕ) (is : IsErrAnd r (λ x. x ≡ Prover e))
      (same : given ≡ input)
      (refused : (e ≡ Memory) ⊎ AreUnopened given committed old new e) where
    -- an opening of what was committed to that is refused
    pub by_open_from : IfErr r (IsReasonedFrom old new)
    by_open_from =
        error-is r (IsReasonedFrom old new) (Prover e) is
        (⊎_elim (λ m. inl (ap Prover m))
        (λ n. inr (inr (inr (
          committed,
          subst (λ (i : Input). AreUnopened i committed old new e) same n,
        )))) refused)

    -- so from the challenger that has absorbed the commitments
    pub by_open : old ≡ after_batches (replicate 32 0) committed → IfErr r (IsProveRefusal input)
    by_open taken =
        error-is r (IsProveRefusal input) (Prover e) is
        (⊎_elim (λ m. inl (ap Prover m))
        (λ n. inr (inr (inr (
          committed,
          (
            new,
            subst (λ (s : List ℕ). AreUnopened input committed s new e) taken
                (subst (λ (i : Input). AreUnopened i committed old new e) same n),
          ),
        )))) refused)
