-- Whether each matrix is claimed at a point.
use Rattle.std.proofs.Common.{◌≡◌, ℕ, ◌+◌, ◌<◌, ◌≤◌, ◌==◌, Bool, true, false, cond, not, suc, List}
use Rattle.std.proofs.Common.{[], ◌∷◌, length, get_or, take, refl, sym, ap, subst, ◌∙◌, arith}
use Rattle.std.specs.Prelude.{All, Some, None, map, slice_get, vec_len}
use Rattle.std.specs.Option.{option_map}
use Rattle.std.specs.List.{position, position_or_len}
use Rattle.std.proofs.lemmas.List.{length-map}
use Rattle.std.proofs.lemmas.List.Elements.{All-nil, All-cons, All-append, All-map, All-head}
use Rattle.std.proofs.lemmas.List.Elements.{All-tail, All-weaker, All-more}
use Rattle.std.proofs.lemmas.List.Quantifiers.{position-Some}
use Rattle.std.proofs.lemmas.Bool.{ltb-false, eqb-true}
use Rattle.std.proofs.lemmas.Option.{slice_get-map, slice_get-get_or, slice_get_read}
use Rattle.circle_commit.specs.declared.params.FriParameters.{FriParameters}
use Rattle.circle_commit.specs.declared.pcs.MatrixOpening.{MatrixOpening}
use Rattle.circle_commit.specs.declared.pcs.CommitmentOpening.{CommitmentOpening}
use Rattle.circle_domain.specs.declared.domain.CircleDomain.{CircleDomain}
use Rattle.circle_relation.specs.Accepts.{Fields, Run}
use Rattle.circle_relation.specs.Reasons.{IsUnclaimed}
use Rattle.circle_relation.specs.Statement.{MatrixClaim, all_matrices}
use Rattle.circle_relation.specs.StatementOf.{point_claim, matrix_claim, matrix_claims, batch_claim}
use Rattle.circle_relation.specs.StatementOf.{batch_claims}

-- where no index is returned, no entry passes
no-index : {t : Bool} (a : ℕ) → cond t (Some a) None ≡ None → t ≡ false
no-index {t = true} a none = cc
no-index {t = false} a none = refl

all-fail : {X : Type 0} (p : X → Bool) (xs : List X) → length xs ≤ position_or_len p xs →
    All (λ x. p x ≡ false) xs
all-fail p [] late = All-nil (λ x. p x ≡ false)
all-fail p (x ∷ xs) late = by (p x) refl (all-fail p xs)
  where
    by : (b : Bool) → p x ≡ b → (length xs ≤ position_or_len p xs → All (λ x. p x ≡ false) xs) →
        All (λ y. p y ≡ false) (x ∷ xs)
    by true e rest = let now : suc (length xs) ≤ 0 =
        subst (λ b. length (x ∷ xs) ≤ cond (not b) (1 + position_or_len p xs) 0) e late in
        absurd (omega arith)
    by false e rest =
        let now : suc (length xs) ≤ 1 + position_or_len p xs =
        subst (λ b. length (x ∷ xs) ≤ cond (not b) (1 + position_or_len p xs) 0) e late in
        All-cons (λ y. p y ≡ false) x xs e (rest (omega arith))

none-pass : {X : Type 0} (p : X → Bool) (xs : List X) → position p xs ≡ None →
    All (λ x. p x ≡ false) xs
none-pass p xs none =
    all-fail p xs
    (ltb-false (position_or_len p xs) (length xs) (no-index (position_or_len p xs) none))

nothing : {X : Type 0} (xs : List X) → length xs ≡ 0 → xs ≡ []
nothing [] none = refl
nothing (x ∷ xs) none = absurd (omega arith)

module _ {E F : Type 0} {g : _} where
  -- of a batch's matrices
  abbrev pub unclaimed : MatrixOpening E (CircleDomain F g) → Bool
  unclaimed m = vec_len m.points == 0

  abbrev pub Claimed : MatrixOpening E (CircleDomain F g) → Type 0
  Claimed m = 1 ≤ length m.points.items

  some-points : (m : MatrixOpening E (CircleDomain F g)) → unclaimed m ≡ false → Claimed m
  some-points m fails = let same = m.points.ok.0 in grind arith

  no-points : (m : MatrixOpening E (CircleDomain F g)) → unclaimed m ≡ true → m.points.items ≡ []
  no-points m passes =
      nothing m.points.items (sym m.points.ok.0 ∙ eqb-true (vec_len m.points) 0 passes)

  pub none-unclaimed : (ms : List (MatrixOpening E (CircleDomain F g))) → position unclaimed ms
      ≡ None → All Claimed ms
  none-unclaimed ms none =
      All-weaker (λ m. unclaimed m ≡ false) Claimed some-points ms (none-pass unclaimed ms none)

  first-at : (ms : List (MatrixOpening E (CircleDomain F g))) (i : ℕ) → position unclaimed ms
      ≡ Some i →
      (m : MatrixOpening E (CircleDomain F g)) × (slice_get ms i ≡ Some m) × (m.points.items ≡ [])
  first-at [] i is = cc
  first-at (d ∷ ms) i is =
      let found = position-Some unclaimed (d ∷ ms) i d is in (
        get_or (d ∷ ms) i d,
        slice_get-get_or (d ∷ ms) i d found.0,
        no-points (get_or (d ∷ ms) i d) found.1,
      )

  module _ {Com : Type 0} where
    -- a batch of which all matrices are claimed, after others
    pub more-claimed : (bs : List (CommitmentOpening E Com (CircleDomain F g))) (i : ℕ)
        (b : CommitmentOpening E Com (CircleDomain F g)) →
        i < length bs → b ≡ get_or bs i b → position unclaimed b.matrices.items ≡ None
        → All (λ d. All Claimed d.matrices.items) (take i bs) →
        All (λ d. All Claimed d.matrices.items) (take (i + 1) bs)
    more-claimed bs i b within is none before =
        let Each : CommitmentOpening E Com (CircleDomain F g) → Type 0 =
        λ d. All Claimed d.matrices.items in
        All-more Each bs i b within before (subst Each is (none-unclaimed b.matrices.items none))

    -- the first that is claimed at no point
    pub unclaimed-at : {T C P Q M : Type 0} (fields : Fields T E) (params : FriParameters M)
        (r : Run T E C Com P Q) (bs : List (CommitmentOpening E Com (CircleDomain F g)))
        (batch matrix : ℕ) (b : CommitmentOpening E Com (CircleDomain F g)) →
        r.batches ≡ batch_claims bs → batch < length bs → b ≡ get_or bs batch b →
        position unclaimed b.matrices.items ≡ Some matrix →
        IsUnclaimed fields params r batch matrix
    unclaimed-at fields params r bs batch matrix b same within is found =
        let first = first-at b.matrices.items matrix found in
        record {
          of = batch_claim b;
          claim = matrix_claim first.0;
          there = ap (λ cs. slice_get cs batch) same ∙ slice_get-map batch_claim bs batch
              ∙ ap (option_map batch_claim) (slice_get_read bs (length bs) batch b refl within is);
          here = slice_get-map matrix_claim b.matrices.items matrix
              ∙ ap (option_map matrix_claim) first.1;
          none = ap (map point_claim) first.2;
        }

    pub all-claimed : (bs : List (CommitmentOpening E Com (CircleDomain F g))) →
        All (λ b. All Claimed b.matrices.items) bs →
        All (λ m. 1 ≤ length m.claims) (all_matrices (batch_claims bs))
    all-claimed [] all = All-nil (λ (m : MatrixClaim E). 1 ≤ length m.claims)
    all-claimed (b ∷ bs) all =
        let P : MatrixClaim E → Type 0 = λ m. 1 ≤ length m.claims in
        let Each : CommitmentOpening E Com (CircleDomain F g) → Type 0 =
        λ d. All Claimed d.matrices.items in
        All-append P (matrix_claims b.matrices.items) (all_matrices (batch_claims bs))
        (All-map P matrix_claim b.matrices.items
        (All-weaker Claimed (λ m. P (matrix_claim m))
        (λ m some. subst (λ n. 1 ≤ n) (sym (length-map m.points.items point_claim)) some)
        b.matrices.items (All-head Each b bs all)))
        (all-claimed bs (All-tail Each b bs all))
