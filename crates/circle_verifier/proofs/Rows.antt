-- What a scheme is to show of a batch, and what its refusal says.
use Rattle.std.proofs.Common.{◌≡◌, ℕ, ◌+◌, ◌<◌, ◌≤◌, Bool, true, false, List, [], ◌∷◌, length}
use Rattle.std.proofs.Common.{get_or, take, map, refl, sym, ap, subst, ◌∙◌, arith}
use Rattle.std.specs.Prelude.{All, Result, Ok, Err, IfErr, IsErrAnd, min, zip, if◌then◌else◌}
use Rattle.std.proofs.lemmas.List.Elements.{All-nil, All-cons, All-head, All-tail, All-more}
use Rattle.std.proofs.lemmas.Slice.Zip.{length-zip, get_or-zip, zip_turn, zip_end}
use Rattle.std.proofs.lemmas.List.{length-map, get_or-map}
use Rattle.std.proofs.lemmas.Option.{slice_get-map, slice_get_read}
use Rattle.std.specs.Option.{option_map}
use Rattle.std.specs.Prelude.{Option, Some, None}
use Rattle.std.specs.Borrow.{Bor}
use Rattle.std.specs.Iterator.{Yields}
use Rattle.std.specs.Iterator.Adapters.{zip_first, zip_second}
use Rattle.std.specs.Slice.Iter.{iter_rest}
use Rattle.std.proofs.lemmas.Fn.{fronts}
use Rattle.std.proofs.lemmas.Iterator.{zips}
use Rattle.std.proofs.Common.{Iter}
use Rattle.circle_relation.proofs.Pairs.{pair-sources}
use Rattle.circle_commit.specs.declared.params.FriParameters.{FriParameters}
use Rattle.circle_commit.specs.declared.error.FriError.{FriError}
use Rattle.circle_commit.specs.declared.error.FriError.TheVariants.{InputError as OfInput, Memory}
use Rattle.circle_commit.specs.declared.pcs.MatrixOpening.{MatrixOpening}
use Rattle.circle_commit.specs.declared.pcs.CommitmentOpening.{CommitmentOpening}
use Rattle.circle_domain.specs.declared.domain.CircleDomain.{CircleDomain}
use Rattle.circle_domain.specs.Domain.{log_size}
use Rattle.circle_relation.specs.declared.error.InputError.{InputError}
use Rattle.circle_relation.specs.declared.error.InputError.TheVariants.{InputMmcsError}
use Rattle.circle_relation.specs.Accepts.{Fields, Run, Authenticates, InputsAuthenticate}
use Rattle.circle_relation.specs.Reasons.{IsReason}
use Rattle.circle_relation.specs.Statement.{MatrixClaim, all_matrices, log_height, log_max_height}
use Rattle.circle_relation.specs.StatementOf.{matrix_claim, matrix_claims, batch_claim}
use Rattle.circle_relation.specs.StatementOf.{batch_claims}
use Rattle.circle_relation.proofs.Contradictions.{All-part}
use Rattle.circle_verifier.specs.Batches.{RefusesRows}

-- a height that none of a batch's exceeds
pub at-most : {E F : Type 0} {g : _} (blowup top : ℕ)
    (ms : List (MatrixOpening E (CircleDomain F g))) →
    All (λ m. log_size m.domain + blowup ≤ top) ms → log_max_height blowup (matrix_claims ms) ≤ top
at-most blowup top [] all = omega arith
at-most blowup top (m ∷ ms) all =
    let first = All-head (λ d. log_size d.domain + blowup ≤ top) m ms all in
    let rest = at-most blowup top ms (All-tail (λ d. log_size d.domain + blowup ≤ top) m ms all) in
    omega arith

-- a scheme's refusal refuses the rows, unless it says that memory was refused
pub refusal-refuses : {IE : Type 0} (WE : Type 0) (memory : IE → Bool) (Authenticated : Type 0)
    (said : Bool) (d : IE) → memory d ≡ said → (Authenticated → said ≡ true) →
    RefusesRows {WE = WE} memory Authenticated (if said then Memory else OfInput (InputMmcsError d))
refusal-refuses WE memory Authenticated true d is why = tt
refusal-refuses WE memory Authenticated false d is why =
    (is, λ shown. let no : false ≡ true = why shown in cc)

module _ {F E M Com InputCom InputProof WordProof : Type 0} (fields : Fields F E)
    (params : FriParameters M) (r : Run F E Com InputCom InputProof WordProof) where
  -- a batch of which the rows are refused is reason for a refusal
  pub rows-reason : {IE WE : Type 0} (inputs : Authenticates InputCom F InputProof)
      (words : Authenticates Com E WordProof) (input_memory : IE → Bool) (word_memory : WE → Bool)
      (Authenticated : Type 0) (e : FriError WE (InputError IE WE)) →
      (InputsAuthenticate fields params r inputs → Authenticated) →
      RefusesRows input_memory Authenticated e →
      IsReason fields params r inputs words input_memory word_memory e
  unfolding IsReason
  rows-reason inputs words input_memory word_memory Authenticated (OfInput (InputMmcsError d))
      of_all why = (why.0, λ all. why.1 (of_all all))
  rows-reason inputs words input_memory word_memory Authenticated Memory of_all why = tt
  rows-reason inputs words input_memory word_memory Authenticated _ of_all why = absurd why

module _ {E : Type 0} (blowup : ℕ) where
  -- no height is above the greatest
  all-within : (ms : List (MatrixClaim E)) (top : ℕ) → log_max_height blowup ms ≤ top →
      All (λ m. log_height blowup m ≤ top) ms
  all-within [] top most = All-nil (λ (m : MatrixClaim E). log_height blowup m ≤ top)
  all-within (m ∷ ms) top most =
      All-cons (λ d. log_height blowup d ≤ top) m ms (omega arith) (all-within ms top (omega arith))

  module _ {F Com : Type 0} {g : _} (top : ℕ) where
    pub batch-within : (bs : List (CommitmentOpening E Com (CircleDomain F g))) (i : ℕ)
        (b : CommitmentOpening E Com (CircleDomain F g)) →
        log_max_height blowup (all_matrices (batch_claims bs)) ≤ top → i < length bs →
        b ≡ get_or bs i b → All (λ m. log_size m.domain + blowup ≤ top) b.matrices.items
    batch-within bs i b most within is =
        let P : MatrixClaim E → Type 0 = λ m. log_height blowup m ≤ top in
        let there = slice_get-map batch_claim bs i
        ∙ ap (option_map batch_claim) (slice_get_read bs (length bs) i b refl within is) in
        let all : All P (matrix_claims b.matrices.items) =
        All-part P (λ d. d.matrices) (batch_claims bs) i (batch_claim b)
        (all-within (all_matrices (batch_claims bs)) top most) there in
        λ k d lt. subst P (get_or-map matrix_claim b.matrices.items k d (matrix_claim d) lt)
        (all k (matrix_claim d) (omega (arith, lt, length-map b.matrices.items matrix_claim)))

-- a refusal that is handed on
pub handed-on : {A E : Type 0} (P : E → Type 0) (result : Result A E) (e : E) →
    IsErrAnd result (λ x. x ≡ e) → P e → IfErr result P
handed-on P (Ok v) e is here = tt
handed-on P (Err x) e is here = subst P (sym is) here

-- a pair among the pairs of two lists
module _ {X Y A B : Type 0} (f : X → A) (h : Y → B) (xs : List X) (ys : List Y) where
  pub pairs-length : length (zip (map f xs) (map h ys)) ≡ min (length xs) (length ys)
  pairs-length = let whole = length-zip (map f xs) (map h ys) in
      omega (arith, whole, length-map xs f, length-map ys h)

  pub pair-at : (i : ℕ) (x : X) (y : Y) → i < length xs → i < length ys → x ≡ get_or xs i x →
      y ≡ get_or ys i y → get_or (zip (map f xs) (map h ys)) i (f x, h y) ≡ (f x, h y)
  pair-at i x y first second is is' =
      get_or-zip (map f xs) (map h ys) i (f x, h y) (omega (arith, length-map xs f))
      (omega (arith, length-map ys h))
      ∙ ap (λ a. (a, get_or (map h ys) i (h y))) (get_or-map f xs i x (f x) first ∙ ap f (sym is))
      ∙ ap (λ b. (f x, b)) (get_or-map h ys i y (h y) second ∙ ap h (sym is'))

  module _ (P : A × B → Type 0) (i : ℕ) (x : X) (y : Y) (first : i < length xs)
      (second : i < length ys) (is : x ≡ get_or xs i x) (is' : y ≡ get_or ys i y) where
    -- what holds of all pairs holds of this one
    pub pair-of-all : All P (zip (map f xs) (map h ys)) → P (f x, h y)
    pair-of-all all =
        subst P (pair-at i x y first second is is') (all i (f x, h y) (omega (arith, pairs-length)))

    -- what holds of those before it and of it
    pub pair-more : (n : ℕ) → n ≡ i + 1 → All P (take i (zip (map f xs) (map h ys))) →
        P (f x, h y) → All P (take n (zip (map f xs) (map h ys)))
    pair-more n next before here =
        let pairs = zip (map f xs) (map h ys) in
        subst (λ m. All P (take m pairs)) (sym next)
        (All-more P pairs i (f x, h y) (omega (arith, pairs-length)) before
        (subst P (sym (pair-at i x y first second is is')) here))

-- a loop over the pairs of two lists: where a turn's pair is, and how many turns there were
module _ {A B : Type 0} (xs : List (Bor A × Bor B)) (t u : _) {s z : _} {i : Iter A} {ks : List A}
    {vs : List B} {r : Option (Bor A × Bor B)} (same : s ≡ z) (of_first : zip_first z ≡ i)
    (first : iter_rest i ≡ ks) (second : iter_rest (zip_second z) ≡ vs)
    (yielded : Yields (zips fronts fronts) s xs t) where
  pub turn-at : {p : Bor A × Bor B} → r ≡ Some p → zips fronts fronts t r u →
      (length xs < length ks) × (length xs < length vs)
      × (p.0.now ≡ get_or ks (length xs) p.0.now) × (p.1.now ≡ get_or vs (length xs) p.1.now)
  turn-at {p} is step =
      let from = pair-sources same of_first first second in
      let turn = zip_turn ks vs xs s t u r from.0 from.1 yielded p is step in
      (turn.0, turn.1, turn.2 p.0.now, turn.3 p.1.now)

  pub turns-end : r ≡ None → zips fronts fronts t r u → length xs ≡ min (length ks) (length vs)
  turns-end is step =
      let from = pair-sources same of_first first second in
      zip_end ks vs xs s t u r from.0 from.1 yielded is step
