-- Requested matrices with their points and the values there, one after another.
use Rattle.std.specs.Prelude.{◌≡◌, ℕ, ◌+◌, ◌^◌, ◌<◌, ◌≤◌, List, [], ◌∷◌, ◌++◌, length, map, drop}
use Rattle.std.specs.Prelude.{flat_map, take, zip, Vec, min, slice_index_or}
use Rattle.std.specs.List.{AllZip}
use Rattle.std.specs.declared.alloc.Global.{Global}
use Rattle.std.proofs.Common.{refl, sym, ◌∙◌, ap, subst, arith, append_assoc, append-nil}
use Rattle.std.proofs.Common.{length-append}
use Rattle.std.proofs.lemmas.List.{length-map, map_more, get_or-map, get_or_default, map-append}
use Rattle.std.proofs.lemmas.List.{take_more, drop_more, take-map, drop-map, take_all, drop_all}
use Rattle.std.proofs.lemmas.List.{take-append-le, drop-append-le}
use Rattle.std.proofs.lemmas.List.FromFn.{length-map-range_with_len}
use Rattle.circle_commit.proofs.Written.{pairwise-read}
use Rattle.circle_commit.specs.RowMajorMatrix.{rows, width_of, height_of}
use Rattle.circle_commit.specs.declared.matrix.RowMajorMatrix.{RowMajorMatrix}
use Rattle.circle_commit.specs.DotProduct.{pairwise}
use Rattle.circle_relation.specs.Accepts.{Fields}
use Rattle.circle_relation.specs.Statement.{PointClaim}
use Rattle.circle_codewords.specs.Lifts.{read_rows}
use Rattle.circle_codewords.specs.Values.{AreOff, AreOpened, CanBeOpened}
use Rattle.circle_codewords.specs.Words.{Committed, claim_of}
use Rattle.circle_codewords.specs.declared.matrix.MatrixAtPoints.{MatrixAtPoints}
use Rattle.circle_codewords.specs.Requests.{AreBatchValues, AreValuesOf, IsOpenable}
use Rattle.circle_codewords.specs.Requests.{batch_committed, committed, lists_of, log_of}
use Rattle.circle_codewords.proofs.Logs.{log_of-power}
use Rattle.circle_codewords.proofs.Zips.{zip-read}
pub use Rattle.circle_codewords.proofs.Zips.{pushed-more}

-- the fields of matrices
abbrev pub fields_at_all : {F E : Type 0} {over g : _} → List (MatrixAtPoints F E over g)
    → Fields F E
fields_at_all {over = over} matrices = over.fields

module _ {A B : Type 0} where
  -- what an item becomes stands at its place
  pub map-at : (f : A → B) (xs : List A) (i : ℕ) (x : A) → i < length xs →
      x ≡ slice_index_or xs i x → f x ≡ slice_index_or (map f xs) i (f x)
  map-at f xs i x lt is = ap f is ∙ sym (get_or-map f xs i x (f x) lt)

  module _ (R : A → B → Type 0) where
    -- what holds at each place holds at one
    pub at-place : (xs : List A) (ys : List B) (i : ℕ) (x : A) (y : B) → AllZip R xs ys →
        i < length xs → x ≡ slice_index_or xs i x → y ≡ slice_index_or ys i y → R x y
    at-place xs ys i x y all lt is is' =
        subst (λ v. R v y) (sym is)
        (subst (R (slice_index_or xs i x)) (sym is') (zip-read R xs ys i x y all lt))

  module _ (f : A → B) where
    -- after some items, one more that is pushed is what stands at the next place
    pub push-after : (first ys : List B) (i n : ℕ) (old new : List A) (x : A) → n ≡ i + 1 →
        i < length ys → f x ≡ slice_index_or ys i (f x) → new ≡ old ++ x ∷ [] →
        map f old ≡ first ++ take i ys → map f new ≡ first ++ take n ys
    push-after first ys i n old new x next lt is pushed so_far =
        ap (map f) pushed ∙ map-append f old (x ∷ []) ∙ ap (λ l. l ++ f x ∷ []) so_far
        ∙ append_assoc first (take i ys) (f x ∷ [])
        ∙ ap (λ l. first ++ l) (ap (λ y. take i ys ++ y ∷ []) is ∙ sym (take_more ys i (f x) lt))
        ∙ ap (λ a. first ++ take a ys) (sym next)

module _ {A B C : Type 0} (f : A → B → C) where
  -- what two items become together stands at their place
  pub pairwise-at : (xs : List A) (ys : List B) (i : ℕ) (x : A) (y : B) → i < length xs →
      i < length ys → x ≡ slice_index_or xs i x → y ≡ slice_index_or ys i y →
      f x y ≡ slice_index_or (pairwise f xs ys) i (f x y)
  pairwise-at xs ys i x y lt lt' is is' =
      ap (λ v. f v y) is ∙ ap (f (slice_index_or xs i x)) is'
      ∙ sym (pairwise-read f xs ys i x y (f x y) lt lt')

  pub pairwise-long : (xs : List A) (ys : List B) → length (pairwise f xs ys)
      ≡ min (length xs) (length ys)
  pairwise-long [] ys = omega arith
  pairwise-long (x ∷ xs) [] = omega arith
  pairwise-long (x ∷ xs) (y ∷ ys) = omega (arith, pairwise-long xs ys)

-- the values of lists that are mapped
pub pairwise-map : {A B C D : Type 0} (f : A → C → D) (h : B → C) (xs : List A) (ys : List B) →
    pairwise (λ x y. f x (h y)) xs ys ≡ pairwise f xs (map h ys)
pairwise-map f h [] ys = refl
pairwise-map f h (x ∷ xs) [] = refl
pairwise-map f h (x ∷ xs) (y ∷ ys) = ap (λ rest. f x (h y) ∷ rest) (pairwise-map f h xs ys)

-- lists of lists: one more that is what its item becomes
pub parts-more : {A B C D : Type 0} (f : C → D) (g : A → C) (h : B → D) (xs : List A) (i : ℕ)
    (x : A) (old new : List B) (w : B) →
    i < length xs → x ≡ slice_index_or xs i x → new ≡ old ++ w ∷ [] → h w ≡ f (g x) →
    map h old ≡ map f (map g (take i xs)) → map h new ≡ map f (map g (take (i + 1) xs))
parts-more f g h xs i x old new w lt is pushed made so_far =
    ap (map h) pushed ∙ map-append h old (w ∷ []) ∙ ap (λ l. l ++ h w ∷ []) so_far
    ∙ ap (λ v. map f (map g (take i xs)) ++ v ∷ []) (made ∙ ap (λ v. f (g v)) is)
    ∙ sym (ap (map f) (map_more g xs i x lt)
    ∙ map-append f (map g (take i xs)) (g (slice_index_or xs i x) ∷ []))

-- what one more item gives follows what those before it give
flat-push : {A B : Type 0} (f : A → List B) (xs : List A) (x : A) → flat_map f (xs ++ x ∷ [])
    ≡ flat_map f xs ++ f x
flat-push f [] x = append-nil (f x)
flat-push f (a ∷ xs) x = ap (λ l. f a ++ l) (flat-push f xs x)
    ∙ sym (append_assoc (f a) (flat_map f xs) (f x))

pub flat-more : {A B C : Type 0} (f : B → List C) (g : A → B) (xs : List A) (i : ℕ) (x : A) →
    i < length xs → x ≡ slice_index_or xs i x →
    flat_map f (map g (take (i + 1) xs)) ≡ flat_map f (map g (take i xs)) ++ f (g x)
flat-more f g xs i x lt is =
    ap (flat_map f) (map_more g xs i x lt ∙ ap (λ v. map g (take i xs) ++ g v ∷ []) (sym is))
    ∙ flat-push f (map g (take i xs)) (g x)

module _ {A B : Type 0} (f : A → List B) (xs : List A) (i : ℕ) (x : A) (lt : i < length xs)
    (is : x ≡ slice_index_or xs i x) where
  pub flat-after : (n : ℕ) (first old new : List B) → n ≡ i + 1 → new ≡ old ++ f x →
      old ≡ first ++ flat_map f (take i xs) → new ≡ first ++ flat_map f (take n xs)
  flat-after n first old new next made so_far =
      made ∙ ap (λ l. l ++ f x) so_far ∙ append_assoc first (flat_map f (take i xs)) (f x)
      ∙ ap (λ l. first ++ l) (sym (flat-push f (take i xs) x)
      ∙ ap (flat_map f) (ap (λ y. take i xs ++ y ∷ []) is ∙ sym (take_more xs i x lt)
      ∙ ap (λ a. take a xs) (sym next)))

-- a list whose items become what those of another from a place on give, and more, is divided behind
-- what the first of these gives
module _ {A B C : Type 0} (f : A → B) (h : C → List B) (xs : List A) (ys : List C) (i n : ℕ) (y : C)
    (lt : i < length ys) (is : y ≡ slice_index_or ys i y) (count : n ≡ length (h y))
    (tail : List B) (are : map f xs ≡ flat_map h (drop i ys) ++ tail) where
  abbrev others : List B
  others = flat_map h (drop (i + 1) ys) ++ tail

  begins : map f xs ≡ h y ++ others
  begins =
      are ∙ ap (λ zs. flat_map h zs ++ tail) (drop_more ys i y lt
      ∙ ap (λ z. z ∷ drop (i + 1) ys) (sym is))
      ∙ append_assoc (h y) (flat_map h (drop (i + 1) ys)) tail

  pub fits : n ≤ length xs
  fits = let all = ap length begins in
      omega (arith, count, all, length-map xs f, length-append (h y) others)

  pub front : map f (take n xs) ≡ h y
  front =
      sym (take-map f n xs) ∙ ap (take n) begins ∙ ap (λ k. take k (h y ++ others)) count
      ∙ take-append-le (length (h y)) (h y) others (omega arith)
      ∙ take_all (length (h y)) (h y) (omega arith)

  pub behind : map f (drop n xs) ≡ others
  behind =
      sym (drop-map f n xs) ∙ ap (drop n) begins ∙ ap (λ k. drop k (h y ++ others)) count
      ∙ drop-append-le (length (h y)) (h y) others (omega arith)
      ∙ ap (λ l. l ++ others) (drop_all (length (h y)) (h y) (omega arith))

module _ {F E : Type 0} (k : Fields F E) (blowup : ℕ) where
  -- a matrix of a batch and its points
  pub openable-at : (two : ℕ) (ms : List (RowMajorMatrix F)) (points : List (Vec E Global)) (i : ℕ)
      (m : RowMajorMatrix F) (p : Vec E Global) →
      AllZip (IsOpenable k two blowup) ms (lists_of points) →
      i < length ms → i < length points → m ≡ slice_index_or ms i m →
      p ≡ slice_index_or points i p → IsOpenable k two blowup m p.items
  openable-at two ms points i m p all lt lt' is is' =
      at-place (IsOpenable k two blowup) ms (lists_of points) i m p.items all lt is
      (map-at (λ v. v.items) points i p lt' is')

  -- an item of a list that has one
  item-of : {X : Type 0} (xs : List X) (i : ℕ) → i < length xs → X
  item-of [] i lt = absurd (omega (arith, lt))
  item-of (x ∷ xs) i lt = x

  -- what a matrix is opened to has as many values as it has columns
  pub values-of : (h : ℕ) (m : RowMajorMatrix F) (points : List E) (values : List (List E)) →
      h ≡ log_of (height_of m) → length values ≡ length points →
      AreOpened k blowup h m points values →
      AreValuesOf k blowup m points values
  values-of h m points values is count opened = record {
    count = count;
    widths = λ i d lt.
        let inside : i < length points = omega (arith, lt, count) in
        ap length (get_or_default values i d [] lt
        ∙ (opened i (item-of points i inside) inside).at_point)
        ∙ length-map-range_with_len _ 0 (width_of m);
    opened = subst (λ n. AreOpened k blowup n m points values) is opened;
  }

  -- can be opened
  pub can-open : (h : ℕ) (m : RowMajorMatrix F) (ps lent : List E) → h ≡ log_of (height_of m) →
      lent ≡ ps → IsOpenable k k.two_adicity blowup m ps → CanBeOpened k h m lent
  can-open h m ps lent log points open_at = record {
    positive = omega (arith, log, open_at.blowup);
    in_group = omega (arith, log, open_at.in_group);
    rows = open_at.power ∙ ap (λ h. 2 ^ h) (sym log);
    off =
        subst (AreOff k h) (sym points) (subst (λ h. AreOff k h ps) (sym log) open_at.off);
  }

  -- the logarithm of the height of a matrix that can be opened
  pub log-is : k.two_adicity ≤ 62 → (h : ℕ) (m : RowMajorMatrix F) (points : List E) →
      CanBeOpened k h m points → h ≡ log_of (height_of m)
  log-is most h m points can =
      sym (ap log_of can.rows ∙ log_of-power h (let low = can.in_group in omega (arith, low, most)))

  -- a matrix of a batch with its points and the values there, as codewords read it
  abbrev made-of : ℕ → RowMajorMatrix F → List (PointClaim E) → Committed F E
  made-of h m claims =
      record { log_height = h; rows = read_rows k blowup h (width_of m) (rows m); claims = claims }

  pub committed-is : (h : ℕ) (m : RowMajorMatrix F) (ps : List E) (vs : List (Vec E Global)) →
      h ≡ log_of (height_of m) →
      made-of h m (pairwise (λ t v. claim_of t v.items) ps vs)
      ≡ committed k blowup m ps (lists_of vs)
  committed-is h m ps vs log =
      ap (λ n. made-of n m (pairwise (λ t v. claim_of t v.items) ps vs)) log
      ∙ ap (made-of (log_of (height_of m)) m) (pairwise-map claim_of (λ v. v.items) ps vs)

  -- a batch, by its matrices with their points
  pub batch-committed : (ms : List (RowMajorMatrix F)) (points : List (List E))
      (values : List (List (List E))) →
      pairwise (λ a v. committed k blowup a.0 a.1 v) (zip ms points) values
      ≡ batch_committed k blowup ms points values
  batch-committed [] points values = refl
  batch-committed (m ∷ ms) [] values = refl
  batch-committed (m ∷ ms) (p ∷ points) [] = refl
  batch-committed (m ∷ ms) (p ∷ points) (v ∷ values) =
      ap (λ rest. committed k blowup m p v ∷ rest) (batch-committed ms points values)

  -- its values, by the same
  pub batch-valued : (ms : List (RowMajorMatrix F)) (points : List (List E))
      (values : List (List (List E))) → length ms ≡ length points →
      AllZip (λ a v. AreValuesOf k blowup a.0 a.1 v) (zip ms points) values →
      AreBatchValues k blowup ms points values × (length values ≡ length points)
  batch-valued [] [] [] long all = (tt, refl)
  batch-valued [] [] (v ∷ values) long all = absurd all
  batch-valued [] (p ∷ points) values long all = absurd (omega (arith, long))
  batch-valued (m ∷ ms) [] values long all = absurd (omega (arith, long))
  batch-valued (m ∷ ms) (p ∷ points) [] long all = absurd all
  batch-valued (m ∷ ms) (p ∷ points) (v ∷ values) long all =
      let rest = batch-valued ms points values (omega (arith, long)) all.1 in
      ((all.0, rest.0), omega (arith, rest.1))

  pub values-valued : (ms : List (RowMajorMatrix F)) (points : List (List E))
      (values : List (List (List E))) → length ms ≡ length points →
      AreBatchValues k blowup ms points values → length values ≡ length points →
      AllZip (λ a v. AreValuesOf k blowup a.0 a.1 v) (zip ms points) values
  values-valued [] [] [] long all count = tt
  values-valued [] [] (v ∷ values) long all count = absurd (omega (arith, count))
  values-valued [] (p ∷ points) values long all count = absurd (omega (arith, long))
  values-valued (m ∷ ms) [] values long all count = absurd (omega (arith, long))
  values-valued (m ∷ ms) (p ∷ points) [] long all count = absurd (omega (arith, count))
  values-valued (m ∷ ms) (p ∷ points) (v ∷ values) long all count =
      (all.0, values-valued ms points values (omega (arith, long)) all.1 (omega (arith, count)))
