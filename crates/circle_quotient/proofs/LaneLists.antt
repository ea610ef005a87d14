-- Lists of equal length, of which each index is a lane: what is written into a lane, and what is
-- added to all lanes.
use Rattle.std.specs.Prelude.{◌≡◌, ◌≢◌, ℕ, ◌<◌, List, [], ◌∷◌, length, map, All, replicate}
use Rattle.std.specs.Prelude.{slice_index_or, slice_set, Vec}
use Rattle.std.specs.declared.alloc.Global.{Global}
use Rattle.std.proofs.Common.{zero, suc, sym, ◌∙◌, ap, refl, subst, arith}
use Rattle.std.proofs.lemmas.List.{get_or-set_same, get_or-set_other, get_or-map, length-map}
use Rattle.std.proofs.lemmas.List.{length-replicate, length-set}
use Rattle.circle_field.specs.Field.{FieldOps, FieldLaws, IsEmbedding}
use Rattle.circle_field.specs.Extension.{AreCoefficients, sums}
use Rattle.circle_commit.specs.DotProduct.{pairwise, with_multiple}
use Rattle.circle_commit.specs.PeriodicLdeTable.{columns_of}
use Rattle.circle_commit.proofs.Written.{length-pairwise, pairwise-read}
use Rattle.circle_domain.proofs.Twiddles.{map-map}
use Rattle.circle_air.specs.Values.{entry}
use Rattle.circle_quotient.specs.Lanes.{HaveLanes, lane_of}
use Rattle.circle_quotient.proofs.Basis.{zero-coefficients}

-- what holds of the rest
pub all-rest : {X : Type 0} (P : X → Type 0) (x : X) (xs : List X) → All P (x ∷ xs) → All P xs
all-rest P x xs all = λ i d lt. all (suc i) d (omega (arith, lt))

pub all-more : {X : Type 0} (P : X → Type 0) (x : X) (xs : List X) → P x → All P xs →
    All P (x ∷ xs)
all-more P x xs first rest = elim [
  | zero ↦ λ d lt. first
  | suc i ↦ λ d lt. rest i d (omega (arith, lt))
]

module _ {F : Type 0} (k : FieldOps F) where
  -- the entry of each list at the lane
  abbrev pub at_lane : List (List F) → ℕ → List F
  at_lane columns r = map (λ column. entry k column r) columns

  -- the row that is written into a lane stands there
  pub written-lane : (r : ℕ) (columns : List (List F)) (row : List F) →
      length columns ≡ length row → All (λ column. r < length column) columns →
      at_lane (pairwise (λ column x. slice_set column r x) columns row) r ≡ row
  written-lane r [] [] long room = refl
  written-lane r [] (x ∷ row) long room = absurd (omega (arith, long))
  written-lane r (c ∷ columns) [] long room = absurd (omega (arith, long))
  written-lane r (c ∷ columns) (x ∷ row) long room =
      ap (λ y. y ∷ at_lane (pairwise (λ column x. slice_set column r x) columns row) r)
      (get_or-set_same c r x k.zero (room 0 c (omega arith)))
      ∙ ap (λ ys. x ∷ ys) (written-lane r columns row (omega (arith, long))
      (all-rest (λ column. r < length column) c columns room))

  -- and the other lanes stay
  pub other-lane : (r q : ℕ) → q ≢ r → (columns : List (List F)) (row : List F) →
      length columns ≡ length row →
      at_lane (pairwise (λ column x. slice_set column r x) columns row) q ≡ at_lane columns q
  other-lane r q apart [] row long = refl
  other-lane r q apart (c ∷ columns) [] long = absurd (omega (arith, long))
  other-lane r q apart (c ∷ columns) (x ∷ row) long =
      ap (λ y. y ∷ at_lane (pairwise (λ column x. slice_set column r x) columns row) q)
      (get_or-set_other c r q x k.zero apart)
      ∙ ap (λ ys. entry k c q ∷ ys) (other-lane r q apart columns row (omega (arith, long)))

  pub written-lanes : (r lanes : ℕ) (columns : List (List F)) (row : List F) →
      length columns ≡ length row → All (λ column. length column ≡ lanes) columns →
      All (λ column. length column ≡ lanes)
      (pairwise (λ column x. slice_set column r x) columns row)
  written-lanes r lanes [] row long all = λ i d lt. absurd (omega (arith, lt))
  written-lanes r lanes (c ∷ columns) [] long all = absurd (omega (arith, long))
  written-lanes r lanes (c ∷ columns) (x ∷ row) long all =
      all-more (λ column. length column ≡ lanes) (slice_set c r x)
      (pairwise (λ column x. slice_set column r x) columns row)
      (length-set c r x ∙ all 0 c (omega arith))
      (written-lanes r lanes columns row (omega (arith, long))
      (all-rest (λ column. length column ≡ lanes) c columns all))

  -- elements times weights, added to each lane
  abbrev pub added : List F → List (List F) → List F → List (List F)
  added elements columns weights =
      pairwise (λ column w. with_multiple k (λ x. x) w column elements) columns weights

  pub added-lane : (r : ℕ) (elements : List F) → r < length elements →
      (columns : List (List F)) (weights : List F) →
      All (λ column. length column ≡ length elements) columns →
      at_lane (added elements columns weights) r
      ≡ sums k (at_lane columns r) (map (k.mul (entry k elements r)) weights)
  added-lane r elements below [] weights all = refl
  added-lane r elements below (c ∷ columns) [] all = refl
  added-lane r elements below (c ∷ columns) (w ∷ weights) all =
      let long = all 0 c (omega arith) in
      ap (λ y. y ∷ at_lane (added elements columns weights) r)
      (pairwise-read (λ a x. k.add a (k.mul x w)) c elements r k.zero k.zero k.zero
      (omega (arith, below, long)) below)
      ∙ ap (λ ys. k.add (entry k c r) (k.mul (entry k elements r) w) ∷ ys)
      (added-lane r elements below columns weights
      (all-rest (λ column. length column ≡ length elements) c columns all))

  pub added-lanes : (elements : List F) (columns : List (List F)) (weights : List F) →
      All (λ column. length column ≡ length elements) columns →
      All (λ column. length column ≡ length elements) (added elements columns weights)
  added-lanes elements [] weights all = λ i d lt. absurd (omega (arith, lt))
  added-lanes elements (c ∷ columns) [] all = λ i d lt. absurd (omega (arith, lt))
  added-lanes elements (c ∷ columns) (w ∷ weights) all =
      let long = all 0 c (omega arith) in
      all-more (λ column. length column ≡ length elements)
      (with_multiple k (λ x. x) w c elements) (added elements columns weights)
      (length-pairwise (λ a x. k.add a (k.mul x w)) c elements long ∙ long)
      (added-lanes elements columns weights
      (all-rest (λ column. length column ≡ length elements) c columns all))

  zeros-read : (n t : ℕ) → slice_index_or (replicate n k.zero) t k.zero ≡ k.zero
  zeros-read zero t = refl
  zeros-read (suc n) zero = refl
  zeros-read (suc n) (suc t) = zeros-read n t

  -- lists of zeros
  pub cleared-lane : (r : ℕ) (columns : List (List F)) →
      at_lane (map (λ column. replicate (length column) k.zero) columns) r
      ≡ replicate (length columns) k.zero
  cleared-lane r [] = refl
  cleared-lane r (c ∷ columns) =
      ap (λ y. y ∷ at_lane (map (λ column. replicate (length column) k.zero) columns) r)
      (zeros-read (length c) r)
      ∙ ap (λ ys. k.zero ∷ ys) (cleared-lane r columns)

  pub cleared-lanes : (lanes : ℕ) (columns : List (List F)) →
      All (λ column. length column ≡ lanes) columns →
      All (λ column. length column ≡ lanes)
      (map (λ column. replicate (length column) k.zero) columns)
  cleared-lanes lanes [] all = λ i d lt. absurd (omega (arith, lt))
  cleared-lanes lanes (c ∷ columns) all =
      all-more (λ column. length column ≡ lanes) (replicate (length c) k.zero)
      (map (λ column. replicate (length column) k.zero) columns)
      (length-replicate (length c) k.zero ∙ all 0 c (omega arith))
      (cleared-lanes lanes columns (all-rest (λ column. length column ≡ lanes) c columns all))

-- what holds of the list that a vector holds
pub vec-each : {T : Type 0} (P : List T → Type 0) (vs : List (Vec T Global)) →
    All P (columns_of vs) → (i : ℕ) (v : Vec T Global) → i < length vs →
    P (slice_index_or vs i v).items
vec-each P vs all i v lt =
    subst P (get_or-map (λ x. x.items) vs i v v.items lt)
    (all i v.items (omega (arith, lt, length-map vs (λ x. x.items))))

-- a list of one value
pub all-same : {X : Type 0} (x : X) (xs : List X) →
    ((r : ℕ) (d : X) → r < length xs → slice_index_or xs r d ≡ x) → xs ≡ replicate (length xs) x
all-same x [] each = refl
all-same x (y ∷ ys) each =
    ap (λ z. z ∷ ys) (each 0 y (omega arith))
    ∙ ap (λ zs. x ∷ zs) (all-same x ys (λ r d lt. each (suc r) d (omega (arith, lt))))

pub lane-columns : {F : Type 0} (k : FieldOps F) (vs : List (Vec F Global)) (r : ℕ) →
    lane_of k vs r ≡ at_lane k (columns_of vs) r
lane-columns k vs r = sym (map-map (λ xs. entry k xs r) (λ v. v.items) vs)

-- so of the coefficients of elements of an extension
module _ {F E : Type 0} {k : FieldOps F} {l : FieldOps E} {m : F → E} {degree : ℕ}
    {coefficients : E → List F} (are : AreCoefficients k l m degree coefficients) where
  pub added-element : (r : ℕ) (elements : List F) (columns : List (List F)) (a weight : E) →
      r < length elements → All (λ column. length column ≡ length elements) columns →
      at_lane k columns r ≡ coefficients a →
      at_lane k (added k elements columns (coefficients weight)) r
      ≡ coefficients (l.add a (l.mul (m (entry k elements r)) weight))
  added-element r elements columns a weight below all here =
      let t = entry k elements r in
      added-lane k r elements below columns (coefficients weight) all
      ∙ ap (λ xs. sums k xs (map (k.mul t) (coefficients weight))) here
      ∙ ap (sums k (coefficients a)) (sym (are.of_multiple t weight))
      ∙ sym (are.of_sum a (l.mul (m t) weight))

  pub cleared-element : (laws : FieldLaws k) (laws' : FieldLaws l) → IsEmbedding k l m →
      (r : ℕ) (columns : List (List F)) → length columns ≡ degree →
      at_lane k (map (λ column. replicate (length column) k.zero) columns) r ≡ coefficients l.zero
  cleared-element laws laws' embedding r columns count =
      cleared-lane k r columns ∙ ap (λ n. replicate n k.zero) count
      ∙ sym (zero-coefficients laws laws' embedding are)

  -- the same of vectors
  pub added-sum : (elements : List F) (old new : List (Vec F Global)) (a weight : E) (r : ℕ) →
      r < length elements → HaveLanes degree (length elements) old →
      columns_of new ≡ added k elements (columns_of old) (coefficients weight) →
      lane_of k old r ≡ coefficients a →
      lane_of k new r ≡ coefficients (l.add a (l.mul (m (entry k elements r)) weight))
  added-sum elements old new a weight r below room is here =
      lane-columns k new r ∙ ap (λ xs. at_lane k xs r) is
      ∙ added-element r elements (columns_of old) a weight below room.each
      (sym (lane-columns k old r) ∙ here)

  pub added-room : (elements : List F) (old new : List (Vec F Global)) (weight : E) →
      length new ≡ length old → HaveLanes degree (length elements) old →
      columns_of new ≡ added k elements (columns_of old) (coefficients weight) →
      HaveLanes degree (length elements) new
  added-room elements old new weight kept room is = record {
    all = kept ∙ room.all;
    each = subst (All (λ (column : List F). length column ≡ length elements)) (sym is)
        (added-lanes k elements (columns_of old) (coefficients weight) room.each);
  }
