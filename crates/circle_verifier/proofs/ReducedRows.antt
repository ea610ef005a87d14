-- The claims of all batches, one after another, each with where the rows of its matrix stand.
use Rattle.std.specs.Prelude.{◌≡◌, ℕ, ◌+◌, ◌-◌, ◌<◌, ◌==◌, Bool, true, false, if◌then◌else◌, List}
use Rattle.std.specs.Prelude.{[], ◌∷◌, ◌++◌, length, map, flat_map, zip, All, slice_index_or}
use Rattle.std.specs.Prelude.{replicate}
use Rattle.std.proofs.Common.{zero, suc, refl, sym, ◌∙◌, ap, subst, take, drop, arith}
use Rattle.std.proofs.lemmas.List.{append_assoc, append-nil, length-map, get_or-map, map-append}
use Rattle.std.proofs.lemmas.List.{drop_more, take_all, take_more}
use Rattle.std.proofs.lemmas.List.Elements.{All-cons, All-head, All-map, All-nil, All-tail}
use Rattle.std.proofs.lemmas.List.Elements.{All-weaker}
use Rattle.std.proofs.lemmas.List.Concat.{flat_map_single}
use Rattle.std.proofs.lemmas.List.Folds.{flat_map-map}
use Rattle.std.proofs.lemmas.Simd.{map-map}
use Rattle.std.proofs.lemmas.Option.{slice_get-get_or}
use Rattle.std.proofs.lemmas.Grind.{flat_map-append}
use Rattle.circle_field.specs.Field.{FieldOps}
use Rattle.circle_field.specs.Circle.{Coordinates}
use Rattle.circle_point.specs.Projective.{from_line}
use Rattle.circle_folding.specs.Queries.{rows_of, IsApart}
use Rattle.circle_relation.specs.Statement.{PointClaim, MatrixClaim, BatchClaim, Opened}
use Rattle.circle_relation.specs.Statement.{all_matrices, log_height}
use Rattle.circle_relation.specs.Sums.{on_row, of_height, claims_at, all_claims_at, HasRowsOf}
use Rattle.circle_relation.specs.Sums.{AreApartFrom, AreApartAt}
use Rattle.circle_relation.specs.Taken.{point_taken}
use Rattle.circle_relation.proofs.Contradictions.{All-flat, All-part}
use Rattle.circle_verifier.specs.Rows.{Place, placed, all_placed, rows_claimed}

All-under : {S T : Type 0} (P : T → Type 0) (f : S → T) (xs : List S) → All P (map f xs) →
    All (λ x. P (f x)) xs
All-under P f xs all =
    λ i d lt. subst P (get_or-map f xs i d (f d) lt)
    (all i (f d) (omega (arith, lt, length-map xs f)))

-- all entries or none
all_or_none : {A B : Type 0} (b : Bool) (f : A → B) (xs : List A) →
    flat_map (λ x. if b then f x ∷ [] else []) xs ≡ (if b then map f xs else [])
all_or_none true f xs = flat_map_single f xs
all_or_none false f [] = refl
all_or_none false f (x ∷ xs) = all_or_none false f xs

-- a claim with the height of its matrix and this one's place
abbrev pub Claimed : Type 0 → Type 0 → Type 0
Claimed F E = PointClaim E × (ℕ × Place F)

-- at the query in place j: the row of a matrix
abbrev pub row_at : {F : Type 0} → ℕ → Place F → List F
row_at j p = slice_index_or (rows_of p.0 p.1) j []

module _ {F E : Type 0} where
  abbrev pub with_row : ℕ → MatrixClaim E × Place F → MatrixClaim E × List F
  with_row j m = (m.0, row_at j m.1)

  -- those claims whose matrices are of height 2^h, each with its row
  abbrev pub at_height : ℕ → List (Claimed F E) → ℕ → List (PointClaim E × List F)
  at_height h claims j =
      flat_map (λ c. if c.1.0 == h then (c.0, row_at j c.1.1) ∷ [] else []) claims

  -- there is such a row of each of n queries, as long as the claim
  abbrev pub Fits : ℕ → Claimed F E → Type 0
  Fits n c =
      (length c.1.1.1 ≡ n)
      × All (λ rows. (c.1.1.0 < length rows)
      × (length (slice_index_or rows c.1.1.0 []) ≡ length c.0.values)) c.1.1.1

  abbrev IsLong : MatrixClaim E × List F → Type 0
  IsLong p = All (λ c. length p.1 ≡ length c.values) p.0.claims

  -- if its matrix is of height 2^h, it is at none of these points
  abbrev pub IsFar : FieldOps E → (F → E) → ℕ → List (Coordinates F) → Claimed F E → Type 0
  IsFar l embed h points c = c.1.0 ≡ h → IsApart embed points (from_line l c.0.point)

  module _ (entries : List (List (List F))) where
    matrices-placed : (i : ℕ) (ms : List (MatrixClaim E)) → map (λ m. m.0) (placed entries i ms)
        ≡ ms
    matrices-placed i [] = refl
    matrices-placed i (m ∷ ms) = ap (λ ns. m ∷ ns) (matrices-placed (i + 1) ms)

    -- the rows of a batch at one query
    rows-placed : (j : ℕ) → j < length entries → (i : ℕ) (ms : List (MatrixClaim E)) →
        length (slice_index_or entries j []) ≡ i + length ms →
        map (with_row j) (placed entries i ms) ≡ zip ms (drop i (slice_index_or entries j []))
    rows-placed j lt i [] long = refl
    rows-placed j lt i (m ∷ ms) long =
        let rows = slice_index_or entries j [] in
        let there : i < length rows = omega (arith, long) in
        ap (λ r. (m, r) ∷ map (with_row j) (placed entries (i + 1) ms))
        (get_or-map (λ (rows : List (List F)). slice_index_or rows i []) entries j [] [] lt)
        ∙ ap (λ ps. (m, slice_index_or rows i []) ∷ ps)
        (rows-placed j lt (i + 1) ms (omega (arith, long)))
        ∙ sym (ap (zip (m ∷ ms)) (drop_more rows i [] there))

    -- they are as long as the claims
    fits-placed : (blowup i : ℕ) (ms : List (MatrixClaim E)) →
        All (λ rows. (length rows ≡ i + length ms) × All IsLong (zip ms (drop i rows))) entries →
        All (λ m. All (λ c. Fits (length entries) (c, (log_height blowup m.0, m.1))) m.0.claims)
        (placed entries i ms)
    fits-placed blowup i [] all = All-nil
        (λ m. All (λ c. Fits (length entries) (c, (log_height blowup m.0, m.1))) m.0.claims)
    fits-placed blowup i (m ∷ ms) all =
        let there : (j : ℕ) (d : List (List F)) → j < length entries →
        i < length (slice_index_or entries j d) =
        λ j d lt. let has = all j d lt in omega (arith, has.0) in
        let long : (j : ℕ) (d : List (List F)) → j < length entries →
        All IsLong ((m, slice_index_or (slice_index_or entries j d) i [])
        ∷ zip ms (drop (i + 1) (slice_index_or entries j d))) =
        λ j d lt. subst (λ rows. All IsLong (zip (m ∷ ms) rows))
        (drop_more (slice_index_or entries j d) i [] (there j d lt)) ((all j d lt).1) in
        All-cons
        (λ m. All (λ c. Fits (length entries) (c, (log_height blowup m.0, m.1))) m.0.claims)
        (m, (i, entries)) (placed entries (i + 1) ms)
        (λ k c inside. (
          refl,
          λ j d lt. (
            there j d lt,
            All-head IsLong (m, slice_index_or (slice_index_or entries j d) i [])
                (zip ms (drop (i + 1) (slice_index_or entries j d))) (long j d lt) k c inside,
          ),
        ))
        (fits-placed blowup (i + 1) ms (λ j d lt. (
          let has = all j d lt in omega (arith, has.0),
          All-tail IsLong (m, slice_index_or (slice_index_or entries j d) i [])
              (zip ms (drop (i + 1) (slice_index_or entries j d))) (long j d lt),
        )))

  module _ (blowup : ℕ) where
    -- each claim on such matrices
    abbrev pub claims_placed : List (MatrixClaim E × Place F) → List (Claimed F E)
    claims_placed ms =
        flat_map (λ m. map (λ c. (c, (log_height blowup m.0, m.1))) m.0.claims) ms

    abbrev Each : (Claimed F E → Type 0) → MatrixClaim E × Place F → Type 0
    Each P m = All (λ c. P (c, (log_height blowup m.0, m.1))) m.0.claims

    all-placed : (P : Claimed F E → Type 0) (ms : List (MatrixClaim E × Place F)) →
        All (Each P) ms → All P (claims_placed ms)
    all-placed P ms all =
        let each = λ (m : MatrixClaim E × Place F). map (λ c. (c, (log_height blowup m.0, m.1)))
        m.0.claims in
        All-flat P each ms
        (All-weaker (Each P) (λ m. All P (each m))
        (λ m. All-map P (λ c. (c, (log_height blowup m.0, m.1))) m.0.claims) ms all)

    -- the second entries are the places, and the first are the claims
    pub places-placed : (ms : List (MatrixClaim E × Place F)) →
        map (λ c. c.1) (claims_placed ms) ≡ rows_claimed blowup ms
    places-placed [] = refl
    places-placed (m ∷ ms) =
        let r : ℕ × Place F = (log_height blowup m.0, m.1) in
        map-append (λ (c : Claimed F E). c.1) (map (λ c. (c, r)) m.0.claims) (claims_placed ms)
        ∙ ap (λ rs. rs ++ map (λ c. c.1) (claims_placed ms)) (alike r m.0.claims)
        ∙ ap (λ rs. replicate (length m.0.claims) r ++ rs) (places-placed ms)
      where
        alike : (r : ℕ × Place F) (cs : List (PointClaim E)) →
            map (λ (c : Claimed F E). c.1) (map (λ c. (c, r)) cs) ≡ replicate (length cs) r
        alike r [] = refl
        alike r (c ∷ cs) = ap (λ rs. r ∷ rs) (alike r cs)

    pub taken-placed : (l : FieldOps E) (ms : List (MatrixClaim E × Place F)) →
        map (λ c. point_taken l c.0) (claims_placed ms)
        ≡ flat_map (λ m. map (point_taken l) m.claims) (map (λ m. m.0) ms)
    taken-placed l [] = refl
    taken-placed l (m ∷ ms) =
        let each : PointClaim E → Claimed F E = λ c. (c, (log_height blowup m.0, m.1)) in
        map-append (λ (c : Claimed F E). point_taken l c.0) (map each m.0.claims) (claims_placed ms)
        ∙ ap (λ cs. cs ++ map (λ c. point_taken l c.0) (claims_placed ms))
        (map-map (λ (c : Claimed F E). point_taken l c.0) each m.0.claims)
        ∙ ap (λ cs. map (point_taken l) m.0.claims ++ cs) (taken-placed l ms)

    -- at a query: those of one height, matrix by matrix
    at_height-placed : (h j : ℕ) (ms : List (MatrixClaim E × Place F)) →
        at_height h (claims_placed ms) j ≡ of_height blowup h (map (with_row j) ms)
    at_height-placed h j [] = refl
    at_height-placed h j (m ∷ ms) =
        let n = log_height blowup m.0 in
        let one : Claimed F E → List (PointClaim E × List F) =
        λ c. if c.1.0 == h then (c.0, row_at j c.1.1) ∷ [] else [] in
        let each : PointClaim E → Claimed F E = λ c. (c, (n, m.1)) in
        let here = if n == h then on_row (row_at j m.1) m.0.claims else [] in
        flat_map-append one (map each m.0.claims) (claims_placed ms)
        ∙ ap (λ cs. cs ++ at_height h (claims_placed ms) j)
        (flat_map-map one each m.0.claims
        ∙ all_or_none (n == h) (λ c. (c, row_at j m.1)) m.0.claims)
        ∙ ap (λ cs. here ++ cs) (at_height-placed h j ms)

    module _ {Com Proof : Type 0} where
      -- and batch by batch
      pub at_height-all : (h j : ℕ)
          (pairs : List (BatchClaim Com E × Opened (List (List F)) Proof)) →
          All (λ p. (j < length p.1.entries) × All (HasRowsOf p.0.matrices) p.1.entries) pairs →
          at_height h (claims_placed (all_placed pairs)) j ≡ all_claims_at blowup h pairs j
      at_height-all h j pairs all = at_height-placed h j (all_placed pairs) ∙ by_batch pairs all
        where
          Has : BatchClaim Com E × Opened (List (List F)) Proof → Type 0
          Has p = (j < length p.1.entries) × All (HasRowsOf p.0.matrices) p.1.entries

          by_batch : (ps : List (BatchClaim Com E × Opened (List (List F)) Proof)) → All Has ps →
              of_height blowup h (map (with_row j) (all_placed ps)) ≡ all_claims_at blowup h ps j
          by_batch [] all = refl
          by_batch (p ∷ ps) all =
              let has = All-head Has p ps all in
              let here = placed p.1.entries 0 p.0.matrices in
              let rows = has.1 j [] has.0 in
              ap (of_height blowup h) (map-append (with_row j) here (all_placed ps))
              ∙ flat_map-append
              (λ (p : MatrixClaim E × List F). if log_height blowup p.0 == h then
              on_row p.1 p.0.claims else []) (map (with_row j) here)
              (map (with_row j) (all_placed ps))
              ∙ ap (λ rs. of_height blowup h rs
              ++ of_height blowup h (map (with_row j) (all_placed ps)))
              (rows-placed p.1.entries j has.0 0 p.0.matrices (omega (arith, rows.0)))
              ∙ ap (λ cs. claims_at blowup h p.0.matrices p.1.entries j ++ cs)
              (by_batch ps (All-tail Has p ps all))

      pub fits-all : (n : ℕ) (pairs : List (BatchClaim Com E × Opened (List (List F)) Proof)) →
          All (λ p. (length p.1.entries ≡ n) × All (HasRowsOf p.0.matrices) p.1.entries) pairs →
          All (Fits n) (claims_placed (all_placed pairs))
      fits-all n pairs all =
          all-placed (Fits n) (all_placed pairs)
          (All-flat (Each (Fits n)) (λ p. placed p.1.entries 0 p.0.matrices) pairs
          (All-weaker (λ p. (length p.1.entries ≡ n) × All (HasRowsOf p.0.matrices) p.1.entries)
          (λ p. All (Each (Fits n)) (placed p.1.entries 0 p.0.matrices))
          (λ p has. subst (λ n. All (Each (Fits n)) (placed p.1.entries 0 p.0.matrices)) has.0
          (fits-placed p.1.entries blowup 0 p.0.matrices (λ j d lt. (
            let rows = has.1 j d lt in omega (arith, rows.0),
            (has.1 j d lt).1,
          )))) pairs all))

    module _ (l : FieldOps E) (embed : F → E) (h : ℕ) (points : List (Coordinates F)) where
      abbrev Far : Claimed F E → Type 0
      Far = IsFar l embed h points

      abbrev IsFarFrom : MatrixClaim E → Type 0
      IsFarFrom m = log_height blowup m ≡ h → AreApartFrom l embed points m.claims

      pub far-from-apart : (ms : List (MatrixClaim E × Place F)) →
          AreApartAt l embed blowup h points (map (λ m. m.0) ms) → All Far (claims_placed ms)
      far-from-apart ms apart =
          let each = All-under IsFarFrom (λ (m : MatrixClaim E × Place F). m.0) ms apart in
          all-placed Far ms (λ i d lt k c lt' same. each i d lt same k c lt')

      pub apart-from-far : (ms : List (MatrixClaim E × Place F)) → All Far (claims_placed ms) →
          AreApartAt l embed blowup h points (map (λ m. m.0) ms)
      apart-from-far ms all =
          let each : MatrixClaim E × Place F → PointClaim E → Claimed F E =
          λ m c. (c, (log_height blowup m.0, m.1)) in
          All-map IsFarFrom (λ m. m.0) ms (λ i d lt same k c lt'.
          let m = slice_index_or ms i d in
          All-under Far (each m) m.0.claims
          (All-part Far (λ m. map (each m) m.0.claims) ms i m all (slice_get-get_or ms i d lt)) k
          c lt' same)

  pub all_matrices-placed : {Com Proof : Type 0} (bs : List (BatchClaim Com E))
      (os : List (Opened (List (List F)) Proof)) → length os ≡ length bs →
      map (λ m. m.0) (all_placed (zip bs os)) ≡ all_matrices bs
  all_matrices-placed [] os long = refl
  all_matrices-placed (b ∷ bs) [] long = absurd (omega (arith, long))
  all_matrices-placed (b ∷ bs) (o ∷ os) long =
      map-append (λ (m : MatrixClaim E × Place F). m.0) (placed o.entries 0 b.matrices)
      (all_placed (zip bs os))
      ∙ ap (λ ms. ms ++ map (λ m. m.0) (all_placed (zip bs os)))
      (matrices-placed o.entries 0 b.matrices)
      ∙ ap (λ ms. b.matrices ++ ms) (all_matrices-placed bs os (omega (arith, long)))

map-replicate : {A B : Type 0} (f : A → B) (n : ℕ) (x : A) →
    map f (replicate n x) ≡ replicate n (f x)
map-replicate f zero x = refl
map-replicate f (suc n) x = ap (λ ys. f x ∷ ys) (map-replicate f n x)

-- one more matrix: for each claim on it its place was added
module _ {F E R : Type 0} (f : R → ℕ × Place F) (blowup : ℕ) where
  pub rows-more : (entries : List (List (List F))) (ms : List (MatrixClaim E)) (i : ℕ)
      (m : MatrixClaim E) (old new : List R) (v : R) (len n : ℕ) (all : List (ℕ × Place F)) →
      i < length ms → slice_index_or ms i m ≡ m → len ≡ length old → n ≡ len + length m.claims →
      new ≡ take n old ++ replicate (n - len) v → f v ≡ (log_height blowup m, (i, entries)) →
      map f old ++ rows_claimed blowup (placed entries i (drop i ms)) ≡ all →
      map f new ++ rows_claimed blowup (placed entries (i + 1) (drop (i + 1) ms)) ≡ all
  rows-more entries ms i m old new v len n all lt is of_old of_claims is_new place so_far =
      let rest = rows_claimed blowup (placed entries (i + 1) (drop (i + 1) ms)) in
      let r : ℕ × Place F = (log_height blowup m, (i, entries)) in
      let count = length m.claims in
      let left : n - len ≡ count = omega (arith, of_claims) in
      ap (λ rs. map f rs ++ rest)
      (is_new ∙ ap (λ rs. rs ++ replicate (n - len) v)
      (take_all n old (omega (arith, of_old, of_claims)))
      ∙ ap (λ k. old ++ replicate k v) left)
      ∙ ap (λ rs. rs ++ rest) (map-append f old (replicate count v)
      ∙ ap (λ rs. map f old ++ rs) (map-replicate f count v ∙ ap (replicate count) place))
      ∙ append_assoc (map f old) (replicate count r) rest
      ∙ ap (λ rs. map f old ++ rs) (sym
      (ap (λ ns. rows_claimed blowup (placed entries i ns))
      (drop_more ms i m lt ∙ ap (λ x. x ∷ drop (i + 1) ms) is)))
      ∙ so_far

-- and those of one more batch
pub all_rows-more : {F E Com Proof : Type 0} (blowup : ℕ)
    (pairs : List (BatchClaim Com E × Opened (List (List F)) Proof)) (n : ℕ)
    (p : BatchClaim Com E × Opened (List (List F)) Proof) →
    n < length pairs → slice_index_or pairs n p ≡ p →
    rows_claimed blowup (all_placed (take n pairs))
    ++ rows_claimed blowup (placed p.1.entries 0 p.0.matrices)
    ≡ rows_claimed blowup (all_placed (take (n + 1) pairs))
all_rows-more {F} {E} {Com} {Proof} blowup pairs n p lt is =
    let one : MatrixClaim E × Place F → List (ℕ × Place F) =
    λ m. replicate (length m.0.claims) (log_height blowup m.0, m.1) in
    let each : BatchClaim Com E × Opened (List (List F)) Proof → List (MatrixClaim E × Place F) =
    λ p. placed p.1.entries 0 p.0.matrices in
    sym (ap (λ ps. rows_claimed blowup (all_placed ps))
    (take_more pairs n p lt ∙ ap (λ x. take n pairs ++ x ∷ []) is)
    ∙ ap (rows_claimed blowup) (flat_map-append each (take n pairs) (p ∷ []))
    ∙ flat_map-append one (all_placed (take n pairs)) (all_placed (p ∷ []))
    ∙ ap (λ ms. rows_claimed blowup (all_placed (take n pairs)) ++ rows_claimed blowup ms)
    (append-nil (each p)))
