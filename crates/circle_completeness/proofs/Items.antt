-- Matrices that are opened at points, with what is claimed of them there and their rows at a query.
use Rattle.std.specs.Prelude.{◌≡◌, ℕ, ◌-◌, ◌/◌, ◌^◌, ◌<◌, ◌≤◌, ◌==◌, if◌then◌else◌, List, [], ◌∷◌}
use Rattle.std.specs.Prelude.{length, map, zip, All, slice_index_or}
use Rattle.std.specs.List.{AllByRecursion, AllZip}
use Rattle.std.proofs.Common.{refl, sym, ◌∙◌, ap, arith}
use Rattle.std.proofs.lemmas.Bool.{eqb-true}
use Rattle.std.proofs.lemmas.List.{length-map}
use Rattle.std.proofs.lemmas.List.Elements.{All-from_recursion, All-map, recursion_from_All}
use Rattle.circle_commit.specs.DotProduct.{pairwise}
use Rattle.circle_commit.specs.Mmcs.{dimensions_of, greatest, max_height, row_at, rows_at}
use Rattle.circle_commit.specs.RowMajorMatrix.{height_of, length-rows, rows, rows-width, width_of}
use Rattle.circle_commit.specs.declared.matrix.Dimensions.{Dimensions}
use Rattle.circle_commit.specs.declared.matrix.RowMajorMatrix.{RowMajorMatrix}
use Rattle.circle_domain.proofs.Powers.{pow_injective}
use Rattle.circle_domain.proofs.Twiddles.{map-map}
use Rattle.circle_domain.specs.Selectors.{IsFinite}
use Rattle.circle_relation.specs.Accepts.{Fields}
use Rattle.circle_relation.specs.Statement.{MatrixClaim, PointClaim, log_height, log_max_height}
use Rattle.circle_codewords.specs.Values.{IsOffDomain}
use Rattle.circle_codewords.specs.Words.{Committed, claim_of, claims_on}
use Rattle.circle_codewords.specs.Requests.{AreHeights, AreValuesOf, IsOpenable, batch_committed}
use Rattle.circle_codewords.specs.Requests.{claimed, committed, log_of}
use Rattle.circle_prover.proofs.Answered.{batch-heights}
use Rattle.circle_prover.proofs.Held.{heights-listed}
use Rattle.circle_completeness.proofs.ReadRows.{HasReadRows}
use Rattle.circle_completeness.proofs.Lists.{greatest-power, if-same, row-below, row-place}
use Rattle.circle_completeness.proofs.Lists.{zip-maps}

module _ {E : Type 0} where
  -- the first of some values has as many columns as each
  first-width : (points : List E) (values : List (List E)) (width : ℕ) →
      1 ≤ length (pairwise claim_of points values) → All (λ v. length v ≡ width) values →
      length (slice_index_or (map (λ c. c.values) (pairwise claim_of points values)) 0 []) ≡ width
  first-width [] values width some widths = absurd (omega (arith, some))
  first-width (t ∷ points) [] width some widths = absurd (omega (arith, some))
  first-width (t ∷ points) (v ∷ values) width some widths = widths 0 v (omega arith)

  -- what holds of all values holds of those of claims
  claims-long : (n : ℕ) (points : List E) (values : List (List E)) →
      AllByRecursion (λ v. n ≡ length v) values →
      AllByRecursion (λ c. n ≡ length c.values) (pairwise claim_of points values)
  claims-long n [] values known = tt
  claims-long n (t ∷ points) [] known = tt
  claims-long n (t ∷ points) (v ∷ values) known = (known.0, claims-long n points values known.1)

  -- and of all points, of those
  claims-there : (P : E → Type 0) (points : List E) (values : List (List E)) →
      AllByRecursion P points → AllByRecursion (λ c. P c.point) (pairwise claim_of points values)
  claims-there P [] values known = tt
  claims-there P (t ∷ points) [] known = tt
  claims-there P (t ∷ points) (v ∷ values) known = (known.0, claims-there P points values known.1)

module _ {F E : Type 0} (k : Fields F E) (bits blowup top : ℕ) where
  -- a matrix of at most 2^top rows that can be opened at points, of which there is one, and values
  -- there
  pub record Item : Type 0 where
    pub matrix : RowMajorMatrix F
    pub points : List E
    pub values : List (List E)
    pub openable : IsOpenable k bits blowup matrix points
    pub widths : All (λ v. length v ≡ width_of matrix) values
    pub opened : 1 ≤ length (pairwise claim_of points values)
    pub low : log_of (height_of matrix) ≤ top
    pub read : HasReadRows k blowup matrix

  abbrev pub matrices_of : List Item → List (RowMajorMatrix F)
  matrices_of items = map (λ i. i.matrix) items

  -- as it is committed and as it is claimed, and the logarithm of its height
  abbrev pub committed_of : Item → Committed F E
  committed_of i = committed k blowup i.matrix i.points i.values

  abbrev pub claimed_of : Item → MatrixClaim E
  claimed_of i = claimed blowup (committed_of i)

  abbrev pub order : Item → ℕ
  order i = log_of (height_of i.matrix)

  -- the matrices of a request
  pub items-of : (ms : List (RowMajorMatrix F)) (points : List (List E))
      (values : List (List (List E))) → AllZip (IsOpenable k bits blowup) ms points →
      AllZip (λ m rest. AreValuesOf k blowup m rest.0 rest.1) ms (zip points values) →
      AllByRecursion (λ c. 1 ≤ length c.claims) (batch_committed k blowup ms points values) →
      AllByRecursion (λ m. log_of (height_of m) ≤ top) ms →
      AllByRecursion (HasReadRows k blowup) ms →
      (items : List Item) × (ms ≡ matrices_of items)
      × (batch_committed k blowup ms points values ≡ map committed_of items)
  items-of [] points values openable are opened low read = ([], refl, refl)
  items-of (m ∷ ms) [] values openable are opened low read = absurd openable
  items-of (m ∷ ms) (t ∷ points) [] openable are opened low read = absurd are
  items-of (m ∷ ms) (t ∷ points) (v ∷ values) openable are opened low read =
      let one : Item =
      record {
        matrix = m;
        points = t;
        values = v;
        openable = openable.0;
        widths = are.0.widths;
        opened = opened.0;
        low = low.0;
        read = read.0;
      } in
      let rest = items-of ms points values openable.1 are.1 opened.1 low.1 read.1 in
      (one ∷ rest.0, ap (λ l. m ∷ l) rest.1, ap (λ l. committed k blowup m t v ∷ l) rest.2)

  -- it is claimed with its height
  claimed-height : (i : Item) → log_height blowup (claimed_of i) ≡ order i
  claimed-height i = let below = i.openable.blowup in omega (arith, below)

  claimed-heights : (items : List Item) → map (log_height blowup) (map claimed_of items)
      ≡ map order items
  claimed-heights [] = refl
  claimed-heights (i ∷ items) =
      ap (λ n. n ∷ map (log_height blowup) (map claimed_of items)) (claimed-height i)
      ∙ ap (λ l. order i ∷ l) (claimed-heights items)

  powers-listed : (items : List Item) → map height_of (matrices_of items)
      ≡ map (λ h. 2 ^ h) (map order items)
  powers-listed [] = refl
  powers-listed (i ∷ items) = ap (λ n. n ∷ map height_of (matrices_of items)) i.openable.power
      ∙ ap (λ l. 2 ^ order i ∷ l) (powers-listed items)

  orders-low : (items : List Item) (high : ℕ) → greatest (map order items) ≤ high →
      AllByRecursion (λ i. order i ≤ high) items
  orders-low [] high le = tt
  orders-low (i ∷ items) high le =
      let here : order i ≤ high = omega (arith, le) in
      let rest : greatest (map order items) ≤ high = omega (arith, le) in
      (here, orders-low items high rest)

  -- the shape of a matrix as the verifier takes it from claims
  abbrev shape : MatrixClaim E → Dimensions
  shape m = record {
    width = length (slice_index_or (map (λ c. c.values) m.claims) 0 []);
    height = 2 ^ log_height blowup m;
  }

  abbrev sized : ℕ → ℕ → Dimensions
  sized w h = record { width = w; height = h }

  shape-is : (i : Item) → shape (claimed_of i) ≡ sized (width_of i.matrix) (height_of i.matrix)
  shape-is i =
      ap (λ w. sized w (2 ^ log_height blowup (claimed_of i)))
      (first-width i.points i.values (width_of i.matrix) i.opened i.widths)
      ∙ ap (sized (width_of i.matrix)) (ap (λ n. 2 ^ n) (claimed-height i) ∙ sym i.openable.power)

  -- those of all are the matrices' shapes
  pub shapes-are : (items : List Item) → map shape (map claimed_of items)
      ≡ dimensions_of (matrices_of items)
  shapes-are [] = refl
  shapes-are (i ∷ items) = ap (λ d. d ∷ map shape (map claimed_of items)) (shape-is i)
      ∙ ap (λ l. sized (width_of i.matrix) (height_of i.matrix) ∷ l) (shapes-are items)

  -- its row at a place below the greatest height
  abbrev pub row_in : ℕ → ℕ → Item → List F
  row_in most place i = slice_index_or (rows i.matrix) (row_at most (height_of i.matrix) place) []

  module _ (items : List Item) (some : 1 ≤ length items) where
    -- the logarithm of the greatest height
    abbrev pub highest : ℕ
    highest = log_of (max_height (matrices_of items))

    pub heights-fit : AreHeights top (matrices_of items)
    heights-fit =
        batch-heights top (matrices_of items)
        (omega (arith, some, length-map items (λ (i : Item). i.matrix)))
        (All-map (λ m. height_of m ≡ 2 ^ log_of (height_of m)) (λ (i : Item). i.matrix) items
        (λ n d lt. (slice_index_or items n d).openable.power))
        (All-map (λ m. log_of (height_of m) ≤ top) (λ (i : Item). i.matrix) items
        (λ n d lt. (slice_index_or items n d).low))

    highest-is : highest ≡ greatest (map order items)
    highest-is =
        let long : 1 ≤ length (map order items) = omega (arith, some, length-map items order) in
        pow_injective highest (greatest (map order items))
        (sym heights-fit.power
        ∙ ap greatest (heights-listed (matrices_of items) ∙ powers-listed items)
        ∙ greatest-power (map order items) long)

    -- is that of the claims
    pub highest-claimed : log_max_height blowup (map claimed_of items) ≡ highest
    highest-claimed = ap greatest (claimed-heights items) ∙ sym highest-is

    -- and no matrix is higher
    pub items-low : AllByRecursion (λ i. order i ≤ highest) items
    items-low = orders-low items highest (omega (arith, highest-is))

  -- the rows of all of them at a place
  pub rows-are : (items : List Item) (place : ℕ) → rows_at (matrices_of items) place
      ≡ map (row_in (max_height (matrices_of items)) place) items
  rows-are items place =
      map-map
      (λ m. slice_index_or (rows m)
      (row_at (max_height (matrices_of items)) (height_of m) place) []) (λ (i : Item). i.matrix)
      items

  -- beside the claims
  pub rows-beside : (items : List Item) (place : ℕ) →
      zip (map claimed_of items) (rows_at (matrices_of items) place)
      ≡ map (λ i. (claimed_of i, row_in (max_height (matrices_of items)) place i)) items
  rows-beside items place = ap (zip (map claimed_of items)) (rows-are items place)
      ∙ zip-maps claimed_of (row_in (max_height (matrices_of items)) place) items

  module _ (i : Item) (high most : ℕ) (is_most : most ≡ 2 ^ high) (le : order i ≤ high) where
    -- a row is as long as each claim
    pub row-long : (place : ℕ) → place < 2 ^ high →
        All (λ c. length (row_in most place i) ≡ length c.values) (claimed_of i).claims
    row-long place lt =
        let row = row_in most place i in
        let below = row-below high (order i) most (height_of i.matrix) is_most i.openable.power le
        place lt in
        let long : length row ≡ width_of i.matrix =
        rows-width i.matrix (row_at most (height_of i.matrix) place) []
        (omega (arith, below, length-rows i.matrix)) in
        All-from_recursion (λ (c : PointClaim E). length row ≡ length c.values)
        (pairwise claim_of i.points i.values)
        (claims-long (length row) i.points i.values
        (recursion_from_All (λ (v : List E). length row ≡ length v) i.values
        (λ n d inside. long ∙ sym (i.widths n d inside))))

    -- the claims of a height with the row of a query are those with the matrix's row there
    pub claims-read : (h q : ℕ) → high ≤ top →
        (if log_height blowup (claimed_of i) ==
        h then map (λ c. (c, row_in most (q / 2 ^ (top - high)) i)) (claimed_of i).claims else
        [])
        ≡ (if (committed_of i).log_height ==
        h then claims_on (committed_of i) (q / 2 ^ (top - h)) else [])
    claims-read h q within =
        let claims = (claimed_of i).claims in
        let row = row_in most (q / 2 ^ (top - high)) i in
        let with_row : List F → List (PointClaim E × List F) = λ x. map (λ c. (c, x)) claims in
        ap (λ n. if n == h then with_row row else []) (claimed-height i)
        ∙ if-same (order i == h) (with_row row) (claims_on (committed_of i) (q / 2 ^ (top - h))) []
        (λ yes.
        ap (λ n. with_row (slice_index_or (rows i.matrix) n []))
        (row-place high (order i) most (height_of i.matrix) is_most i.openable.power le q top within
        ∙ ap (λ n. q / 2 ^ (top - n)) (eqb-true (order i) h yes))
        ∙ ap (λ rs. with_row (slice_index_or rs (q / 2 ^ (top - h)) [])) (sym i.read))

  -- the domain of a matrix's height is clear of the points that it is opened at
  pub record IsAway (c : Committed F E) : Type 0 where
    pub above : blowup < c.log_height
    pub in_group : c.log_height < bits
    pub low : c.log_height ≤ top
    pub finite : All (λ x. IsFinite k.extension x.point) c.claims
    pub off : All (λ x. IsOffDomain k c.log_height x.point) c.claims

  pub item-away : (i : Item) → IsAway (committed_of i)
  item-away i = record {
    above = i.openable.blowup;
    in_group = i.openable.in_group;
    low = i.low;
    finite =
        All-from_recursion (λ (x : PointClaim E). IsFinite k.extension x.point)
        (pairwise claim_of i.points i.values)
        (claims-there (IsFinite k.extension) i.points i.values
        (recursion_from_All (IsFinite k.extension) i.points i.openable.off.0));
    off =
        All-from_recursion (λ (x : PointClaim E). IsOffDomain k (order i) x.point)
        (pairwise claim_of i.points i.values)
        (claims-there (IsOffDomain k (order i)) i.points i.values
        (recursion_from_All (IsOffDomain k (order i)) i.points i.openable.off.1));
  }
