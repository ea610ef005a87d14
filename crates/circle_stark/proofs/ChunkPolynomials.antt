-- The polynomials of a quotient's chunks, where those of their base coefficients are known.
use Rattle.std.specs.Prelude.{◌≡◌, ℕ, ◌+◌, ◌/◌, ◌^◌, ◌<◌, ◌≤◌, List, [], length, map, take}
use Rattle.std.specs.Prelude.{All, Some, slice_get, slice_index_or}
use Rattle.std.specs.List.{range_with_len}
use Rattle.std.proofs.Common.{sym, ◌∙◌, ap, refl, subst, arith, pow-add}
use Rattle.std.proofs.Math.Nat.{mul-div_cancel}
use Rattle.std.proofs.Math.Pow.{pow-lt}
use Rattle.std.proofs.lemmas.List.{length-map, get_or-map, get_or-take, length-take-le}
use Rattle.std.proofs.lemmas.List.{get_or_default}
use Rattle.std.proofs.lemmas.List.Elements.{All-map}
use Rattle.std.proofs.lemmas.List.FromFn.{get_or-map-range_with_len}
use Rattle.std.proofs.lemmas.Nat.{pow_pos}
use Rattle.std.proofs.lemmas.Option.{get_or_from_slice_get, slice_get-get_or, slice_get_within}
use Rattle.circle_field.specs.Extension.{AreCoefficients}
use Rattle.circle_field.specs.Field.{FieldOps, FieldLaws, IsEmbedding}
use Rattle.circle_field.specs.Circle.{Coordinates, AreGenerators, lifted, plus, times}
use Rattle.circle_point.specs.Basis.{value, circle_basis}
use Rattle.circle_commit.specs.DotProduct.{dot}
use Rattle.circle_commit.specs.Matrix.{column, mapped_rows}
use Rattle.circle_commit.proofs.ColumnSums.{map-agree}
use Rattle.circle_domain.specs.Order.{natural_order}
use Rattle.circle_domain.specs.Splitting.{part_of, place_in, place_of, split_rows}
use Rattle.circle_domain.specs.Values.{values_at, lifted_values_at}
use Rattle.circle_domain.proofs.LiftedValues.{lifted-value}
use Rattle.circle_domain.proofs.PartLists.{length-natural_order}
use Rattle.circle_domain.proofs.PartPlaces.{part_of-below, place_of-place_in}
use Rattle.circle_domain.proofs.PartRows.{point_goes}
use Rattle.circle_domain.proofs.Twiddles.{map-map}
use Rattle.circle_domain.proofs.Walking.{standard-point}
use Rattle.circle_quotient.specs.Basis.{AreBasis}
use Rattle.circle_quotient.proofs.PartSizes.{part_room}
use Rattle.circle_stark.proofs.BasisSums.{element-sum, weighted-rows}

-- for each part of the quotient's domain 2^n rows of coefficients, whose polynomials have as values
-- on the part the rows of base coefficients of the quotient's values there
abbrev pub AreBaseChunksOf : {F E : Type 0} → FieldOps F → (ℕ → Coordinates F) → ℕ → ℕ → ℕ →
    (E → List F) → List E → List (List (List F)) → Type 0
AreBaseChunksOf k gen n kk degree coefficients values chunks =
    let points = natural_order k gen (n + kk) (gen (n + kk + 1)) in
    (j : ℕ) (s : Coordinates _) → slice_get (take (2 ^ kk) points) j ≡ Some s →
    let c = slice_index_or chunks j [] in
    (length c ≡ 2 ^ n) × All (λ row. length row ≡ degree) c
    × (map (values_at k c degree) (natural_order k gen n s)
    ≡ slice_index_or (split_rows (2 ^ kk) (2 ^ (n + kk)) (map coefficients values)) j [])

-- the elements of which rows are the base coefficients, by the basis
abbrev pub elements_of : {F E : Type 0} → FieldOps E → (F → E) → List E → List (List F) → List E
elements_of l m basis rows = map (λ row. dot l basis (map m row)) rows

module _ {F E : Type 0} {k : FieldOps F} {l : FieldOps E} {m : F → E} (base : FieldLaws k)
    (big : FieldLaws l) (e : IsEmbedding k l m) {degree : ℕ} {coefficients : E → List F}
    (are : AreCoefficients k l m degree coefficients) {basis : List E}
    (of_basis : AreBasis k coefficients degree basis) where
  -- their polynomial is put together from those of the columns
  pub elements-value : (c : List (List F)) → All (λ row. length row ≡ degree) c →
      (q : Coordinates E) →
      value l (elements_of l m basis c) q ≡ dot l basis (lifted_values_at k.zero l m c degree q)
  elements-value c wide q =
      weighted-rows big.ring m k.zero basis (λ j. circle_basis l j q) 0 degree c wide

  -- at a point of the base field it has the value with these base coefficients
  elements-there : (c : List (List F)) → All (λ row. length row ≡ degree) c → (s : Coordinates F)
      (v : E) → values_at k c degree s ≡ coefficients v →
      value l (elements_of l m basis c) (lifted m s) ≡ v
  elements-there c wide s v same =
      let js = range_with_len 0 degree in
      let there = λ (j : ℕ). value k (column k.zero c j) s in
      elements-value c wide (lifted m s)
      ∙ ap (dot l basis) (sym (map-map m there js
      ∙ map-agree (λ j. m (there j)) (λ j. value l (map m (column k.zero c j)) (lifted m s)) js
      (λ i d lt. lifted-value e (column k.zero c (slice_index_or js i d)) s)))
      ∙ ap (λ xs. dot l basis (map m xs)) same ∙ element-sum base big e are of_basis v

  module _ {gen : ℕ → Coordinates F} {bits : ℕ} (gens : AreGenerators k bits gen) (n kk : ℕ)
      (positive : 1 ≤ n) (fits : n + kk < bits) (values : List E)
      (long : length values ≡ 2 ^ (n + kk)) (chunks : List (List (List F)))
      (count : length chunks ≡ 2 ^ kk)
      (of_values : AreBaseChunksOf k gen n kk degree coefficients values chunks) where
    abbrev total : ℕ
    total = n + kk

    abbrev parts : ℕ
    parts = 2 ^ kk

    abbrev natural : List (Coordinates F)
    natural = natural_order k gen total (gen (total + 1))

    -- the first point of a part
    abbrev first : ℕ → Coordinates F
    first j = plus k (gen (total + 1)) (times k j (gen total))

    -- there are fewer parts than points
    parts_less : parts < 2 ^ total
    parts_less = pow-lt (omega (arith, positive))

    -- it is among the points of the quotient's domain
    first-point : (j : ℕ) → j < parts → slice_get natural j ≡ Some (first j)
    first-point j lt =
        standard-point base.ring gens total (omega (arith, positive)) fits j
        (omega (arith, lt, parts_less))

    -- and among the first ones
    first-taken : (j : ℕ) → j < parts → slice_get (take parts natural) j ≡ Some (first j)
    first-taken j lt =
        let some : 1 ≤ total = omega (arith, positive) in
        let s = first j in
        let taken : length (take parts natural) ≡ parts =
        length-take-le parts natural
        (omega (arith, parts_less, length-natural_order k gen total (gen (total + 1)) some)) in
        slice_get-get_or (take parts natural) j s (omega (arith, lt, taken))
        ∙ ap Some (get_or-take parts natural j s lt
        ∙ get_or_from_slice_get natural j s s (first-point j lt))

    -- the rows of a part
    part-row : (j r : ℕ) → j < parts → r < 2 ^ n →
        slice_index_or
        (slice_index_or (split_rows parts (2 ^ total) (map coefficients values)) j []) r []
        ≡ slice_index_or (map coefficients values) (place_of parts j r) []
    part-row j r lj lr =
        let all = map coefficients values in
        let height : 2 ^ total / parts ≡ 2 ^ n =
        ap (λ t. t / parts) (pow-add 2 n kk) ∙ mul-div_cancel (2 ^ n) (pow_pos kk) in
        let row = λ (t : ℕ). slice_index_or all (place_of parts j t) [] in
        ap (λ xs. slice_index_or xs r [])
        (get_or-map-range_with_len (λ t. mapped_rows (place_of parts t) (2 ^ total / parts) all) 0
        parts j j [] lj (omega arith))
        ∙ ap (λ h. slice_index_or (map row (range_with_len 0 h)) r []) height
        ∙ get_or-map-range_with_len row 0 (2 ^ n) r r [] lr (omega arith)

    -- at each point of the quotient's domain the polynomial of the point's part has the value there
    pub chunk-there : (i : ℕ) (s : Coordinates F) → slice_get natural i ≡ Some s →
        slice_get values i
        ≡ Some (value l (slice_index_or (map (elements_of l m basis) chunks) (part_of parts i) [])
        (lifted m s))
    chunk-there i s here =
        let some : 1 ≤ total = omega (arith, positive) in
        let j = part_of parts i in
        let r = place_in parts i in
        let t = first j in
        let c = slice_index_or chunks j [] in
        let lj : j < parts = part_of-below parts i (pow_pos kk) in
        let li : i < length values =
        omega (
          arith,
          long,
          slice_get_within natural i s here,
          length-natural_order k gen total (gen (total + 1)) some,
        ) in
        let of_part = of_values j t (first-taken j lj) in
        let part = natural_order k gen n t in
        let there : slice_get part r ≡ Some s =
        point_goes base gens parts total (gen (total + 1)) (kk, refl) (part_room n kk positive)
        (fits, refl) i n s t (sym (pow-add 2 n kk)) here (first-point j lj) in
        let lr : r < length part = slice_get_within part r s there in
        let v = slice_index_or values i l.zero in
        let own : values_at k c degree s ≡ coefficients v =
        sym (get_or-map (values_at k c degree) part r s [] lr
        ∙ ap (values_at k c degree) (get_or_from_slice_get part r s s there))
        ∙ ap (λ xs. slice_index_or xs r []) of_part.2
        ∙ part-row j r lj (omega (arith, lr, length-natural_order k gen n t positive))
        ∙ ap (λ p. slice_index_or (map coefficients values) p [])
        (place_of-place_in parts i (pow_pos kk))
        ∙ get_or-map coefficients values i l.zero [] li in
        slice_get-get_or values i l.zero li
        ∙ ap Some
        (sym (ap (λ p. value l p (lifted m s))
        (get_or-map (elements_of l m basis) chunks j [] [] (omega (arith, lj, count)))
        ∙ elements-there c of_part.1 s v own))

    -- as many coefficients as the trace has rows
    pub chunk-counts : All (λ c. length c ≡ 2 ^ n) (map (elements_of l m basis) chunks)
    chunk-counts =
        All-map (λ c. length c ≡ 2 ^ n) (elements_of l m basis) chunks
        (λ j d lt.
        let lj : j < parts = omega (arith, lt, count) in
        length-map (slice_index_or chunks j d) (λ row. dot l basis (map m row))
        ∙ ap length (get_or_default chunks j d [] lt)
        ∙ (of_values j (first j) (first-taken j lj)).0)

    -- their values at q
    pub chunk-values : (q : Coordinates E) →
        map (λ c. value l c q) (map (elements_of l m basis) chunks)
        ≡ map (dot l basis) (map (λ c. lifted_values_at k.zero l m c degree q) chunks)
    chunk-values q =
        let opened = λ (c : List (List F)). lifted_values_at k.zero l m c degree q in
        map-map (λ c. value l c q) (elements_of l m basis) chunks
        ∙ map-agree (λ c. value l (elements_of l m basis c) q) (λ c. dot l basis (opened c)) chunks
        (λ j d lt.
        let lj : j < parts = omega (arith, lt, count) in
        let c = slice_index_or chunks j d in
        elements-value c
        (subst (λ rows. All (λ row. length row ≡ degree) rows) (get_or_default chunks j [] d lt)
        (of_values j (first j) (first-taken j lj)).1) q)
        ∙ sym (map-map (dot l basis) opened chunks)
