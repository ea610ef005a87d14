-- The rows of a matrix that go to the parts.
use Rattle.std.specs.Prelude.{◌≡◌, ℕ, ◌+◌, ◌-◌, ◌*◌, ◌/◌, ◌^◌, ◌<◌, ◌≤◌, List, [], Some, IfSome}
use Rattle.std.specs.Prelude.{length, map, slice_get, slice_index_or}
use Rattle.std.specs.List.{range_with_len}
use Rattle.std.proofs.Common.{suc, sym, ◌∙◌, ap, arith}
use Rattle.std.proofs.Math.Nat.{pow-suc}
use Rattle.std.proofs.lemmas.Nat.{pow-add}
use Rattle.std.proofs.Math.ListN.{get_or-map}
use Rattle.std.proofs.lemmas.List.FromFn.{get_or-map-range_with_len}
use Rattle.std.proofs.lemmas.Option.{slice_get_within, slice_get-get_or, get_or_from_slice_get}
use Rattle.circle_field.specs.Field.{FieldOps, FieldLaws}
use Rattle.circle_field.specs.Circle.{Coordinates, AreGenerators, plus, times}
use Rattle.circle_commit.specs.Matrix.{mapped_rows, IsPowerOfTwo}
use Rattle.circle_commit.specs.RowFacts.{mapped_rows-row}
use Rattle.circle_commit.specs.RowMajorMatrix.{rows, width_of, height_of, length-rows, rows-width}
use Rattle.circle_commit.specs.declared.matrix.RowMajorMatrix.{RowMajorMatrix}
use Rattle.circle_domain.specs.Splitting.{part_of, place_in, place_of}
use Rattle.circle_domain.specs.Order.{natural_order}
use Rattle.circle_domain.specs.Selectors.{IsStandard}
use Rattle.circle_domain.proofs.PartLists.{if_some_at, length-natural_order, parts_room, part_sizes}
use Rattle.circle_domain.proofs.Parts.{part-at}
use Rattle.circle_domain.proofs.Powers.{pow_injective}
use Rattle.circle_domain.proofs.Walking.{standard-at}
use Rattle.circle_domain.proofs.PartPlaces.{place_of-below, part_height, part_of-below}
use Rattle.circle_domain.proofs.PartPlaces.{place_in-below, place_of-place_in}

-- the rows of a part are as wide as those of the whole
pub wide_rows : {T : Type 0} (evals : RowMajorMatrix T) (c j : ℕ) → j < c →
    (m : ℕ) × (height_of evals ≡ m * (2 * c)) →
    (i : ℕ) → i < 0 + height_of evals / c → length (slice_index_or (rows evals) (place_of c j i) [])
    ≡ width_of evals
wide_rows evals c j h whole = λ i lt.
    let tall = part_height c whole.0 (height_of evals) (omega (arith, h)) whole.1 in
    let below = place_of-below c j i whole.0 h (omega (arith, lt, tall)) in
    rows-width evals (place_of c j i) [] (omega (arith, below, whole.1, length-rows evals))

-- row i of the whole stands at its place in its part
pub rows_go : {T D : Type 0} (rows_of : D → List (List T)) (parts : List D) (all : List (List T))
    (c m : ℕ) → 1 ≤ c → length all ≡ m * (2 * c) →
    map rows_of parts ≡ map (λ j. mapped_rows (place_of c j) (m * 2) all) (range_with_len 0 c) →
    (i : ℕ) → i < m * (2 * c) →
    IfSome (slice_get parts (part_of c i)) (λ part. slice_get (rows_of part) (place_in c i)
    ≡ slice_get all i)
rows_go rows_of parts all c m some long matched i lt =
    let j = part_of c i in
    let f = λ (j : ℕ). mapped_rows (place_of c j) (m * 2) all in
    let below = part_of-below c i some in
    if_some_at parts j (λ part. slice_get (rows_of part) (place_in c i) ≡ slice_get all i)
    (λ part within here.
    let is : rows_of part ≡ f j =
    ap rows_of (sym (get_or_from_slice_get parts j part part here))
    ∙ sym (get_or-map rows_of parts j part)
    ∙ ap (λ xs. slice_index_or xs j (rows_of part)) matched
    ∙ get_or-map-range_with_len f 0 c j j (rows_of part) below (omega arith) in
    let row = slice_index_or all i [] in
    let read : slice_get all i ≡ Some row = slice_get-get_or all i [] (omega (arith, long, lt)) in
    ap (λ xs. slice_get xs (place_in c i)) is
    ∙ mapped_rows-row (place_of c j) (m * 2) (place_in c i) all row (place_in-below c i m some lt)
    (ap (slice_get all) (place_of-place_in c i some) ∙ read)
    ∙ sym read)

-- 2^n rows fill the parts
pub whole_parts : (c n : ℕ) → IsPowerOfTwo c → 2 * c ≤ 2 ^ n → (m : ℕ) × (2 ^ n ≡ m * (2 * c))
whole_parts c n power room =
    let b = power.0 in
    let less = parts_room b n c (sym power.1) room in
    let e : n - b ≡ suc (n - b - 1) = omega (arith, less) in
    let twice : 2 ^ (n - b) ≡ 2 ^ (n - b - 1) * 2 = ap (λ m. 2 ^ m) e ∙ pow-suc 2 (n - b - 1) in (
      2 ^ (n - b - 1),
      sym (ap (λ m. m * c) (sym twice) ∙ part_sizes b n c (sym power.1) room)
          ∙ omega arith,
    )

module _ {F : Type 0} {k : FieldOps F} (laws : FieldLaws k) {gen : ℕ → Coordinates F} {bits : ℕ}
    (gens : AreGenerators k bits gen) where
  -- a point of the whole stands at its place in the part of its shift
  pub point_goes : (c n : ℕ) (s : Coordinates F) → IsPowerOfTwo c → 2 * c ≤ 2 ^ n →
      IsStandard bits gen n s → (i m : ℕ) (p t : Coordinates F) → 2 ^ m * c ≡ 2 ^ n →
      slice_get (natural_order k gen n s) i ≡ Some p →
      slice_get (natural_order k gen n s) (part_of c i) ≡ Some t →
      slice_get (natural_order k gen m t) (place_in c i) ≡ Some p
  point_goes c n s power room standard i m p t sizes here first =
      let b = power.0 in
      let is = power.1 in
      let less = parts_room b n c (sym is) room in
      let positive : 1 ≤ n = omega (arith, less) in
      let within : i < 2 ^ n =
      omega (
        arith,
        slice_get_within (natural_order k gen n s) i p here,
        length-natural_order k gen n s positive,
      ) in
      let size : m + b ≡ n =
      pow_injective (m + b) n (pow-add 2 m b ∙ ap (λ x. 2 ^ m * x) (sym is) ∙ sizes) in
      let same : m ≡ n - b = omega (arith, size) in
      let to_standard : natural_order k gen n s ≡ natural_order k gen n (gen (n + 1)) =
      ap (natural_order k gen n) standard.1 in
      let pt : p ≡ plus k (gen (n + 1)) (times k i (gen n)) =
      standard-at laws.ring gens n positive standard.0 i p
      (ap (λ xs. slice_get xs i) (sym to_standard) ∙ here) in
      let st : t ≡ plus k (gen (n + 1)) (times k (part_of c i) (gen n)) =
      standard-at laws.ring gens n positive standard.0 (part_of c i) t
      (ap (λ xs. slice_get xs (part_of c i)) (sym to_standard) ∙ first) in
      ap (λ n'. slice_get (natural_order k gen n' t) (place_in c i)) same
      ∙ ap (λ q. slice_get (natural_order k gen (n - b) q) (place_in c i)) st
      ∙ ap
      (λ c'. slice_get
      (natural_order k gen (n - b) (plus k (gen (n + 1)) (times k (part_of c' i) (gen n))))
      (place_in c' i)) is
      ∙ part-at laws gens n b less standard.0 i within
      ∙ ap Some (sym pt)
