-- A pass: its blocks, one after another, and their number.
use Rattle.std.specs.Prelude.{◌≡◌, ℕ, ◌+◌, ◌-◌, ◌*◌, ◌/◌, ◌%◌, ◌^◌, ◌<◌, ◌≤◌, List, [], ◌++◌}
use Rattle.std.specs.Prelude.{length, take, drop, Option}
use Rattle.std.proofs.Common.{sym, ◌∙◌, ap, arith, append_assoc, append-nil, length-drop, ⊎_elim}
use Rattle.std.proofs.Math.Nat.{mul-le-mul_right, mul-le-mul_left, mul_assoc, mul_comm}
use Rattle.std.proofs.Math.Nat.{mod-eq_of_lt, mul-div_cancel, eq_of_mul-eq-mul_right}
use Rattle.std.proofs.lemmas.Nat.{pow_pos}
use Rattle.std.proofs.lemmas.Bool.{cases_lt}
use Rattle.std.proofs.lemmas.List.{drop-drop, take-append-drop, take_all, drop_all, length-take-le}
use Rattle.std.proofs.lemmas.Slice.{take-put_mid, drop-put_mid}
use borrow.Rule.Slice.PartMut.{put_mid, mid_of}
use Rattle.circle_field.specs.Field.{FieldOps, RingLaws}
use Rattle.circle_cfft.specs.Groups.{in_order, scaled, block_factors, HasFactors}
use Rattle.circle_cfft.proofs.GroupLayers.{in_order-append, in_order-same, in_order-nil}
use Rattle.circle_cfft.proofs.GroupLayers.{lanes-of-parts, half-power}
use Rattle.circle_cfft.proofs.GroupBlocks.{scaled-append, scaled-nil, block-fit}

module _ {F : Type 0} (k : FieldOps F) (low high : F → F → F → F) (order : ℕ → ℕ) (fs : ℕ → List F)
    (n stride : ℕ) (scale : Option F) where
  -- the factors of the blocks from i on
  abbrev pub factors_from : ℕ → ℕ → List F
  factors_from i l = drop (i * 2 ^ (n - 1 - l)) (fs l)

  -- a pass by some factors
  abbrev pub passed : (ℕ → List F) → List F → List F
  passed gs xs = scaled k scale (in_order low high order stride gs n xs)

  -- the first i blocks are done, and what is left to do makes the pass
  abbrev pub BlocksDone : List F → ℕ → List F → Type 0
  BlocksDone old i now = take (i * (2 ^ n * stride)) now
      ++ passed (factors_from i) (drop (i * (2 ^ n * stride)) now) ≡ passed fs old

-- some layers whose blocks make up some entries
pub record LayersOf {F : Type 0} (fs : ℕ → List F) (n stride count : ℕ) : Type 0 where
  pub some : 1 ≤ count
  pub some_layer : 1 ≤ n
  pub are : (l : ℕ) → l < n → length (fs l) * (2 ^ l * stride + 2 ^ l * stride) ≡ count

module _ {F : Type 0} {fs : ℕ → List F} {n stride count : ℕ} (layers : LayersOf fs n stride count)
  where
    -- as many blocks as the last layer has factors
    abbrev pub blocks : ℕ
    blocks = length (fs (n - 1))

    pub blocks-whole : blocks * (2 ^ n * stride) ≡ count
    blocks-whole =
        let p = 2 ^ (n - 1) in
        let both : p * stride + p * stride ≡ (p + p) * stride = omega arith in
        ap (λ m. blocks * (m * stride)) (sym (half-power n layers.some_layer))
        ∙ ap (λ m. blocks * m) (sym both) ∙ layers.are (n - 1) (omega (arith, layers.some_layer))

    pub block-entries : 1 ≤ 2 ^ n * stride
    block-entries =
        ⊎_elim
        (λ (lt : 2 ^ n * stride < 1).
        let none : 2 ^ n * stride ≡ 0 = omega (arith, lt) in
        let nil : blocks * (2 ^ n * stride) ≡ 0 = ap (λ m. blocks * m) none ∙ omega arith in
        absurd (omega (arith, layers.some, nil, blocks-whole)))
        (λ (le : 1 ≤ 2 ^ n * stride). le) (cases_lt (2 ^ n * stride) 1)

    pub lane-some : 1 ≤ stride
    lane-some =
        ⊎_elim
        (λ (lt : stride < 1).
        let none : stride ≡ 0 = omega (arith, lt) in
        let nil : 2 ^ n * stride ≡ 0 = ap (λ m. 2 ^ n * m) none ∙ omega arith in
        absurd (omega (arith, nil, block-entries)))
        (λ (le : 1 ≤ stride). le) (cases_lt stride 1)

    pub block-within : 2 ^ n * stride ≤ count
    block-within =
        let one : 1 ≤ blocks =
        ⊎_elim
        (λ (lt : blocks < 1).
        let none : blocks ≡ 0 = omega (arith, lt) in
        let nil : blocks * (2 ^ n * stride) ≡ 0 = ap (λ m. m * (2 ^ n * stride)) none
        ∙ omega arith in
        absurd (omega (arith, layers.some, nil, blocks-whole)))
        (λ (le : 1 ≤ blocks). le) (cases_lt blocks 1) in
        let le : 1 * (2 ^ n * stride) ≤ blocks * (2 ^ n * stride) =
        mul-le-mul_right (2 ^ n * stride) one in
        omega (arith, le, blocks-whole)

    -- the size as it is computed, and the number of blocks
    pub block-size : count < 2 ^ 64 → stride * 2 ^ n % 18446744073709551616 ≡ 2 ^ n * stride
    block-size small =
        let turn : stride * 2 ^ n ≡ 2 ^ n * stride = mul_comm stride (2 ^ n) in
        let fits : stride * 2 ^ n < 18446744073709551616 =
        omega (arith, turn, block-within, small) in
        mod-eq_of_lt fits ∙ turn

    pub blocks-number : count < 2 ^ 64 → count / (stride * 2 ^ n % 18446744073709551616) ≡ blocks
    blocks-number small = ap (λ m. count / m) (block-size small)
        ∙ ap (λ m. m / (2 ^ n * stride)) (sym blocks-whole) ∙ mul-div_cancel blocks block-entries

    -- each block ends within the entries
    pub block-ends : (small : count < 2 ^ 64) (i : ℕ) → i < blocks →
        (i + 1) * (stride * 2 ^ n % 18446744073709551616) ≤ count
    block-ends small i inside =
        let size = stride * 2 ^ n % 18446744073709551616 in
        let next : (i + 1) * size ≤ blocks * size = let le : i + 1 ≤ blocks =
        omega (arith, inside) in
        mul-le-mul_right size le in
        omega (arith, next, ap (λ m. blocks * m) (block-size small) ∙ blocks-whole)

    -- each layer has a factor for each of their parts
    pub parts-of-blocks : (l : ℕ) → l < n → length (fs l) ≡ blocks * 2 ^ (n - 1 - l)
    parts-of-blocks l below =
        let p = 2 ^ (n - 1 - l) in
        let part = 2 ^ l * stride + 2 ^ l * stride in
        let lane : part ≡ (2 ^ l + 2 ^ l) * stride = omega arith in
        let two : 1 ≤ part =
        let h : 2 ^ l * 1 ≤ 2 ^ l * stride = mul-le-mul_left (2 ^ l) lane-some in
        omega (arith, h, pow_pos l) in
        let other : blocks * p * part ≡ count =
        ap (λ m. blocks * p * m) lane ∙ sym (mul_assoc (blocks * p) (2 ^ l + 2 ^ l) stride)
        ∙ ap (λ m. m * stride) (mul_assoc blocks p (2 ^ l + 2 ^ l)
        ∙ ap (λ m. blocks * m) (lanes-of-parts n l below)) ∙ mul_assoc blocks (2 ^ n) stride
        ∙ blocks-whole in
        eq_of_mul-eq-mul_right part two (length (fs l)) (blocks * p)
        (layers.are l below ∙ sym other)

    pub block-has : (i : ℕ) → i < blocks → HasFactors n i fs
    block-has i inside = λ l below.
        let next : (i + 1) * 2 ^ (n - 1 - l) ≤ blocks * 2 ^ (n - 1 - l) = let le : i + 1 ≤ blocks =
        omega (arith, inside) in mul-le-mul_right (2 ^ (n - 1 - l)) le in
        omega (arith, next, parts-of-blocks l below)

    module _ (width rows : ℕ) (lanes : stride ≡ rows * width) where
      abbrev pub pairs : ℕ
      pairs = blocks * (rows * 2 ^ (n - 1))

      pub pairs-entries : count ≡ (pairs + pairs) * width
      pairs-entries =
          let p = 2 ^ (n - 1) in
          let turn : blocks * ((p + p) * (rows * width))
          ≡ (blocks * (rows * p) + blocks * (rows * p))
          * width = omega arith in
          sym blocks-whole ∙ ap (λ m. blocks * (2 ^ n * m)) lanes
          ∙ ap (λ m. blocks * (m * (rows * width))) (sym (half-power n layers.some_layer)) ∙ turn

      pub pairs-counted : blocks * (rows * (n * 2 ^ (n - 1))) ≡ n * pairs
      pairs-counted = omega arith

      pub pairs-half : (half : ℕ) → 1 ≤ width → count ≡ (half + half) * width → half ≡ pairs
      pairs-half half wide e =
          let same : half + half ≡ pairs + pairs =
          eq_of_mul-eq-mul_right width wide (half + half) (pairs + pairs)
          (sym e ∙ pairs-entries) in
          omega (arith, same)

      pub pairs-room : 1 ≤ width → n * pairs ≤ n * count
      pairs-room wide =
          let one : (pairs + pairs) * 1 ≤ (pairs + pairs) * width =
          mul-le-mul_left (pairs + pairs) wide in
          let le : pairs ≤ count = omega (arith, one, pairs-entries) in
          mul-le-mul_left n le

    module _ (k : FieldOps F) (laws : RingLaws k) (low high : F → F → F → F) (order : ℕ → ℕ)
        (orders : (s : ℕ) → s < n → order s < n) (scale : Option F) (old : List F)
        (long : length old ≡ count) where
      abbrev from : ℕ → ℕ → List F
      from i l = factors_from k low high order fs n stride scale i l

      abbrev pass : (ℕ → List F) → List F → List F
      pass gs xs = passed k low high order fs n stride scale gs xs

      abbrev Done : ℕ → List F → Type 0
      Done i now = BlocksDone k low high order fs n stride scale old i now

      pub blocks-none : Done 0 old
      blocks-none =
          let none : 0 * (2 ^ n * stride) ≡ 0 = omega arith in
          ap (λ m. take m old ++ pass (from 0) (drop m old)) none
          ∙ ap (scaled k scale)
          (in_order-same low high order stride (from 0) fs n old
          (λ s h. let z : 0 * 2 ^ (n - 1 - order s) ≡ 0 = omega arith in
          ap (λ m. drop m (fs (order s))) z))

      pub blocks-more : (i a len : ℕ) (now ys : List F) → Done i now → i < blocks →
          a ≡ i * (2 ^ n * stride) → len ≡ 2 ^ n * stride → length now ≡ count → length ys ≡ len →
          ys ≡ pass (block_factors n i fs) (mid_of a len now) → Done (i + 1) (put_mid a len now ys)
      blocks-more i a len now ys so_far inside is_start is_size kept wide made =
          let size = 2 ^ n * stride in
          let put = put_mid a len now ys in
          let bf = block_factors n i fs in
          let rest = drop a now in
          let mid = mid_of a len now in
          let after = drop len rest in
          let later = from (i + 1) in
          let next : (i + 1) * size ≡ a + len = omega (arith, is_start, is_size) in
          let upto : (i + 1) * size ≤ blocks * size = let le : i + 1 ≤ blocks =
          omega (arith, inside) in mul-le-mul_right size le in
          let fits : a + len ≤ length now = omega (arith, upto, next, kept, blocks-whole) in
          let whole : length mid ≡ size =
          length-take-le len rest (omega (arith, fits, length-drop a now)) ∙ is_size in
          let parts : (s : ℕ) → s < n → from i (order s) ≡ bf (order s) ++ later (order s) =
          λ s h.
          let p = 2 ^ (n - 1 - order s) in
          let e : i * p + p ≡ (i + 1) * p = omega arith in
          sym (take-append-drop p (drop (i * p) (fs (order s))))
          ∙ ap (λ ys. bf (order s) ++ ys) (drop-drop p (i * p) (fs (order s))
          ∙ ap (λ m. drop m (fs (order s))) e) in
          ap (λ m. take m put ++ pass later (drop m put)) next
          ∙ ap (λ xs. xs ++ pass later (drop (a + len) put))
          (take-put_mid a len now ys (a + len) (omega (arith, wide)) (omega (arith, fits)))
          ∙ ap (λ xs. (take a now ++ ys) ++ pass later xs)
          (drop-put_mid a len now ys (a + len) (omega arith) (omega (arith, fits)) wide
          ∙ sym (drop-drop len a now))
          ∙ append_assoc (take a now) ys (pass later after)
          ∙ ap (λ xs. take a now ++ (xs ++ pass later after)) made
          ∙ ap (λ xs. take a now ++ xs)
          (sym
          (scaled-append k scale (in_order low high order stride bf n mid)
          (in_order low high order stride later n after))
          ∙ ap (scaled k scale)
          (sym
          (in_order-append low high order stride bf later (from i) n mid after parts
          (block-fit k laws low high order n stride i fs scale mid orders (block-has i inside)
          whole))
          ∙ ap (in_order low high order stride (from i) n) (take-append-drop len rest)))
          ∙ ap (λ m. take m now ++ pass (from i) (drop m now)) is_start
          ∙ so_far

      pub blocks-all : (i : ℕ) (now : List F) → Done i now → i ≡ blocks → length now ≡ count →
          now ≡ pass fs old
      blocks-all i now so_far end kept =
          let size = 2 ^ n * stride in
          let all : length now ≤ i * size =
          omega (arith, kept, blocks-whole, ap (λ m. m * size) end) in
          let nil : pass (from i) (drop (i * size) now) ≡ [] =
          ap (pass (from i)) (drop_all (i * size) now all)
          ∙ ap (scaled k scale) (in_order-nil low high order stride (from i) n)
          ∙ scaled-nil k scale in
          sym (take_all (i * size) now all) ∙ sym (append-nil (take (i * size) now))
          ∙ ap (λ xs. take (i * size) now ++ xs) (sym nil) ∙ so_far
