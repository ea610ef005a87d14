-- The factor of a part as one product over another, and the values on the parts, which are all
-- different.
use Rattle.std.specs.Prelude.{◌≡◌, ◌≢◌, ℕ, ◌+◌, ◌-◌, ◌^◌, ◌<◌, ◌≤◌, List, [], ◌∷◌, ◌++◌, length}
use Rattle.std.specs.Prelude.{map}
use Rattle.std.specs.Prelude.{remove, take, drop, slice_index_or}
use Rattle.std.specs.List.{AllByRecursion}
use Rattle.std.proofs.Common.{zero, suc, pow-add, sym, ◌∙◌, ap, arith, ⊎_elim}
use Rattle.std.proofs.lemmas.Bool.{cases_lt}
use Rattle.std.proofs.lemmas.List.{map-append, take-map, drop-map, get_or-map, get_or_default}
use Rattle.std.proofs.lemmas.List.{get_or-take, length-map, length-take-le}
use Rattle.std.proofs.lemmas.List.Edits.{length-remove, get_or-remove_below, get_or-remove_above}
use Rattle.std.proofs.lemmas.List.Elements.{recursion_from_All}
use Rattle.std.proofs.lemmas.Nat.{pow_pos}
use Rattle.std.proofs.lemmas.Option.{get_or_from_slice_get}
use Rattle.std.proofs.Math.Nat.{mul-le-mul_right}
use Rattle.circle_field.specs.Field.{FieldOps, FieldLaws, IsEmbedding, sub}
use Rattle.circle_field.specs.Circle.{Coordinates, AreGenerators}
use Rattle.circle_field.specs.Products.{product}
use Rattle.circle_field.specs.RingFacts.{mul_swap, neg_zero_cancel}
use Rattle.circle_field.proofs.Inverses.{inverse_unique, nonzero_product, one_nonzero}
use Rattle.circle_point.specs.Basis.{iterated_x, vanishing}
use Rattle.circle_domain.specs.Order.{natural_order}
use Rattle.circle_domain.proofs.PartLists.{length-natural_order}
use Rattle.circle_domain.proofs.Twiddles.{map-map}
use Rattle.circle_domain.proofs.Walking.{standard-point}
use Rattle.circle_quotient.proofs.PartValues.{large, vanishing-distinct}
use Rattle.circle_quotient.specs.Recomposition.{lagrange_factor, part_factor, part_values}

pub map-remove : {A B : Type 0} (f : A → B) (xs : List A) (i : ℕ) →
    remove (map f xs) i ≡ map f (remove xs i)
map-remove f xs i =
    ap (λ rest. rest ++ drop (suc i) (map f xs)) (take-map f i xs)
    ∙ ap (λ rest. map f (take i xs) ++ rest) (drop-map f (suc i) xs)
    ∙ sym (map-append f (take i xs) (drop (suc i) xs))

module _ {F : Type 0} {k : FieldOps F} (laws : FieldLaws k) where
  open laws.ring use {mul_assoc, mul_comm, one_mul}

  pub product-both : (xs ys : List F) → product k (xs ++ ys) ≡ k.mul (product k xs) (product k ys)
  product-both [] ys = sym (one_mul (product k ys))
  product-both (x ∷ xs) ys =
      ap (k.mul x) (product-both xs ys) ∙ sym (mul_assoc x (product k xs) (product k ys))

  inverse_of_product : (a b : F) → a ≢ k.zero → b ≢ k.zero →
      k.mul (k.inv a) (k.inv b) ≡ k.inv (k.mul a b)
  inverse_of_product a b ha hb =
      inverse_unique laws (k.mul a b) (k.mul (k.inv a) (k.inv b)) (nonzero_product laws a b ha hb)
      (mul_swap laws.ring (k.inv a) (k.inv b) a b
      ∙ ap (λ x. k.mul x (k.mul (k.inv b) b)) (mul_comm (k.inv a) a ∙ laws.mul_inv a ha)
      ∙ one_mul (k.mul (k.inv b) b) ∙ mul_comm (k.inv b) b ∙ laws.mul_inv b hb)

  -- the product of the differences from the others
  abbrev pub gaps : F → List F → F
  gaps at others = product k (map (λ x. sub k at x) others)

  pub gaps-nonzero : (own : F) (others : List F) →
      AllByRecursion (λ x. sub k own x ≢ k.zero) others → gaps own others ≢ k.zero
  gaps-nonzero own [] all = one_nonzero laws
  gaps-nonzero own (x ∷ others) all =
      nonzero_product laws (sub k own x) (gaps own others) all.0 (gaps-nonzero own others all.1)

  factor-quotient : (others : List F) (own at : F) →
      AllByRecursion (λ x. sub k own x ≢ k.zero) others →
      lagrange_factor k others own at ≡ k.mul (gaps at others) (k.inv (gaps own others))
  factor-quotient [] own at all = sym (laws.mul_inv k.one (one_nonzero laws))
  factor-quotient (x ∷ others) own at all =
      let a = sub k at x in
      let b = sub k own x in
      let p = gaps at others in
      let q = gaps own others in
      ap (k.mul (k.mul a (k.inv b))) (factor-quotient others own at all.1)
      ∙ mul_swap laws.ring a (k.inv b) p (k.inv q)
      ∙ ap (k.mul (k.mul a p)) (inverse_of_product b q all.0 (gaps-nonzero own others all.1))

-- the others differ from the entry in place j
pub others-differ : {F : Type 0} {k : FieldOps F} (laws : FieldLaws k) (values : List F) (j : ℕ) →
    j < length values → ((i r : ℕ) (d : F) → i < r → r < length values →
    slice_index_or values i d ≢ slice_index_or values r d) →
    AllByRecursion (λ x. sub k (slice_index_or values j k.zero) x ≢ k.zero) (remove values j)
others-differ {k = k} laws values j within distinct =
    let own = slice_index_or values j k.zero in
    let long = length-remove values j within in
    recursion_from_All (λ x. sub k own x ≢ k.zero) (remove values j) (λ i d lt z.
    let same : own ≡ slice_index_or (remove values j) i d = neg_zero_cancel laws.ring own _ z in
    let own_at : own ≡ slice_index_or values j d = get_or_default values j k.zero d within in
    ⊎_elim
    (λ (low : i < j). distinct i j d low within
    (sym (get_or-remove_below values j d i low within) ∙ sym same ∙ own_at))
    (λ (high : j ≤ i). distinct j (i + 1) d (omega (arith, high)) (omega (arith, lt, long))
    (sym own_at ∙ same ∙ get_or-remove_above values j d i high within))
    (cases_lt i j))

module _ {F E : Type 0} {k : FieldOps F} {l : FieldOps E} {m : F → E} (laws : FieldLaws k)
    (laws' : FieldLaws l) (embedding : IsEmbedding k l m) where
  embedded-nonzero : (a : F) → a ≢ k.zero → m a ≢ l.zero
  embedded-nonzero a h = λ z. h (embedding.injective a k.zero (z ∙ sym embedding.zero))

  embedded-inverse : (a : F) → a ≢ k.zero → m (k.inv a) ≡ l.inv (m a)
  embedded-inverse a h =
      inverse_unique laws' (m a) (m (k.inv a)) (embedded-nonzero a h)
      (sym (embedding.mul (k.inv a) a)
      ∙ ap m (laws.ring.mul_comm (k.inv a) a ∙ laws.mul_inv a h) ∙ embedding.one)

  embedded-difference : (a b : F) → m (sub k a b) ≡ sub l (m a) (m b)
  embedded-difference a b =
      embedding.add a (k.neg b) ∙ ap (l.add (m a)) (embedding.neg b)

  embedded-gaps : (own : F) (others : List F) →
      m (gaps laws own others) ≡ gaps laws' (m own) (map m others)
  embedded-gaps own [] = embedding.one
  embedded-gaps own (x ∷ others) =
      embedding.mul (sub k own x) (gaps laws own others)
      ∙ ap (λ a. l.mul a (m (gaps laws own others))) (embedded-difference own x)
      ∙ ap (l.mul (sub l (m own) (m x))) (embedded-gaps own others)

  embedded-differ : (own : F) (others : List F) →
      AllByRecursion (λ x. sub k own x ≢ k.zero) others →
      AllByRecursion (λ x. sub l (m own) x ≢ l.zero) (map m others)
  embedded-differ own [] all = tt
  embedded-differ own (x ∷ others) all = (
    λ z. embedded-nonzero (sub k own x) all.0 (embedded-difference own x ∙ z),
    embedded-differ own others all.1,
  )

  -- a part's factor by one inverse, which is of an element of the base field
  pub factor-made : (values : List F) (j : ℕ) (at : E) → j < length values →
      AllByRecursion (λ x. sub k (slice_index_or values j k.zero) x ≢ k.zero) (remove values j) →
      part_factor l (map m values) j at
      ≡ l.mul (m (k.inv (gaps laws (slice_index_or values j k.zero) (remove values j))))
      (product l (map (λ x. sub l at (m x)) (remove values j)))
  factor-made values j at within all =
      let own = slice_index_or values j k.zero in
      let others = remove values j in
      let bottom = gaps laws own others in
      let top = product l (map (λ x. sub l at (m x)) others) in
      ap (λ rest. lagrange_factor l rest (slice_index_or (map m values) j l.zero) at)
      (map-remove m values j)
      ∙ ap (λ x. lagrange_factor l (map m others) x at) (get_or-map m values j k.zero l.zero within)
      ∙ factor-quotient laws' (map m others) (m own) at (embedded-differ own others all)
      ∙ ap (λ xs. l.mul (product l xs) (l.inv (gaps laws' (m own) (map m others))))
      (map-map (λ x. sub l at x) m others)
      ∙ ap (λ x. l.mul top (l.inv x)) (sym (embedded-gaps own others))
      ∙ ap (l.mul top) (sym (embedded-inverse bottom (gaps-nonzero laws own others all)))
      ∙ laws'.ring.mul_comm top (m (k.inv bottom))

module _ {F : Type 0} {k : FieldOps F} (laws : FieldLaws k) {gen : ℕ → Coordinates F} {bits : ℕ}
    (gens : AreGenerators k bits gen) where
  pub parts-within : (n kk : ℕ) → 1 ≤ n →
      2 ^ kk ≤ length (natural_order k gen (n + kk) (gen (n + kk + 1)))
  parts-within n kk positive =
      omega (
        arith,
        length-natural_order k gen (n + kk) (gen (n + kk + 1)) (omega (arith, positive)),
        pow-add 2 n kk,
        mul-le-mul_right (2 ^ kk) (let h : 1 ≤ 2 ^ n = omega (arith, pow_pos n) in h),
      )

  pub length-part_values : (n kk : ℕ) → 1 ≤ n → length (part_values k gen n kk) ≡ 2 ^ kk
  length-part_values n kk positive =
      let points = natural_order k gen (n + kk) (gen (n + kk + 1)) in
      length-map (take (2 ^ kk) points) (vanishing k n)
      ∙ length-take-le (2 ^ kk) points (parts-within n kk positive)

  module _ (j kk : ℕ) (some_parts : 1 ≤ kk) (fits : suc j + kk < bits) where
    value-read : (i : ℕ) (d : F) → i < 2 ^ kk →
        slice_index_or (part_values k gen (suc j) kk) i d
        ≡ iterated_x k j (large laws gens j kk some_parts fits i).x
    value-read i d lt =
        let n = suc j + kk in
        let points = natural_order k gen n (gen (n + 1)) in
        let whole = parts-within (suc j) kk (omega arith) in
        let long = length-natural_order k gen n (gen (n + 1)) (omega arith) in
        let p = large laws gens j kk some_parts fits i in
        let here : i < length (take (2 ^ kk) points) =
        omega (arith, lt, length-take-le (2 ^ kk) points whole) in
        let e : suc j - 1 ≡ j = omega arith in
        get_or-map (vanishing k (suc j)) (take (2 ^ kk) points) i p d here
        ∙ ap (vanishing k (suc j))
        (get_or-take (2 ^ kk) points i p lt
        ∙ get_or_from_slice_get points i p p
        (standard-point laws.ring gens n (omega arith) fits i (omega (arith, lt, whole, long))))
        ∙ ap (λ r. iterated_x k r p.x) e

  -- no two parts have one value
  pub values-distinct : (n kk i r : ℕ) (d : F) → 1 ≤ n → n + kk < bits → i < r → r < 2 ^ kk →
      slice_index_or (part_values k gen n kk) i d ≢ slice_index_or (part_values k gen n kk) r d
  values-distinct zero kk i r d positive fits lt below = absurd (omega (arith, positive))
  values-distinct (suc j) zero i r d positive fits lt below = absurd (omega (arith, lt, below))
  values-distinct (suc j) (suc kk) i r d positive fits lt below = λ e.
      let some : 1 ≤ suc kk = omega arith in
      vanishing-distinct laws gens j (suc kk) some fits i r lt below
      (sym (value-read j (suc kk) some fits i d (omega (arith, lt, below))) ∙ e
      ∙ value-read j (suc kk) some fits r d below)
