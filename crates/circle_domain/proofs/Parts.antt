-- The points of the parts of a standard domain.
use Rattle.std.specs.Prelude.{◌≡◌, ◌≢◌, ℕ, ◌+◌, ◌-◌, ◌*◌, ◌/◌, ◌%◌, ◌^◌, ◌<◌, ◌≤◌, [], Some}
use Rattle.std.specs.Prelude.{slice_get, length}
use Rattle.std.proofs.Common.{zero, suc, sym, ◌∙◌, ap, refl, arith, ⊎_elim}
use Rattle.std.proofs.Math.Nat.{pow-suc}
use Rattle.std.proofs.lemmas.Nat.{pow-add, pow_pos}
use Rattle.std.proofs.lemmas.Bool.{cases_eq, cases_lt}
use Rattle.std.proofs.lemmas.Option.{get_or_from_slice_get}
use Rattle.circle_field.specs.Field.{FieldOps, RingLaws, FieldLaws}
use Rattle.circle_field.specs.Circle.{Coordinates, IsOnCircle, AreGenerators, plus, opposite}
use Rattle.circle_field.specs.Circle.{origin, times}
use Rattle.circle_field.specs.CircleGroup.{plus_comm, plus_assoc, plus-origin, plus-opposite}
use Rattle.circle_field.specs.CircleGroup.{plus-on_circle, same_coordinates}
use Rattle.circle_field.specs.Ring.{con, unit, plus as sum, times as prod, minus}
use Rattle.circle_field.specs.RingSound.{ring}
use Rattle.circle_point.specs.Projective.{half_turn}
use Rattle.circle_point.proofs.Multiples.{times-+, times-double, times-on_circle, origin-plus}
use Rattle.circle_domain.specs.Order.{natural_order}
use Rattle.circle_domain.specs.Selectors.{AreDisjoint}
use Rattle.circle_domain.specs.Splitting.{part_of, place_in, place_of}
use Rattle.circle_domain.proofs.Blocks.{times-origin, times-generator}
use Rattle.circle_domain.proofs.CosetOrder.{opposite-plus}
use Rattle.circle_domain.proofs.Orders.{natural_from-even, natural_from-odd, length-natural_from}
use Rattle.circle_domain.proofs.PartPlaces.{place_of-even, place_of-odd, part_of-below}
use Rattle.circle_domain.proofs.PartPlaces.{place_in-below, place_of-place_in, place_of-below}
use Rattle.circle_domain.proofs.PartPlaces.{part_of-place_of}
use Rattle.circle_domain.proofs.Walking.{one-not_opposite, times-times, past_opposite, shift_twice}

module _ {F : Type 0} {k : FieldOps F} (laws : RingLaws k) where
  -- multiples of multiples
  times-* : (a b : ℕ) (p : Coordinates F) → times k a (times k b p) ≡ times k (a * b) p
  times-* zero b p = let e : 0 ≡ 0 * b = omega arith in ap (λ m. times k m p) e
  times-* (suc a) b p =
      let e : b + a * b ≡ suc a * b = omega arith in
      ap (plus k (times k b p)) (times-* a b p) ∙ sym (times-+ laws b (a * b) p)
      ∙ ap (λ m. times k m p) e

  -- what is taken off and put on again
  taken_off : (p q r : Coordinates F) → IsOnCircle k p →
      plus k (plus k q (opposite k p)) (plus k p r) ≡ plus k q r
  taken_off p q r c =
      plus_assoc laws q (opposite k p) (plus k p r)
      ∙ ap (plus k q) (sym (plus_assoc laws (opposite k p) p r)
      ∙ ap (λ v. plus k v r) (plus_comm laws (opposite k p) p ∙ plus-opposite laws p c)
      ∙ origin-plus laws r)

  plus-cancel : (p q : Coordinates F) → IsOnCircle k p → p ≡ plus k p q → q ≡ origin k
  plus-cancel p q c e =
      sym (origin-plus laws q)
      ∙ ap (λ v. plus k v q) (sym (plus-opposite laws p c) ∙ plus_comm laws p (opposite k p))
      ∙ plus_assoc laws (opposite k p) p q ∙ ap (plus k (opposite k p)) (sym e)
      ∙ plus_comm laws (opposite k p) p ∙ plus-opposite laws p c

module _ {F : Type 0} {k : FieldOps F} (laws : FieldLaws k) {gen : ℕ → Coordinates F} {bits : ℕ}
    (gens : AreGenerators k bits gen) where
  turn_twice : plus k (half_turn k) (half_turn k) ≡ origin k
  turn_twice =
      same_coordinates
      (ring laws.ring [] (sum (prod (minus unit) (minus unit)) (minus (prod (con 0) (con 0)))) unit
      refl)
      (ring laws.ring [] (sum (prod (minus unit) (con 0)) (prod (con 0) (minus unit))) (con 0) refl)

  odd_turn : (d e : ℕ) → d ≡ suc (e + e) → times k d (half_turn k) ≡ half_turn k
  odd_turn d e h =
      ap (λ m. times k m (half_turn k)) h
      ∙ ap (plus k (half_turn k)) (sym (times-double laws.ring e (half_turn k))
      ∙ ap (times k e) turn_twice ∙ times-origin laws.ring e)
      ∙ plus-origin laws.ring (half_turn k)

  -- the generator of 2^n points has that order
  order : (n d : ℕ) → n ≤ bits → d < 2 ^ n → times k d (gen n) ≡ origin k → d ≡ 0
  order zero d fits lt h = omega arith
  order (suc n) d fits lt h =
      let g = gen (suc n) in
      let e = d / 2 in
      let below : e < 2 ^ n = omega (arith, lt, pow-suc 2 n) in
      ⊎_elim
      (λ even.
      let twice : d ≡ e + e = omega (arith, even) in
      let none : e ≡ 0 =
      order n e (omega arith) below
      (ap (times k e) (sym (gens.doubled n (omega arith))) ∙ times-double laws.ring e g
      ∙ ap (λ m. times k m g) (sym twice) ∙ h) in
      omega (arith, none, twice))
      (λ odd.
      let one : n + 1 ≡ suc n = omega arith in
      let turn : times k (2 ^ n) g ≡ half_turn k = ap (λ m. times k (2 ^ n) (gen m)) (sym one)
      ∙ times-generator laws.ring gens n 1 (omega arith) ∙ gens.half_turn in
      let same : half_turn k ≡ origin k =
      sym (odd_turn d e (omega (arith, odd))) ∙ ap (times k d) (sym turn)
      ∙ times-times laws.ring d (2 ^ n) g ∙ ap (times k (2 ^ n)) h ∙ times-origin
      laws.ring (2 ^ n) in
      absurd (one-not_opposite laws (ap (λ (r : Coordinates F). r.x) (sym same))))
      (cases_eq (d % 2) 0)

  distinct_up : (n i d : ℕ) (s : Coordinates F) → IsOnCircle k s → n ≤ bits → i + d < 2 ^ n →
      plus k s (times k i (gen n)) ≡ plus k s (times k (i + d) (gen n)) → d ≡ 0
  distinct_up n i d s c fits lt h =
      let p = plus k s (times k i (gen n)) in
      order n d fits (omega (arith, lt))
      (plus-cancel laws.ring p (times k d (gen n))
      (plus-on_circle laws.ring s (times k i (gen n)) c
      (times-on_circle laws.ring i (gen n) (gens.on_circle n fits)))
      (h ∙ ap (plus k s) (times-+ laws.ring i d (gen n))
      ∙ sym (plus_assoc laws.ring s (times k i (gen n)) (times k d (gen n)))))

  -- the points of a coset are different
  pub distinct : (n i j : ℕ) (s : Coordinates F) → IsOnCircle k s → n ≤ bits → i < 2 ^ n →
      j < 2 ^ n → plus k s (times k i (gen n)) ≡ plus k s (times k j (gen n)) → i ≡ j
  distinct n i j s c fits hi hj h =
      ⊎_elim
      (λ lt.
      let e : i + (j - i) ≡ j = omega (arith, lt) in
      let none =
      distinct_up n i (j - i) s c fits (omega (arith, e, hj))
      (h ∙ ap (λ m. plus k s (times k m (gen n))) (sym e)) in
      omega (arith, none, e))
      (λ le.
      let e : j + (i - j) ≡ i = omega (arith, le) in
      let none =
      distinct_up n j (i - j) s c fits (omega (arith, e, hi))
      (sym h ∙ ap (λ m. plus k s (times k m (gen n))) (sym e)) in
      omega (arith, none, e))
      (cases_lt i j)

  module _ (n b : ℕ) (room : b < n) (fits : n < bits) where
    whole_step : times k (2 * 2 ^ b) (gen n) ≡ gen (n - b - 1)
    whole_step =
        let a : (b + 1) + (n - b - 1) ≡ n = omega (arith, room) in
        let e : 2 * 2 ^ b ≡ 2 ^ (b + 1) =
        (let s : b + 1 ≡ suc b = omega arith in
        omega (arith, pow-suc 2 b, ap (λ m. 2 ^ m) s)) in
        ap (λ m. times k m (gen n)) e ∙ ap (λ m. times k (2 ^ (b + 1)) (gen m)) (sym a)
        ∙ times-generator laws.ring gens (b + 1) (n - b - 1) (omega (arith, a, fits))

    whole_size : 2 ^ (n - b - 1) * (2 * 2 ^ b) ≡ 2 ^ n
    whole_size =
        let a : (n - b - 1) + (b + 1) ≡ n = omega (arith, room) in
        let e : 2 * 2 ^ b ≡ 2 ^ (b + 1) =
        (let s : b + 1 ≡ suc b = omega arith in
        omega (arith, pow-suc 2 b, ap (λ m. 2 ^ m) s)) in
        ap (λ m. 2 ^ (n - b - 1) * m) e ∙ sym (pow-add 2 (n - b - 1) (b + 1)) ∙ ap (λ m. 2 ^ m) a

    part_size : 2 ^ (n - b - 1) * 2 ≡ 2 ^ (n - b)
    part_size = let a : n - b ≡ suc (n - b - 1) = omega (arith, room) in
        sym (ap (λ m. 2 ^ m) a ∙ pow-suc 2 (n - b - 1))

    -- point r of part j
    pub part-point : (j r : ℕ) → j < 2 ^ b → r < 2 ^ (n - b) →
        slice_get (natural_order k gen (n - b) (plus k (gen (n + 1)) (times k j (gen n)))) r
        ≡ Some (plus k (gen (n + 1)) (times k (place_of (2 ^ b) j r) (gen n)))
    part-point j r hj hr =
        let c = 2 ^ b in
        let s = gen (n + 1) in
        let g = gen n in
        let t = plus k s (times k j g) in
        let step = gen (n - b - 1) in
        let count = 2 ^ (n - b - 1) in
        let q = r / 2 in
        let below : q < count = omega (arith, hr, part_size) in
        let on_circle : IsOnCircle k (times k j g) =
        times-on_circle laws.ring j g (gens.on_circle n (omega (arith, fits))) in
        ⊎_elim
        (λ even.
        let place = place_of-even c j q r (omega (arith, even)) in
        natural_from-even k count q step t 0 r below (omega (arith, even))
        ∙ ap (λ v. Some (plus k t v))
        (ap (λ m. times k m step) (let z : 0 + q ≡ q = omega arith in z)
        ∙ ap (times k q) (sym whole_step) ∙ times-* laws.ring q (2 * c) g)
        ∙ ap Some
        (plus_assoc laws.ring s (times k j g) (times k (q * (2 * c)) g)
        ∙ ap (plus k s) (sym (times-+ laws.ring j (q * (2 * c)) g)
        ∙ ap (λ m. times k m g) (let e : j + q * (2 * c) ≡ place_of c j r =
        omega (arith, place) in e))))
        (λ odd.
        let place = place_of-odd c j q r (omega (arith, odd)) in
        let w = q * (2 * c) + (2 * c - 1 - j) in
        let split : suc (0 + q) * (2 * c) ≡ j + suc w = omega (arith, hj) in
        natural_from-odd k count q step t 0 r below (omega (arith, odd))
        ∙ ap (λ v. Some (plus k (opposite k t) v))
        (ap (times k (suc (0 + q))) (sym whole_step) ∙ times-* laws.ring (suc (0 + q)) (2 * c) g
        ∙ ap (λ m. times k m g) split ∙ times-+ laws.ring j (suc w) g)
        ∙ ap (λ v. Some (plus k v (plus k (times k j g) (times k (suc w) g))))
        (opposite-plus laws.ring s (times k j g))
        ∙ ap Some
        (taken_off laws.ring (times k j g) (opposite k s) (times k (suc w) g) on_circle
        ∙ ap (λ v. plus k (opposite k s) (plus k v (times k w g)))
        (sym (shift_twice laws.ring gens n (omega (arith, room)) fits))
        ∙ past_opposite laws.ring s (times k w g) (gens.on_circle (n + 1) (omega (arith, fits)))
        ∙ ap (λ m. plus k s (times k m g)) (sym place)))
        (cases_eq (r % 2) 0)

    pub length-part : (j : ℕ) →
        length (natural_order k gen (n - b) (plus k (gen (n + 1)) (times k j (gen n))))
        ≡ 2 ^ (n - b)
    length-part j =
        length-natural_from k (2 ^ (n - b - 1)) (gen (n - b - 1))
        (plus k (gen (n + 1)) (times k j (gen n))) 0
        ∙ omega (arith, part_size)

    -- each point of the whole, at its place in its part
    pub part-at : (i : ℕ) → i < 2 ^ n →
        slice_get
        (natural_order k gen (n - b)
        (plus k (gen (n + 1)) (times k (part_of (2 ^ b) i) (gen n)))) (place_in (2 ^ b) i)
        ≡ Some (plus k (gen (n + 1)) (times k i (gen n)))
    part-at i hi =
        let c = 2 ^ b in
        let some : 1 ≤ c = pow_pos b in
        part-point (part_of c i) (place_in c i) (part_of-below c i some)
        (let lt = place_in-below c i (2 ^ (n - b - 1)) some (omega (arith, hi, whole_size)) in
        omega (arith, lt, part_size))
        ∙ ap (λ m. Some (plus k (gen (n + 1)) (times k m (gen n)))) (place_of-place_in c i some)

    pub place-below : (j r : ℕ) → j < 2 ^ b → r < 2 ^ (n - b) → place_of (2 ^ b) j r < 2 ^ n
    place-below j r hj hr = let lt =
        place_of-below (2 ^ b) j r (2 ^ (n - b - 1)) hj (omega (arith, hr, part_size)) in
        omega (arith, lt, whole_size)

    -- no point is in two parts
    pub parts-disjoint : (i j : ℕ) → i ≢ j → i < 2 ^ b → j < 2 ^ b →
        AreDisjoint (natural_order k gen (n - b) (plus k (gen (n + 1)) (times k i (gen n))))
        (natural_order k gen (n - b) (plus k (gen (n + 1)) (times k j (gen n))))
    parts-disjoint i j different hi hj = λ r d hr t d' ht e.
        let c = 2 ^ b in
        let s = gen (n + 1) in
        let first = natural_order k gen (n - b) (plus k s (times k i (gen n))) in
        let second = natural_order k gen (n - b) (plus k s (times k j (gen n))) in
        let lr : r < 2 ^ (n - b) = omega (arith, hr, length-part i) in
        let lt : t < 2 ^ (n - b) = omega (arith, ht, length-part j) in
        let here = get_or_from_slice_get first r (plus k s (times k (place_of c i r) (gen n))) d
        (part-point i r hi lr) in
        let there = get_or_from_slice_get second t (plus k s (times k (place_of c j t) (gen n))) d'
        (part-point j t hj lt) in
        let same : place_of c i r ≡ place_of c j t =
        distinct n (place_of c i r) (place_of c j t) s
        (gens.on_circle (n + 1) (omega (arith, fits))) (omega (arith, fits))
        (place-below i r hi lr) (place-below j t hj lt)
        (sym here ∙ e ∙ there) in
        different (sym (part_of-place_of c i r hi) ∙ ap (part_of c) same
        ∙ part_of-place_of c j t hj)
