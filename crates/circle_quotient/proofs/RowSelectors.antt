-- The selectors of a trace's rows on the quotient's domain, by one inverse for both rows, and the
-- values of the vanishing polynomial there, which repeat.
use Rattle.std.specs.Prelude.{◌≡◌, ◌≢◌, ℕ, ◌+◌, ◌-◌, ◌%◌, ◌^◌, ◌<◌, ◌≤◌, List, [], ◌∷◌, length, map}
use Rattle.std.specs.Prelude.{take, All, Some, slice_get, slice_index_or}
use Rattle.std.proofs.Common.{zero, suc, sym, ◌∙◌, ap, refl, subst, arith}
use Rattle.std.proofs.Math.Nat.{pow-suc}
use Rattle.std.proofs.lemmas.List.{get_or-map, get_or-take, length-map, length-take-le}
use Rattle.std.proofs.lemmas.Nat.{pow_pos}
use Rattle.std.proofs.lemmas.Option.{get_or_from_slice_get, slice_get_within}
use Rattle.circle_field.specs.Field.{FieldOps, FieldLaws, sub}
use Rattle.circle_field.specs.Ring.{var, con, unit, plus as sum, times as prod, minus}
use Rattle.circle_field.specs.RingSound.{ring}
use Rattle.circle_field.specs.RingCombine.{given, combine}
use Rattle.circle_field.specs.Circle.{Coordinates, IsOnCircle, AreGenerators, opposite}
use Rattle.circle_field.specs.CircleGroup.{opposite-on_circle}
use Rattle.circle_point.specs.Basis.{iterated_x, vanishing}
use Rattle.circle_domain.specs.Order.{natural_order}
use Rattle.circle_domain.specs.Selectors.{first_row, last_row, normaliser, transition}
use Rattle.circle_domain.specs.Selectors.{vanishing_on, zero_at}
use Rattle.circle_domain.proofs.PartLists.{length-natural_order}
use Rattle.circle_domain.proofs.Walking.{standard-at, standard-on_circle, standard-point}
use Rattle.circle_air.specs.Values.{entry}
use Rattle.circle_quotient.specs.RowSelectors.{AreRowParts, quotient_points, vanishing_period}
use Rattle.circle_quotient.proofs.PartSizes.{part_room}
use Rattle.circle_quotient.proofs.PartValues.{vanishing_at, vanishing-turn}
use Rattle.circle_quotient.proofs.Places.{point}
use Rattle.circle_quotient.proofs.QuotientPoints.{shift-vanishing, standard-vanishing}
use Rattle.circle_quotient.proofs.Selecting.{over-line}

-- a list by its entries, each of which is made of the one of another list in its place
pub listed : {X Y : Type 0} (f : X → Y) (xs : List X) (ys : List Y) (d : Y) →
    length ys ≡ length xs →
    ((i : ℕ) (x : X) → slice_get xs i ≡ Some x → slice_index_or ys i d ≡ f x) → ys ≡ map f xs
listed f [] [] d long each = refl
listed f [] (y ∷ ys) d long each = absurd (omega (arith, long))
listed f (x ∷ xs) [] d long each = absurd (omega (arith, long))
listed f (x ∷ xs) (y ∷ ys) d long each =
    ap (λ z. z ∷ ys) (each 0 x refl)
    ∙ ap (λ zs. f x ∷ zs)
    (listed f xs ys d (omega (arith, long)) (λ i z here. each (suc i) z here))

module _ {F : Type 0} {k : FieldOps F} (laws : FieldLaws k) {gen : ℕ → Coordinates F} {bits : ℕ}
    (gens : AreGenerators k bits gen) (n kk : ℕ) (positive : 1 ≤ n) (some : 1 ≤ kk)
    (fits : n + kk < bits) where
  abbrev points : List (Coordinates F)
  points = quotient_points k gen n kk

  abbrev shift : Coordinates F
  shift = gen (n + 1)

  abbrev period : List F
  period = vanishing_period k gen n kk

  own : 1 ≤ n + kk
  own = omega (arith, positive)

  long : length points ≡ 2 ^ (n + kk)
  long = length-natural_order k gen (n + kk) (gen (n + kk + 1)) own

  pub period_room : 2 ^ (kk + 1) ≤ 2 ^ (n + kk)
  period_room =
      let e : kk + 1 ≡ suc kk = omega arith in
      omega (arith, ap (λ m. 2 ^ m) e, pow-suc 2 kk, part_room n kk positive)

  pub length-period : length period ≡ 2 ^ (kk + 1)
  length-period =
      length-map (take (2 ^ (kk + 1)) points) (vanishing k n)
      ∙ length-take-le (2 ^ (kk + 1)) points (omega (arith, period_room, long))

  -- at each place the value is that of a place in the first period
  vanishing-turned : (i : ℕ) (q p : Coordinates F) → slice_get points i ≡ Some q →
      slice_get points (i % 2 ^ (kk + 1)) ≡ Some p → vanishing k n p ≡ vanishing k n q
  vanishing-turned i q p here there = go n positive fits here there
    where
      go : (m : ℕ) → 1 ≤ m → (fits' : m + kk < bits) →
          slice_get (natural_order k gen (m + kk) (gen (m + kk + 1))) i ≡ Some q →
          slice_get (natural_order k gen (m + kk) (gen (m + kk + 1))) (i % 2 ^ (kk + 1)) ≡ Some p →
          vanishing k m p ≡ vanishing k m q
      go zero h fits' here' there' = absurd (omega (arith, h))
      go (suc j) h fits' here' there' =
          let same : suc j - 1 ≡ j = omega arith in
          let e : kk + 1 ≡ suc kk = omega arith in
          let at_q = standard-at laws.ring gens (suc j + kk) (omega arith) fits' i q here' in
          let at_p = standard-at laws.ring gens (suc j + kk) (omega arith) fits'
          (i % 2 ^ (kk + 1)) p there' in
          ap (λ r. iterated_x k r p.x) same
          ∙ ap (λ (r : Coordinates F). iterated_x k j r.x) at_p
          ∙ ap (λ m. vanishing_at laws gens j kk some fits' (i % 2 ^ m)) e
          ∙ sym (vanishing-turn laws gens j kk some fits' i)
          ∙ ap (λ (r : Coordinates F). iterated_x k j r.x) (sym at_q)
          ∙ sym (ap (λ r. iterated_x k r q.x) same)

  module _ (i : ℕ) (q : Coordinates F) (here : slice_get points i ≡ Some q) where
    on_point : IsOnCircle k q
    on_point = standard-on_circle laws.ring gens (n + kk) own fits i q here

    pub within : i < 2 ^ (n + kk)
    within = omega (arith, slice_get_within points i q here, long)

    pub period-there : entry k period (i % length period) ≡ vanishing k n q
    period-there =
        let c = 2 ^ (kk + 1) in
        let r = i % c in
        let positive' : 0 < c = pow_pos (kk + 1) in
        let below : r < c = omega (arith, positive') in
        let room : r < 2 ^ (n + kk) = omega (arith, below, period_room) in
        let p = point laws gens (n + kk) own fits r in
        let there : slice_get points r ≡ Some p =
        standard-point laws.ring gens (n + kk) own fits r room in
        let first = take c points in
        let counted : length first ≡ c =
        length-take-le c points (omega (arith, period_room, long)) in
        ap (λ m. entry k period (i % m)) length-period
        ∙ get_or-map (vanishing k n) first r p k.zero (omega (arith, below, counted))
        ∙ ap (vanishing k n)
        (get_or-take c points r p below ∙ get_or_from_slice_get points r p p there)
        ∙ vanishing-turned i q p here there

    there : (vanishing_on k n shift q ≡ vanishing k n q) × (vanishing k n q ≢ k.zero)
    there = standard-vanishing laws gens n kk positive some fits i q here

    root : vanishing k n shift ≡ k.zero
    root = shift-vanishing laws gens n positive (omega (arith, fits))

    on_shift : IsOnCircle k shift
    on_shift = gens.on_circle (n + 1) (omega (arith, fits))

    -- no point of the domain has the x coordinate of the shift
    pub apart : sub k shift.x q.x ≢ k.zero
    apart = λ z.
        there.1 (ap (iterated_x k (n - 1)) (combine laws.ring (q.x ∷ shift.x ∷ []) (var 0) (var 1)
        (given (minus unit) (sum (var 1) (minus (var 0))) (con 0) ∷ []) refl (z, tt)) ∙ root)

    -- the selector of the row at the shift, or at its opposite
    row-there : (r : Coordinates F) → IsOnCircle k r → r.x ≡ shift.x →
        k.mul (k.mul (k.inv (sub k shift.x q.x)) (vanishing k n q)) (k.add r.y q.y)
        ≡ k.mul (vanishing_on k n shift q) (k.inv (zero_at k r q))
    row-there r on_r same =
        let i = k.inv (sub k shift.x q.x) in
        let v = vanishing k n q in
        ring laws.ring (i ∷ v ∷ k.add r.y q.y ∷ []) (prod (prod (var 0) (var 1)) (var 2))
        (prod (var 1) (prod (var 2) (var 0))) refl
        ∙ ap (λ x. k.mul v (k.mul (k.add r.y q.y) (k.inv (sub k x q.x)))) (sym same)
        ∙ ap (k.mul v) (sym (over-line laws (n - 1) r q on_r on_point
        (ap (iterated_x k (n - 1)) same ∙ root) there.1
        (λ z. apart (ap (λ x. sub k x q.x) (sym same) ∙ z))))
        ∙ ap (λ u. k.mul u (k.inv (zero_at k r q))) (sym there.0)

  module _ (ws hs : List F) (parts : AreRowParts k gen n kk ws hs) where
    row-listed : (r : Coordinates F) → IsOnCircle k r → r.x ≡ shift.x → (xs : List F) →
        length xs ≡ 2 ^ (n + kk) → ((i : ℕ) → i < 2 ^ (n + kk) →
        entry k xs i ≡ k.mul (entry k ws i) (k.add r.y (entry k hs i))) →
        xs ≡ map (λ q. k.mul (vanishing_on k n shift q) (k.inv (zero_at k r q))) points
    row-listed r on_r same xs count each =
        listed (λ q. k.mul (vanishing_on k n shift q) (k.inv (zero_at k r q))) points xs k.zero
        (count ∙ sym long)
        (λ i q here.
        each i (within i q here)
        ∙ ap (λ w. k.mul w (k.add r.y (entry k hs i))) (parts.weights i q here)
        ∙ ap (λ y. k.mul (k.mul (k.inv (sub k shift.x q.x)) (vanishing k n q)) (k.add r.y y))
        (parts.heights i q here)
        ∙ row-there i q here r on_r same)

    pub first-listed : (xs : List F) → length xs ≡ 2 ^ (n + kk) → ((i : ℕ) → i < 2 ^ (n + kk) →
        entry k xs i ≡ k.mul (entry k ws i) (k.add shift.y (entry k hs i))) →
        xs ≡ map (first_row k n shift) points
    first-listed = row-listed shift (gens.on_circle (n + 1) (omega (arith, fits))) refl

    pub last-listed : (xs : List F) → length xs ≡ 2 ^ (n + kk) → ((i : ℕ) → i < 2 ^ (n + kk) →
        entry k xs i ≡ k.mul (entry k ws i) (k.add (opposite k shift).y (entry k hs i))) →
        xs ≡ map (last_row k n shift) points
    last-listed = row-listed (opposite k shift)
        (opposite-on_circle laws.ring shift (gens.on_circle (n + 1) (omega (arith, fits)))) refl

  pub transition-listed : (xs ls : List F) → length xs ≡ 2 ^ (n + kk) →
      ls ≡ map (last_row k n shift) points → ((i : ℕ) → i < 2 ^ (n + kk) → entry k xs i
      ≡ sub k k.one (k.mul (entry k ls i) (k.inv (normaliser k n (opposite k shift))))) →
      xs ≡ map (transition k n shift) points
  transition-listed xs ls count is each =
      listed (transition k n shift) points xs k.zero (count ∙ sym long)
      (λ i q here.
      each i (within i q here)
      ∙ ap (λ v. sub k k.one (k.mul v (k.inv (normaliser k n (opposite k shift)))))
      (ap (λ vs. entry k vs i) is
      ∙ get_or-map (last_row k n shift) points i q k.zero (slice_get_within points i q here)
      ∙ ap (last_row k n shift) (get_or_from_slice_get points i q q here)))

  pub inverses-listed : (xs is : List F) → length xs ≡ 2 ^ (n + kk) → is ≡ map k.inv period →
      ((i : ℕ) → i < 2 ^ (n + kk) → entry k xs i ≡ entry k is (i % length is)) →
      xs ≡ map (λ q. k.inv (vanishing_on k n shift q)) points
  inverses-listed xs is count made each =
      listed (λ q. k.inv (vanishing_on k n shift q)) points xs k.zero (count ∙ sym long)
      (λ i q here.
      let r = i % length period in
      let some' : 0 < length period = omega (arith, length-period, pow_pos (kk + 1)) in
      let below : r < length period = omega (arith, some') in
      each i (within i q here)
      ∙ ap (λ vs. entry k vs (i % length vs)) made
      ∙ ap (λ m. entry k (map k.inv period) (i % m)) (length-map period k.inv)
      ∙ get_or-map k.inv period r k.zero k.zero below
      ∙ ap k.inv (period-there i q here ∙ sym (there i q here).0))

  -- no value of the period is 0
  pub period-nonzero : All (λ v. v ≢ k.zero) period
  period-nonzero = λ i d lt.
      let below : i < 2 ^ (kk + 1) = omega (arith, lt, length-period) in
      let room : i < 2 ^ (n + kk) = omega (arith, below, period_room) in
      let q = point laws gens (n + kk) own fits i in
      let here : slice_get points i ≡ Some q =
      standard-point laws.ring gens (n + kk) own fits i room in
      let counted : length (take (2 ^ (kk + 1)) points) ≡ 2 ^ (kk + 1) =
      length-take-le (2 ^ (kk + 1)) points (omega (arith, period_room, long)) in
      λ z. (there i q here).1
      (sym (get_or-map (vanishing k n) (take (2 ^ (kk + 1)) points) i q d
      (omega (arith, below, counted))
      ∙ ap (vanishing k n) (get_or-take (2 ^ (kk + 1)) points i q below
      ∙ get_or_from_slice_get points i q q here)) ∙ z)

  -- no difference is 0
  pub apart-nonzero : All (λ v. v ≢ k.zero)
      (map (λ (q : Coordinates F). sub k shift.x q.x) points)
  apart-nonzero = λ i d lt.
      let f = λ (q : Coordinates F). sub k shift.x q.x in
      let below : i < 2 ^ (n + kk) = omega (arith, lt, length-map points f, long) in
      let q = point laws gens (n + kk) own fits i in
      let here : slice_get points i ≡ Some q =
      standard-point laws.ring gens (n + kk) own fits i below in
      λ z. apart i q here
      (sym (get_or-map f points i q d (omega (arith, below, long))
      ∙ ap f (get_or_from_slice_get points i q q here)) ∙ z)

  -- the inverses of the differences times the values of the period
  pub parts-made : (ds hs vs ws : List F) →
      ds ≡ map k.inv (map (λ (q : Coordinates F). sub k shift.x q.x) points) →
      hs ≡ map (λ (q : Coordinates F). q.y) points → vs ≡ period →
      ((i : ℕ) → i < 2 ^ (n + kk) →
      entry k ws i ≡ k.mul (entry k ds i) (entry k vs (i % length vs))) →
      AreRowParts k gen n kk ws hs
  parts-made ds hs vs ws made high is each =
      let f = λ (q : Coordinates F). sub k shift.x q.x in record {
        weights = λ i q here.
            let lt = slice_get_within points i q here in
            each i (within i q here)
            ∙ ap (λ v. k.mul v (entry k vs (i % length vs)))
            (ap (λ xs. entry k xs i) made
            ∙ get_or-map k.inv (map f points) i k.zero k.zero
            (omega (arith, lt, length-map points f))
            ∙ ap k.inv (get_or-map f points i q k.zero lt
            ∙ ap f (get_or_from_slice_get points i q q here)))
            ∙ ap (k.mul (k.inv (sub k shift.x q.x)))
            (ap (λ xs. entry k xs (i % length xs)) is ∙ period-there i q here);
        heights = λ i q here.
            ap (λ xs. entry k xs i) high
            ∙ get_or-map (λ (q : Coordinates F). q.y) points i q k.zero
            (slice_get_within points i q here)
            ∙ ap (λ (q : Coordinates F). q.y) (get_or_from_slice_get points i q q here);
      }
