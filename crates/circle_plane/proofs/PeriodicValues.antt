-- The polynomial of a periodic column that is written over and over, and its values.
use Rattle.std.specs.Prelude.{◌≡◌, ℕ, ◌+◌, ◌-◌, ◌%◌, ◌^◌, ◌<◌, ◌≤◌, List, [], ◌∷◌, Some, length}
use Rattle.std.specs.Prelude.{map, slice_get, slice_index_or}
use Rattle.std.proofs.Common.{zero, suc, sym, ap, ◌∙◌, subst, refl, arith}
use Rattle.std.proofs.lemmas.List.{get_or-map, map-id}
use Rattle.std.proofs.lemmas.Option.{get_or_from_slice_get, slice_get_within}
use Rattle.circle_field.specs.Field.{FieldOps, RingLaws, FieldLaws}
use Rattle.circle_field.specs.Circle.{Coordinates, AreGenerators, IsOnCircle, origin, times}
use Rattle.circle_field.specs.Ring.{con, var, unit, plus as sum, times as prod}
use Rattle.circle_field.specs.RingSound.{ring}
use Rattle.circle_point.specs.Basis.{value}
use Rattle.circle_point.proofs.Multiples.{times-one, times-on_circle, doubled-times}
use Rattle.circle_domain.specs.Order.{natural_order}
use Rattle.circle_domain.specs.Periodic.{IsPeriodicValue}
use Rattle.circle_domain.specs.Values.{Interpolates}
use Rattle.circle_domain.proofs.Blocks.{times-pow-suc, times-generator}
use Rattle.circle_domain.proofs.NaturalValues.{natural-told}
use Rattle.circle_domain.proofs.Powers.{pow_within, pow_injective}
use Rattle.circle_domain.proofs.StandardDomain.{standard-genuine}
use Rattle.circle_domain.proofs.Walking.{standard-on_circle}
use Rattle.circle_plane.proofs.DoubledPoints.{doubled-point}
use Rattle.circle_plane.proofs.DoubledValues.{doubled}
use Rattle.circle_plane.proofs.NaturalRows.{one-only}

-- equal values at every entry
pub map-same : {A B : Type 0} (f h : A → B) (xs : List A) →
    ((i : ℕ) (x : A) → slice_get xs i ≡ Some x → f x ≡ h x) → map f xs ≡ map h xs
map-same f h [] same = refl
map-same f h (x ∷ xs) same = ap (λ y. y ∷ map f xs) (same 0 x refl)
    ∙ ap (λ rest. h x ∷ rest) (map-same f h xs (λ i y here. same (suc i) y here))

-- a multiple of a multiple
times-pow : {F : Type 0} {k : FieldOps F} (laws : RingLaws k) (a b : ℕ) (p : Coordinates F) →
    times k (2 ^ a) (times k (2 ^ b) p) ≡ times k (2 ^ (a + b)) p
times-pow {F} {k} laws zero b p = times-one laws (times k (2 ^ b) p)
    ∙ ap (λ n. times k (2 ^ n) p) (let e : b ≡ zero + b = omega arith in e)
times-pow {F} {k} laws (suc a) b p =
    times-pow-suc laws a (times k (2 ^ b) p)
    ∙ ap (times k (2 ^ a)) (doubled-times laws b p (times k (2 ^ b) p) refl)
    ∙ times-pow laws a (b + 1) p ∙ ap (λ n. times k (2 ^ n) p) (let e : a + (b + 1) ≡ suc a + b =
    omega arith in e)

module _ {F : Type 0} {k : FieldOps F} (laws : FieldLaws k) {gen : ℕ → Coordinates F} {bits : ℕ}
    (gens : AreGenerators k bits gen) (l : ℕ) (positive : 1 ≤ l) (small : l < bits) where
  -- c are the coefficients of the column written over the standard domain of 2^l points
  pub record IsRepeated (column c : List F) : Type 0 where
    pub count : length c ≡ 2 ^ l
    pub entries : (i : ℕ) (p : Coordinates F) → slice_get (natural_order k gen l (gen (l + 1))) i
        ≡ Some p → value k c p ≡ slice_index_or column (i % length column) k.zero
    pub values : (n : ℕ) (p : Coordinates F) → l ≤ n → IsOnCircle k p →
        IsPeriodicValue k gen k (λ x. x) n column p (value k c (times k (2 ^ (n - l)) p))

  constant-value : (a : F) (p : Coordinates F) → value k (a ∷ []) p ≡ a
  constant-value a p = ring laws.ring (a ∷ []) (sum (prod (var 0) (prod unit unit)) (con 0)) (var 0)
      refl

  constant-repeated : (column : List F) → length column ≡ 1 → (c : List F) × IsRepeated column c
  constant-repeated [] one = absurd (omega arith)
  constant-repeated (a ∷ b ∷ rest) one = absurd (omega arith)
  constant-repeated (a ∷ []) one =
      let more = doubled laws.ring l 0 (a ∷ []) refl in
      let same : (p : Coordinates F) → IsOnCircle k p → value k more.0 p ≡ a = λ p on. more.2 p on
      ∙ constant-value a (times k (2 ^ l) p) in (
        more.0,
        record {
          count = more.1 ∙ ap (λ m. 2 ^ m) (let e : l + 0 ≡ l = omega arith in e);
          entries = λ i p here. same p (standard-on_circle laws.ring gens l positive small i p here)
              ∙ ap (λ r. slice_index_or (a ∷ []) r k.zero) (let first : 0 ≡ i % 1 = omega arith in
              first);
          values = λ n p le on.
              let at =
              same (times k (2 ^ (n - l)) p) (times-on_circle laws.ring (2 ^ (n - l)) p on) in
              record {
                empty = λ none. absurd (omega (arith, ap length none));
                constant = λ x is. at ∙ ap (λ xs. slice_index_or xs 0 k.zero) is;
                of_period =
                    λ j some long. absurd (let low : 2 ^ 1 ≤ 2 ^ j = pow_within 1 j some in
                    omega (arith, long, low));
                only =
                    λ j some long. absurd (let low : 2 ^ 1 ≤ 2 ^ j = pow_within 1 j some in
                    omega (arith, long, low));
              };
        },
      )

  period-repeated : (column : List F) (j : ℕ) → 1 ≤ j → j ≤ l → length column ≡ 2 ^ j →
      (c : List F) × IsRepeated column c
  period-repeated column j some within long =
      let two : 2 ^ 1 ≤ 2 ^ j = pow_within 1 j some in
      let on_circle : IsOnCircle k (gen (j + 1)) =
      gens.on_circle (j + 1) (omega (arith, within, small)) in
      let genuine = standard-genuine laws gens j some (omega (arith, within, small)) in
      let there = natural_order k gen j (gen (j + 1)) in
      let told = natural-told laws gens j (gen (j + 1)) (omega (arith, within, small)) on_circle
      genuine column long in
      let has : Interpolates k gen j (gen (j + 1)) told.0 column =
      record { count = told.1; values = told.2 } in
      let more = doubled laws.ring (l - j) j told.0 told.1 in
      let turned : times k (2 ^ (l - j)) (gen (l + 1)) ≡ gen (j + 1) =
      ap (λ m. times k (2 ^ (l - j)) (gen m)) (let e : l + 1 ≡ (l - j) + (j + 1) =
      omega (arith, within) in e)
      ∙ times-generator laws.ring gens (l - j) (j + 1) (omega (arith, within, small)) in (
        more.0,
        record {
          count = more.1 ∙ ap (λ m. 2 ^ m) (let e : l - j + j ≡ l = omega (arith, within) in e);
          entries = λ i p here.
              let q = times k (2 ^ (l - j)) p in
              let place =
              doubled-point laws.ring gens j (l - j) l (gen (l + 1)) some
              (let e : l ≡ j + (l - j) = omega (arith, within) in e) (omega (arith, small)) i p
              here in
              let at : slice_get there (i % 2 ^ j) ≡ Some q =
              ap (λ s. slice_get (natural_order k gen j s) (i % 2 ^ j)) (sym turned) ∙ place in
              more.2 p (standard-on_circle laws.ring gens l positive small i p here)
              ∙ ap (value k told.0) (sym (get_or_from_slice_get there (i % 2 ^ j) q (origin k) at))
              ∙ sym
              (get_or-map (value k told.0) there (i % 2 ^ j) (origin k) k.zero (slice_get_within
              there (i % 2 ^ j) q at))
              ∙ ap (λ xs. slice_index_or xs (i % 2 ^ j) k.zero) told.2
              ∙ ap (λ m. slice_index_or column (i % m) k.zero) (sym long);
          values = λ n p le on.
              let all : (cs : List F) → cs ≡ told.0 →
              value k more.0 (times k (2 ^ (n - l)) p) ≡ value k (map (λ x. x) cs)
              (times k (2 ^ (n - j)) p) = λ cs same.
              more.2 (times k (2 ^ (n - l)) p) (times-on_circle laws.ring (2 ^ (n - l)) p on)
              ∙ ap (value k told.0) (times-pow laws.ring (l - j) (n - l) p)
              ∙ ap (λ m. value k told.0 (times k (2 ^ m) p)) (let e : l - j + (n - l) ≡ n - j =
              omega (arith, within, le) in e)
              ∙ ap (λ ds. value k ds (times k (2 ^ (n - j)) p)) (sym (map-id cs ∙ same)) in
              record {
                empty = λ none. absurd (omega (arith, long, two, ap length none));
                constant = λ x one. absurd (omega (arith, long, two, ap length one));
                of_period = λ h some' of_length.
                    let same : j ≡ h = pow_injective j h (sym long ∙ of_length) in (
                      told.0,
                      subst (λ h. Interpolates k gen h (gen (h + 1)) told.0 column) same has,
                      all told.0 refl
                          ∙ ap (λ h. value k (map (λ x. x) told.0) (times k (2 ^ (n - h)) p)) same,
                    );
                only = λ h some' of_length others has'.
                    let same : j ≡ h = pow_injective j h (sym long ∙ of_length) in
                    all others
                    (one-only laws gens j (gen (j + 1)) some (omega (arith, within, small))
                    on_circle genuine.1 others told.0 column
                    (subst (λ h. Interpolates k gen h (gen (h + 1)) others column) (sym same) has')
                    has)
                    ∙ ap (λ h. value k (map (λ x. x) others) (times k (2 ^ (n - h)) p)) same;
              };
        },
      )

  -- the coefficients of a column that fits
  pub repeated : (column : List F) (j : ℕ) → j ≤ l → length column ≡ 2 ^ j →
      (c : List F) × IsRepeated column c
  repeated column zero within long = constant-repeated column long
  repeated column (suc j) within long = period-repeated column (suc j) (omega arith) within long
