-- Periodic columns as polynomials at a multiple of the point.
use Rattle.std.specs.Prelude.{◌≡◌, ℕ, ◌+◌, ◌-◌, ◌*◌, ◌%◌, ◌^◌, ◌<◌, ◌≤◌, List, [], ◌∷◌, length}
use Rattle.std.specs.Prelude.{map, slice_index_or}
use Rattle.std.proofs.Common.{zero, suc, sym, ◌∙◌, ap, refl, subst, arith, pow-add}
use Rattle.std.proofs.lemmas.List.{get_or-map, length-map}
use Rattle.std.proofs.lemmas.Nat.{pow_pos}
use Rattle.std.proofs.lemmas.Option.{get_or_from_slice_get}
use Rattle.circle_field.specs.Field.{FieldOps, FieldLaws, IsEmbedding}
use Rattle.circle_field.specs.Ring.{var, con, unit, plus as sum, times as prod}
use Rattle.circle_field.specs.RingSound.{ring}
use Rattle.circle_field.specs.Circle.{Coordinates, AreGenerators, plus, times, lifted}
use Rattle.circle_field.specs.Circle.{origin}
use Rattle.circle_point.specs.Basis.{value}
use Rattle.circle_domain.specs.Order.{natural_order, cfft_order}
use Rattle.circle_domain.specs.Periodic.{IsPeriodicValue}
use Rattle.circle_domain.specs.Values.{Interpolates}
use Rattle.circle_domain.proofs.Blocks.{times-plus, times-generator}
use Rattle.circle_domain.proofs.NaturalValues.{natural-told, length-natural}
use Rattle.circle_domain.proofs.Powers.{pow_injective}
use Rattle.circle_domain.proofs.StandardDomain.{standard-genuine}
use Rattle.circle_domain.proofs.Told.{values-tell}
use Rattle.circle_domain.proofs.Transform.{map-same}
use Rattle.circle_domain.proofs.Walking.{standard-point, times-times}
use Rattle.circle_domain.proofs.LiftedValues.{lifted-value}
use Rattle.circle_domain.proofs.Lifted.{lifted-times}
use Rattle.circle_folding.proofs.Only.{of_coefficients}
use Rattle.circle_quotient.proofs.Doubling.{multiple-form}
use Rattle.circle_quotient.proofs.Fits.{Fits, fits-one, fits-constant, fits-raised, fits-same}
use Rattle.circle_quotient.proofs.Forms.{HasForm, form-of_polynomial}
use Rattle.circle_quotient.proofs.Places.{point, point-mod, everywhere}

module _ {F : Type 0} {k : FieldOps F} (laws : FieldLaws k) {gen : ℕ → Coordinates F} {bits : ℕ}
    (gens : AreGenerators k bits gen) where
  -- a column's polynomial: of one entry the entry, of 2^log the only one with these values
  pub record IsPeriod (column : List F) (log : ℕ) (coeffs : List F) : Type 0 where
    pub size : length column ≡ 2 ^ log
    pub count : length coeffs ≡ 2 ^ log
    pub one : log ≡ 0 → coeffs ≡ column
    pub more : 1 ≤ log → map (value k coeffs) (natural_order k gen log (gen (log + 1))) ≡ column

  pub period-told : (column : List F) (log : ℕ) → length column ≡ 2 ^ log → log < bits →
      (coeffs : List F) × IsPeriod column log coeffs
  period-told column zero e fits = (
    column,
    record { size = e; count = e; one = λ z. refl; more = λ h. absurd (omega (arith, h)) },
  )
  period-told column (suc log) e fits =
      let told = natural-told laws gens (suc log) (gen (suc log + 1)) (omega (arith, fits))
      (gens.on_circle (suc log + 1) (omega (arith, fits)))
      (standard-genuine laws gens (suc log) (omega arith) fits) column e in (
        told.0,
        record {
          size = e;
          count = told.1;
          one = λ z. absurd (omega (arith, z));
          more = λ h. told.2;
        },
      )

  -- only one polynomial has these values in natural order
  natural-only : (n : ℕ) → 1 ≤ n → n < bits → (c d column : List F) →
      Interpolates k gen n (gen (n + 1)) c column → Interpolates k gen n (gen (n + 1)) d column →
      c ≡ d
  natural-only n positive fits c d column of_c of_d =
      let s = gen (n + 1) in
      let natural = natural_order k gen n s in
      let long : length natural ≡ 2 ^ n = length-natural laws.ring gens n s positive in
      let on = gens.on_circle (n + 1) (omega (arith, fits)) in
      let read : (e : List F) → (i : ℕ) → i < 2 ^ n →
      slice_index_or (map (value k e) natural) i k.zero
      ≡ value k e (point laws gens n positive fits i) =
      λ e i lt. get_or-map (value k e) natural i (origin k) k.zero (omega (arith, lt, long))
      ∙ ap (value k e)
      (get_or_from_slice_get natural i (point laws gens n positive fits i) (origin k)
      (standard-point laws.ring gens n positive fits i lt)) in
      values-tell laws gens n s (omega (arith, fits)) on
      (standard-genuine laws gens n positive fits).1 c d positive of_c.count of_d.count
      (map-same (value k c) (value k d) (λ p. value k c p ≡ value k d p) (cfft_order k gen n s)
      (everywhere laws gens n positive fits (λ p. value k c p ≡ value k d p)
      (λ i lt. sym (read c i lt)
      ∙ ap (λ xs. slice_index_or xs i k.zero) (of_c.values ∙ sym of_d.values) ∙ read d i lt))
      (λ p e. e))

module _ {F E : Type 0} {k : FieldOps F} {l : FieldOps E} {m : F → E} (base : FieldLaws k)
    (laws : FieldLaws l) (e : IsEmbedding k l m) {gen : ℕ → Coordinates F} {bits : ℕ}
    (gens : AreGenerators k bits gen) (j : ℕ) (fits : suc j < bits) where
  -- the column along the circle, under a trace of 2^(j + 1) rows
  abbrev pub period_value : ℕ → List F → Coordinates E → E
  period_value log coeffs q = value l (map m coeffs) (times l (2 ^ (suc j - log)) q)

  one-value : (x : F) (q : Coordinates E) → value l (map m (x ∷ [])) q ≡ m x
  one-value x q = ring laws.ring (m x ∷ []) (sum (prod (var 0) (prod unit unit)) (con 0)) (var 0)
      refl

  one-entry : (xs : List F) → length xs ≡ 1 → (x : F) × (xs ≡ x ∷ [])
  one-entry [] h = absurd (omega (arith, h))
  one-entry (x ∷ []) h = (x, refl)
  one-entry (x ∷ y ∷ xs) h = absurd (omega (arith, h))

  -- it has the degree of a column of the trace
  pub period-degree : (column : List F) (log : ℕ) (coeffs : List F) → log ≤ suc j →
      IsPeriod base gens column log coeffs → Fits l (2 ^ j) 1 (period_value log coeffs)
  period-degree column zero coeffs within is =
      let x = one-entry coeffs is.count in
      fits-raised laws (2 ^ j) (omega (arith, pow_pos j)) 1 0 1 (period_value 0 coeffs)
      (omega arith)
      (fits-same laws (2 ^ j) 0 (λ q. m x.0) (period_value 0 coeffs)
      (fits-constant laws (2 ^ j) (m x.0))
      (λ q on. ap (λ c. value l (map m c) (times l (2 ^ (suc j - 0)) q)) x.1
      ∙ one-value x.0 (times l (2 ^ (suc j - 0)) q)))
  period-degree column (suc log) coeffs within is =
      let d = suc j - suc log in
      let f = value l (map m coeffs) in
      let size : 2 ^ d * 2 ^ log ≡ 2 ^ j =
      sym (pow-add 2 d log) ∙ ap (λ i. 2 ^ i) (let a : d + log ≡ j = omega (arith, within) in a) in
      fits-one laws (2 ^ j) (period_value (suc log) coeffs)
      (subst (λ i. HasForm l i i (period_value (suc log) coeffs)) size
      (multiple-form laws d (2 ^ log) f (omega (arith, pow_pos log))
      (form-of_polynomial laws log f
      (of_coefficients laws (suc log) (map m coeffs) (length-map coeffs m ∙ is.count)))))

  -- at a point of the trace's domain it is the entry of the row
  multiple-point : (log i : ℕ) (positive : 1 ≤ log) → log ≤ suc j → (fits' : log < bits) →
      times k (2 ^ (suc j - log)) (point base gens (suc j) (omega arith) fits i)
      ≡ point base gens log positive fits' i
  multiple-point log i positive within fits' =
      let d = suc j - log in
      let n = suc j in
      let a : n + 1 ≡ d + (log + 1) = omega (arith, within) in
      let b : n ≡ d + log = omega (arith, within) in
      times-plus base.ring (2 ^ d) (gen (n + 1)) (times k i (gen n))
      ∙ ap (λ p. plus k p (times k (2 ^ d) (times k i (gen n))))
      (ap (λ s. times k (2 ^ d) (gen s)) a
      ∙ times-generator base.ring gens d (log + 1) (omega (arith, fits, within)))
      ∙ ap (plus k (gen (log + 1)))
      (times-times base.ring (2 ^ d) i (gen n)
      ∙ ap (times k i) (ap (λ s. times k (2 ^ d) (gen s)) b
      ∙ times-generator base.ring gens d log (omega (arith, fits, within))))

  pub period-entry : (column : List F) (log : ℕ) (coeffs : List F) → log ≤ suc j →
      IsPeriod base gens column log coeffs → (i : ℕ) →
      period_value log coeffs (lifted m (point base gens (suc j) (omega arith) fits i))
      ≡ m (slice_index_or column (i % length column) k.zero)
  period-entry column zero coeffs within is i =
      let x = one-entry coeffs is.count in
      let first : i % length column ≡ 0 = omega (arith, is.size) in
      let p = lifted m (point base gens (suc j) (omega arith) fits i) in
      ap (λ c. value l (map m c) (times l (2 ^ (suc j - 0)) p)) x.1
      ∙ one-value x.0 (times l (2 ^ (suc j - 0)) p)
      ∙ ap m (sym (ap (λ t. slice_index_or column t k.zero) first
      ∙ ap (λ xs. slice_index_or xs 0 k.zero) (sym (is.one refl) ∙ x.1)))
  period-entry column (suc log) coeffs within is i =
      let n = suc log in
      let d = suc j - n in
      let p = point base gens (suc j) (omega arith) fits i in
      let fits' : n < bits = omega (arith, fits, within) in
      let t = i % 2 ^ n in
      let below : t < 2 ^ n = omega (arith, pow_pos n) in
      let natural = natural_order k gen n (gen (n + 1)) in
      let long : length natural ≡ 2 ^ n =
      length-natural base.ring gens n (gen (n + 1)) (omega arith) in
      let small = point base gens n (omega arith) fits' in
      ap (value l (map m coeffs)) (sym (lifted-times e (2 ^ d) p))
      ∙ sym (lifted-value e coeffs (times k (2 ^ d) p))
      ∙ ap m
      (ap (value k coeffs) (multiple-point n i (omega arith) within fits'
      ∙ sym (point-mod base gens n (omega arith) fits' i))
      ∙ sym (ap (λ s. slice_index_or column (i % s) k.zero) is.size
      ∙ ap (λ xs. slice_index_or xs t k.zero) (sym (is.more (omega arith)))
      ∙ get_or-map (value k coeffs) natural t (origin k) k.zero (omega (arith, below, long))
      ∙ ap (value k coeffs) (get_or_from_slice_get natural t (small t) (origin k)
      (standard-point base.ring gens n (omega arith) fits' t below))))

  -- and at any point what is asked of a periodic column's value
  pub period-is : (column : List F) (log : ℕ) (coeffs : List F) → log ≤ suc j →
      IsPeriod base gens column log coeffs → (q : Coordinates E) →
      IsPeriodicValue k gen l m (suc j) column q (period_value log coeffs q)
  period-is column log coeffs within is q = record {
    empty = λ none. absurd (omega (arith, pow_pos log, is.size, ap length none));
    constant = λ x one.
        let none : log ≡ 0 = pow_injective log 0 (sym is.size ∙ ap length one) in
        ap (λ c. value l (map m c) (times l (2 ^ (suc j - log)) q)) (is.one none ∙ one)
        ∙ one-value x (times l (2 ^ (suc j - log)) q);
    of_period = λ i positive size.
        let same : log ≡ i = pow_injective log i (sym is.size ∙ size) in
        let some : 1 ≤ log = omega (arith, same, positive) in (
          coeffs,
          record {
            count = is.count ∙ ap (λ s. 2 ^ s) same;
            values = ap (λ s. map (value k coeffs) (natural_order k gen s (gen (s + 1)))) (sym same)
                ∙ is.more some;
          },
          ap (λ s. value l (map m coeffs) (times l (2 ^ (suc j - s)) q)) same,
        );
    only = λ i positive size others of_others.
        let same : log ≡ i = pow_injective log i (sym is.size ∙ size) in
        let some : 1 ≤ log = omega (arith, same, positive) in
        let equal : coeffs ≡ others =
        natural-only base gens i positive (omega (arith, same, within, fits)) coeffs others column
        (record {
          count = is.count ∙ ap (λ s. 2 ^ s) same;
          values = ap (λ s. map (value k coeffs) (natural_order k gen s (gen (s + 1)))) (sym same)
              ∙ is.more some;
        }) of_others in
        ap (λ s. value l (map m coeffs) (times l (2 ^ (suc j - s)) q)) same
        ∙ ap (λ c. value l (map m c) (times l (2 ^ (suc j - i)) q)) equal;
  }

  -- which no other value has
  pub period-only : (column : List F) (log : ℕ) (coeffs : List F) → log ≤ suc j →
      IsPeriod base gens column log coeffs → (q : Coordinates E) (v : E) →
      IsPeriodicValue k gen l m (suc j) column q v → v ≡ period_value log coeffs q
  period-only column zero coeffs within is q v given =
      let x = one-entry coeffs is.count in
      given.constant x.0 (sym (is.one refl) ∙ x.1)
      ∙ sym (ap (λ c. value l (map m c) (times l (2 ^ (suc j - 0)) q)) x.1
      ∙ one-value x.0 (times l (2 ^ (suc j - 0)) q))
  period-only column (suc log) coeffs within is q v given =
      given.only (suc log) (omega arith) is.size coeffs
      (record { count = is.count; values = is.more (omega arith) })
