-- The polynomial of a column's next rows is that of the column, one step on.
use Rattle.std.specs.Prelude.{◌≡◌, ◌≢◌, ℕ, ◌+◌, ◌-◌, ◌%◌, ◌^◌, ◌<◌, ◌≤◌, List, [], ◌∷◌, length}
use Rattle.std.specs.Prelude.{map, Some, slice_get}
use Rattle.std.specs.List.{AllByRecursion}
use Rattle.std.proofs.Common.{zero, suc, sym, ◌∙◌, ap, refl, subst, arith}
use Rattle.std.proofs.lemmas.List.{get_or-map, length-map}
use Rattle.std.proofs.lemmas.Nat.{pow_pos}
use Rattle.std.proofs.lemmas.Option.{get_or_from_slice_get, slice_get-get_or}
use Rattle.circle_field.specs.Field.{FieldOps, FieldLaws, IsEmbedding, sub}
use Rattle.circle_field.specs.Ring.{var, con, unit, plus as sum, minus}
use Rattle.circle_field.specs.RingCombine.{given, combine}
use Rattle.circle_field.specs.Circle.{Coordinates, IsOnCircle, AreGenerators, opposite, plus}
use Rattle.circle_field.specs.Circle.{origin, times, lifted}
use Rattle.circle_point.specs.Basis.{value}
use Rattle.circle_domain.specs.Order.{coset, natural_order, cfft_order, with_opposites}
use Rattle.circle_domain.specs.Values.{Interpolates}
use Rattle.circle_domain.proofs.Blocks.{times-generator}
use Rattle.circle_domain.proofs.Lifted.{lifted-plus, lifted-generators, lifted-opposite}
use Rattle.circle_domain.proofs.LiftedValues.{lifted-value, lifted-coset}
use Rattle.circle_domain.proofs.NaturalValues.{length-natural}
use Rattle.circle_domain.proofs.StandardDomain.{standard-genuine}
use Rattle.circle_domain.proofs.Twiddles.{length-coset}
use Rattle.circle_domain.proofs.Walking.{standard-point, standard-next}
use Rattle.circle_folding.proofs.Only.{of_coefficients}
use Rattle.circle_quotient.specs.NextRow.{IsRotated, HaveNextValues}
use Rattle.circle_quotient.proofs.Monomials.{all-both}
use Rattle.circle_quotient.proofs.Places.{point, everywhere, all-pairs, some_injective}
use Rattle.circle_quotient.proofs.Forms.{HasForm, IsRoot, form-of_polynomial, form-translated}
use Rattle.circle_quotient.proofs.Forms.{form-difference, vanishes}
use Rattle.circle_quotient.proofs.Cosets.{coset-distinct, coset-apart}

all-mapped : {X Y : Type 0} (f : X → Y) (P : Y → Type 0) (xs : List X) →
    AllByRecursion (λ x. P (f x)) xs → AllByRecursion P (map f xs)
all-mapped f P [] all = tt
all-mapped f P (x ∷ xs) all = (all.0, all-mapped f P xs all.1)

module _ {F : Type 0} {k : FieldOps F} (laws : FieldLaws k) {gen : ℕ → Coordinates F} {bits : ℕ}
    (gens : AreGenerators k bits gen) (n : ℕ) (positive : 1 ≤ n) (fits : n < bits) where
  abbrev domain : List (Coordinates F)
  domain = natural_order k gen n (gen (n + 1))

  abbrev here : ℕ → Coordinates F
  here = point laws gens n positive fits

  long : length domain ≡ 2 ^ n
  long = length-natural laws.ring gens n (gen (n + 1)) positive

  read : (c column : List F) → map (value k c) domain ≡ column → (i : ℕ) → i < 2 ^ n →
      slice_get column i ≡ Some (value k c (here i))
  read c column e i lt =
      let below : i < length domain = omega (arith, lt, long) in
      let there : i < length (map (value k c) domain) =
      omega (arith, below, length-map domain (value k c)) in
      ap (λ xs. slice_get xs i) (sym e)
      ∙ slice_get-get_or (map (value k c) domain) i k.zero there
      ∙ ap Some (get_or-map (value k c) domain i (origin k) k.zero below
      ∙ ap (value k c) (get_or_from_slice_get domain i (here i) (origin k)
      (standard-point laws.ring gens n positive fits i lt)))

  module _ (c d column next : List F) (of_c : Interpolates k gen n (gen (n + 1)) c column)
      (of_d : Interpolates k gen n (gen (n + 1)) d next) (rotated : IsRotated column next) where
    at_place : (i : ℕ) → i < 2 ^ n → value k d (here i) ≡ value k c (plus k (here i) (gen n))
    at_place i lt =
        let size : length column ≡ 2 ^ n =
        ap length (sym of_c.values) ∙ length-map domain (value k c) ∙ long in
        let j = (i + 1) % 2 ^ n in
        let below : j < 2 ^ n = omega (arith, pow_pos n) in
        let step : plus k (here i) (gen n) ≡ here j =
        standard-next laws.ring gens n positive fits i (here i) (here j)
        (standard-point laws.ring gens n positive fits i lt)
        (standard-point laws.ring gens n positive fits j below) in
        some_injective (value k d (here i)) (value k c (plus k (here i) (gen n)))
        (sym (read d next of_d.values i lt) ∙ rotated.each i (omega (arith, lt, size))
        ∙ ap (λ m. slice_get column ((i + 1) % m)) size ∙ read c column of_c.values j below
        ∙ ap (λ p. Some (value k c p)) (sym step))

    -- the two agree at each point of the domain
    pub agree : AllByRecursion (λ p. value k d p ≡ value k c (plus k p (gen n)))
        (cfft_order k gen n (gen (n + 1)))
    agree = everywhere laws gens n positive fits
        (λ p. value k d p ≡ value k c (plus k p (gen n))) at_place

module _ {F E : Type 0} {k : FieldOps F} {l : FieldOps E} {m : F → E} (base : FieldLaws k)
    (laws : FieldLaws l) (e : IsEmbedding k l m) {gen : ℕ → Coordinates F} {bits : ℕ}
    (gens : AreGenerators k bits gen) where
  abbrev up : ℕ → Coordinates E
  up i = lifted m (gen i)

  -- the multiple of the step by half the size is the half turn
  pub flat : (j : ℕ) → suc j ≤ bits → (times l (2 ^ j) (up (suc j))).y ≡ l.zero
  flat j fits =
      let gens' = lifted-generators e gens in
      let s : j + 1 ≡ suc j = omega arith in
      ap (λ (r : Coordinates E). r.y)
      (ap (λ i. times l (2 ^ j) (up i)) (sym s)
      ∙ times-generator laws.ring gens' j 1 (omega (arith, fits)) ∙ gens'.half_turn)

  module _ (j : ℕ) (fits : suc j < bits) (c d : List F) (long_c : length c ≡ 2 ^ suc j)
      (long_d : length d ≡ 2 ^ suc j)
      (agree : AllByRecursion (λ p. value k d p ≡ value k c (plus k p (gen (suc j))))
      (with_opposites k (coset k gen j (gen (suc j + 1))))) where
    abbrev step : Coordinates E
    step = up (suc j)

    abbrev ahead : Coordinates E → E
    ahead p = value l (map m c) (plus l p step)

    abbrev after : Coordinates E → E
    after p = value l (map m d) p

    lifted-agree : (p : Coordinates F) → value k d p ≡ value k c (plus k p (gen (suc j))) →
        sub l (after (lifted m p)) (ahead (lifted m p)) ≡ l.zero
    lifted-agree p is =
        let same : after (lifted m p) ≡ ahead (lifted m p) =
        sym (lifted-value e d p) ∙ ap m is ∙ lifted-value e c (plus k p (gen (suc j)))
        ∙ ap (value l (map m c)) (lifted-plus e p (gen (suc j))) in
        combine laws.ring (after (lifted m p) ∷ ahead (lifted m p) ∷ [])
        (sum (var 0) (minus (var 1))) (con 0) (given unit (var 0) (var 1) ∷ []) refl (same, tt)

    next-everywhere : (q : Coordinates E) → IsOnCircle l q → after q ≡ ahead q
    next-everywhere q on =
        let half = 2 ^ j in
        let d' = half - 1 in
        let whole : suc d' ≡ half = omega (arith, pow_pos j) in
        let gens' = lifted-generators e gens in
        let s = gen (suc j + 1) in
        let ps = coset l up j (lifted m s) in
        let up_coset : map (lifted m) (coset k gen j s) ≡ ps = lifted-coset e gen j s in
        let count : length ps ≡ half = length-coset l up j (lifted m s) in
        let on_step : IsOnCircle l step = gens'.on_circle (suc j) (omega (arith, fits)) in
        let form : (c : List F) → length c ≡ 2 ^ suc j →
        HasForm l half half (value l (map m c)) =
        λ c long. form-of_polynomial laws j (value l (map m c))
        (of_coefficients laws (suc j) (map m c) (length-map c m ∙ long)) in
        let form_ahead : HasForm l half half ahead =
        subst (λ i. HasForm l i i ahead) whole
        (form-translated laws d' (value l (map m c)) step on_step
        (ap (λ i. (times l i step).y) whole ∙ flat j (omega (arith, fits)))
        (subst (λ i. HasForm l i i (value l (map m c))) (sym whole) (form c long_c))) in
        let difference = λ (p : Coordinates E). sub l (after p) (ahead p) in
        let genuine : times l (2 ^ suc j) (lifted m s) ≢ origin l =
        (standard-genuine laws gens' (suc j) (omega arith) fits).1 in
        let on_s : IsOnCircle l (lifted m s) = gens'.on_circle (suc j + 1) (omega (arith, fits)) in
        let zeros : AllByRecursion (λ p. (difference p ≡ l.zero)
        × (difference (opposite l p) ≡ l.zero)) ps =
        subst (AllByRecursion (λ p. (difference p ≡ l.zero)
        × (difference (opposite l p) ≡ l.zero))) up_coset
        (all-mapped (lifted m) (λ p. (difference p ≡ l.zero)
        × (difference (opposite l p) ≡ l.zero)) (coset k gen j s)
        (all-pairs k (λ p. value k d p ≡ value k c (plus k p (gen (suc j))))
        (λ p. (difference (lifted m p) ≡ l.zero)
        × (difference (opposite l (lifted m p)) ≡ l.zero)) (coset k gen j s)
        (λ p here there. (
          lifted-agree p here,
          ap difference (sym (lifted-opposite e p)) ∙ lifted-agree (opposite k p) there,
        )) agree)) in
        let gone : difference q ≡ l.zero =
        vanishes laws ps difference
        (subst (λ i. HasForm l i i difference) (sym count)
        (form-difference laws half half after ahead (form d long_d) form_ahead))
        (coset-distinct laws gens' j (lifted m s) (omega (arith, fits)) on_s genuine)
        (all-both (λ p. IsOnCircle l p × (p.y ≢ l.zero)) (λ p. (difference p ≡ l.zero)
        × (difference (opposite l p) ≡ l.zero)) (IsRoot laws difference) ps
        (λ p a b. record { on = a.0; apart = a.1; here = b.0; opposite = b.1 })
        (coset-apart laws gens' j (lifted m s) (omega (arith, fits)) on_s genuine) zeros) q on in
        combine laws.ring (after q ∷ ahead q ∷ []) (var 0) (var 1)
        (given unit (sum (var 0) (minus (var 1))) (con 0) ∷ []) refl (gone, tt)

  -- for every size and every point
  pub next_values : (n : ℕ) → 1 ≤ n → n < bits → (column next : List F) →
      IsRotated column next → (q : Coordinates E) → IsOnCircle l q →
      HaveNextValues k gen l m n column next q
  next_values zero positive fits column next rotated q on c d of_c of_d = absurd (omega arith)
  next_values (suc j) positive fits column next rotated q on c d of_c of_d =
      let same : suc j - 1 ≡ j = omega arith in
      next-everywhere j fits c d of_c.count of_d.count
      (subst (λ i. AllByRecursion (λ p. value k d p ≡ value k c (plus k p (gen (suc j))))
      (with_opposites k (coset k gen i (gen (suc j + 1))))) same
      (agree base gens (suc j) positive fits c d column next of_c of_d rotated)) q on
