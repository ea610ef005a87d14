-- Where the identity holds at enough points, for as many challenges as there are constraints, the
-- columns' values on the trace's domain satisfy the constraints.
use Rattle.std.specs.Prelude.{◌≡◌, ◌≢◌, ℕ, ◌+◌, ◌-◌, ◌*◌, ◌^◌, ◌<◌, ◌≤◌, List, [], ◌∷◌, length, map}
use Rattle.std.specs.Prelude.{fold, slice_index_or, All}
use Rattle.std.specs.List.{AllByRecursion, range_with_len}
use Rattle.std.proofs.Common.{zero, suc, sym, ◌∙◌, ap, refl, subst, arith, ⊎_elim}
use Rattle.std.proofs.Math.ListN.{get_or-eq_default}
use Rattle.std.proofs.Math.Nat.{pow-suc}
use Rattle.std.proofs.lemmas.Bool.{cases_eq, cases_lt}
use Rattle.std.proofs.lemmas.List.{get_or-map, length-map}
use Rattle.std.proofs.lemmas.Nat.{pow_pos}
use Rattle.circle_field.specs.Field.{FieldOps, FieldLaws, IsEmbedding, sub}
use Rattle.circle_field.specs.Ring.{var, con, unit, plus as sum, times as prod, minus}
use Rattle.circle_field.specs.RingSound.{ring}
use Rattle.circle_field.specs.RingCombine.{given, combine}
use Rattle.circle_field.specs.Circle.{Coordinates, IsOnCircle, AreGenerators, plus, times, lifted}
use Rattle.circle_field.specs.CircleGroup.{plus-on_circle}
use Rattle.circle_field.proofs.Inverses.{one_nonzero, nonzero_product}
use Rattle.circle_point.specs.Basis.{value as value_at, iterated_x, vanishing}
use Rattle.circle_point.specs.Projective.{from_line, to_line, line_norm, half_turn}
use Rattle.circle_point.proofs.Multiples.{iterated_x-times, times-on_circle}
use Rattle.circle_point.proofs.Projections.{line_norm-zero, from_line-on_circle, from_line-to_line}
use Rattle.circle_point.proofs.Projections.{to_line-nonzero}
use Rattle.circle_commit.specs.DotProduct.{dot}
use Rattle.circle_domain.specs.Selectors.{IsFinite}
use Rattle.circle_domain.proofs.Blocks.{times-plus, times-generator}
use Rattle.circle_domain.proofs.Lifted.{lifted-generators, lifted-plus, lifted-times}
use Rattle.circle_domain.proofs.Walking.{standard-point, standard-finite, times-times, nonzero_next}
use Rattle.circle_folding.specs.Claims.{AreDistinct}
use Rattle.circle_folding.specs.WideSpans.{wide_value}
use Rattle.circle_folding.proofs.Only.{of_coefficients}
use Rattle.circle_air.specs.declared.node.Constraint.{Constraint}
use Rattle.circle_air.specs.declared.node.Place.{Place}
use Rattle.circle_air.specs.declared.node.Place.TheVariants.{Every, First, Last, Transition}
use Rattle.circle_air.specs.Degrees.{degrees, greatest_degree}
use Rattle.circle_air.specs.Parts.{Parts}
use Rattle.circle_air.specs.Places.{HasRow}
use Rattle.circle_air.specs.Satisfies.{Satisfies, HoldsAt, window_of_row}
use Rattle.circle_air.specs.Values.{Window, entry, values}
use Rattle.circle_quotient.specs.Composition.{Selectors, selector, composition}
use Rattle.circle_quotient.specs.Identity.{WideColumn, wide_at, HasEvidence, HasWideIdentity}
use Rattle.circle_quotient.specs.Identity.{AreRowsOf, values_of_parts}
use Rattle.circle_quotient.specs.Recomposition.{recomposed, part_factor}
use Rattle.circle_quotient.proofs.Challenges.{horner, all-zero}
use Rattle.circle_quotient.proofs.Compositions.{AreSelectors, composition-degree}
use Rattle.circle_quotient.proofs.Fits.{Fits, form-of_odd}
use Rattle.circle_quotient.proofs.Forms.{HasForm, form-of_polynomial, form-difference, form-raised}
use Rattle.circle_quotient.proofs.Forms.{form-combined, form-doubled, form-same}
use Rattle.circle_quotient.proofs.Grades.{IsGraded, FitsWide, wide}
use Rattle.circle_quotient.proofs.Identity.{selector_polynomials, selectors-degree, selectors-there}
use Rattle.circle_quotient.proofs.Identity.{below-all, each-of}
use Rattle.circle_quotient.proofs.LineRoots.{IsLineRoot, zero-on_line}
use Rattle.circle_quotient.proofs.Monomials.{IsDistinct, all-both, zero_factor}
use Rattle.circle_quotient.proofs.PartValues.{length-values_of_parts}
use Rattle.circle_quotient.proofs.Periods.{period_value, period-degree}
use Rattle.circle_quotient.proofs.Places.{point}
use Rattle.circle_quotient.proofs.Recomposing.{together, together-form}
use Rattle.circle_quotient.proofs.Selecting.{normal, normal-nonzero, first_told, last_told}
use Rattle.circle_quotient.proofs.Selecting.{first-there, last-there, last-elsewhere, at_shift}
use Rattle.circle_quotient.proofs.Windows.{HavePolynomials, window_at, window-is, window-columns}
use Rattle.circle_quotient.proofs.Windows.{window-lifted, values-lifted, column-entry, column-form}
use Rattle.circle_quotient.proofs.Windows.{next-form}

distinct-of : {E : Type 0} (xs : List E) → AreDistinct xs → IsDistinct xs
distinct-of [] d = tt
distinct-of (x ∷ xs) d = (each-of (λ y. y ≢ x) (λ y. y ≢ x) xs (λ y h. h) d.0, distinct-of xs d.1)

read-each : {X : Type 0} (P : X → Type 0) (xs : List X) → AllByRecursion P xs → All P xs
read-each P [] all = λ i d lt. absurd (omega arith)
read-each P (x ∷ xs) all = λ i d lt. ⊎_elim
    (λ here. subst (λ t. P (slice_index_or (x ∷ xs) t d)) (sym here) all.0)
    (λ other.
    let back : suc (i - 1) ≡ i = omega (arith, other) in
    subst (λ t. P (slice_index_or (x ∷ xs) t d)) back
    (read-each P xs all.1 (i - 1) d (omega (arith, lt, other))))
    (cases_eq i 0)

module _ {E : Type 0} {l : FieldOps E} (laws : FieldLaws l) (j : ℕ) where
  -- a polynomial and a multiple of v_n
  pub wide-form : (f : Coordinates E → E) (a : E) → HasForm l (2 ^ j) (2 ^ j) f →
      FitsWide l (2 ^ j) 1 (λ q. l.add (f q) (l.mul a (iterated_x l j q.x)))
  wide-form f a s =
      let size = 2 ^ j in
      let x = λ (q : Coordinates E). iterated_x l j q.x in
      form-same laws (1 * size + 1) (1 * size)
      (λ q. l.add (l.mul l.one (f q)) (l.mul a (x q))) (λ q. l.add (f q) (l.mul a (x q)))
      (form-combined laws (1 * size + 1) (1 * size) l.one a f x
      (form-raised laws size size (1 * size + 1) (1 * size) f (omega arith) (omega arith) s)
      (form-raised laws (suc size) 0 (1 * size + 1) (1 * size) x (omega arith) (omega arith)
      (form-doubled laws j)))
      (λ q on. ap (λ v. l.add v (l.mul a (x q))) (sym (laws.ring.one_mul (f q))))

  pub wider : (f : Coordinates E → E) → Fits l (2 ^ j) 1 f → FitsWide l (2 ^ j) 1 f
  wider f s =
      let size = 2 ^ j in
      form-raised laws (1 * size) (1 * size) (1 * size + 1) (1 * size) f (omega arith) (omega arith)
      (form-of_odd laws size 1 f (λ e. omega (arith, e)) s)

  module _ {gen : ℕ → Coordinates E} {bits : ℕ} (gens : AreGenerators l bits gen)
      (fits : suc j < bits) where
    step-turn : times l (2 ^ j) (gen (suc j)) ≡ half_turn l
    step-turn =
        let s : j + 1 ≡ suc j = omega arith in
        ap (λ i. times l (2 ^ j) (gen i)) (sym s)
        ∙ times-generator laws.ring gens j 1 (omega (arith, fits)) ∙ gens.half_turn

    -- one step turns the sign of v_n
    pub next-vanishing : (q : Coordinates E) → IsOnCircle l q →
        iterated_x l j (plus l q (gen (suc j))).x ≡ l.neg (iterated_x l j q.x)
    next-vanishing q on =
        let g = gen (suc j) in
        let r = times l (2 ^ j) q in
        iterated_x-times laws.ring j (plus l q g)
        (plus-on_circle laws.ring q g on (gens.on_circle (suc j) (omega (arith, fits))))
        ∙ ap (λ (p : Coordinates E). p.x) (times-plus laws.ring (2 ^ j) q g
        ∙ ap (plus l r) step-turn)
        ∙ ring laws.ring (r.x ∷ r.y ∷ [])
        (sum (prod (var 0) (minus unit)) (minus (prod (var 1) (con 0)))) (minus (var 0)) refl
        ∙ ap l.neg (sym (iterated_x-times laws.ring j q on))

    -- and v_n is 0 at the points of the domain
    abbrev pub place : ℕ → Coordinates E
    place i = plus l (gen (suc j + 1)) (times l i (gen (suc j)))

    turns-flat : (i : ℕ) → (times l i (half_turn l)).y ≡ l.zero
    turns-flat zero = refl
    turns-flat (suc i) =
        let r = times l i (half_turn l) in
        combine laws.ring (r.x ∷ r.y ∷ []) (sum (prod (minus unit) (var 1)) (prod (con 0) (var 0)))
        (con 0) (given (minus unit) (var 1) (con 0) ∷ []) refl (turns-flat i, tt)

    pub vanishing-place : (i : ℕ) → iterated_x l j (place i).x ≡ l.zero
    vanishing-place i =
        let s = gen (suc j + 1) in
        let g = gen (suc j) in
        let on_s = gens.on_circle (suc j + 1) (omega (arith, fits)) in
        let on_g = gens.on_circle (suc j) (omega (arith, fits)) in
        let a = times l (2 ^ j) s in
        let b = times l i (half_turn l) in
        let at_first : a.x ≡ l.zero =
        sym (iterated_x-times laws.ring j s on_s) ∙ at_shift laws gens j fits in
        iterated_x-times laws.ring j (place i)
        (plus-on_circle laws.ring s (times l i g) on_s (times-on_circle laws.ring i g on_g))
        ∙ ap (λ (p : Coordinates E). p.x)
        (times-plus laws.ring (2 ^ j) s (times l i g)
        ∙ ap (plus l a) (times-times laws.ring (2 ^ j) i g ∙ ap (times l i) step-turn))
        ∙ combine laws.ring (a.x ∷ a.y ∷ b.x ∷ b.y ∷ [])
        (sum (prod (var 0) (var 2)) (minus (prod (var 1) (var 3)))) (con 0)
        (given (var 2) (var 0) (con 0) ∷ given (minus (var 1)) (var 3) (con 0) ∷ []) refl
        (at_first, (turns-flat i, tt))

    -- a point of the domain by its coordinate
    pub place-coordinate : (i : ℕ) → i < 2 ^ suc j →
        (line_norm l (to_line l (place i)) ≢ l.zero) × (from_line l (to_line l (place i)) ≡ place i)
    place-coordinate i lt =
        let s = gen (suc j + 1) in
        let g = gen (suc j) in
        let on = plus-on_circle laws.ring s (times l i g)
        (gens.on_circle (suc j + 1) (omega (arith, fits)))
        (times-on_circle laws.ring i g (gens.on_circle (suc j) (omega (arith, fits)))) in
        let finite = nonzero_next laws (place i).x
        (standard-finite laws gens (suc j) (omega arith) fits i (place i)
        (standard-point laws.ring gens (suc j) (omega arith) fits i lt)) in
        (to_line-nonzero laws (place i) on finite, from_line-to_line laws (place i) on finite)

    -- where a place has the row, its selector isn't 0 there
    pub selector-nonzero : {F : Type 0} (embed : F → E) (at : Place) (i : ℕ) → i < 2 ^ suc j →
        HasRow at (2 ^ suc j) i →
        selector l (selector_polynomials laws embed gens j fits (place i)) at ≢ l.zero
    selector-nonzero embed Every i lt has = one_nonzero laws
    selector-nonzero embed First i lt has = λ z.
        nonzero_product laws (normal laws gens j fits)
        (value_at l (first_told laws gens j fits).0 (place i)) (normal-nonzero laws gens j fits)
        (λ none. one_nonzero laws (sym (first-there laws gens j fits)
        ∙ ap (λ t. value_at l (first_told laws gens j fits).0 (place t)) (sym has) ∙ none)) z
    selector-nonzero embed Last i lt has = λ z.
        let n = normal laws gens j fits in
        let v = value_at l (last_told laws gens j fits).0 (place i) in
        nonzero_product laws n v (normal-nonzero laws gens j fits)
        (λ none. one_nonzero laws (sym (last-there laws gens j fits i has) ∙ none))
        (combine laws.ring (n ∷ v ∷ []) (prod (var 0) (var 1)) (con 0)
        (given (minus unit) (minus (prod (var 0) (var 1))) (con 0) ∷ []) refl (z, tt))
    selector-nonzero embed Transition i lt has = λ z.
        one_nonzero laws
        (ring laws.ring [] unit (sum unit (minus (con 0))) refl
        ∙ ap (sub l l.one) (sym (last-elsewhere laws gens j fits i lt (λ e. omega (arith, e, has))))
        ∙ z)

fold-mapped : {A B C : Type 0} (f : C → B → C) (g : A → B) (s : C) (xs : List A) →
    fold (λ c a. f c (g a)) s xs ≡ fold f s (map g xs)
fold-mapped f g s [] = refl
fold-mapped f g s (x ∷ xs) = fold-mapped f g (f s (g x)) xs

all-unmapped : {A B : Type 0} (P : B → Type 0) (g : A → B) (xs : List A) →
    AllByRecursion P (map g xs) → AllByRecursion (λ x. P (g x)) xs
all-unmapped P g [] all = tt
all-unmapped P g (x ∷ xs) all = (all.0, all-unmapped P g xs all.1)

module _ {F E : Type 0} {k : FieldOps F} {l : FieldOps E} {m : F → E} (base : FieldLaws k)
    (laws : FieldLaws l) (e : IsEmbedding k l m) {gen : ℕ → Coordinates F} {bits : ℕ}
    (gens : AreGenerators k bits gen) (j : ℕ) (fits : suc j < bits)
    (p : Parts F) (columns : List (WideColumn F)) (public : List F)
    (have : HavePolynomials base laws e gens j fits p.periodic_columns)
    (long : AllByRecursion (λ (c : WideColumn F). length c.coefficients ≡ 2 ^ suc j) columns)
    (log_chunks : ℕ) (bound : greatest_degree (degrees p.nodes) p.constraints ≤ 2 ^ log_chunks + 1)
  where
    abbrev up : ℕ → Coordinates E
    up i = lifted m (gen i)

    abbrev gens' : AreGenerators l bits up
    gens' = lifted-generators e gens

    abbrev x_at : Coordinates E → E
    x_at q = iterated_x l j q.x

    vanishing-x : (q : Coordinates E) → vanishing l (suc j) q ≡ x_at q
    vanishing-x q = let same : suc j - 1 ≡ j = omega arith in ap (λ i. iterated_x l i q.x) same

    abbrev column_at : WideColumn F → Coordinates E → E
    column_at c q = wide_at k gen l m (suc j) log_chunks c q

    abbrev window : Coordinates E → Window E
    window = window_at base laws e gens j fits p columns column_at public have

    abbrev selectors : Coordinates E → Selectors E
    selectors = selector_polynomials laws m gens' j fits

    abbrev grades : IsGraded l (FitsWide l (2 ^ j))
    grades = wide laws (2 ^ j) (omega (arith, pow_pos j))

    column-degree : (c : WideColumn F) → length c.coefficients ≡ 2 ^ suc j →
        FitsWide l (2 ^ j) 1 (column_at c)
    column-degree c is =
        form-same laws (1 * 2 ^ j + 1) (1 * 2 ^ j)
        (λ q. l.add (value_at l (map m c.coefficients) q) (l.mul (m c.multiple) (x_at q)))
        (column_at c)
        (wide-form laws j (value_at l (map m c.coefficients)) (m c.multiple)
        (column-form base laws e gens j fits c.coefficients is))
        (λ q on. ap (λ v. l.add (value_at l (map m c.coefficients) q) (l.mul (m c.multiple) v))
        (vanishing-x q))

    next-degree : (c : WideColumn F) → length c.coefficients ≡ 2 ^ suc j →
        FitsWide l (2 ^ j) 1 (λ q. column_at c (plus l q (up (suc j))))
    next-degree c is =
        let f = λ (q : Coordinates E). value_at l (map m c.coefficients) (plus l q (up (suc j))) in
        form-same laws (1 * 2 ^ j + 1) (1 * 2 ^ j)
        (λ q. l.add (f q) (l.mul (l.neg (m c.multiple)) (x_at q)))
        (λ q. column_at c (plus l q (up (suc j))))
        (wide-form laws j f (l.neg (m c.multiple))
        (next-form base laws e gens j fits c.coefficients is))
        (λ q on. ap (λ v. l.add (f q) (l.mul (m c.multiple) v))
        (vanishing-x (plus l q (up (suc j))) ∙ next-vanishing laws j gens' fits q on)
        ∙ ring laws.ring (f q ∷ m c.multiple ∷ x_at q ∷ [])
        (sum (var 0) (prod (var 1) (minus (var 2)))) (sum (var 0) (prod (minus (var 1)) (var 2)))
        refl)

    columns-degree : (cs : List (WideColumn F)) →
        AllByRecursion (λ (c : WideColumn F). length c.coefficients ≡ 2 ^ suc j) cs →
        AllByRecursion (λ c. FitsWide l (2 ^ j) 1 (column_at c)
        × FitsWide l (2 ^ j) 1 (λ q. column_at c (plus l q (up (suc j))))) cs
    columns-degree [] all = tt
    columns-degree (c ∷ cs) all =
        ((column-degree c all.0, next-degree c all.0), columns-degree cs all.1)

    wide-selectors : AreSelectors laws m grades selectors
    wide-selectors =
        let narrow = selectors-degree laws m gens' j fits in record {
          first = wider laws j (λ q. (selectors q).first) narrow.first;
          last = wider laws j (λ q. (selectors q).last) narrow.last;
          transition = wider laws j (λ q. (selectors q).transition) narrow.transition;
        }

    abbrev put_together : E → Coordinates E → E
    put_together alpha q = composition l m p (window q) (selectors q) alpha

    abbrev degree : ℕ
    degree = 2 ^ log_chunks + 1

    composed-form : (alpha : E) →
        HasForm l (degree * 2 ^ j + 1) (degree * 2 ^ j) (put_together alpha)
    composed-form alpha =
        composition-degree laws m grades window
        (window-columns base laws e gens j fits p columns column_at public have grades
        (λ log c coeffs within is. wider laws j (period_value base laws e gens j fits log coeffs)
        (period-degree base laws e gens j fits c log coeffs within is))
        (columns-degree columns long))
        selectors wide-selectors p alpha degree bound

    -- for one challenge
    module _ (alpha : E)
        (given_at : HasEvidence k gen l m (suc j) log_chunks p columns public alpha)
        (size : length (values_of_parts k gen l m (suc j) log_chunks) ≡ 2 ^ log_chunks) where
      abbrev xs : List E
      xs = values_of_parts k gen l m (suc j) log_chunks

      abbrev chunk_at : WideColumn E → Coordinates E → E
      chunk_at c q = wide_value l (suc j) c.coefficients c.multiple q

      abbrev chunk_values : Coordinates E → List E
      chunk_values q = map (λ c. chunk_at c q) given_at.chunks

      abbrev recomposition : Coordinates E → E
      recomposition q = l.mul (x_at q) (recomposed l xs (chunk_values q) (x_at q))

      abbrev difference : Coordinates E → E
      difference q = sub l (put_together alpha q) (recomposition q)

      chunk-form : (c : WideColumn E) → length c.coefficients ≡ 2 ^ suc j →
          HasForm l (2 ^ j + 1) (2 ^ j) (chunk_at c)
      chunk-form c is =
          let one : 1 * 2 ^ j ≡ 2 ^ j = omega arith in
          form-same laws (2 ^ j + 1) (2 ^ j)
          (λ q. l.add (value_at l c.coefficients q) (l.mul c.multiple (x_at q))) (chunk_at c)
          (subst (λ i. HasForm l (i + 1) i
          (λ q. l.add (value_at l c.coefficients q) (l.mul c.multiple (x_at q)))) one
          (wide-form laws j (value_at l c.coefficients) c.multiple
          (form-of_polynomial laws j (value_at l c.coefficients)
          (of_coefficients laws (suc j) c.coefficients is))))
          (λ q on. ap (λ v. l.add (value_at l c.coefficients q) (l.mul c.multiple v))
          (vanishing-x q))

      chunk-forms : (cs : List (WideColumn E)) →
          AllByRecursion (λ (c : WideColumn E). length c.coefficients ≡ 2 ^ suc j) cs →
          AllByRecursion (λ d. HasForm l (2 ^ j + 1) (2 ^ j) d) (map chunk_at cs)
      chunk-forms [] all = tt
      chunk-forms (c ∷ cs) all = (chunk-form c all.0, chunk-forms cs all.1)

      values-mapped : (cs : List (WideColumn E)) (q : Coordinates E) →
          map (λ d. d q) (map chunk_at cs) ≡ map (λ c. chunk_at c q) cs
      values-mapped [] q = refl
      values-mapped (c ∷ cs) q = ap (λ ys. chunk_at c q ∷ ys) (values-mapped cs q)

      recomposed-form : HasForm l (degree * 2 ^ j + 1) (degree * 2 ^ j) recomposition
      recomposed-form =
          let ds = map chunk_at given_at.chunks in
          let js = range_with_len 0 (length xs) in
          let whole = (length xs + 1) * 2 ^ j in
          let count : whole ≡ degree * 2 ^ j = ap (λ i. (i + 1) * 2 ^ j) size in
          subst (λ i. HasForm l (i + 1) i recomposition) count
          (form-same laws (whole + 1) whole (together laws j xs 1 js ds) recomposition
          (together-form laws j xs 1 js ds (below-all (length xs) 0 (length xs) (omega arith))
          (chunk-forms given_at.chunks
          (each-of (λ (c : WideColumn E). length c.coefficients ≡ 2 ^ suc j)
          (λ (c : WideColumn E). length c.coefficients ≡ 2 ^ suc j) given_at.chunks (λ c h. h)
          given_at.counts)))
          (λ q on. ap (λ vs. l.mul (x_at q)
          (dot l (map (λ i. part_factor l xs i (x_at q)) js) vs))
          (sym (values-mapped given_at.chunks q))))

      root : (t : E) → IsFinite l t → vanishing l (suc j) (from_line l t) ≢ l.zero →
          HasWideIdentity k gen l m (suc j) log_chunks p columns public alpha given_at.chunks
          (from_line l t) → IsLineRoot laws difference t
      root t finite off holds =
          let q = from_line l t in
          let nonzero : line_norm l t ≢ l.zero = λ z. finite (line_norm-zero laws t z) in
          let on = from_line-on_circle laws t nonzero in
          let x = vanishing-x q in
          let there = selectors-there laws m gens' j fits q on (λ z. off (x ∙ z)) in
          let equal : put_together alpha q ≡ recomposition q =
          ap (λ r. composition l m p (window q) r alpha) (sym there)
          ∙ holds (window q)
          (window-is base laws e gens j fits p columns column_at public have q)
          ∙ ap (λ v. l.mul v (recomposed l xs (chunk_values q) v)) x in record {
            finite = nonzero;
            root = combine laws.ring (put_together alpha q ∷ recomposition q ∷ [])
                (sum (var 0) (minus (var 1))) (con 0) (given unit (var 0) (var 1) ∷ []) refl
                (equal, tt);
          }

      pub zero-there : (i : ℕ) → i < 2 ^ suc j → put_together alpha (place laws j gens' fits i)
          ≡ l.zero
      zero-there i lt =
          let d = degree * 2 ^ j in
          let ts = given_at.coordinates in
          let q = place laws j gens' fits i in
          let coordinate = place-coordinate laws j gens' fits i lt in
          let t = to_line l q in
          let twice : d + d ≡ degree * 2 ^ suc j = omega (
            arith,
            pow-suc 2 j,
            ap (λ s. degree * s) (pow-suc 2 j),
          ) in
          let roots_at : AllByRecursion (IsLineRoot laws difference) ts =
          all-both (IsFinite l)
          (λ t. (vanishing l (suc j) (from_line l t) ≢ l.zero)
          × HasWideIdentity k gen l m (suc j) log_chunks p columns public alpha given_at.chunks
          (from_line l t)) (IsLineRoot laws difference) ts (λ t a b. root t a b.0 b.1)
          (each-of (IsFinite l) (IsFinite l) ts (λ t h. h) given_at.finite)
          (all-both (λ t. vanishing l (suc j) (from_line l t) ≢ l.zero)
          (λ t. HasWideIdentity k gen l m (suc j) log_chunks p columns public alpha given_at.chunks
          (from_line l t))
          (λ t. (vanishing l (suc j) (from_line l t) ≢ l.zero)
          × HasWideIdentity k gen l m (suc j) log_chunks p columns public alpha given_at.chunks
          (from_line l t)) ts (λ t a b. (a, b))
          (each-of (λ t. vanishing l (suc j) (from_line l t) ≢ l.zero)
          (λ t. vanishing l (suc j) (from_line l t) ≢ l.zero) ts (λ t h. h) given_at.off)
          (each-of (λ t. HasWideIdentity k gen l m (suc j) log_chunks p columns public alpha
          given_at.chunks (from_line l t))
          (λ t. HasWideIdentity k gen l m (suc j) log_chunks p columns public alpha
          given_at.chunks (from_line l t)) ts (λ t h. h) given_at.identity)) in
          let none : difference q ≡ l.zero =
          ap difference (sym coordinate.1)
          ∙ zero-on_line laws d difference
          (form-difference laws (d + 1) d (put_together alpha) recomposition (composed-form alpha)
          recomposed-form) ts
          (let more = given_at.enough in omega (arith, more, twice))
          (distinct-of ts given_at.distinct)
          roots_at t coordinate.0 in
          combine laws.ring
          (put_together alpha q ∷ x_at q ∷ recomposed l xs (chunk_values q) (x_at q) ∷ [])
          (var 0) (con 0)
          (given unit (sum (var 0) (minus (prod (var 1) (var 2)))) (con 0)
          ∷ given (var 2) (var 1) (con 0) ∷ []) refl
          (none, (vanishing-place laws j gens' fits i, tt))

    -- for as many challenges as constraints
    module _ (rows : List (List F))
        (of_rows : AreRowsOf k gen l m (suc j) log_chunks rows columns)
        (widths : All (λ row. length row ≡ p.width) rows) (width : length columns ≡ p.width)
        (public_count : length public ≡ p.num_public_values) (alphas : List E)
        (count : length p.constraints ≡ length alphas) (distinct : AreDistinct alphas)
        (evidence : All (HasEvidence k gen l m (suc j) log_chunks p columns public) alphas) where
      row-width : (i : ℕ) → length (slice_index_or rows i []) ≤ length columns
      row-width i =
          ⊎_elim (λ lt. let w = widths i [] lt in omega (arith, w, width))
          (λ past. let none = ap length (get_or-eq_default rows [] past) in omega (arith, none))
          (cases_lt i (length rows))

      abbrev base_place : ℕ → Coordinates F
      base_place = point base gens (suc j) (omega arith) fits

      place-lifted : (i : ℕ) → lifted m (base_place i) ≡ place laws j gens' fits i
      place-lifted i =
          lifted-plus e (gen (suc j + 1)) (times k i (gen (suc j)))
          ∙ ap (plus l (up (suc j + 1))) (lifted-times e i (gen (suc j)))

      abbrev no_column : WideColumn F
      no_column = record { coefficients = []; multiple = k.zero }

      reads : (t i : ℕ) → t < length columns → i < 2 ^ suc j →
          column_at (slice_index_or columns t no_column) (lifted m (base_place i))
          ≡ m (entry k (slice_index_or rows i []) t)
      reads t i t_in lt =
          let c = slice_index_or columns t no_column in
          let q = lifted m (base_place i) in
          let coeffs = map (λ (c : WideColumn F). c.coefficients) columns in
          let counted : t < length coeffs =
          omega (arith, t_in, length-map columns (λ (c : WideColumn F). c.coefficients)) in
          let flat_there : vanishing l (suc j) q ≡ l.zero =
          vanishing-x q ∙ ap x_at (place-lifted i) ∙ vanishing-place laws j gens' fits i in
          ap (λ v. l.add (value_at l (map m c.coefficients) q) (l.mul (m c.multiple) v)) flat_there
          ∙ ring laws.ring (value_at l (map m c.coefficients) q ∷ m c.multiple ∷ [])
          (sum (var 0) (prod (var 1) (con 0))) (var 0) refl
          ∙ ap (λ xs. value_at l (map m xs) q)
          (sym (get_or-map (λ (c : WideColumn F). c.coefficients) columns t no_column [] t_in))
          ∙ column-entry base laws e gens j fits rows coeffs of_rows t i counted lt

      holds-at : (i : ℕ) → i < 2 ^ suc j → AllByRecursion (HoldsAt k p rows public i) p.constraints
      holds-at i lt =
          let q = place laws j gens' fits i in
          let r = lifted m (base_place i) in
          let nodes = values l m p.nodes (window q) in
          let lifts = window-lifted base laws e gens j fits p columns column_at public have rows
          of_rows.height row-width no_column reads i lt in
          let term = λ (c : Constraint). l.mul (selector l (selectors q) c.place)
          (entry l nodes c.node) in
          let size = length-values_of_parts base.ring gens l m (suc j) log_chunks (omega arith) in
          let sums : AllByRecursion (λ alpha. horner laws alpha l.zero (map term p.constraints)
          ≡ l.zero)
          alphas =
          each-of (HasEvidence k gen l m (suc j) log_chunks p columns public)
          (λ alpha. horner laws alpha l.zero (map term p.constraints) ≡ l.zero) alphas
          (λ alpha given_at.
          sym (fold-mapped (λ s t. l.add (l.mul alpha s) t) term l.zero p.constraints)
          ∙ zero-there alpha given_at size i lt) evidence in
          let terms : AllByRecursion (λ c. term c ≡ l.zero) p.constraints =
          all-unmapped (λ t. t ≡ l.zero) term p.constraints
          (all-zero laws alphas (map term p.constraints) (length-map p.constraints term ∙ count)
          (distinct-of alphas distinct) sums) in
          all-both (λ c. term c ≡ l.zero) (λ c. term c ≡ l.zero) (HoldsAt k p rows public i)
          p.constraints
          (λ c zero _ has.
          let there = subst (λ h. HasRow c.place h i) of_rows.height has in
          let node : entry l nodes c.node ≡ l.zero =
          zero_factor laws (selector l (selectors q) c.place) (entry l nodes c.node)
          (selector-nonzero laws j gens' fits m c.place i lt there) zero in
          e.injective (entry k (values k (λ x. x) p.nodes (window_of_row k p rows public i)) c.node)
          k.zero
          (sym (values-lifted e (window_of_row k p rows public i) (window r) lifts p.nodes c.node)
          ∙ ap (λ s. entry l (values l m p.nodes (window s)) c.node) (place-lifted i)
          ∙ node ∙ sym e.zero)) terms terms

      pub satisfied : Satisfies k p rows public
      satisfied = record {
        public_count = public_count;
        widths = widths;
        holds = λ i lt. read-each (HoldsAt k p rows public i) p.constraints
            (holds-at i (omega (arith, lt, of_rows.height)));
      }
