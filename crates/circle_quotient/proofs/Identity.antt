-- For rows that satisfy the constraints the identity of the quotient holds at every point off the
-- trace's domain.
use Rattle.std.specs.Prelude.{◌≡◌, ◌≢◌, ℕ, ◌+◌, ◌-◌, ◌*◌, ◌^◌, ◌<◌, ◌≤◌, List, [], ◌∷◌, ◌++◌}
use Rattle.std.specs.Prelude.{length}
use Rattle.std.specs.Prelude.{map, fold, take, slice_get, slice_index_or, All, Some}
use Rattle.std.specs.List.{AllByRecursion, range_with_len}
use Rattle.std.proofs.Common.{zero, suc, sym, ◌∙◌, ap, refl, subst, arith, ⊎_elim, pow-add}
use Rattle.std.proofs.Common.{length-append}
use Rattle.std.proofs.Math.ListN.{get_or-eq_default}
use Rattle.std.proofs.Math.Nat.{pow-suc, mul-le-mul_right}
use Rattle.std.proofs.lemmas.Bool.{cases_eq, cases_lt}
use Rattle.std.proofs.lemmas.List.{get_or-map, length-take-le, get_or-take}
use Rattle.std.proofs.lemmas.Nat.{pow_pos}
use Rattle.std.proofs.lemmas.Option.{get_or_from_slice_get}
use Rattle.circle_field.specs.Field.{FieldOps, FieldLaws, IsEmbedding, sub}
use Rattle.circle_field.specs.Ring.{var, con, unit, plus as sum, times as prod, minus}
use Rattle.circle_field.specs.RingSound.{ring}
use Rattle.circle_field.specs.RingCombine.{given, combine}
use Rattle.circle_field.specs.Circle.{Coordinates, IsOnCircle, AreGenerators, origin, plus, times}
use Rattle.circle_field.specs.Circle.{lifted, opposite}
use Rattle.circle_point.specs.Basis.{value as value_at, iterated_x, vanishing}
use Rattle.circle_domain.specs.Selectors.{first_row, last_row, transition}
use Rattle.circle_commit.specs.DotProduct.{dot}
use Rattle.circle_domain.specs.Order.{coset, with_opposites}
use Rattle.circle_domain.specs.Splitting.{part_of}
use Rattle.circle_domain.proofs.Blocks.{all-append}
use Rattle.circle_domain.proofs.Lifted.{lifted-generators, lifted-plus, lifted-times}
use Rattle.circle_domain.proofs.Lifted.{lifted-vanishing}
use Rattle.circle_domain.proofs.NaturalValues.{length-natural}
use Rattle.circle_domain.proofs.PartPlaces.{part_of-below}
use Rattle.circle_domain.proofs.StandardDomain.{standard-genuine}
use Rattle.circle_domain.proofs.Twiddles.{length-coset}
use Rattle.circle_domain.proofs.Walking.{standard-point}
use Rattle.circle_folding.proofs.Only.{of_coefficients}
use Rattle.circle_air.specs.declared.node.Constraint.{Constraint}
use Rattle.circle_air.specs.declared.node.Place.{Place}
use Rattle.circle_air.specs.declared.node.Place.TheVariants.{Every, First, Last, Transition}
use Rattle.circle_air.specs.Degrees.{degrees, greatest_degree}
use Rattle.circle_air.specs.Parts.{Parts}
use Rattle.circle_air.specs.Places.{HasRow}
use Rattle.circle_air.specs.Satisfies.{Satisfies, HoldsAt, window_of_row}
use Rattle.circle_air.specs.Values.{Window, entry, values}
use Rattle.circle_quotient.specs.Composition.{Selectors, selector, composition}
use Rattle.circle_quotient.proofs.Compositions.{AreSelectors, composition-degree}
use Rattle.circle_quotient.specs.Identity.{AreQuotientValues, AreChunksOf, HasIdentity}
use Rattle.circle_quotient.specs.Identity.{quotient_points, values_of_parts}
use Rattle.circle_quotient.specs.Recomposition.{recomposed, part_factor}
use Rattle.circle_quotient.specs.Window.{AreColumnsOf, selectors_at}
use Rattle.circle_quotient.proofs.Cosets.{coset-distinct, coset-apart, coset-doubled}
use Rattle.circle_quotient.proofs.Cosets.{distinct-append, map-append}
use Rattle.circle_quotient.proofs.Fits.{Fits, fits-one, fits-constant, fits-combined, fits-raised}
use Rattle.circle_quotient.proofs.Fits.{fits-same, form-of_odd}
use Rattle.circle_quotient.proofs.Forms.{HasForm, IsRoot, form-of_polynomial, form-difference}
use Rattle.circle_quotient.proofs.Forms.{form-same, vanishes}
use Rattle.circle_quotient.proofs.Interpolating.{recomposed-part}
use Rattle.circle_quotient.proofs.Monomials.{IsDistinct, all-both}
use Rattle.circle_quotient.proofs.PartValues.{vanishing-part, vanishing-distinct, vanishing-nonzero}
use Rattle.circle_quotient.proofs.PartValues.{length-values_of_parts}
use Rattle.circle_quotient.proofs.Places.{point, point-on, everywhere, all-pairs}
use Rattle.circle_quotient.proofs.Places.{some_injective}
use Rattle.circle_quotient.proofs.Recomposing.{together, together-form}
use Rattle.circle_quotient.proofs.Selecting.{at_shift}
use Rattle.circle_quotient.proofs.Selecting.{normal, first_told, last_told, first_row-value}
use Rattle.circle_quotient.proofs.Selecting.{last_row-value, transition-value, first-elsewhere}
use Rattle.circle_quotient.proofs.Selecting.{last-elsewhere, last-there}
use Rattle.circle_quotient.proofs.Windows.{HavePolynomials, window_at, window-lifted, values-lifted}
use Rattle.circle_quotient.proofs.Grades.{IsGraded, fits as fits_of}
use Rattle.circle_quotient.proofs.Periods.{period-degree}
use Rattle.circle_quotient.proofs.Windows.{window-is, window-only, window-columns}
use Rattle.circle_quotient.proofs.Windows.{column-entry, column-form, next-form}

module _ {F E : Type 0} {l : FieldOps E} (laws : FieldLaws l) (embed : F → E)
    {gen : ℕ → Coordinates E} {bits : ℕ} (gens : AreGenerators l bits gen) (j : ℕ)
    (fits : suc j < bits) where
  -- the selectors as polynomials
  abbrev pub selector_polynomials : Coordinates E → Selectors E
  selector_polynomials q = record {
    first = l.mul (normal laws gens j fits) (value_at l (first_told laws gens j fits).0 q);
    last = l.neg (l.mul (normal laws gens j fits) (value_at l (last_told laws gens j fits).0 q));
    transition = sub l l.one (value_at l (last_told laws gens j fits).0 q);
  }

  scaled-column : (u : E) (c : List E) → length c ≡ 2 ^ suc j →
      Fits l (2 ^ j) 1 (λ q. l.mul u (value_at l c q))
  scaled-column u c long =
      let f = value_at l c in
      let form = fits-one laws (2 ^ j) f (form-of_polynomial laws j f
      (of_coefficients laws (suc j) c long)) in
      fits-same laws (2 ^ j) 1 (λ q. l.add (l.mul u (f q)) (l.mul l.zero (f q)))
      (λ q. l.mul u (f q)) (fits-combined laws (2 ^ j) 1 u l.zero f f form form)
      (λ q on. ring laws.ring (u ∷ f q ∷ []) (prod (var 0) (var 1))
      (sum (prod (var 0) (var 1)) (prod (con 0) (var 1))) refl)

  pub selectors-degree : AreSelectors laws embed (fits_of laws (2 ^ j) (omega (arith, pow_pos j)))
      selector_polynomials
  selectors-degree =
      let size = 2 ^ j in
      let one : 1 ≤ size = omega (arith, pow_pos j) in
      let n = normal laws gens j fits in
      let first = first_told laws gens j fits in
      let last = last_told laws gens j fits in
      let f = value_at l last.0 in record {
        first = scaled-column n first.0 first.1;
        last = fits-same laws size 1 (λ q. l.mul (l.neg n) (f q)) (λ q. l.neg (l.mul n (f q)))
            (scaled-column (l.neg n) last.0 last.1)
            (λ q on. ring laws.ring (n ∷ f q ∷ []) (minus (prod (var 0) (var 1)))
            (prod (minus (var 0)) (var 1)) refl);
        transition = fits-same laws size 1
            (λ q. l.add (l.mul l.one l.one) (l.mul l.one (l.mul (l.neg l.one) (f q))))
            (λ q. sub l l.one (f q))
            (fits-combined laws size 1 l.one l.one (λ q. l.one) (λ q. l.mul (l.neg l.one) (f q))
            (fits-raised laws size one 1 0 1 (λ q. l.one) (omega arith)
            (fits-constant laws size l.one))
            (scaled-column (l.neg l.one) last.0 last.1))
            (λ q on. ring laws.ring (f q ∷ []) (sum unit (minus (var 0)))
            (sum (prod unit unit) (prod unit (prod (minus unit) (var 0)))) refl);
      }

  -- off the domain they are its selectors
  pub selectors-there : (q : Coordinates E) → IsOnCircle l q → iterated_x l j q.x ≢ l.zero →
      (let s = gen (suc j + 1) in let r : Selectors E = record {
        first = first_row l (suc j) s q;
        last = last_row l (suc j) s q;
        transition = transition l (suc j) s q;
      } in r) ≡ selector_polynomials q
  selectors-there q on off =
      let s = gen (suc j + 1) in
      let at = selector_polynomials q in
      ap (λ (x : E). let r : Selectors E = record {
        first = x;
        last = last_row l (suc j) s q;
        transition = transition l (suc j) s q;
      } in r)
      (first_row-value laws gens j fits q on off)
      ∙ ap (λ (x : E). let r : Selectors E = record {
        first = at.first;
        last = x;
        transition = transition l (suc j) s q;
      } in r)
      (last_row-value laws gens j fits q on off)
      ∙ ap (λ (x : E). let r : Selectors E = record {
        first = at.first;
        last = at.last;
        transition = x;
      } in r)
      (transition-value laws gens j fits q on off)

  -- at a point of the domain a constraint's selector is 0 but for the rows of its place
  abbrev point_at : ℕ → Coordinates E
  point_at i = plus l (gen (suc j + 1)) (times l i (gen (suc j)))

  pub selected-zero : (place : Place) (i : ℕ) (v : E) → i < 2 ^ suc j →
      (HasRow place (2 ^ suc j) i → v ≡ l.zero) →
      l.mul (selector l (selector_polynomials (point_at i)) place) v ≡ l.zero
  selected-zero Every i v lt holds =
      ap (l.mul l.one) (holds tt) ∙ ring laws.ring [] (prod unit (con 0)) (con 0) refl
  selected-zero First i v lt holds =
      let s = (selector_polynomials (point_at i)).first in
      let n = normal laws gens j fits in
      ⊎_elim
      (λ here. ap (l.mul s) (holds here) ∙ ring laws.ring (s ∷ []) (prod (var 0) (con 0)) (con 0)
      refl)
      (λ other. ap (λ x. l.mul (l.mul n x) v) (first-elsewhere laws gens j fits i lt other)
      ∙ ring laws.ring (n ∷ v ∷ []) (prod (prod (var 0) (con 0)) (var 1)) (con 0) refl)
      (cases_eq i 0)
  selected-zero Last i v lt holds =
      let s = (selector_polynomials (point_at i)).last in
      let n = normal laws gens j fits in
      ⊎_elim
      (λ here. ap (l.mul s) (holds here) ∙ ring laws.ring (s ∷ []) (prod (var 0) (con 0)) (con 0)
      refl)
      (λ other. ap (λ x. l.mul (l.neg (l.mul n x)) v) (last-elsewhere laws gens j fits i lt other)
      ∙ ring laws.ring (n ∷ v ∷ []) (prod (minus (prod (var 0) (con 0))) (var 1)) (con 0) refl)
      (cases_eq (i + 1) (2 ^ suc j))
  selected-zero Transition i v lt holds =
      let s = (selector_polynomials (point_at i)).transition in
      ⊎_elim
      (λ last. ap (λ x. l.mul (sub l l.one x) v) (last-there laws gens j fits i last)
      ∙ ring laws.ring (v ∷ []) (prod (sum unit (minus unit)) (var 0)) (con 0) refl)
      (λ other. ap (l.mul s) (holds (omega (arith, lt, other)))
      ∙ ring laws.ring (s ∷ []) (prod (var 0) (con 0)) (con 0) refl)
      (cases_eq (i + 1) (2 ^ suc j))

  -- a sum of zeros
  together-zero : (alpha : E) (f : Constraint → E) (cs : List Constraint) →
      AllByRecursion (λ c. f c ≡ l.zero) cs →
      fold (λ sum c. l.add (l.mul alpha sum) (f c)) l.zero cs ≡ l.zero
  together-zero alpha f [] all = refl
  together-zero alpha f (c ∷ cs) all =
      ap (λ x. fold (λ sum c. l.add (l.mul alpha sum) (f c)) x cs)
      (ap (l.add (l.mul alpha l.zero)) all.0
      ∙ ring laws.ring (alpha ∷ []) (sum (prod (var 0) (con 0)) (con 0)) (con 0) refl)
      ∙ together-zero alpha f cs all.1

pub below-all : (bound a count : ℕ) → a + count ≤ bound →
    AllByRecursion (λ i. i < bound) (range_with_len a count)
below-all bound a zero le = tt
below-all bound a (suc count) le =
    (omega (arith, le), below-all bound (a + 1) count (omega (arith, le)))

pub each-of : {X : Type 0} (P Q : X → Type 0) (xs : List X) → ((x : X) → P x → Q x) → All P xs →
    AllByRecursion Q xs
each-of P Q [] f all = tt
each-of P Q (x ∷ xs) f all =
    (f x (all 0 x (omega arith)), each-of P Q xs f (λ i d lt. all (suc i) d (omega (arith, lt))))

module _ {F E : Type 0} {k : FieldOps F} {l : FieldOps E} {m : F → E} (base : FieldLaws k)
    (laws : FieldLaws l) (e : IsEmbedding k l m) {gen : ℕ → Coordinates F} {bits : ℕ}
    (gens : AreGenerators k bits gen) (j : ℕ) (fits : suc j < bits)
    (p : Parts F) (columns : List (List F)) (public : List F)
    (have : HavePolynomials base laws e gens j fits p.periodic_columns) (alpha : E) where
  abbrev up : ℕ → Coordinates E
  up i = lifted m (gen i)

  abbrev gens' : AreGenerators l bits up
  gens' = lifted-generators e gens

  abbrev column_at : List F → Coordinates E → E
  column_at c q = value_at l (map m c) q

  abbrev window : Coordinates E → Window E
  window = window_at base laws e gens j fits p columns column_at public have

  -- the constraints put together, along the circle
  abbrev put_together : Coordinates E → E
  put_together q =
      composition l m p (window q) (selector_polynomials laws m gens' j fits q) alpha

  place-lifted : (n i : ℕ) → lifted m (plus k (gen (n + 1)) (times k i (gen n)))
      ≡ plus l (up (n + 1)) (times l i (up n))
  place-lifted n i =
      lifted-plus e (gen (n + 1)) (times k i (gen n))
      ∙ ap (plus l (up (n + 1))) (lifted-times e i (gen n))

  -- are 0 on the trace's domain
  module _ (rows : List (List F)) (of_rows : AreColumnsOf k gen (suc j) rows columns)
      (satisfied : Satisfies k p rows public) (width : length columns ≡ p.width) where
    row-width : (i : ℕ) → length (slice_index_or rows i []) ≤ length columns
    row-width i =
        ⊎_elim (λ lt. let w = satisfied.widths i [] lt in omega (arith, w, width))
        (λ past. let none = ap length (get_or-eq_default rows [] past) in omega (arith, none))
        (cases_lt i (length rows))

    zero-there : (i : ℕ) → i < 2 ^ suc j →
        put_together (plus l (up (suc j + 1)) (times l i (up (suc j)))) ≡ l.zero
    zero-there i lt =
        let q = lifted m (plus k (gen (suc j + 1)) (times k i (gen (suc j)))) in
        let same = place-lifted (suc j) i in
        let lifts = window-lifted base laws e gens j fits p columns column_at public have rows
        of_rows.height row-width [] (column-entry base laws e gens j fits rows columns of_rows)
        i lt in
        let nodes = values l m p.nodes (window q) in
        let r = plus l (up (suc j + 1)) (times l i (up (suc j))) in
        let s = selector_polynomials laws m gens' j fits in
        ap (λ t. composition l m p (window t) (s r) alpha) (sym same)
        ∙ together-zero laws m gens' j fits alpha
        (λ c. l.mul (selector l (s r) c.place) (entry l nodes c.node)) p.constraints
        (each-of (HoldsAt k p rows public i)
        (λ c. l.mul (selector l (s r) c.place) (entry l nodes c.node) ≡ l.zero) p.constraints
        (λ c holds.
        selected-zero laws m gens' j fits c.place i (entry l nodes c.node) lt
        (λ has. values-lifted e (window_of_row k p rows public i) (window q) lifts p.nodes c.node
        ∙ ap m (holds (subst (λ h. HasRow c.place h i) (sym of_rows.height) has)) ∙ e.zero))
        (satisfied.holds i (omega (arith, lt, of_rows.height))))

  -- and on the quotient's domain what is put together of the chunks
  module _ (log_chunks : ℕ) (some_chunks : 1 ≤ log_chunks) (large_fits : suc j + log_chunks < bits)
      (values : List E) (chunks : List (List E))
      (of_quotient : AreQuotientValues k gen l m (suc j) log_chunks p columns public alpha values)
      (of_chunks : AreChunksOf k gen l m (suc j) log_chunks values chunks) where
    abbrev parts : ℕ
    parts = 2 ^ log_chunks

    abbrev total : ℕ
    total = suc j + log_chunks

    abbrev points : List (Coordinates F)
    points = quotient_points k gen l m (suc j) log_chunks

    abbrev xs : List E
    xs = values_of_parts k gen l m (suc j) log_chunks

    abbrev base_point : ℕ → Coordinates F
    base_point = point base gens total (omega arith) large_fits

    abbrev large_point : ℕ → Coordinates E
    large_point = point laws gens' total (omega arith) large_fits

    -- the vanishing polynomial of the trace's domain
    abbrev x_at : Coordinates E → E
    x_at q = iterated_x l j q.x

    vanishing-x : (q : Coordinates E) → vanishing l (suc j) q ≡ x_at q
    vanishing-x q = let same : suc j - 1 ≡ j = omega arith in ap (λ i. iterated_x l i q.x) same

    abbrev chunk_values : Coordinates E → List E
    chunk_values q = map (λ c. value_at l c q) chunks

    abbrev recomposition : Coordinates E → E
    recomposition q = l.mul (x_at q) (recomposed l xs (chunk_values q) (x_at q))

    within : parts ≤ 2 ^ total
    within = omega (
      arith,
      pow-add 2 (suc j) log_chunks,
      mul-le-mul_right parts (let h : 1 ≤ 2 ^ suc j = omega (arith, pow_pos (suc j)) in h),
    )

    length-points : length points ≡ 2 ^ total
    length-points = length-natural base.ring gens total (gen (total + 1)) (omega arith)

    length-xs : length xs ≡ parts
    length-xs = length-values_of_parts base.ring gens l m (suc j) log_chunks (omega arith)

    -- their values on the parts
    xs-read : (u : ℕ) → u < parts → slice_index_or xs u l.zero ≡ x_at (large_point u)
    xs-read u lt =
        let f = λ (s : Coordinates F). m (vanishing k (suc j) s) in
        let below : u < 2 ^ total = omega (arith, lt, within) in
        let taken : u < length (take parts points) =
        omega (arith, lt, length-take-le parts points (omega (arith, within, length-points))) in
        get_or-map f (take parts points) u (origin k) l.zero taken
        ∙ ap f (get_or-take parts points u (origin k) lt
        ∙ get_or_from_slice_get points u (base_point u) (origin k)
        (standard-point base.ring gens total (omega arith) large_fits u below))
        ∙ lifted-vanishing e (suc j) (base_point u) ∙ vanishing-x (lifted m (base_point u))
        ∙ ap x_at (place-lifted total u)

    xs-distinct : (t u : ℕ) → t < u → u < length xs →
        slice_index_or xs t l.zero ≡ slice_index_or xs u l.zero → ⊥
    xs-distinct t u lt below same =
        let u_in : u < parts = omega (arith, below, length-xs) in
        vanishing-distinct laws gens' j log_chunks some_chunks large_fits t u lt u_in
        (sym (xs-read t (omega (arith, lt, u_in))) ∙ same ∙ xs-read u u_in)

    chunk-read : (u : ℕ) → u < parts → (q : Coordinates E) →
        slice_index_or (chunk_values q) u l.zero ≡ value_at l (slice_index_or chunks u []) q
    chunk-read u lt q =
        get_or-map (λ c. value_at l c q) chunks u [] l.zero (omega (arith, lt, of_chunks.count))

    equal-there : (i : ℕ) → i < 2 ^ total → put_together (large_point i)
        ≡ recomposition (large_point i)
    equal-there i lt =
        let s = base_point i in
        let q = large_point i in
        let same : lifted m s ≡ q = place-lifted total i in
        let u = part_of parts i in
        let u_in : u < parts = part_of-below parts i (omega (arith, pow_pos log_chunks)) in
        let here : slice_get points i ≡ Some s =
        standard-point base.ring gens total (omega arith) large_fits i lt in
        let x = x_at q in
        let nonzero : x ≢ l.zero = vanishing-nonzero laws gens' j log_chunks some_chunks large_fits
        i in
        let on : IsOnCircle l q = point-on laws gens' total (omega arith) large_fits i in
        let part : x ≡ slice_index_or xs u l.zero =
        vanishing-part laws gens' j log_chunks some_chunks large_fits i ∙ sym (xs-read u u_in) in
        let v = value_at l (slice_index_or chunks u []) q in
        let quotient : l.mul (put_together q) (l.inv x) ≡ v =
        some_injective (l.mul (put_together q) (l.inv x)) v
        (sym (ap Some (ap (λ t. l.mul (composition l m p (window t)
        (selectors_at k gen l m (suc j) t) alpha) (l.inv (vanishing l (suc j) t))) same
        ∙ ap (λ w. l.mul w (l.inv (vanishing l (suc j) q)))
        (ap (λ r. composition l m p (window q) r alpha)
        (selectors-there laws m gens' j fits q on nonzero))
        ∙ ap (λ w. l.mul (put_together q) (l.inv w)) (vanishing-x q)))
        ∙ sym (of_quotient.each i s here (window (lifted m s))
        (window-is base laws e gens j fits p columns column_at public have (lifted m s)))
        ∙ of_chunks.each i s here
        ∙ ap (λ t. Some (value_at l (slice_index_or chunks u []) t)) same) in
        let own : recomposed l xs (chunk_values q) x ≡ v =
        ap (recomposed l xs (chunk_values q)) part
        ∙ recomposed-part laws xs (chunk_values q) xs-distinct u (omega (arith, u_in, length-xs))
        ∙ chunk-read u u_in q in
        combine laws.ring
        (put_together q ∷ x ∷ l.inv x ∷ v ∷ recomposed l xs (chunk_values q) x ∷ [])
        (var 0) (prod (var 1) (var 4))
        (given (minus (var 0)) (prod (var 1) (var 2)) unit
        ∷ given (var 1) (prod (var 0) (var 2)) (var 3)
        ∷ given (minus (var 1)) (var 4) (var 3) ∷ []) refl
        (laws.mul_inv x nonzero, (quotient, (own, tt)))

    abbrev difference : Coordinates E → E
    difference q = sub l (put_together q) (recomposition q)

    -- both have the degree of 2^log_chunks + 1 columns
    abbrev degree : ℕ
    degree = parts + 1

    module _ (long : AllByRecursion (λ c. length c ≡ 2 ^ suc j) columns)
        (bound : greatest_degree (degrees p.nodes) p.constraints ≤ degree)
        (counts : AllByRecursion (λ c. length c ≡ 2 ^ suc j) chunks) where
      abbrev grades : IsGraded l (Fits l (2 ^ j))
      grades = fits_of laws (2 ^ j) (omega (arith, pow_pos j))

      all-columns : (cs : List (List F)) → AllByRecursion (λ c. length c ≡ 2 ^ suc j) cs →
          AllByRecursion (λ c. Fits l (2 ^ j) 1 (column_at c)
          × Fits l (2 ^ j) 1 (λ q. column_at c (plus l q (up (suc j))))) cs
      all-columns [] all = tt
      all-columns (c ∷ cs) all = (
        (
          fits-one laws (2 ^ j) (column_at c) (column-form base laws e gens j fits c all.0),
          fits-one laws (2 ^ j) (λ q. column_at c (plus l q (up (suc j))))
              (next-form base laws e gens j fits c all.0),
        ),
        all-columns cs all.1,
      )

      composed-form : HasForm l (degree * 2 ^ j) (degree * 2 ^ j) put_together
      composed-form =
          let half : 2 ^ log_chunks ≡ 2 * 2 ^ (log_chunks - 1) =
          (let s : suc (log_chunks - 1) ≡ log_chunks = omega (arith, some_chunks) in
          ap (λ i. 2 ^ i) (sym s) ∙ pow-suc 2 (log_chunks - 1)
          ∙ omega arith) in
          form-of_odd laws (2 ^ j) degree put_together (λ even. omega (arith, even, half))
          (composition-degree laws m grades window
          (window-columns base laws e gens j fits p columns column_at public have grades
          (λ log c coeffs within is. period-degree base laws e gens j fits c log coeffs within is)
          (all-columns columns long))
          (selector_polynomials laws m gens' j fits) (selectors-degree laws m gens' j fits) p alpha
          degree bound)

      chunk-forms : (cs : List (List E)) → AllByRecursion (λ c. length c ≡ 2 ^ suc j) cs →
          AllByRecursion (λ d. HasForm l (2 ^ j + 0) (2 ^ j) d) (map (λ c. value_at l c) cs)
      chunk-forms [] all = tt
      chunk-forms (c ∷ cs) all =
          let same : 2 ^ j ≡ 2 ^ j + 0 = omega arith in (
            subst (λ i. HasForm l i (2 ^ j) (value_at l c)) same
                (form-of_polynomial laws j (value_at l c) (of_coefficients laws (suc j) c all.0)),
            chunk-forms cs all.1,
          )

      values-mapped : (cs : List (List E)) (q : Coordinates E) →
          map (λ d. d q) (map (λ c. value_at l c) cs) ≡ map (λ c. value_at l c q) cs
      values-mapped [] q = refl
      values-mapped (c ∷ cs) q = ap (λ ys. value_at l c q ∷ ys) (values-mapped cs q)

      recomposed-form : HasForm l (degree * 2 ^ j) (degree * 2 ^ j) recomposition
      recomposed-form =
          let ds = map (λ c. value_at l c) chunks in
          let js = range_with_len 0 (length xs) in
          let count : (length xs + 1) * 2 ^ j ≡ degree * 2 ^ j =
          ap (λ i. (i + 1) * 2 ^ j) length-xs in
          let whole = (length xs + 1) * 2 ^ j in
          let same : whole + 0 ≡ whole = omega arith in
          subst (λ i. HasForm l i i recomposition) count
          (form-same laws whole whole (together laws j xs 0 js ds) recomposition
          (subst (λ i. HasForm l i whole (together laws j xs 0 js ds)) same
          (together-form laws j xs 0 js ds (below-all (length xs) 0 (length xs) (omega arith))
          (chunk-forms chunks counts)))
          (λ q on. ap (λ vs. l.mul (x_at q)
          (dot l (map (λ i. part_factor l xs i (x_at q)) js) vs)) (sym (values-mapped chunks q))))

      -- the points of both domains, one of each pair of opposites
      abbrev small_coset : List (Coordinates E)
      small_coset = coset l up j (up (suc j + 1))

      abbrev large_coset : List (Coordinates E)
      large_coset = coset l up (j + log_chunks) (up (total + 1))

      abbrev zeros : List (Coordinates E)
      zeros = small_coset ++ large_coset

      length-zeros : length zeros ≡ degree * 2 ^ j
      length-zeros =
          length-append small_coset large_coset
          ∙ omega (
            arith,
            length-coset l up j (up (suc j + 1)),
            length-coset l up (j + log_chunks) (up (total + 1)),
            pow-add 2 j log_chunks,
          )

      small_on : IsOnCircle l (up (suc j + 1))
      small_on = gens'.on_circle (suc j + 1) (omega (arith, fits))

      large_on : IsOnCircle l (up (total + 1))
      large_on = gens'.on_circle (total + 1) (omega (arith, large_fits))

      small_genuine : times l (2 ^ suc j) (up (suc j + 1)) ≢ origin l
      small_genuine = (standard-genuine laws gens' (suc j) (omega arith) fits).1

      large_genuine : times l (2 ^ suc (j + log_chunks)) (up (total + 1)) ≢ origin l
      large_genuine =
          let same : suc j + log_chunks ≡ suc (j + log_chunks) = omega arith in
          subst (λ i. times l (2 ^ i) (up (total + 1)) ≢ origin l) same
          (standard-genuine laws gens' total (omega arith) large_fits).1

      small_zero : AllByRecursion (λ q. x_at q ≡ l.zero) small_coset
      small_zero =
          coset-doubled laws gens' j (up (suc j + 1)) l.zero (omega (arith, fits)) small_on
          (at_shift laws gens' j fits)

      large-pairs : (P : Coordinates E → Type 0) →
          ((i : ℕ) → i < 2 ^ total → P (large_point i)) →
          AllByRecursion P (with_opposites l large_coset)
      large-pairs P each =
          let same : total - 1 ≡ j + log_chunks = omega arith in
          subst (λ i. AllByRecursion P (with_opposites l (coset l up i (up (total + 1))))) same
          (everywhere laws gens' total (omega arith) large_fits P each)

      large_nonzero : AllByRecursion (λ q. x_at q ≢ l.zero) large_coset
      large_nonzero =
          all-pairs l (λ q. x_at q ≢ l.zero) (λ q. x_at q ≢ l.zero) large_coset
          (λ q here there. here)
          (large-pairs (λ q. x_at q ≢ l.zero)
          (λ i lt. vanishing-nonzero laws gens' j log_chunks some_chunks large_fits i))

      x-apart : (ps qs : List (Coordinates E)) → AllByRecursion (λ q. x_at q ≡ l.zero) ps →
          AllByRecursion (λ q. x_at q ≢ l.zero) qs →
          AllByRecursion (λ x. AllByRecursion (λ y. y ≢ x) (map (λ (q : Coordinates E). q.x) qs))
          (map (λ (q : Coordinates E). q.x) ps)
      x-apart [] qs a b = tt
      x-apart (r ∷ ps) qs a b = (others qs b, x-apart ps qs a.1 b)
        where
          others : (qs : List (Coordinates E)) → AllByRecursion (λ q. x_at q ≢ l.zero) qs →
              AllByRecursion (λ y. y ≢ r.x) (map (λ (q : Coordinates E). q.x) qs)
          others [] b = tt
          others (q ∷ qs) b = ((λ same. b.0 (ap (iterated_x l j) same ∙ a.0)), others qs b.1)

      zeros-distinct : IsDistinct (map (λ (q : Coordinates E). q.x) zeros)
      zeros-distinct =
          subst IsDistinct
          (sym (map-append (λ (q : Coordinates E). q.x) small_coset large_coset))
          (distinct-append (map (λ (q : Coordinates E). q.x) small_coset)
          (map (λ (q : Coordinates E). q.x) large_coset)
          (coset-distinct laws gens' j (up (suc j + 1)) (omega (arith, fits)) small_on
          small_genuine)
          (coset-distinct laws gens' (j + log_chunks) (up (total + 1)) (omega (arith, large_fits))
          large_on large_genuine)
          (x-apart small_coset large_coset small_zero large_nonzero))

      -- 0 on both domains, so everywhere
      module _ (rows : List (List F)) (of_rows : AreColumnsOf k gen (suc j) rows columns)
          (satisfied : Satisfies k p rows public) (width : length columns ≡ p.width) where
        zero-difference : (q : Coordinates E) → put_together q ≡ l.zero → x_at q ≡ l.zero →
            difference q ≡ l.zero
        zero-difference q a b =
            combine laws.ring
            (put_together q ∷ x_at q ∷ recomposed l xs (chunk_values q) (x_at q) ∷ [])
            (sum (var 0) (minus (prod (var 1) (var 2)))) (con 0)
            (given unit (var 0) (con 0) ∷ given (minus (var 2)) (var 1) (con 0) ∷ []) refl
            (a, (b, tt))

        small_roots : AllByRecursion (IsRoot laws difference) small_coset
        small_roots =
            let same : suc j - 1 ≡ j = omega arith in
            all-both (λ q. IsOnCircle l q × (q.y ≢ l.zero))
            (λ q. (difference q ≡ l.zero) × (difference (opposite l q) ≡ l.zero))
            (IsRoot laws difference) small_coset
            (λ q a b. record { on = a.0; apart = a.1; here = b.0; opposite = b.1 })
            (coset-apart laws gens' j (up (suc j + 1)) (omega (arith, fits)) small_on small_genuine)
            (all-both
            (λ q. (put_together q ≡ l.zero) × (put_together (opposite l q) ≡ l.zero))
            (λ q. x_at q ≡ l.zero)
            (λ q. (difference q ≡ l.zero) × (difference (opposite l q) ≡ l.zero)) small_coset
            (λ q a b. (zero-difference q a.0 b, zero-difference (opposite l q) a.1 b))
            (all-pairs l (λ q. put_together q ≡ l.zero)
            (λ q. (put_together q ≡ l.zero) × (put_together (opposite l q) ≡ l.zero)) small_coset
            (λ q here there. (here, there))
            (subst (λ i. AllByRecursion (λ q. put_together q ≡ l.zero)
            (with_opposites l (coset l up i (up (suc j + 1))))) same
            (everywhere laws gens' (suc j) (omega arith) fits (λ q. put_together q ≡ l.zero)
            (zero-there rows of_rows satisfied width))))
            small_zero)

        large_roots : AllByRecursion (IsRoot laws difference) large_coset
        large_roots =
            let zero_at : (i : ℕ) → i < 2 ^ total → difference (large_point i) ≡ l.zero = λ i lt.
            combine laws.ring (put_together (large_point i) ∷ recomposition (large_point i) ∷ [])
            (sum (var 0) (minus (var 1))) (con 0) (given unit (var 0) (var 1) ∷ []) refl
            (equal-there i lt, tt) in
            all-both (λ q. IsOnCircle l q × (q.y ≢ l.zero))
            (λ q. (difference q ≡ l.zero) × (difference (opposite l q) ≡ l.zero))
            (IsRoot laws difference) large_coset
            (λ q a b. record { on = a.0; apart = a.1; here = b.0; opposite = b.1 })
            (coset-apart laws gens' (j + log_chunks) (up (total + 1)) (omega (arith, large_fits))
            large_on large_genuine)
            (all-pairs l (λ q. difference q ≡ l.zero)
            (λ q. (difference q ≡ l.zero) × (difference (opposite l q) ≡ l.zero)) large_coset
            (λ q here there. (here, there)) (large-pairs (λ q. difference q ≡ l.zero) zero_at))

        pub identity : (q : Coordinates E) → IsOnCircle l q → vanishing l (suc j) q ≢ l.zero →
            HasIdentity k gen l m (suc j) log_chunks p columns public alpha chunks q
        identity q on off w is =
            let x = vanishing l (suc j) q in
            let same = vanishing-x q in
            let away : x_at q ≢ l.zero = λ z. off (same ∙ z) in
            let none : difference q ≡ l.zero =
            vanishes laws zeros difference
            (subst (λ i. HasForm l i i difference) (sym length-zeros)
            (form-difference laws (degree * 2 ^ j) (degree * 2 ^ j) put_together recomposition
            composed-form recomposed-form)) zeros-distinct
            (all-append (IsRoot laws difference) small_coset large_coset small_roots large_roots) q
            on in
            ap (λ v. composition l m p v (selectors_at k gen l m (suc j) q) alpha)
            (window-only base laws e gens j fits p columns column_at public have q w is)
            ∙ ap (λ r. composition l m p (window q) r alpha)
            (selectors-there laws m gens' j fits q on away)
            ∙ combine laws.ring (put_together q ∷ recomposition q ∷ []) (var 0) (var 1)
            (given unit (sum (var 0) (minus (var 1))) (con 0) ∷ []) refl (none, tt)
            ∙ ap (λ v. l.mul v (recomposed l xs (chunk_values q) v)) (sym same)
