-- The windows of a trace along the circle: what constraints read there has the degree of a column,
-- and
-- is what they read of the rows at the points of the trace's domain.
use Rattle.std.specs.Prelude.{◌≡◌, ℕ, ◌+◌, ◌-◌, ◌%◌, ◌^◌, ◌<◌, ◌≤◌, List, [], ◌∷◌, ◌++◌, length}
use Rattle.std.specs.Prelude.{map, fold, slice_get, slice_index_or}
use Rattle.std.specs.List.{AllByRecursion}
use Rattle.std.proofs.Common.{zero, suc, sym, ◌∙◌, ap, refl, subst, arith, ⊎_elim}
use Rattle.std.proofs.Math.ListN.{get_or-eq_default}
use Rattle.std.proofs.lemmas.Bool.{cases_lt}
use Rattle.std.proofs.lemmas.List.{get_or-map, length-map}
use Rattle.std.proofs.lemmas.Nat.{pow_pos}
use Rattle.std.proofs.lemmas.Option.{get_or_from_slice_get}
use Rattle.circle_field.specs.Field.{FieldOps, FieldLaws, IsEmbedding}
use Rattle.circle_field.specs.Circle.{Coordinates, AreGenerators, plus, times, lifted}
use Rattle.circle_field.specs.Circle.{origin}
use Rattle.circle_point.specs.Basis.{value as value_at}
use Rattle.circle_domain.specs.Order.{natural_order}
use Rattle.circle_domain.specs.Periodic.{IsPeriodicValue}
use Rattle.circle_domain.proofs.Lifted.{lifted-plus, lifted-generators}
use Rattle.circle_domain.proofs.LiftedValues.{lifted-value}
use Rattle.circle_domain.proofs.NaturalValues.{length-natural}
use Rattle.circle_domain.proofs.Walking.{standard-point, standard-next}
use Rattle.circle_folding.proofs.Only.{of_coefficients}
use Rattle.circle_air.specs.declared.node.Node.{Node}
use Rattle.circle_air.specs.declared.node.Node.TheVariants.{Local, Next, Periodic, Public}
use Rattle.circle_air.specs.declared.node.Node.TheVariants.{Constant, Add, Sub, Mul, Neg}
use Rattle.circle_air.specs.Parts.{Parts}
use Rattle.circle_air.specs.Satisfies.{window_of_row}
use Rattle.circle_air.specs.Values.{Window, entry, value, values}
use Rattle.circle_quotient.specs.Window.{AreColumnsOf, IsWindowOf}
use Rattle.circle_quotient.proofs.Compositions.{AreColumns}
use Rattle.circle_quotient.proofs.Grades.{IsGraded}
use Rattle.circle_quotient.proofs.Forms.{HasForm, form-of_polynomial, form-translated}
use Rattle.circle_quotient.proofs.NextRows.{flat}
use Rattle.circle_quotient.proofs.Periods.{IsPeriod, period-told, period_value}
use Rattle.circle_quotient.proofs.Periods.{period-entry, period-is, period-only}
use Rattle.circle_quotient.proofs.Places.{point}

-- an entry of a window is that of another in the larger field
record IsLifted {F E : Type 0} (k : FieldOps F) (l : FieldOps E) (m : F → E) (xs : List F)
    (ys : List E) : Type 0 where
  pub same : (i : ℕ) → entry l ys i ≡ m (entry k xs i)

pub record AreLifted {F E : Type 0} (k : FieldOps F) (l : FieldOps E) (m : F → E) (w : Window F)
    (w' : Window E) : Type 0 where
  pub local : (i : ℕ) → entry l w'.local i ≡ m (entry k w.local i)
  pub next : (i : ℕ) → entry l w'.next i ≡ m (entry k w.next i)
  pub periodic : (i : ℕ) → entry l w'.periodic i ≡ m (entry k w.periodic i)
  pub public : (i : ℕ) → entry l w'.public i ≡ m (entry k w.public i)

module _ {F E : Type 0} {k : FieldOps F} {l : FieldOps E} {m : F → E} (e : IsEmbedding k l m) where
  pub entry-mapped : (xs : List F) (i : ℕ) → entry l (map m xs) i ≡ m (entry k xs i)
  entry-mapped [] i = sym e.zero
  entry-mapped (x ∷ xs) zero = refl
  entry-mapped (x ∷ xs) (suc i) = entry-mapped xs i

  module _ (w : Window F) (w' : Window E) (lifts : AreLifted k l m w w') where
    node-lifted : (made : List F) (node : Node F) →
        value l m w' (map m made) node ≡ m (value k (λ x. x) w made node)
    node-lifted made (Local c) = lifts.local c
    node-lifted made (Next c) = lifts.next c
    node-lifted made (Periodic i) = lifts.periodic i
    node-lifted made (Public i) = lifts.public i
    node-lifted made (Constant x) = refl
    node-lifted made (Add a b) =
        ap (λ v. l.add v (entry l (map m made) b)) (entry-mapped made a)
        ∙ ap (l.add (m (entry k made a))) (entry-mapped made b)
        ∙ sym (e.add (entry k made a) (entry k made b))
    node-lifted made (Sub a b) =
        ap (λ v. l.add v (l.neg (entry l (map m made) b))) (entry-mapped made a)
        ∙ ap (λ v. l.add (m (entry k made a)) (l.neg v)) (entry-mapped made b)
        ∙ ap (l.add (m (entry k made a))) (sym (e.neg (entry k made b)))
        ∙ sym (e.add (entry k made a) (k.neg (entry k made b)))
    node-lifted made (Mul a b) =
        ap (λ v. l.mul v (entry l (map m made) b)) (entry-mapped made a)
        ∙ ap (l.mul (m (entry k made a))) (entry-mapped made b)
        ∙ sym (e.mul (entry k made a) (entry k made b))
    node-lifted made (Neg a) = ap l.neg (entry-mapped made a) ∙ sym (e.neg (entry k made a))

    more-mapped : (xs : List F) (x : F) → map m xs ++ m x ∷ [] ≡ map m (xs ++ x ∷ [])
    more-mapped [] x = refl
    more-mapped (y ∷ xs) x = ap (λ zs. m y ∷ zs) (more-mapped xs x)

    nodes-lifted : (nodes : List (Node F)) (made : List F) →
        fold (λ earlier node. earlier ++ value l m w' earlier node ∷ []) (map m made) nodes
        ≡ map m (fold (λ earlier node. earlier ++ value k (λ x. x) w earlier node ∷ []) made nodes)
    nodes-lifted [] made = refl
    nodes-lifted (node ∷ nodes) made =
        let v = value k (λ x. x) w made node in
        ap (λ ys. fold (λ earlier node. earlier ++ value l m w' earlier node ∷ []) ys nodes)
        (ap (λ y. map m made ++ y ∷ []) (node-lifted made node) ∙ more-mapped made v)
        ∙ nodes-lifted nodes (made ++ v ∷ [])

    -- a node's value in the larger field
    pub values-lifted : (nodes : List (Node F)) (i : ℕ) →
        entry l (values l m nodes w') i ≡ m (entry k (values k (λ x. x) nodes w) i)
    values-lifted nodes i =
        ap (λ ys. entry l ys i) (nodes-lifted nodes [])
        ∙ entry-mapped (values k (λ x. x) nodes w) i

module _ {F E : Type 0} {k : FieldOps F} {l : FieldOps E} {m : F → E} (base : FieldLaws k)
    (laws : FieldLaws l) (e : IsEmbedding k l m) {gen : ℕ → Coordinates F} {bits : ℕ}
    (gens : AreGenerators k bits gen) (j : ℕ) (fits : suc j < bits) where
  -- a polynomial for each periodic column
  abbrev pub HavePolynomials : List (List F) → Type 0
  HavePolynomials [] = Unit {0}
  HavePolynomials (c ∷ cs) =
      (log : ℕ) × (coeffs : List F) × (log ≤ suc j) × IsPeriod base gens c log coeffs
      × HavePolynomials cs

  -- columns of lengths that are powers of two, up to the trace's
  abbrev pub ArePeriods : List (List F) → Type 0
  ArePeriods = AllByRecursion (λ c. (log : ℕ) × (length c ≡ 2 ^ log) × (log ≤ suc j))

  pub polynomials-told : (cs : List (List F)) → ArePeriods cs → HavePolynomials cs
  polynomials-told [] all = tt
  polynomials-told (c ∷ cs) all =
      let log = all.0.0 in
      let told = period-told base gens c log all.0.1 (omega (arith, all.0.2, fits)) in
      (log, told.0, all.0.2, told.1, polynomials-told cs all.1)

  -- their values along the circle
  abbrev pub period_values : (cs : List (List F)) → HavePolynomials cs → Coordinates E → List E
  period_values [] have q = []
  period_values (c ∷ cs) have q =
      period_value base laws e gens j fits have.0 have.1 q ∷ period_values cs have.4 q

  abbrev pub step : Coordinates E
  step = lifted m (gen (suc j))

  -- columns that are these functions
  module _ (p : Parts F) {X : Type 0} (columns : List X) (column_at : X → Coordinates E → E)
      (public : List F) (have : HavePolynomials p.periodic_columns) where
    abbrev pub locals : Coordinates E → List E
    locals q = map (λ c. column_at c q) columns

    abbrev pub nexts : Coordinates E → List E
    nexts q = map (λ c. column_at c (plus l q step)) columns

    -- the window at a point
    abbrev pub window_at : Coordinates E → Window E
    window_at q = record {
      local = locals q;
      next = nexts q;
      periodic = period_values p.periodic_columns have q;
      public = map m public;
    }

    length-periods : (cs : List (List F)) (have : HavePolynomials cs) (q : Coordinates E) →
        length (period_values cs have q) ≡ length cs
    length-periods [] have q = refl
    length-periods (c ∷ cs) have q = ap suc (length-periods cs have.4 q)

    each-period : (cs : List (List F)) (have : HavePolynomials cs) (q : Coordinates E) (i : ℕ) →
        i < length cs →
        IsPeriodicValue k gen l m (suc j) (slice_index_or cs i []) q
        (slice_index_or (period_values cs have q) i l.zero)
    each-period [] have q i lt = absurd (omega arith)
    each-period (c ∷ cs) have q zero lt =
        period-is base laws e gens j fits c have.0 have.1 have.2 have.3 q
    each-period (c ∷ cs) have q (suc i) lt = each-period cs have.4 q i (omega arith)

    pub window-is : (q : Coordinates E) →
        IsWindowOf k gen l m (suc j) p public q (locals q) (nexts q) (window_at q)
    window-is q = record {
      local = refl;
      next = refl;
      periodic_count = length-periods p.periodic_columns have q;
      periodic = each-period p.periodic_columns have q;
      public = refl;
    }

    only-periods : (cs : List (List F)) (have : HavePolynomials cs) (q : Coordinates E)
        (vs : List E) → length vs ≡ length cs →
        ((i : ℕ) → i < length cs → IsPeriodicValue k gen l m (suc j) (slice_index_or cs i []) q
        (slice_index_or vs i l.zero)) → vs ≡ period_values cs have q
    only-periods [] have q [] long each = refl
    only-periods [] have q (v ∷ vs) long each = absurd (omega (arith, long))
    only-periods (c ∷ cs) have q [] long each = absurd (omega (arith, long))
    only-periods (c ∷ cs) have q (v ∷ vs) long each =
        ap (λ x. x ∷ vs)
        (period-only base laws e gens j fits c have.0 have.1 have.2 have.3 q v
        (each 0 (omega arith)))
        ∙ ap (λ xs. period_value base laws e gens j fits have.0 have.1 q ∷ xs)
        (only-periods cs have.4 q vs (omega (arith, long)) (λ i lt. each (suc i) (omega arith)))

    pub window-only : (q : Coordinates E) (w : Window E) →
        IsWindowOf k gen l m (suc j) p public q (locals q) (nexts q) w → w ≡ window_at q
    window-only q w is =
        let at = window_at q in
        ap (λ (x : List E). let r : Window E = record w { local = x } in r) is.local
        ∙ ap (λ (x : List E). let r : Window E = record {
          local = at.local;
          next = x;
          periodic = w.periodic;
          public = w.public;
        } in r) is.next
        ∙ ap (λ (x : List E). let r : Window E = record {
          local = at.local;
          next = at.next;
          periodic = x;
          public = w.public;
        } in r)
        (only-periods p.periodic_columns have q w.periodic is.periodic_count is.periodic)
        ∙ ap (λ (x : List E). let r : Window E = record {
          local = at.local;
          next = at.next;
          periodic = at.periodic;
          public = x;
        } in r) is.public

    -- what the window has of columns has the degree of one
    module _ {Of : ℕ → (Coordinates E → E) → Type 0} (grades : IsGraded l Of)
        (periods : (log : ℕ) (c coeffs : List F) → log ≤ suc j → IsPeriod base gens c log coeffs →
        Of 1 (period_value base laws e gens j fits log coeffs))
        (degrees : AllByRecursion
        (λ c. Of 1 (column_at c) × Of 1 (λ q. column_at c (plus l q step)))
        columns) where
      none : Of 1 (λ q. l.zero)
      none = grades.raised 1 0 1 (λ q. l.zero) (omega arith) (grades.constant l.zero)

      mapped-degree : (h : X → Coordinates E → E) (cs : List X) →
          AllByRecursion (λ c. Of 1 (h c)) cs → (i : ℕ) →
          Of 1 (λ q. entry l (map (λ c. h c q) cs) i)
      mapped-degree h [] all i = none
      mapped-degree h (c ∷ cs) all zero = all.0
      mapped-degree h (c ∷ cs) all (suc i) = mapped-degree h cs all.1 i

      periods-degree : (cs : List (List F)) (have : HavePolynomials cs) (i : ℕ) →
          Of 1 (λ q. entry l (period_values cs have q) i)
      periods-degree [] have i = none
      periods-degree (c ∷ cs) have zero = periods have.0 c have.1 have.2 have.3
      periods-degree (c ∷ cs) have (suc i) = periods-degree cs have.4 i

      halves : (P Q : X → Type 0) (cs : List X) → AllByRecursion (λ c. P c × Q c) cs →
          AllByRecursion P cs × AllByRecursion Q cs
      halves P Q [] all = (tt, tt)
      halves P Q (c ∷ cs) all = let rest = halves P Q cs all.1 in
          ((all.0.0, rest.0), (all.0.1, rest.1))

      pub window-columns : AreColumns laws m grades window_at
      window-columns =
          let both = halves (λ c. Of 1 (column_at c)) (λ c. Of 1 (λ q. column_at c (plus l q step)))
          columns degrees in record {
            local = mapped-degree column_at columns both.0;
            next = mapped-degree (λ c q. column_at c (plus l q step)) columns both.1;
            periodic = periods-degree p.periodic_columns have;
            public = λ i. (entry l (map m public) i, λ q. refl);
          }

    -- at the points of the trace's domain, where the columns' values are the rows' entries
    module _ (rows : List (List F)) (height : length rows ≡ 2 ^ suc j)
        (widths : (i : ℕ) → length (slice_index_or rows i []) ≤ length columns) (d : X)
        (reads : (t i : ℕ) → t < length columns → i < 2 ^ suc j →
        column_at (slice_index_or columns t d)
        (lifted m (point base gens (suc j) (omega arith) fits i))
        ≡ m (entry k (slice_index_or rows i []) t)) where
      abbrev place : ℕ → Coordinates F
      place = point base gens (suc j) (omega arith) fits

      -- what a window reads of columns by values that are entries of a row
      read-row : (h : X → E) (row : List F) → length row ≤ length columns →
          ((t : ℕ) → t < length columns → h (slice_index_or columns t d) ≡ m (entry k row t)) →
          (t : ℕ) → entry l (map h columns) t ≡ m (entry k row t)
      read-row h row short each t =
          ⊎_elim
          (λ here. get_or-map h columns t d l.zero here ∙ each t here)
          (λ past.
          get_or-eq_default (map h columns) l.zero (omega (arith, past, length-map columns h))
          ∙ sym (ap m (get_or-eq_default row k.zero (omega (arith, past, short))) ∙ e.zero))
          (cases_lt t (length columns))

      read-periods : (i : ℕ) (cs : List (List F)) (have : HavePolynomials cs) (t : ℕ) →
          entry l (period_values cs have (lifted m (place i))) t
          ≡ m (entry k (map (λ c. entry k c (i % length c)) cs) t)
      read-periods i [] have t = sym e.zero
      read-periods i (c ∷ cs) have zero =
          period-entry base laws e gens j fits c have.0 have.1 have.2 have.3 i
      read-periods i (c ∷ cs) have (suc t) = read-periods i cs have.4 t

      pub window-lifted : (i : ℕ) → i < 2 ^ suc j →
          AreLifted k l m (window_of_row k p rows public i) (window_at (lifted m (place i)))
      window-lifted i lt =
          let n = suc j in
          let next = (i + 1) % length rows in
          let below : next < 2 ^ n = omega (arith, height, pow_pos n) in
          let step_on : plus k (place i) (gen n) ≡ place next =
          standard-next base.ring gens n (omega arith) fits i (place i) (place next)
          (standard-point base.ring gens n (omega arith) fits i lt)
          (ap (λ s. slice_get (natural_order k gen n (gen (n + 1))) ((i + 1) % s)) (sym height)
          ∙ standard-point base.ring gens n (omega arith) fits next below) in record {
            local = read-row (λ c. column_at c (lifted m (place i))) (slice_index_or rows i [])
                (widths i) (λ t t_in. reads t i t_in lt);
            next = read-row (λ c. column_at c (plus l (lifted m (place i)) step))
                (slice_index_or rows next []) (widths next)
                (λ t t_in.
                ap (column_at (slice_index_or columns t d))
                (sym (lifted-plus e (place i) (gen n)) ∙ ap (lifted m) step_on)
                ∙ reads t next t_in below);
            periodic = read-periods i p.periodic_columns have;
            public = entry-mapped e public;
          }

  -- a column's polynomial at the points of the domain
  pub column-entry : (rows columns : List (List F)) → AreColumnsOf k gen (suc j) rows columns →
      (t i : ℕ) → t < length columns → i < 2 ^ suc j →
      value_at l (map m (slice_index_or columns t []))
      (lifted m (point base gens (suc j) (omega arith) fits i))
      ≡ m (entry k (slice_index_or rows i []) t)
  column-entry rows columns of_rows t i t_in lt =
      let n = suc j in
      let c = slice_index_or columns t [] in
      let here = point base gens n (omega arith) fits i in
      let natural = natural_order k gen n (gen (n + 1)) in
      let long : length natural ≡ 2 ^ n =
      length-natural base.ring gens n (gen (n + 1)) (omega arith) in
      sym (lifted-value e c here)
      ∙ ap m
      (sym (ap (value_at k c) (get_or_from_slice_get natural i here (origin k)
      (standard-point base.ring gens n (omega arith) fits i lt)))
      ∙ sym (get_or-map (value_at k c) natural i (origin k) k.zero (omega (arith, lt, long)))
      ∙ ap (λ xs. slice_index_or xs i k.zero) (of_rows.each t t_in).values
      ∙ get_or-map (λ row. slice_index_or row t k.zero) rows i [] k.zero
      (omega (arith, lt, of_rows.height)))

  -- and its forms at a point and at the next
  pub column-form : (c : List F) → length c ≡ 2 ^ suc j →
      HasForm l (2 ^ j) (2 ^ j) (value_at l (map m c))
  column-form c long =
      form-of_polynomial laws j (value_at l (map m c))
      (of_coefficients laws (suc j) (map m c) (length-map c m ∙ long))

  pub next-form : (c : List F) → length c ≡ 2 ^ suc j →
      HasForm l (2 ^ j) (2 ^ j) (λ q. value_at l (map m c) (plus l q step))
  next-form c long =
      let half = 2 ^ j in
      let d = half - 1 in
      let whole : suc d ≡ half = omega (arith, pow_pos j) in
      subst (λ i. HasForm l i i (λ q. value_at l (map m c) (plus l q step))) whole
      (form-translated laws d (value_at l (map m c)) step
      ((lifted-generators e gens).on_circle (suc j) (omega (arith, fits)))
      (ap (λ i. (times l i step).y) whole ∙ flat base laws e gens j (omega (arith, fits)))
      (subst (λ i. HasForm l i i (value_at l (map m c))) (sym whole) (column-form c long)))
