-- The quotient's values, from what stands at each place of its domain.
use Rattle.std.specs.Prelude.{Bool, true, ◌≡◌, ◌≢◌, ◌↔◌, ℕ, ◌+◌, ◌-◌, ◌%◌, ◌^◌, ◌<◌, ◌≤◌, List, []}
use Rattle.std.specs.Prelude.{◌∷◌, length, map, All, Some, slice_get, slice_index_or}
use Rattle.std.specs.List.{range_with_len}
use Rattle.std.proofs.Common.{zero, suc, sym, ◌∙◌, ap, refl, subst, arith, ⊎_elim}
use Rattle.std.proofs.Math.ListN.{get_or-eq_default}
use Rattle.std.proofs.Math.Nat.{mod-eq_of_lt}
use Rattle.std.proofs.lemmas.Bool.{cases_lt}
use Rattle.std.proofs.lemmas.List.{get_or-map, get_or_default, length-map}
use Rattle.std.proofs.lemmas.List.FromFn.{length-map-range_with_len, get_or-map-range_with_len}
use Rattle.std.proofs.lemmas.Option.{slice_get-get_or, slice_get_within, get_or_from_slice_get}
use Rattle.circle_field.specs.Field.{FieldOps, FieldLaws, IsEmbedding}
use Rattle.circle_field.specs.Circle.{Coordinates, IsOnCircle, AreGenerators, lifted}
use Rattle.circle_point.specs.Basis.{vanishing}
use Rattle.circle_commit.specs.DotProduct.{dot}
use Rattle.circle_commit.specs.PeriodicLdeTable.{columns_of}
use Rattle.circle_domain.specs.Clear.{IsClearOf}
use Rattle.circle_domain.specs.Order.{natural_order}
use Rattle.circle_domain.specs.Periodic.{IsPeriodicValue}
use Rattle.circle_domain.specs.Selectors.{first_row, last_row, transition, vanishing_on}
use Rattle.circle_domain.proofs.Lifted.{lifted-vanishing}
use Rattle.circle_domain.proofs.PartLists.{length-natural_order}
use Rattle.circle_domain.proofs.StandardDomain.{standard-genuine}
use Rattle.circle_domain.proofs.Walking.{standard-on_circle}
use Rattle.circle_air.specs.Parts.{Parts}
use Rattle.circle_air.specs.Values.{Window, entry, values}
use Rattle.circle_quotient.specs.Blocks.{AreQuotientTerms, AreTermsOf, quotient_of_place}
use Rattle.circle_quotient.specs.Blocks.{selectors_at_place}
use Rattle.circle_quotient.specs.Composition.{term, together}
use Rattle.circle_quotient.specs.Identity.{quotient_at}
use Rattle.circle_quotient.specs.Quotient.{AreQuotientsOf, next_row}
use Rattle.circle_quotient.specs.Terms.{falling_powers, terms, weighted, window_of_place}
use Rattle.circle_quotient.specs.Window.{IsWindowOf, selectors_at}
use Rattle.circle_quotient.specs.declared.blocks.QuotientTerms.{QuotientTerms}
use Rattle.circle_quotient.proofs.LiftedPlaces.{AreLiftedSelectors, lifted-inv, terms-lifted}
use Rattle.circle_quotient.proofs.LiftedPlaces.{first-lifted, last-lifted, transition-lifted}
use Rattle.circle_quotient.proofs.LiftedPlaces.{periodic-lifted}
use Rattle.circle_quotient.proofs.QuotientPoints.{quotient-clear, standard-vanishing}
use Rattle.circle_quotient.proofs.Weighing.{length-falling_powers, together-dot}
use Rattle.circle_quotient.proofs.Windows.{AreLifted, entry-mapped}

-- the value at a place, of values at points
read : {X Y : Type 0} (f : X → Y) (xs : List X) (i : ℕ) (x : X) (d : Y) →
    slice_get xs i ≡ Some x → slice_index_or (map f xs) i d ≡ f x
read f xs i x d here =
    get_or-map f xs i x d (slice_get_within xs i x here)
    ∙ ap f (get_or_from_slice_get xs i x x here)

-- as many as there are places, and constraints
pub terms-fit : {F E : Type 0} {k : FieldOps F} {l : FieldOps E} {gen : ℕ → Coordinates F}
    (n kk : ℕ) → 1 ≤ n → (p : Parts F) (alpha : E) (t : QuotientTerms F E) →
    AreQuotientTerms k gen l n kk p alpha t → AreTermsOf p (2 ^ (n + kk)) t
terms-fit {k = k} {l = l} {gen = gen} n kk positive p alpha t are =
    let s = gen (n + 1) in
    let points = natural_order k gen (n + kk) (gen (n + kk + 1)) in
    let long : length points ≡ 2 ^ (n + kk) =
    length-natural_order k gen (n + kk) (gen (n + kk + 1)) (omega (arith, positive)) in record {
      first = ap length are.first ∙ length-map points (first_row k n s) ∙ long;
      last = ap length are.last ∙ length-map points (last_row k n s) ∙ long;
      transition = ap length are.transition ∙ length-map points (transition k n s) ∙ long;
      inverses = ap length are.inverses
          ∙ length-map points (λ q. k.inv (vanishing_on k n s q)) ∙ long;
      periodic = sym (length-map t.periodic.items (λ column. column.items))
          ∙ are.periodic.count;
      periods = λ c d lt.
          subst (λ column. 0 < length column)
          (get_or_default (columns_of t.periodic.items) c [] d lt)
          (are.periodic.each c lt).positive;
      weights = ap length are.weights ∙ length-falling_powers l alpha (length p.constraints);
      constraints = are.constraints;
    }

module _ {F E : Type 0} {k : FieldOps F} {l : FieldOps E} {m : F → E} (base : FieldLaws k)
    (laws : FieldLaws l) (e : IsEmbedding k l m) {gen : ℕ → Coordinates F} {bits : ℕ}
    (gens : AreGenerators k bits gen) (eq : F → F → Bool)
    (law : (a b : F) → (eq a b ≡ true) ↔ (a ≡ b)) (n kk : ℕ) (positive : 1 ≤ n) (some : 1 ≤ kk)
    (fits : n + kk < bits) (p : Parts F) (rows : List (List F)) (public : List F) (alpha : E)
    (t : QuotientTerms F E)
    (height : length rows ≡ 2 ^ (n + kk))
    (powers : All (λ column. (log : ℕ) × (length column ≡ 2 ^ log)) p.periodic_columns)
    (are : AreQuotientTerms k gen l n kk p alpha t) where
  abbrev total : ℕ
  total = n + kk

  abbrev points : List (Coordinates F)
  points = natural_order k gen total (gen (total + 1))

  module _ (i : ℕ) (s : Coordinates F) (here : slice_get points i ≡ Some s) where
    own : 1 ≤ total
    own = omega (arith, positive)

    within : i < 2 ^ total
    within = omega (
      arith,
      slice_get_within points i s here,
      length-natural_order k gen total (gen (total + 1)) own,
    )

    abbrev base_window : Window F
    base_window =
        window_of_place k rows (2 ^ kk) (columns_of t.periodic.items) public i

    -- what constraints read
    periodic-entry : (w : Window E) →
        length w.periodic ≡ length p.periodic_columns →
        ((c : ℕ) → c < length p.periodic_columns → IsPeriodicValue k gen l m n
        (slice_index_or p.periodic_columns c []) (lifted m s)
        (slice_index_or w.periodic c l.zero)) →
        (c : ℕ) → entry l w.periodic c ≡ m (entry k base_window.periodic c)
    periodic-entry w count each c =
        let made = columns_of t.periodic.items in
        let at = λ (column : List F). entry k column (i % length column) in
        let long : length made ≡ length p.periodic_columns = are.periodic.count in
        ⊎_elim
        (λ (lt : c < length p.periodic_columns).
        let log = powers c [] lt in
        periodic-lifted base laws e gen n log.0 (slice_index_or p.periodic_columns c []) s
        (at (slice_index_or made c [])) (slice_index_or w.periodic c l.zero) log.1
        ((are.periodic.each c (omega (arith, lt, long))).values i s here) (each c lt)
        ∙ ap m (sym (get_or-map at made c [] k.zero (omega (arith, lt, long)))))
        (λ (past : length p.periodic_columns ≤ c).
        get_or-eq_default w.periodic l.zero (omega (arith, past, count))
        ∙ sym (ap m (get_or-eq_default (map at made) k.zero
        (omega (arith, past, long, length-map made at))) ∙ e.zero))
        (cases_lt c (length p.periodic_columns))

    window-lifted : (w : Window E) →
        IsWindowOf k gen l m n p public (lifted m s) (map m (slice_index_or rows i []))
        (map m (next_row k gen l m n kk rows i)) w → AreLifted k l m base_window w
    window-lifted w is =
        let first : i % length rows ≡ i = ap (λ h. i % h) height ∙ mod-eq_of_lt within in
        let next : (i + 2 ^ kk) % length rows ≡ (i + 2 ^ kk) % 2 ^ total =
        ap (λ h. (i + 2 ^ kk) % h) height in record {
          local = λ c. ap (λ xs. entry l xs c) is.local
              ∙ entry-mapped e (slice_index_or rows i []) c
              ∙ ap (λ j. m (entry k (slice_index_or rows j []) c)) (sym first);
          next = λ c. ap (λ xs. entry l xs c) is.next
              ∙ entry-mapped e (next_row k gen l m n kk rows i) c
              ∙ ap (λ j. m (entry k (slice_index_or rows j []) c)) (sym next);
          periodic = periodic-entry w is.periodic_count is.periodic;
          public = λ c. ap (λ xs. entry l xs c) is.public ∙ entry-mapped e public c;
        }

    -- the selectors
    abbrev shift : Coordinates F
    shift = gen (n + 1)

    on_shift : IsOnCircle k shift
    on_shift = gens.on_circle (n + 1) (omega (arith, fits))

    on_point : IsOnCircle k s
    on_point = standard-on_circle base.ring gens total own fits i s here

    selectors-lifted :
        AreLiftedSelectors m (selectors_at_place k t i) (selectors_at k gen l m n (lifted m s))
    selectors-lifted =
        let genuine = standard-genuine base gens n positive (omega (arith, fits)) in
        let clear = subst
        (λ (q : Coordinates F). IsClearOf k (λ x. x) (natural_order k gen n shift) q)
        (get_or_from_slice_get points i s s here)
        (quotient-clear base gens eq law n kk positive some fits i s
        (slice_get_within points i s here)) in record {
          first = first-lifted base laws e gens n shift genuine (omega (arith, fits)) on_shift s
              on_point clear
              ∙ ap m (sym (ap (λ xs. entry k xs i) are.first
              ∙ read (first_row k n shift) points i s k.zero here));
          last = last-lifted base laws e gens n shift genuine (omega (arith, fits)) on_shift s
              on_point clear
              ∙ ap m (sym (ap (λ xs. entry k xs i) are.last
              ∙ read (last_row k n shift) points i s k.zero here));
          transition = transition-lifted base laws e gens n shift genuine (omega (arith, fits))
              on_shift s on_point clear
              ∙ ap m (sym (ap (λ xs. entry k xs i) are.transition
              ∙ read (transition k n shift) points i s k.zero here));
        }

    -- one over the vanishing polynomial
    vanishing-there : (vanishing_on k n shift s ≡ vanishing k n s) × (vanishing k n s ≢ k.zero)
    vanishing-there = standard-vanishing base gens n kk positive some fits i s here

    inverse-lifted : m (entry k t.selectors.inv_vanishing.items i)
        ≡ l.inv (vanishing l n (lifted m s))
    inverse-lifted =
        ap m (ap (λ xs. entry k xs i) are.inverses
        ∙ read (λ q. k.inv (vanishing_on k n shift q)) points i s k.zero here
        ∙ ap k.inv vanishing-there.0)
        ∙ lifted-inv base laws e (vanishing k n s) vanishing-there.1
        ∙ ap l.inv (lifted-vanishing e n s)

    -- so the value at the place
    pub value-there : (w : Window E) →
        IsWindowOf k gen l m n p public (lifted m s) (map m (slice_index_or rows i []))
        (map m (next_row k gen l m n kk rows i)) w →
        quotient_of_place k l m p rows kk public t i ≡ quotient_at k gen l m n kk p alpha s w
    value-there w is =
        let cs = p.constraints in
        let at = selectors_at k gen l m n (lifted m s) in
        let nodes = values l m p.nodes w in
        let own_terms = terms k cs (values k (λ x. x) p.nodes base_window)
        (selectors_at_place k t i) in
        let same : map (term l at nodes) cs ≡ map m own_terms =
        terms-lifted base laws e base_window w (window-lifted w is) (selectors_at_place k t i) at
        selectors-lifted p.nodes cs in
        let count : length (map (term l at nodes) cs) ≡ length cs =
        length-map cs (term l at nodes) in
        let put : together l cs nodes at alpha ≡ weighted k l m t.weights.items own_terms =
        together-dot laws at nodes alpha cs
        ∙ ap (λ c. dot l (map (term l at nodes) cs) (falling_powers l alpha c)) count
        ∙ ap (λ ts. dot l ts (falling_powers l alpha (length cs))) same
        ∙ ap (dot l (map m own_terms)) (sym are.weights) in
        laws.ring.mul_comm (m (entry k t.selectors.inv_vanishing.items i))
        (weighted k l m t.weights.items own_terms)
        ∙ ap (l.mul (weighted k l m t.weights.items own_terms)) inverse-lifted
        ∙ ap (λ v. l.mul v (l.inv (vanishing l n (lifted m s)))) (sym put)

  pub quotients-made : (made : List E) →
      made ≡ map (quotient_of_place k l m p rows kk public t) (range_with_len 0 (2 ^ (n + kk))) →
      AreQuotientsOf k gen l m n kk p rows public alpha made
  quotients-made made is =
      let f = quotient_of_place k l m p rows kk public t in
      let long : length made ≡ 2 ^ total =
      ap length is ∙ length-map-range_with_len f 0 (2 ^ total) in record {
        count = long;
        each = λ i s here w window.
            let lt = within i s here in
            slice_get-get_or made i l.zero (omega (arith, lt, long))
            ∙ ap Some (ap (λ xs. slice_index_or xs i l.zero) is
            ∙ get_or-map-range_with_len f 0 (2 ^ total) i i l.zero lt (omega arith)
            ∙ value-there i s here w window);
      }
