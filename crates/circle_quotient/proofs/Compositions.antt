-- A composition has the greatest degree of a constraint.
use Rattle.std.specs.Prelude.{◌≡◌, ℕ, ◌+◌, ◌-◌, ◌<◌, ◌≤◌, max, List, [], ◌∷◌, ◌++◌, length}
use Rattle.std.specs.Prelude.{fold, slice_index}
use Rattle.std.proofs.Common.{suc, sym, ◌∙◌, ap, refl, subst, arith, ⊎_elim}
use Rattle.std.proofs.Math.ListN.{get_or-eq_default}
use Rattle.std.proofs.Math.Seq.{get_or-append_seam}
use Rattle.std.proofs.lemmas.List.{get_or_append_left}
use Rattle.std.proofs.lemmas.Bool.{cases_eq, cases_lt}
use Rattle.circle_field.specs.Field.{FieldOps, FieldLaws, sub}
use Rattle.circle_field.specs.Ring.{var, con, unit, plus as sum, times as prod, minus}
use Rattle.circle_field.specs.RingSound.{ring}
use Rattle.circle_field.specs.Circle.{Coordinates}
use Rattle.circle_air.specs.declared.node.Node.{Node}
use Rattle.circle_air.specs.declared.node.Node.TheVariants.{Local, Next, Periodic, Public}
use Rattle.circle_air.specs.declared.node.Node.TheVariants.{Constant, Add, Sub, Mul, Neg}
use Rattle.circle_air.specs.declared.node.Constraint.{Constraint}
use Rattle.circle_air.specs.declared.node.Place.{Place}
use Rattle.circle_air.specs.declared.node.Place.TheVariants.{Every, First, Last, Transition}
use Rattle.circle_air.specs.Degrees.{degree, degrees, constraint_degree, greatest_degree}
use Rattle.circle_air.specs.Degrees.{selector_degree}
use Rattle.circle_air.specs.Parts.{Parts}
use Rattle.circle_air.specs.Values.{Window, entry, value, values}
use Rattle.circle_quotient.specs.Composition.{Selectors, selector, composition}
use Rattle.circle_quotient.proofs.Grades.{IsGraded}

length-more : {X : Type 0} (xs : List X) (x : X) → length (xs ++ x ∷ []) ≡ suc (length xs)
length-more [] x = refl
length-more (y ∷ xs) x = ap suc (length-more xs x)

module _ {F E : Type 0} {l : FieldOps E} (laws : FieldLaws l) (embed : F → E)
    {Of : ℕ → (Coordinates E → E) → Type 0} (grades : IsGraded l Of) where
  -- windows along the circle whose entries have the degree of a column, but for public values
  pub record AreColumns (w : Coordinates E → Window E) : Type 0 where
    pub local : (i : ℕ) → Of 1 (λ p. entry l (w p).local i)
    pub next : (i : ℕ) → Of 1 (λ p. entry l (w p).next i)
    pub periodic : (i : ℕ) → Of 1 (λ p. entry l (w p).periodic i)
    pub public : (i : ℕ) → (a : E) × ((p : Coordinates E) → entry l (w p).public i ≡ a)

  -- values along the circle of these degrees
  record HaveDegrees (made : Coordinates E → List E) (ds : List ℕ) : Type 0 where
    count : (p : Coordinates E) → length (made p) ≡ length ds
    each : (i : ℕ) → Of (slice_index ds i) (λ p. entry l (made p) i)

  to-greater : (d d' : ℕ) (f : Coordinates E → E) → d ≤ d' → Of d f → Of d' f
  to-greater d d' f le s = grades.raised (d' - d) d d' f (omega (arith, le)) s

  module _ (w : Coordinates E → Window E) (columns : AreColumns w)
      (made : Coordinates E → List E) (ds : List ℕ) (have : HaveDegrees made ds) where
    combined : (a b : ℕ) (u v : E) →
        Of (max (slice_index ds a) (slice_index ds b))
        (λ p. l.add (l.mul u (entry l (made p) a)) (l.mul v (entry l (made p) b)))
    combined a b u v =
        let top = max (slice_index ds a) (slice_index ds b) in
        grades.combined top u v (λ p. entry l (made p) a) (λ p. entry l (made p) b)
        (to-greater (slice_index ds a) top (λ p. entry l (made p) a) (omega arith) (have.each a))
        (to-greater (slice_index ds b) top (λ p. entry l (made p) b) (omega arith) (have.each b))

    node-degree : (node : Node F) → Of (degree ds node) (λ p. value l embed (w p) (made p) node)
    node-degree (Local c) = columns.local c
    node-degree (Next c) = columns.next c
    node-degree (Periodic i) = columns.periodic i
    node-degree (Public i) =
        let known = columns.public i in
        grades.same 0 (λ p. known.0) (λ p. entry l (w p).public i) (grades.constant known.0)
        (λ p on. known.1 p)
    node-degree (Constant x) = grades.constant (embed x)
    node-degree (Add a b) =
        grades.same (max (slice_index ds a) (slice_index ds b))
        (λ p. l.add (l.mul l.one (entry l (made p) a)) (l.mul l.one (entry l (made p) b)))
        (λ p. l.add (entry l (made p) a) (entry l (made p) b)) (combined a b l.one l.one)
        (λ p on. ring laws.ring (entry l (made p) a ∷ entry l (made p) b ∷ [])
        (sum (var 0) (var 1)) (sum (prod unit (var 0)) (prod unit (var 1))) refl)
    node-degree (Sub a b) =
        grades.same (max (slice_index ds a) (slice_index ds b))
        (λ p. l.add (l.mul l.one (entry l (made p) a))
        (l.mul (l.neg l.one) (entry l (made p) b)))
        (λ p. sub l (entry l (made p) a) (entry l (made p) b)) (combined a b l.one (l.neg l.one))
        (λ p on. ring laws.ring (entry l (made p) a ∷ entry l (made p) b ∷ [])
        (sum (var 0) (minus (var 1))) (sum (prod unit (var 0)) (prod (minus unit) (var 1))) refl)
    node-degree (Mul a b) =
        grades.product (slice_index ds a) (slice_index ds b)
        (λ p. entry l (made p) a) (λ p. entry l (made p) b) (have.each a) (have.each b)
    node-degree (Neg a) =
        grades.same (slice_index ds a)
        (λ p. l.add (l.mul (l.neg l.one) (entry l (made p) a)) (l.mul l.zero (entry l (made p) a)))
        (λ p. l.neg (entry l (made p) a))
        (grades.combined (slice_index ds a) (l.neg l.one) l.zero (λ p. entry l (made p) a)
        (λ p. entry l (made p) a) (have.each a) (have.each a))
        (λ p on. ring laws.ring (entry l (made p) a ∷ []) (minus (var 0))
        (sum (prod (minus unit) (var 0)) (prod (con 0) (var 0))) refl)

    -- one node more
    one_more : (node : Node F) →
        HaveDegrees (λ p. made p ++ value l embed (w p) (made p) node ∷ [])
        (ds ++ degree ds node ∷ [])
    one_more node =
        let f = λ (p : Coordinates E). value l embed (w p) (made p) node in
        let d = degree ds node in
        let more = λ (p : Coordinates E). made p ++ f p ∷ [] in record {
          count = λ p. length-more (made p) (f p) ∙ ap suc (have.count p) ∙ sym (length-more ds d);
          each = λ i.
              let entry_at = λ (p : Coordinates E). entry l (more p) i in
              ⊎_elim
              (λ before.
              subst (λ n. Of n entry_at) (sym (get_or_append_left ds (d ∷ []) 0 i before))
              (grades.same (slice_index ds i) (λ p. entry l (made p) i) entry_at (have.each i)
              (λ p on. get_or_append_left (made p) (f p ∷ []) l.zero i
              (omega (arith, before, have.count p)))))
              (λ after.
              ⊎_elim
              (λ here.
              subst (λ n. Of n entry_at)
              (sym (ap (λ n. slice_index (ds ++ d ∷ []) n) here ∙ get_or-append_seam ds d [] 0))
              (grades.same d f entry_at (node-degree node)
              (λ p on. ap (λ n. entry l (more p) n) (here ∙ sym (have.count p))
              ∙ get_or-append_seam (made p) (f p) [] l.zero)))
              (λ other.
              let past : length ds < i = omega (arith, after, other) in
              subst (λ n. Of n entry_at)
              (sym (get_or-eq_default (ds ++ d ∷ []) 0 (omega (arith, past, length-more ds d))))
              (grades.same 0 (λ p. l.zero) entry_at (grades.constant l.zero)
              (λ p on. get_or-eq_default (more p) l.zero
              (omega (arith, past, have.count p, length-more (made p) (f p))))))
              (cases_eq i (length ds)))
              (cases_lt i (length ds));
        }

  all-nodes : (w : Coordinates E → Window E) → AreColumns w → (nodes : List (Node F))
      (made : Coordinates E → List E) (ds : List ℕ) → HaveDegrees made ds →
      HaveDegrees
      (λ p. fold (λ earlier node. earlier ++ value l embed (w p) earlier node ∷ []) (made p) nodes)
      (fold (λ earlier node. earlier ++ degree earlier node ∷ []) ds nodes)
  all-nodes w columns [] made ds have = have
  all-nodes w columns (node ∷ nodes) made ds have =
      all-nodes w columns nodes (λ p. made p ++ value l embed (w p) (made p) node ∷ [])
      (ds ++ degree ds node ∷ []) (one_more w columns made ds have node)

  pub nodes-degree : (w : Coordinates E → Window E) → AreColumns w →
      (nodes : List (Node F)) (i : ℕ) →
      Of (slice_index (degrees nodes) i) (λ p. entry l (values l embed nodes (w p)) i)
  nodes-degree w columns nodes i =
      (all-nodes w columns nodes (λ p. []) []
      (record { count = λ p. refl; each = λ i. grades.constant l.zero })).each i

  -- selectors along the circle of the degree of a column
  pub record AreSelectors (s : Coordinates E → Selectors E) : Type 0 where
    pub first : Of 1 (λ p. (s p).first)
    pub last : Of 1 (λ p. (s p).last)
    pub transition : Of 1 (λ p. (s p).transition)

  abbrev greater : List ℕ → ℕ → List Constraint → ℕ
  greater ds g cs = fold (λ greatest c. max greatest (constraint_degree ds c)) g cs

  greater-above : (ds : List ℕ) (g : ℕ) (cs : List Constraint) → g ≤ greater ds g cs
  greater-above ds g [] = omega arith
  greater-above ds g (c ∷ cs) =
      omega (arith, greater-above ds (max g (constraint_degree ds c)) cs)

  module _ (w : Coordinates E → Window E) (columns : AreColumns w) (s : Coordinates E → Selectors E)
      (selectors : AreSelectors s) (nodes : List (Node F)) (alpha : E) where
    abbrev node_at : ℕ → Coordinates E → E
    node_at i p = entry l (values l embed nodes (w p)) i

    swapped : (i : ℕ) (f : Coordinates E → E) → Of 1 f →
        Of (slice_index (degrees nodes) i + 1) (λ p. l.mul (f p) (node_at i p))
    swapped i f t =
        let d = slice_index (degrees nodes) i in
        grades.same (d + 1) (λ p. l.mul (node_at i p) (f p)) (λ p. l.mul (f p) (node_at i p))
        (grades.product d 1 (node_at i) f (nodes-degree w columns nodes i) t)
        (λ p on. laws.ring.mul_comm (f p) (node_at i p))

    selected : (place : Place) (i : ℕ) →
        Of (slice_index (degrees nodes) i + selector_degree place)
        (λ p. l.mul (selector l (s p) place) (node_at i p))
    selected Every i =
        let d = slice_index (degrees nodes) i in
        grades.raised 0 d (d + 0)
        (λ p. l.mul l.one (node_at i p)) (omega arith)
        (grades.same d (node_at i) (λ p. l.mul l.one (node_at i p))
        (nodes-degree w columns nodes i) (λ p on. laws.ring.one_mul (node_at i p)))
    selected First i = swapped i (λ p. (s p).first) selectors.first
    selected Last i = swapped i (λ p. (s p).last) selectors.last
    selected Transition i = swapped i (λ p. (s p).transition) selectors.transition

    chosen : (c : Constraint) → Of (constraint_degree (degrees nodes) c)
        (λ p. l.mul (selector l (s p) c.place) (node_at c.node p))
    chosen c = selected c.place c.node

    abbrev put_together : List Constraint → (Coordinates E → E) → Coordinates E → E
    put_together cs f p =
        let made = values l embed nodes (w p) in
        fold (λ sum c. l.add (l.mul alpha sum)
        (l.mul (selector l (s p) c.place) (entry l made c.node))) (f p) cs

    together-degree : (bound : ℕ) (cs : List Constraint) (g : ℕ) (f : Coordinates E → E) →
        greater (degrees nodes) g cs ≤ bound → Of bound f →
        Of bound (put_together cs f)
    together-degree bound [] g f le t = t
    together-degree bound (c ∷ cs) g f le t =
        let ds = degrees nodes in
        let d = constraint_degree ds c in
        let term = λ (p : Coordinates E).
        l.mul (selector l (s p) c.place) (node_at c.node p) in
        let within : d ≤ bound = omega (arith, le, greater-above ds (max g d) cs) in
        together-degree bound cs (max g d) (λ p. l.add (l.mul alpha (f p)) (term p)) le
        (grades.same bound (λ p. l.add (l.mul alpha (f p)) (l.mul l.one (term p)))
        (λ p. l.add (l.mul alpha (f p)) (term p))
        (grades.combined bound alpha l.one f term t (to-greater d bound term within (chosen c)))
        (λ p on. ap (l.add (l.mul alpha (f p))) (sym (laws.ring.one_mul (term p)))))

  pub composition-degree : (w : Coordinates E → Window E) → AreColumns w →
      (s : Coordinates E → Selectors E) → AreSelectors s → (p : Parts F) (alpha : E) (bound : ℕ) →
      greatest_degree (degrees p.nodes) p.constraints ≤ bound →
      Of bound (λ q. composition l embed p (w q) (s q) alpha)
  composition-degree w columns s selectors p alpha bound le =
      together-degree w columns s selectors p.nodes alpha bound p.constraints 0 (λ q. l.zero) le
      (to-greater 0 bound (λ q. l.zero) (omega arith) (grades.constant l.zero))
