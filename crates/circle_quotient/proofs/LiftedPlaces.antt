-- What constraints read at a point of the quotient's domain, in the base field and in a larger one.
use Rattle.std.specs.Prelude.{◌≡◌, ◌≢◌, ℕ, ◌-◌, ◌^◌, ◌≤◌, List, [], ◌∷◌, length, map}
use Rattle.std.proofs.Common.{zero, suc, sym, ◌∙◌, ap, refl, arith}
use Rattle.std.proofs.lemmas.List.{map-id}
use Rattle.circle_field.specs.Extension.{identity_embedding}
use Rattle.circle_field.specs.Field.{FieldOps, FieldLaws, IsEmbedding, sub}
use Rattle.circle_field.specs.Circle.{Coordinates, IsOnCircle, AreGenerators, plus, opposite}
use Rattle.circle_field.specs.Circle.{times, lifted}
use Rattle.circle_field.specs.CircleGroup.{lifted-on_circle, opposite-on_circle, plus-on_circle}
use Rattle.circle_field.proofs.Inverses.{inverse_unique}
use Rattle.circle_point.specs.Basis.{value, vanishing}
use Rattle.circle_point.specs.Projective.{to_line}
use Rattle.circle_domain.specs.Clear.{IsClearOf}
use Rattle.circle_domain.specs.Order.{IsGenuine, natural_order}
use Rattle.circle_domain.specs.Periodic.{IsPeriodicValue}
use Rattle.circle_domain.specs.Selectors.{zero_at, vanishing_on, first_row, last_row, transition}
use Rattle.circle_domain.specs.Selectors.{normaliser}
use Rattle.circle_domain.proofs.Lifted.{lifted-plus, lifted-opposite, lifted-times}
use Rattle.circle_domain.proofs.Lifted.{lifted-inverse, lifted-vanishing}
use Rattle.circle_domain.proofs.LiftedValues.{lifted-value}
use Rattle.circle_domain.proofs.Reciprocals.{reciprocal, lifted-reciprocal, clear-first}
use Rattle.circle_domain.proofs.Reciprocals.{clear-last}
use Rattle.circle_air.specs.declared.node.Constraint.{Constraint}
use Rattle.circle_air.specs.declared.node.Node.{Node}
use Rattle.circle_air.specs.declared.node.Place.{Place}
use Rattle.circle_air.specs.declared.node.Place.TheVariants.{Every, First, Last, Transition}
use Rattle.circle_air.specs.Values.{Window, entry, values}
use Rattle.circle_quotient.specs.Composition.{Selectors, selector, term}
use Rattle.circle_quotient.specs.Terms.{terms}
use Rattle.circle_quotient.proofs.Windows.{AreLifted, values-lifted}

-- selectors that are those of the base field
pub record AreLiftedSelectors {F E : Type 0} (m : F → E) (s : Selectors F) (s' : Selectors E) :
    Type 0 where
  pub first : s'.first ≡ m s.first
  pub last : s'.last ≡ m s.last
  pub transition : s'.transition ≡ m s.transition

one-entry : {X : Type 0} (xs : List X) → length xs ≡ 1 → (x : X) × (xs ≡ x ∷ [])
one-entry [] h = absurd (omega (arith, h))
one-entry (x ∷ []) h = (x, refl)
one-entry (x ∷ y ∷ xs) h = absurd (omega (arith, h))

module _ {F E : Type 0} {k : FieldOps F} {l : FieldOps E} {m : F → E} (base : FieldLaws k)
    (laws : FieldLaws l) (e : IsEmbedding k l m) where
  pub lifted-inv : (a : F) → a ≢ k.zero → m (k.inv a) ≡ l.inv (m a)
  lifted-inv a h =
      inverse_unique laws (m a) (m (k.inv a))
      (λ z. h (e.injective a k.zero (z ∙ sym e.zero))) (lifted-inverse e base a h)

  lifted-sub : (a b : F) → m (sub k a b) ≡ sub l (m a) (m b)
  lifted-sub a b = e.add a (k.neg b) ∙ ap (l.add (m a)) (e.neg b)

  -- a term of a constraint
  selector-lifted : (s : Selectors F) (s' : Selectors E) → AreLiftedSelectors m s s' →
      (place : Place) → selector l s' place ≡ m (selector k s place)
  selector-lifted s s' same Every = sym e.one
  selector-lifted s s' same First = same.first
  selector-lifted s s' same Last = same.last
  selector-lifted s s' same Transition = same.transition

  module _ (w : Window F) (w' : Window E) (windows : AreLifted k l m w w')
      (s : Selectors F) (s' : Selectors E) (selectors : AreLiftedSelectors m s s')
      (nodes : List (Node F)) where
    term-lifted : (c : Constraint) →
        term l s' (values l m nodes w') c ≡ m (term k s (values k (λ x. x) nodes w) c)
    term-lifted c =
        ap (λ v. l.mul v (entry l (values l m nodes w') c.node))
        (selector-lifted s s' selectors c.place)
        ∙ ap (l.mul (m (selector k s c.place))) (values-lifted e w w' windows nodes c.node)
        ∙ sym (e.mul (selector k s c.place) (entry k (values k (λ x. x) nodes w) c.node))

    pub terms-lifted : (cs : List Constraint) →
        map (term l s' (values l m nodes w')) cs
        ≡ map m (terms k cs (values k (λ x. x) nodes w) s)
    terms-lifted [] = refl
    terms-lifted (c ∷ cs) =
        ap (λ x. x ∷ map (term l s' (values l m nodes w')) cs) (term-lifted c)
        ∙ ap (λ xs. m (term k s (values k (λ x. x) nodes w) c) ∷ xs) (terms-lifted cs)

  -- one over the selector that is zero at a point alone
  line-inverse : (d : Coordinates F) → IsOnCircle k d → d.y ≢ k.zero →
      m (k.inv (to_line k d)) ≡ l.inv (to_line l (lifted m d))
  line-inverse d on away =
      ap m (sym (reciprocal base d on away))
      ∙ e.mul (k.add d.x k.one) (k.inv d.y)
      ∙ ap (λ v. l.mul v (m (k.inv d.y))) (e.add d.x k.one ∙ ap (l.add (m d.x)) e.one)
      ∙ ap (l.mul (l.add (m d.x) l.one)) (lifted-inv d.y away)
      ∙ reciprocal laws (lifted m d) (lifted-on_circle e d on)
      (λ z. away (e.injective d.y k.zero (z ∙ sym e.zero)))

  over-zero : (p q : Coordinates F) → IsOnCircle k p → IsOnCircle k q →
      (plus k q (opposite k p)).y ≢ k.zero →
      m (k.inv (zero_at k p q)) ≡ l.inv (zero_at l (lifted m p) (lifted m q))
  over-zero p q on_p on_q away =
      let d = plus k q (opposite k p) in
      line-inverse d
      (plus-on_circle base.ring q (opposite k p) on_q (opposite-on_circle base.ring p on_p)) away
      ∙ ap (λ (r : Coordinates E). l.inv (to_line l r))
      (lifted-plus e q (opposite k p) ∙ ap (plus l (lifted m q)) (lifted-opposite e p))

  vanishing-lifted : (n : ℕ) (s q : Coordinates F) →
      m (vanishing_on k n s q) ≡ vanishing_on l n (lifted m s) (lifted m q)
  vanishing-lifted n s q =
      lifted-sub (vanishing k n q) (vanishing k n s)
      ∙ ap (λ v. sub l v (m (vanishing k n s))) (lifted-vanishing e n q)
      ∙ ap (sub l (vanishing l n (lifted m q))) (lifted-vanishing e n s)

  -- the selectors at a point that is clear of the domain
  module _ {gen : ℕ → Coordinates F} {bits : ℕ} (gens : AreGenerators k bits gen) (n : ℕ)
      (s : Coordinates F) (genuine : IsGenuine k n s) (fits : n ≤ bits) (on_s : IsOnCircle k s)
      (q : Coordinates F) (on_q : IsOnCircle k q)
      (clear : IsClearOf k (λ x. x) (natural_order k gen n s) q) where
    own : IsEmbedding k k (λ x. x)
    own = identity_embedding k

    pub first-lifted : first_row l n (lifted m s) (lifted m q) ≡ m (first_row k n s q)
    first-lifted =
        sym (e.mul (vanishing_on k n s q) (k.inv (zero_at k s q))
        ∙ ap (λ v. l.mul v (m (k.inv (zero_at k s q)))) (vanishing-lifted n s q)
        ∙ ap (l.mul (vanishing_on l n (lifted m s) (lifted m q))) (over-zero s q on_s on_q
        (clear-first base base own gens n genuine.0 fits s on_s q on_q clear)))

    pub last-lifted : last_row l n (lifted m s) (lifted m q) ≡ m (last_row k n s q)
    last-lifted =
        let o = opposite k s in
        sym (e.mul (vanishing_on k n s q) (k.inv (zero_at k o q))
        ∙ ap (λ v. l.mul v (m (k.inv (zero_at k o q)))) (vanishing-lifted n s q)
        ∙ ap (l.mul (vanishing_on l n (lifted m s) (lifted m q)))
        (over-zero o q (opposite-on_circle base.ring s on_s) on_q
        (clear-last base base own gens n genuine.0 fits s on_s q on_q clear)
        ∙ ap (λ (p : Coordinates E). l.inv (zero_at l p (lifted m q))) (lifted-opposite e s)))

    pub transition-lifted : transition l n (lifted m s) (lifted m q) ≡ m (transition k n s q)
    transition-lifted =
        let scale = k.inv (normaliser k n (opposite k s)) in
        let last = last_row k n s q in
        sym (lifted-sub k.one (k.mul last scale)
        ∙ ap (λ v. sub l v (m (k.mul last scale))) e.one
        ∙ ap (sub l l.one) (e.mul last scale
        ∙ ap (λ v. l.mul v (m scale)) (sym last-lifted)
        ∙ ap (l.mul (last_row l n (lifted m s) (lifted m q)))
        (lifted-reciprocal base laws e n s genuine on_s)))

  -- a periodic column's value
  pub periodic-lifted : (gen : ℕ → Coordinates F) (n log : ℕ) (column : List F)
      (q : Coordinates F) (v : F) (u : E) → length column ≡ 2 ^ log →
      IsPeriodicValue k gen k (λ x. x) n column q v →
      IsPeriodicValue k gen l m n column (lifted m q) u → u ≡ m v
  periodic-lifted gen n zero column q v u long here there =
      let one = one-entry column long in
      there.constant one.0 one.1 ∙ ap m (sym (here.constant one.0 one.1))
  periodic-lifted gen n (suc log) column q v u long here there =
      let told = here.of_period (suc log) (omega arith) long in
      let multiple = times k (2 ^ (n - suc log)) q in
      there.only (suc log) (omega arith) long told.0 told.1
      ∙ ap (value l (map m told.0)) (sym (lifted-times e (2 ^ (n - suc log)) q))
      ∙ sym (lifted-value e told.0 multiple)
      ∙ ap (λ cs. m (value k cs multiple)) (sym (map-id told.0))
      ∙ ap m (sym told.2)
