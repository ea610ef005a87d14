-- The points of a coset have different x coordinates, and y coordinates that are not 0.
use Rattle.std.specs.Prelude.{◌≡◌, ◌≢◌, ℕ, ◌-◌, ◌^◌, ◌≤◌, List, [], ◌∷◌, ◌++◌, map}
use Rattle.std.specs.List.{AllByRecursion}
use Rattle.std.proofs.Common.{zero, suc, sym, ◌∙◌, ap, refl, subst, arith}
use Rattle.circle_field.specs.Field.{FieldOps, FieldLaws}
use Rattle.circle_field.specs.Ring.{var, con, unit, plus as sum, times as prod, minus}
use Rattle.circle_field.specs.RingCombine.{given, combine}
use Rattle.circle_field.specs.Circle.{Coordinates, IsOnCircle, AreGenerators, plus, origin, times}
use Rattle.circle_field.specs.CircleGroup.{plus-on_circle}
use Rattle.circle_point.specs.Basis.{iterated_x}
use Rattle.circle_domain.specs.Order.{coset, with_opposites}
use Rattle.circle_domain.proofs.Blocks.{all-append, factor-points, factor-opposite}
use Rattle.circle_domain.proofs.Blocks.{points-cfft_order}
use Rattle.circle_domain.proofs.Inversion.{factor-nonzero, first-genuine, second-genuine}
use Rattle.circle_quotient.proofs.Monomials.{IsDistinct, zero_factor}

pub distinct-append : {E : Type 0} (xs ys : List E) → IsDistinct xs → IsDistinct ys →
    AllByRecursion (λ x. AllByRecursion (λ y. y ≢ x) ys) xs → IsDistinct (xs ++ ys)
distinct-append [] ys a b apart = b
distinct-append (x ∷ xs) ys a b apart =
    (all-append (λ y. y ≢ x) xs ys a.0 apart.0, distinct-append xs ys a.1 b apart.1)

pub map-append : {X Y : Type 0} (f : X → Y) (xs ys : List X) → map f (xs ++ ys) ≡ map f xs
    ++ map f ys
map-append f [] ys = refl
map-append f (x ∷ xs) ys = ap (λ zs. f x ∷ zs) (map-append f xs ys)

module _ {E : Type 0} {l : FieldOps E} (laws : FieldLaws l) {gen : ℕ → Coordinates E} {bits : ℕ}
    (gens : AreGenerators l bits gen) where
  abbrev xs_of : List (Coordinates E) → List E
  xs_of = map (λ p. p.x)

  first_halves : (P : Coordinates E → Type 0) (ps : List (Coordinates E)) →
      AllByRecursion P (with_opposites l ps) → AllByRecursion P ps
  first_halves P [] all = tt
  first_halves P (p ∷ ps) all = (all.0, first_halves P ps all.1.1)

  -- after m doublings all have one x coordinate
  pub coset-doubled : (m : ℕ) (q : Coordinates E) (t : E) → m ≤ bits → IsOnCircle l q →
      iterated_x l m q.x ≡ t →
      AllByRecursion (λ p. iterated_x l m p.x ≡ t) (coset l gen m q)
  coset-doubled m q t fits on e =
      let same : suc m - 1 ≡ m = omega arith in
      first_halves (λ p. iterated_x l m p.x ≡ t) (coset l gen m q)
      (subst (AllByRecursion (λ p. iterated_x l m p.x ≡ t))
      (points-cfft_order l gen (suc m) q (omega arith)
      ∙ ap (λ n. with_opposites l (coset l gen n q)) same)
      (factor-points laws.ring gens (suc m) (suc m) q t (omega arith) (omega (arith, fits)) on e))

  -- a number that is not 0 isn't its own opposite
  unlike : (t : E) → t ≢ l.zero → l.neg t ≡ t → ⊥
  unlike t nonzero e =
      nonzero (zero_factor laws (l.add l.one l.one) t laws.two_nonzero
      (combine laws.ring (t ∷ []) (prod (sum unit unit) (var 0)) (con 0)
      (given (minus unit) (minus (var 0)) (var 0) ∷ []) refl (e, tt)))

  others : (m : ℕ) (t : E) → t ≢ l.zero → (p : Coordinates E) → iterated_x l m p.x ≡ t →
      (qs : List (Coordinates E)) → AllByRecursion (λ q. iterated_x l m q.x ≡ l.neg t) qs →
      AllByRecursion (λ y. y ≢ p.x) (xs_of qs)
  others m t nonzero p a [] b = tt
  others m t nonzero p a (q ∷ qs) b = (
    (λ e. unlike t nonzero (sym b.0 ∙ ap (iterated_x l m) e ∙ a)),
    others m t nonzero p a qs b.1,
  )

  cross : (m : ℕ) (t : E) → t ≢ l.zero → (ps qs : List (Coordinates E)) →
      AllByRecursion (λ p. iterated_x l m p.x ≡ t) ps →
      AllByRecursion (λ q. iterated_x l m q.x ≡ l.neg t) qs →
      AllByRecursion (λ x. AllByRecursion (λ y. y ≢ x) (xs_of qs)) (xs_of ps)
  cross m t nonzero [] qs a b = tt
  cross m t nonzero (p ∷ ps) qs a b =
      (others m t nonzero p a.0 qs b, cross m t nonzero ps qs a.1 b)

  pub coset-distinct : (m : ℕ) (q : Coordinates E) → m ≤ bits → IsOnCircle l q →
      times l (2 ^ suc m) q ≢ origin l → IsDistinct (xs_of (coset l gen m q))
  coset-distinct zero q fits on genuine = (tt, tt)
  coset-distinct (suc m) q fits on genuine =
      let r = plus l q (gen (suc m)) in
      let on_r = plus-on_circle laws.ring q (gen (suc m)) on (gens.on_circle (suc m) fits) in
      let t = iterated_x l m q.x in
      let nonzero : t ≢ l.zero = factor-nonzero laws (suc m) q on genuine in
      let first = coset-distinct m q (omega arith) on (first-genuine laws (suc m) q genuine) in
      let second = coset-distinct m r (omega arith) on_r
      (second-genuine laws gens (suc m) q fits on genuine) in
      subst IsDistinct (sym (map-append (λ (p : Coordinates E). p.x) (coset l gen m q)
      (coset l gen m r)))
      (distinct-append (xs_of (coset l gen m q)) (xs_of (coset l gen m r)) first second
      (cross m t nonzero (coset l gen m q) (coset l gen m r)
      (coset-doubled m q t (omega arith) on refl)
      (coset-doubled m r (l.neg t) (omega arith) on_r
      (factor-opposite laws.ring gens (suc m) q fits on))))

  pub coset-apart : (m : ℕ) (q : Coordinates E) → m ≤ bits → IsOnCircle l q →
      times l (2 ^ suc m) q ≢ origin l →
      AllByRecursion (λ p. IsOnCircle l p × (p.y ≢ l.zero)) (coset l gen m q)
  coset-apart zero q fits on genuine = ((on, factor-nonzero laws zero q on genuine), tt)
  coset-apart (suc m) q fits on genuine =
      let r = plus l q (gen (suc m)) in
      all-append (λ p. IsOnCircle l p × (p.y ≢ l.zero)) (coset l gen m q) (coset l gen m r)
      (coset-apart m q (omega arith) on (first-genuine laws (suc m) q genuine))
      (coset-apart m r (omega arith)
      (plus-on_circle laws.ring q (gen (suc m)) on (gens.on_circle (suc m) fits))
      (second-genuine laws gens (suc m) q fits on genuine))
