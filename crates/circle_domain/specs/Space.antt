-- What a domain requires and returns as a space of polynomials.
use Rattle.std.specs.Prelude.{◌≡◌, ◌⊎◌, ◌↔◌, ℕ, ◌+◌, ◌*◌, ◌^◌, ◌%◌, ◌<◌}
use Rattle.std.specs.Prelude.{Option, Some, IfSome, List, Any, Contains, slice_get}
use Rattle.circle_field.specs.Field.{FieldOps}
use Rattle.circle_field.specs.Circle.{Coordinates, lifted}
use Rattle.circle_point.specs.Projective.{to_line, half_turn}
use Rattle.circle_domain.specs.declared.domain.CircleDomain.{CircleDomain}
use Rattle.circle_domain.specs.Domain.{log_size, shift_of, points_of, IsStandardDomain}
use Rattle.circle_domain.specs.Order.{natural_order}
use Rattle.circle_domain.specs.Selectors.{IsFinite, AreDisjoint, other_than, next_from}
use Rattle.circle_domain.specs.Selectors.{vanishing_on, first_row, last_row, transition}
use Rattle.circle_domain.specs.Splitting.{part_of, place_in}

module _ {F E : Type 0} {g : _} (l : FieldOps E) (embed : F → E) (d : CircleDomain F g) where
  -- the domain's vanishing polynomial at a point, and the inverse of that value
  abbrev pub vanishing_of : Coordinates E → E
  vanishing_of q = vanishing_on l (log_size d) (lifted embed (shift_of d)) q

  abbrev pub inverse_vanishing_of : Coordinates E → E
  inverse_vanishing_of q = l.inv (vanishing_of q)

  -- the selectors of the domain's first row, of its last row, and of all but the last, at a point
  abbrev pub first_row_of : Coordinates E → E
  first_row_of q = first_row l (log_size d) (lifted embed (shift_of d)) q

  abbrev pub last_row_of : Coordinates E → E
  last_row_of q = last_row l (log_size d) (lifted embed (shift_of d)) q

  abbrev pub transition_of : Coordinates E → E
  transition_of q = transition l (log_size d) (lifted embed (shift_of d)) q

  -- the point of coordinate t and one step by the generator of as many points as the domain has
  abbrev pub next_in : (ℕ → Coordinates F) → E → Coordinates E
  next_in gen t = next_from l embed gen (log_size d) t

  -- t has no next coordinate: the domain isn't standard, or t or the next point is at infinity
  abbrev pub HasNoNext : ℕ → (ℕ → Coordinates F) → E → Type 0
  HasNoNext bits gen t =
      (¬ IsStandardDomain bits gen d) ⊎ (¬ IsFinite l t) ⊎ (next_in gen t ≡ half_turn l)

  -- r is the coordinate of the next point in natural order where t is one's, and the first comes
  -- after the last
  abbrev pub StepsAlong : FieldOps F → (ℕ → Coordinates F) → E → Option E → Type 0
  StepsAlong k gen t r =
      (i : ℕ) (p q : Coordinates F) → slice_get (points_of k gen d) i ≡ Some p
      → slice_get (points_of k gen d) ((i + 1) % 2 ^ log_size d) ≡ Some q
      → t ≡ to_line l (lifted embed p) → r ≡ Some (to_line l (lifted embed q))

-- there is no standard domain of 2^k points, or of twice as many where d has 2^k, beside d
abbrev pub HasNoOther : {F : Type 0} {g : _} →
    ℕ → (ℕ → Coordinates F) → CircleDomain F g → ℕ → Type 0
HasNoOther bits gen d k =
    (¬ IsStandardDomain bits gen d) ⊎ (bits < other_than (log_size d) k + 1)

module _ {F : Type 0} {g : _} (k : FieldOps F) (gen : ℕ → Coordinates F) where
  -- no point of one domain is a point of the other
  abbrev pub AreApart : CircleDomain F g → CircleDomain F g → Type 0
  AreApart one other = AreDisjoint (points_of k gen one) (points_of k gen other)

  -- the points of the domain are those of the parts
  abbrev pub AreMadeUpOf : CircleDomain F g → List (CircleDomain F g) → Type 0
  AreMadeUpOf d parts =
      (p : Coordinates F) → Contains (points_of k gen d) p
      ↔ Any (λ part. Contains (points_of k gen part) p) parts

  -- each point of the domain stands at its place in its one of c parts
  abbrev pub EachPointGoes : CircleDomain F g → ℕ → List (CircleDomain F g) → Type 0
  EachPointGoes d c parts =
      (i : ℕ) (p : Coordinates F) → slice_get (points_of k gen d) i ≡ Some p
      → IfSome (slice_get parts (part_of c i)) (λ part.
      slice_get (points_of k gen part) (place_in c i) ≡ Some p)

  -- likewise of the domains that c parts would be
  abbrev pub EachPointWouldGo : CircleDomain F g → ℕ → Type 0
  EachPointWouldGo d c =
      (i m : ℕ) (p s : Coordinates F) → 2 ^ m * c ≡ 2 ^ log_size d
      → slice_get (points_of k gen d) i ≡ Some p
      → slice_get (points_of k gen d) (part_of c i) ≡ Some s
      → slice_get (natural_order k gen m s) (place_in c i) ≡ Some p

  -- and that of a standard domain
  abbrev pub EachStandardPointWouldGo : ℕ → CircleDomain F g → ℕ → Type 0
  EachStandardPointWouldGo two_adicity d c =
      IsStandardDomain two_adicity gen d → EachPointWouldGo d c
