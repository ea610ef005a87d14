-- The points of a domain in its two orders.
-- A domain (n, s) is the twin coset of the points s + a*g and -s + a*g, with g = gen (n - 1).
use Rattle.std.specs.Prelude.{◌≢◌, ℕ, ◌-◌, ◌^◌, ◌≤◌, List, [], ◌∷◌, ◌++◌, map}
use Rattle.std.proofs.Common.{zero, suc}
use Rattle.circle_field.specs.Field.{FieldOps}
use Rattle.circle_field.specs.Circle.{Coordinates, plus, opposite, times, origin}

module _ {F : Type 0} (k : FieldOps F) where
  -- each point followed by its opposite
  abbrev pub with_opposites : List (Coordinates F) → List (Coordinates F)
  with_opposites [] = []
  with_opposites (q ∷ qs) = q ∷ opposite k q ∷ with_opposites qs

  -- the points s + a*g, s + (a + 1)*g, .., count in all
  abbrev pub steps_from : ℕ → Coordinates F → Coordinates F → ℕ → List (Coordinates F)
  steps_from zero g s a = []
  steps_from (suc count) g s a = plus k s (times k a g) ∷ steps_from count g s (suc a)

  -- points a, a + 1, .. of both halves of the twin coset in turn, 2 * count points in all
  abbrev pub natural_from : ℕ → Coordinates F → Coordinates F → ℕ → List (Coordinates F)
  natural_from zero g s a = []
  natural_from (suc count) g s a =
      plus k s (times k a g) ∷ plus k (opposite k s) (times k (suc a) g)
      ∷ natural_from count g s (suc a)

  -- points, and then each of them moved by a step
  abbrev pub with_moved : Coordinates F → List (Coordinates F) → List (Coordinates F)
  with_moved step points = points ++ map (λ p. plus k p step) points

  -- a domain of at least two points whose halves are disjoint
  abbrev pub IsGenuine : ℕ → Coordinates F → Type 0
  IsGenuine n s = (1 ≤ n) × (times k (2 ^ n) s ≢ origin k)

module _ {F : Type 0} (k : FieldOps F) (gen : ℕ → Coordinates F) where
  -- the coset s + <gen m> of 2^m points in bit-reversed order
  abbrev pub coset : ℕ → Coordinates F → List (Coordinates F)
  coset zero s = s ∷ []
  coset (suc m) s = coset m s ++ coset m (plus k s (gen (suc m)))

  -- the domain of 2^n points in the order of the circle FFT
  abbrev pub cfft_order : ℕ → Coordinates F → List (Coordinates F)
  cfft_order n s = with_opposites k (coset (n - 1) s)

  -- one half of a domain of 2^n points, from s + a*g on
  abbrev pub half : ℕ → Coordinates F → ℕ → List (Coordinates F)
  half n s a = steps_from k (2 ^ (n - 1)) (gen (n - 1)) s a

  -- the domain of 2^n points in natural order
  abbrev pub natural_order : ℕ → Coordinates F → List (Coordinates F)
  natural_order n s = natural_from k (2 ^ (n - 1)) (gen (n - 1)) s 0
