-- The places of the first indices that stand below the positions of a pair.
use Rattle.std.specs.Prelude.{◌≡◌, ℕ, ◌+◌, ◌*◌, ◌/◌, ◌^◌, ◌==◌, ◌||◌, ◌≤◌, Bool, true, false, List}
use Rattle.std.specs.Prelude.{[], ◌∷◌, length, min, if◌then◌else◌}
use Rattle.std.proofs.Common.{suc, refl, sym, ap, ◌∙◌, arith}
use Rattle.circle_merkle.specs.Tree.{is_known}
use Rattle.circle_merkle.specs.Order.{place_of}
use Rattle.circle_merkle.proofs.Known.{half-is, shift-more}
use Rattle.circle_merkle.proofs.Climbing.{PlaceIs}

least-or : (b c : Bool) (x y z : ℕ) → z ≡ min x y → (if b || c then 0 else suc z) ≡ min
    (if b then 0 else suc x) (if c then 0 else suc y)
least-or true c x y z e = omega arith
least-or false true x y z e = omega arith
least-or false false x y z e = omega arith

-- the first that stands below a position is the first below one of the pair
place-above : (indices : List ℕ) (level p : ℕ) → place_of indices (suc level) p ≡ min
    (place_of indices level (2 * p)) (place_of indices level (2 * p + 1))
place-above [] level p = refl
place-above (index ∷ indices) level p =
    let x = index / 2 ^ level in
    ap (λ y. if y == p then 0 else suc (place_of indices (suc level) p)) (shift-more index level)
    ∙ ap (λ b. if b then 0 else suc (place_of indices (suc level) p)) (half-is x p)
    ∙ least-or (x == 2 * p) (x == 2 * p + 1) (place_of indices level (2 * p))
    (place_of indices level (2 * p + 1)) (place_of indices (suc level) p)
    (place-above indices level p)

place-cond : (b : Bool) (k n : ℕ) → k ≤ n → (if b then 0 else suc k) ≤ suc n
place-cond true k n h = omega arith
place-cond false k n h = omega arith

-- no place is beyond the number of indices
place-within : (indices : List ℕ) (level p : ℕ) → place_of indices level p ≤ length indices
place-within [] level p = omega arith
place-within (index ∷ indices) level p =
    place-cond (index / 2 ^ level == p) (place_of indices level p) (length indices)
    (place-within indices level p)

place-none-cond : (b c : Bool) (k n : ℕ) → (b || c) ≡ false → (c ≡ false → k ≡ n) →
    (if b then 0 else suc k) ≡ suc n
place-none-cond true c k n h e = absurd (cc)
place-none-cond false c k n h e = ap suc (e h)

-- at a position that isn't known it is that number
place-none : (indices : List ℕ) (level p : ℕ) → is_known indices level p ≡ false →
    place_of indices level p ≡ length indices
place-none [] level p h = refl
place-none (index ∷ indices) level p h =
    place-none-cond (index / 2 ^ level == p) (is_known indices level p) (place_of indices level p)
    (length indices) h (place-none indices level p)

module _ (up : ℕ → List ℕ → List ℕ → List ℕ) (known given : ℕ → List ℕ) (indices : List ℕ)
    (level : ℕ) where
  pairs-cond : (a : ℕ) (t u : Bool) → is_known indices level (2 * a) ≡ t →
      is_known indices level (2 * a + 1) ≡ u →
      PlaceIs up known given (place_of indices level) (place_of indices (suc level)) a t u
  pairs-cond a true true e f = sym (place-above indices level a)
  pairs-cond a true false e f =
      omega (
        arith,
        place-above indices level a,
        place-within indices level (2 * a),
        place-none indices level (2 * a + 1) f,
      )
  pairs-cond a false true e f =
      omega (
        arith,
        place-above indices level a,
        place-within indices level (2 * a + 1),
        place-none indices level (2 * a) e,
      )
  pairs-cond a false false e f = tt

  pub place-pairs : (a : ℕ) →
      PlaceIs up known given (place_of indices level) (place_of indices (suc level)) a
      (is_known indices level (2 * a)) (is_known indices level (2 * a + 1))
  place-pairs a = pairs-cond a (is_known indices level (2 * a)) (is_known indices level (2 * a + 1))
      refl refl
