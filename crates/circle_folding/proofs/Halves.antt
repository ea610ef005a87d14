-- The value of a polynomial in x from the values of the two halves of its coefficients.
use Rattle.std.specs.Prelude.{◌≡◌, ℕ, ◌+◌, ◌*◌, ◌/◌, ◌%◌, ◌^◌, ◌≤◌, ◌≢◌, List, [], ◌∷◌, ◌++◌}
use Rattle.std.specs.Prelude.{length, slice_index_or}
use Rattle.std.proofs.Common.{zero, suc, sym, ◌∙◌, ap, refl, arith}
use Rattle.std.proofs.Math.Nat.{pow-suc}
use Rattle.circle_field.specs.Field.{FieldOps, RingLaws}
use Rattle.circle_field.specs.RingFacts.{zero_mul, mul_one, add_zero}
use Rattle.circle_field.specs.Circle.{Coordinates, at}
use Rattle.circle_point.specs.Basis.{iterated_x, x_basis, circle_basis, bit_factor, weighted_sum}
use Rattle.circle_point.specs.Basis.{value, x_value}
use Rattle.circle_domain.proofs.HalfSums.{value-halves}

module _ {F : Type 0} (k : FieldOps F) where
  -- the coefficients in the circle's basis of a polynomial in x: every second is 0
  abbrev pub with_zeros : List F → List F
  with_zeros [] = []
  with_zeros (c ∷ cs) = c ∷ k.zero ∷ with_zeros cs

  pub with_zeros-append : (cs ds : List F) → with_zeros (cs ++ ds) ≡ with_zeros cs ++ with_zeros ds
  with_zeros-append [] ds = refl
  with_zeros-append (c ∷ cs) ds = ap (λ rest. c ∷ k.zero ∷ rest) (with_zeros-append cs ds)

  pub length-with_zeros : (cs : List F) → length (with_zeros cs) ≡ 2 * length cs
  length-with_zeros [] = refl
  length-with_zeros (c ∷ cs) = let e : length (with_zeros cs) ≡ 2 * length cs =
      length-with_zeros cs in omega arith

module _ {F : Type 0} {k : FieldOps F} (laws : RingLaws k) where
  -- an even index has no factor y
  even-basis : (i j : ℕ) (p : Coordinates F) → i ≡ 2 * j → circle_basis k i p ≡ x_basis k j p.x
  even-basis i j p e =
      let half : i / 2 ≡ j = omega (arith, e) in
      let bit : i % 2 ≡ 0 = omega (arith, e) in
      ap (λ n. k.mul (x_basis k n p.x) (bit_factor k (i % 2) p.y)) half
      ∙ ap (λ n. k.mul (x_basis k j p.x) (bit_factor k n p.y)) bit ∙ mul_one laws (x_basis k j p.x)

  sum-with_zeros : (i j : ℕ) (p : Coordinates F) (cs : List F) → i ≡ 2 * j →
      weighted_sum k (λ n. circle_basis k n p) i (with_zeros k cs)
      ≡ weighted_sum k (λ n. x_basis k n p.x) j cs
  sum-with_zeros i j p [] e = refl
  sum-with_zeros i j p (c ∷ cs) e =
      let next : suc (suc i) ≡ 2 * suc j = omega (arith, e) in
      ap
      (λ v. k.add (k.mul c v)
      (k.add (k.mul k.zero (circle_basis k (suc i) p))
      (weighted_sum k (λ n. circle_basis k n p) (suc (suc i)) (with_zeros k cs))))
      (even-basis i j p e)
      ∙ ap
      (λ v. k.add (k.mul c (x_basis k j p.x))
      (k.add v (weighted_sum k (λ n. circle_basis k n p) (suc (suc i)) (with_zeros k cs))))
      (zero_mul laws (circle_basis k (suc i) p))
      ∙ ap (k.add (k.mul c (x_basis k j p.x)))
      (laws.zero_add (weighted_sum k (λ n. circle_basis k n p) (suc (suc i)) (with_zeros k cs))
      ∙ sum-with_zeros (suc (suc i)) (suc j) p cs next)

  -- a polynomial in x on the circle
  pub value-with_zeros : (cs : List F) (p : Coordinates F) → value k (with_zeros k cs) p
      ≡ x_value k cs p.x
  value-with_zeros cs p = sum-with_zeros 0 0 p cs refl

  -- the upper half counts by its factor
  pub x_value-halves : (m : ℕ) (lo hi : List F) (x : F) → length lo ≡ 2 ^ m → length hi ≤ 2 ^ m →
      x_value k (lo ++ hi) x ≡ k.add (x_value k lo x) (k.mul (x_value k hi x) (iterated_x k m x))
  x_value-halves m lo hi x e h =
      let p = at x k.zero in
      let long : length (with_zeros k lo) ≡ 2 ^ suc m =
      omega (arith, length-with_zeros k lo, e, pow-suc 2 m) in
      let short : length (with_zeros k hi) ≤ 2 ^ suc m =
      omega (arith, length-with_zeros k hi, h, pow-suc 2 m) in
      sym (value-with_zeros (lo ++ hi) p) ∙ ap (λ c. value k c p) (with_zeros-append k lo hi)
      ∙ value-halves laws (suc m) (with_zeros k lo) (with_zeros k hi) p long short
      ∙ ap (λ v. k.add v (k.mul (value k (with_zeros k hi) p) (iterated_x k m x)))
      (value-with_zeros lo p)
      ∙ ap (λ v. k.add (x_value k lo x) (k.mul v (iterated_x k m x))) (value-with_zeros hi p)

  -- of one coefficient
  pub x_value-one : (c x : F) → x_value k (c ∷ []) x ≡ c
  x_value-one c x = add_zero laws (k.mul c k.one) ∙ mul_one laws c

  -- of a list of one
  pub x_value-single : (cs : List F) (c x : F) → length cs / 2 ≡ 0 → 1 ≤ length cs →
      c ≡ slice_index_or cs 0 c → c ≡ x_value k cs x
  x_value-single [] c x h g e = absurd (omega (arith, g))
  x_value-single (d ∷ []) c x h g e = e ∙ sym (x_value-one d x)
  x_value-single (d ∷ b ∷ cs) c x h g e = absurd (omega (arith, h))

-- half of a power of two that isn't 1
pub half-power : (n m : ℕ) → n ≡ 2 ^ m → n / 2 ≢ 0 → (r : ℕ) × (m ≡ suc r) × (n / 2 ≡ 2 ^ r)
    × (n ≡ n / 2 + n / 2)
half-power n zero e h = absurd (h (omega (arith, e)))
half-power n (suc r) e h =
    let half : n / 2 ≡ 2 ^ r = omega (arith, e, pow-suc 2 r) in
    (r, refl, half, omega (arith, e, pow-suc 2 r))
