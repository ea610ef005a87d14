-- The definitions at worked examples over the numbers modulo 2^31 - 1.
use Rattle.std.specs.Prelude.{◌≡◌, ℕ, ◌+◌, ◌*◌, ◌-◌, ◌%◌, [], ◌∷◌, refl, map}
use Rattle.std.proofs.Common.{zero, suc}
use Rattle.circle_field.specs.Field.{FieldOps}
use Rattle.circle_field.specs.Circle.{Coordinates, at, plus}
use Rattle.circle_point.specs.Basis.{x_value}
use Rattle.circle_domain.specs.Order.{coset}
use Rattle.circle_domain.specs.Spans.{HasValues, HasXValues}

abbrev p : ℕ
p = 2147483647

-- the field of p elements on the numbers below p (the inverse is not used)
abbrev ops : FieldOps ℕ
ops = record {
  zero = 0;
  one = 1;
  add = λ a b. (a + b) % p;
  mul = λ a b. (a * b) % p;
  neg = λ a. (p - a) % p;
  inv = λ a. a;
}

abbrev doubled_times : ℕ → Coordinates ℕ → Coordinates ℕ
doubled_times zero q = q
doubled_times (suc n) q = doubled_times n (plus ops q q)

abbrev gen : ℕ → Coordinates ℕ
gen n = doubled_times (31 - n) (at 311014874 1584694829)

-- 1 + 2 * 2 + 3 * 7 + 4 * 14, where 7 is 2 * 2^2 - 1 and 14 is 2 * 7
value_row : x_value ops (1 ∷ 2 ∷ 3 ∷ 4 ∷ []) 2 ≡ 82
value_row = refl

-- the x coordinates of four points: a, -a, b, -b
points_row : map (λ q. q.x) (coset ops gen 2 (gen 4)) ≡ 590768354 ∷ 1556715293 ∷ 978592373
    ∷ 1168891274 ∷ []
points_row = refl

-- they are the values of the polynomial x
abscissas_row : HasXValues ops gen ops (λ a. a) 1 2
    (590768354 ∷ 1556715293 ∷ 978592373 ∷ 1168891274 ∷ []) (0 ∷ 1 ∷ [])
abscissas_row = record { count = refl; values = refl }

-- and equal entries those of a constant one
constant_row : HasXValues ops gen ops (λ a. a) 0 2 (1 ∷ 1 ∷ 1 ∷ 1 ∷ []) (1 ∷ [])
constant_row = record { count = refl; values = refl }

longer_row : HasXValues ops gen ops (λ a. a) 1 2 (1 ∷ 1 ∷ 1 ∷ 1 ∷ []) (1 ∷ 0 ∷ [])
longer_row = record { count = refl; values = refl }

-- 3 + 2 y at (0, 1) and (0, -1)
line_row : HasValues ops gen ops (λ a. a) 1 1 (at 0 1) (5 ∷ 1 ∷ []) (3 ∷ 2 ∷ [])
line_row = record { count = refl; values = refl }
