-- The polynomial bases of the circle FFT, and the value of a list of coefficients at a point.
-- Circle STARKs (ePrint 2024/278), sections 3.3 and 4.
use Rattle.std.specs.Prelude.{ℕ, ◌-◌, ◌/◌, ◌%◌, ◌^◌, List, [], ◌∷◌, map}
use Rattle.std.specs.List.{range_with_len}
use Rattle.std.proofs.Common.{zero, suc}
use Rattle.circle_field.specs.Field.{FieldOps}
use Rattle.circle_field.specs.Circle.{Coordinates}

module _ {F : Type 0} (k : FieldOps F) where
  -- the x coordinate of the double of a point with x coordinate x: 2 x^2 - 1
  abbrev pub doubled_x : F → F
  doubled_x x = k.add (k.add (k.mul x x) (k.mul x x)) (k.neg k.one)

  -- u_n: the x coordinate after n doublings
  abbrev pub iterated_x : ℕ → F → F
  iterated_x zero x = x
  iterated_x (suc n) x = iterated_x n (doubled_x x)

  -- the factor of one bit of an index
  abbrev pub bit_factor : ℕ → F → F
  bit_factor zero a = k.one
  bit_factor (suc b) a = a

  -- the product of u_i (x) over the lowest bits i of j that are 1
  abbrev pub low_bits_product : ℕ → ℕ → F → F
  low_bits_product zero j x = k.one
  low_bits_product (suc bits) j x =
      k.mul (low_bits_product bits j x) (bit_factor (j / 2 ^ bits % 2) (iterated_x bits x))

  -- e_j: the product of u_i (x) over the bits i of j that are 1, all of which are below j
  abbrev pub x_basis : ℕ → F → F
  x_basis j x = low_bits_product j j x

  -- b_j: e_(j / 2), times y where j is odd
  abbrev pub circle_basis : ℕ → Coordinates F → F
  circle_basis j p = k.mul (x_basis (j / 2) p.x) (bit_factor (j % 2) p.y)

  -- the sum of c_i * f (j + i)
  abbrev pub weighted_sum : (ℕ → F) → ℕ → List F → F
  weighted_sum f j [] = k.zero
  weighted_sum f j (c ∷ cs) = k.add (k.mul c (f j)) (weighted_sum f (suc j) cs)

  -- the value of the circle polynomial with coefficients c at p
  abbrev pub value : List F → Coordinates F → F
  value c p = weighted_sum (λ j. circle_basis j p) 0 c

  -- the value of the polynomial in x with coefficients c
  abbrev pub x_value : List F → F → F
  x_value c x = weighted_sum (λ j. x_basis j x) 0 c

  -- v_n: the vanishing polynomial of the standard domain of 2^n points
  abbrev pub vanishing : ℕ → Coordinates F → F
  vanishing n p = iterated_x (n - 1) p.x

  -- v_1 * v_2 * .. * v_n
  abbrev pub vanishing_product : ℕ → Coordinates F → F
  vanishing_product zero p = k.one
  vanishing_product (suc n) p = k.mul (vanishing_product n p) (vanishing (suc n) p)

  -- the values at p of the first 2^n polynomials of the basis
  abbrev pub basis_values : ℕ → Coordinates F → List F
  basis_values n p = map (λ j. circle_basis j p) (range_with_len 0 (2 ^ n))
