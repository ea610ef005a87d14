-- Codewords that are the values of a polynomial with few coefficients plus a multiple of the
-- vanishing polynomial. Circle STARKs (ePrint 2024/278), section 4.3.
use Rattle.std.specs.Prelude.{◌≡◌, ℕ, ◌+◌, ◌^◌, List, length, map}
use Rattle.circle_field.specs.Field.{FieldOps}
use Rattle.circle_field.specs.Circle.{Coordinates, lifted}
use Rattle.circle_point.specs.Basis.{value, vanishing}
use Rattle.circle_domain.specs.Order.{cfft_order}

-- the value at a point of the polynomial with coefficients c, plus a times v_n there
abbrev pub wide_value : {E : Type 0} → FieldOps E → ℕ → List E → E → Coordinates E → E
wide_value l n c a p = l.add (value l c p) (l.mul a (vanishing l n p))

module _ {F E : Type 0} (k : FieldOps F) (gen : ℕ → Coordinates F) (l : FieldOps E)
    (embed : F → E) where
  -- the points of the standard domain of 2^h points, in the transform's order, in the larger field
  abbrev pub standard_points : ℕ → List (Coordinates E)
  standard_points h = map (lifted embed) (cfft_order k gen h (gen (h + 1)))

  -- 2^n coefficients of a polynomial, and a multiple of v_n, whose values on the standard domain of
  -- 2^h points add up to the codeword
  pub record HasWideValues (n h : ℕ) (word c : List E) (a : E) : Type 0 where
    pub count : length c ≡ 2 ^ n
    pub values : map (wide_value l n c a) (standard_points h) ≡ word

  -- the codeword is the values of a polynomial with 2^n coefficients, plus a multiple of v_n
  abbrev pub WideSpan : ℕ → ℕ → List E → Type 0
  WideSpan n h word = (c : List E) × (a : E) × HasWideValues n h word c a
