-- Codewords that are the values of polynomials with few coefficients.
use Rattle.std.specs.Prelude.{◌≡◌, ℕ, ◌+◌, ◌^◌, List, length, map}
use Rattle.circle_field.specs.Field.{FieldOps}
use Rattle.circle_field.specs.Circle.{Coordinates, lifted}
use Rattle.circle_point.specs.Basis.{value, x_value}
use Rattle.circle_domain.specs.Order.{coset, cfft_order}

module _ {F E : Type 0} (k : FieldOps F) (gen : ℕ → Coordinates F) (l : FieldOps E)
    (embed : F → E) where
  -- 2^b coefficients of a polynomial whose values on the domain (n, s), in the transform's order,
  -- are the codeword
  pub record HasValues (b n : ℕ) (s : Coordinates F) (word c : List E) : Type 0 where
    pub count : length c ≡ 2 ^ b
    pub values : map (λ p. value l c (lifted embed p)) (cfft_order k gen n s) ≡ word

  -- the codeword is the values of a polynomial with 2^b coefficients
  abbrev pub Span : ℕ → ℕ → Coordinates F → List E → Type 0
  Span b n s word = (c : List E) × HasValues b n s word c

  -- 2^b coefficients of a polynomial in x whose values at the points of the coset gen (m + 2) +
  -- <gen m>, half of a standard domain, are the codeword
  pub record HasXValues (b m : ℕ) (word c : List E) : Type 0 where
    pub count : length c ≡ 2 ^ b
    pub values : map (λ p. x_value l c (embed p.x)) (coset k gen m (gen (m + 2))) ≡ word

  -- the codeword is the values of a polynomial in x with 2^b coefficients
  abbrev pub XSpan : ℕ → ℕ → List E → Type 0
  XSpan b m word = (c : List E) × HasXValues b m word c

  -- no others are 2^b coefficients of a polynomial in x with these values
  abbrev pub AreOnlyXOnes : ℕ → List E → List E → Type 0
  AreOnlyXOnes b word c =
      (m : ℕ) (d : List E) → length word ≡ 2 ^ m → HasXValues b m word d → d ≡ c
