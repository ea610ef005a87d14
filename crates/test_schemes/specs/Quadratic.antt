-- The quadratic extension of Mersenne31 by X^2 = -1.
use Rattle.std.specs.Prelude.{List, [], ◌∷◌}
use Rattle.circle_field.specs.declared.mersenne31.Mersenne31.{Mersenne31}
use Rattle.test_schemes.specs.declared.quadratic.Quadratic.{Quadratic}
use Rattle.circle_field.specs.Field.{FieldOps}
use Rattle.circle_field.specs.Mersenne31.{operations as base}
use Rattle.test_schemes.specs.QuadraticField.{Pair, pair, constant, quadratic}

-- the coefficients as a pair
abbrev pub pair_of : Quadratic → Pair Mersenne31
pair_of a = pair a.c0 a.c1

-- the element with these coefficients
abbrev pub of_pair : Pair Mersenne31 → Quadratic
of_pair t = record { c0 = t.c0; c1 = t.c1 }

-- the operations of pairs
abbrev pub pairs : FieldOps (Pair Mersenne31)
pairs = quadratic base

-- the field's operations
abbrev pub operations : FieldOps Quadratic
operations = record {
  zero = of_pair pairs.zero;
  one = of_pair pairs.one;
  add = λ a b. of_pair (pairs.add (pair_of a) (pair_of b));
  mul = λ a b. of_pair (pairs.mul (pair_of a) (pair_of b));
  neg = λ a. of_pair (pairs.neg (pair_of a));
  inv = λ a. of_pair (pairs.inv (pair_of a));
}

-- the element of the base field as one of the extension
abbrev pub embed : Mersenne31 → Quadratic
embed x = of_pair (constant base x)

-- the coefficients of 1 and X
abbrev pub coefficients : Quadratic → List Mersenne31
coefficients a = a.c0 ∷ a.c1 ∷ []
