-- The cubic extension of Mersenne31 by X^3 = 5.
use Rattle.std.specs.Prelude.{ℕ, List, [], ◌∷◌, ◌++◌}
use Rattle.circle_field.specs.declared.mersenne31.Mersenne31.{Mersenne31}
use Rattle.circle_field.specs.declared.cubic.Cubic.{Cubic}
use Rattle.circle_field.specs.Field.{FieldOps}
use Rattle.circle_field.specs.Mersenne31.{operations as base}
use Rattle.circle_field.specs.Bytes.{bytes}
use Rattle.circle_field.specs.CubicFive.{five}
use Rattle.circle_field.specs.CubicField.{Triple, triple, constant, cubic}

-- the coefficients as a triple
abbrev pub triple_of : Cubic → Triple Mersenne31
triple_of a = triple a.c0 a.c1 a.c2

-- the element with these coefficients
abbrev pub of_triple : Triple Mersenne31 → Cubic
of_triple t = record { c0 = t.c0; c1 = t.c1; c2 = t.c2 }

-- the operations of triples
abbrev pub triples : FieldOps (Triple Mersenne31)
triples = cubic base five

-- the field's operations
abbrev pub operations : FieldOps Cubic
operations = record {
  zero = of_triple triples.zero;
  one = of_triple triples.one;
  add = λ a b. of_triple (triples.add (triple_of a) (triple_of b));
  mul = λ a b. of_triple (triples.mul (triple_of a) (triple_of b));
  neg = λ a. of_triple (triples.neg (triple_of a));
  inv = λ a. of_triple (triples.inv (triple_of a));
}

-- the element of the base field as one of the extension
abbrev pub embed : Mersenne31 → Cubic
embed x = of_triple (constant base x)

-- the coefficients of 1, X and X^2
abbrev pub coefficients : Cubic → List Mersenne31
coefficients a = a.c0 ∷ a.c1 ∷ a.c2 ∷ []

-- the bytes of the coefficients, one after the other
abbrev pub cubic_bytes : Cubic → List ℕ
cubic_bytes a = bytes a.c0 ++ (bytes a.c1 ++ bytes a.c2)
