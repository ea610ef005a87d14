-- The quadratic extension of a field by X^2 = -1: pairs of coefficients and their operations.
use Rattle.circle_field.specs.Field.{FieldOps, sub}

-- the element c0 + c1 X, by its coefficients
pub record Pair (F : Type 0) : Type 0 where
  pub c0 : F
  pub c1 : F

abbrev pub pair : {F : Type 0} → F → F → Pair F
pair a b = record { c0 = a; c1 = b }

module _ {F : Type 0} (k : FieldOps F) where
  -- the sum, at each place
  abbrev pub sum : Pair F → Pair F → Pair F
  sum a b = pair (k.add a.c0 b.c0) (k.add a.c1 b.c1)

  -- the opposite, at each place
  abbrev pub opposite : Pair F → Pair F
  opposite a = pair (k.neg a.c0) (k.neg a.c1)

  -- the element times an element x of the base field
  abbrev pub multiple : F → Pair F → Pair F
  multiple x a = pair (k.mul x a.c0) (k.mul x a.c1)

  -- the element x of the base field
  abbrev pub constant : F → Pair F
  constant x = pair x k.zero

  -- the product of the polynomials, where X^2 is -1
  abbrev pub product : Pair F → Pair F → Pair F
  product a b = pair
      (sub k (k.mul a.c0 b.c0) (k.mul a.c1 b.c1))
      (k.add (k.mul a.c0 b.c1) (k.mul a.c1 b.c0))

  -- the conjugate, where X becomes -X
  abbrev pub conjugate : Pair F → Pair F
  conjugate a = pair a.c0 (k.neg a.c1)

  -- the product of a with its conjugate, which is in the base field
  abbrev pub norm : Pair F → F
  norm a = k.add (k.mul a.c0 a.c0) (k.mul a.c1 a.c1)

  -- the extension's operations
  abbrev pub quadratic : FieldOps (Pair F)
  quadratic = record {
    zero = constant k.zero;
    one = constant k.one;
    add = sum;
    mul = product;
    neg = opposite;
    inv = λ a. multiple (k.inv (norm a)) (conjugate a);
  }
