-- The cubic extension of a field by X^3 = w: triples of coefficients and their operations.
use Rattle.circle_field.specs.Field.{FieldOps, sub}

-- the element c0 + c1 X + c2 X^2, by its coefficients
pub record Triple (F : Type 0) : Type 0 where
  pub c0 : F
  pub c1 : F
  pub c2 : F

abbrev pub triple : {F : Type 0} → F → F → F → Triple F
triple a b c = record { c0 = a; c1 = b; c2 = c }

module _ {F : Type 0} (k : FieldOps F) where
  -- the sum, at each place
  abbrev pub sum : Triple F → Triple F → Triple F
  sum a b = triple (k.add a.c0 b.c0) (k.add a.c1 b.c1) (k.add a.c2 b.c2)

  -- the opposite, at each place
  abbrev pub opposite : Triple F → Triple F
  opposite a = triple (k.neg a.c0) (k.neg a.c1) (k.neg a.c2)

  -- the element times an element x of the base field
  abbrev pub multiple : F → Triple F → Triple F
  multiple x a = triple (k.mul x a.c0) (k.mul x a.c1) (k.mul x a.c2)

  -- the element x of the base field
  abbrev pub constant : F → Triple F
  constant x = triple x k.zero k.zero

  -- x v + y u, which is the middle coefficient of (x + y X) (u + v X)
  abbrev pub crossed : F → F → F → F → F
  crossed x y u v = k.add (k.mul x v) (k.mul y u)

  module _ (w : F) where
    -- the product of the polynomials, where X^3 is w
    abbrev pub product : Triple F → Triple F → Triple F
    product a b = triple
        (k.add (k.mul a.c0 b.c0) (k.mul w (crossed a.c1 a.c2 b.c1 b.c2)))
        (k.add (crossed a.c0 a.c1 b.c0 b.c1) (k.mul w (k.mul a.c2 b.c2)))
        (k.add (crossed a.c0 a.c2 b.c0 b.c2) (k.mul a.c1 b.c1))

    -- the product of the two conjugates of a
    abbrev pub adjugate : Triple F → Triple F
    adjugate a = triple
        (sub k (k.mul a.c0 a.c0) (k.mul w (k.mul a.c1 a.c2)))
        (sub k (k.mul w (k.mul a.c2 a.c2)) (k.mul a.c0 a.c1))
        (sub k (k.mul a.c1 a.c1) (k.mul a.c0 a.c2))

    -- the product of a with its adjugate, which is in the base field
    abbrev pub norm : Triple F → F
    norm a = k.add (k.mul a.c0 (adjugate a).c0)
        (k.mul w (k.add (k.mul a.c2 (adjugate a).c1) (k.mul a.c1 (adjugate a).c2)))

    -- the extension's operations
    abbrev pub cubic : FieldOps (Triple F)
    cubic = record {
      zero = constant k.zero;
      one = constant k.one;
      add = sum;
      mul = product;
      neg = opposite;
      inv = λ a. multiple (k.inv (norm a)) (adjugate a);
    }
