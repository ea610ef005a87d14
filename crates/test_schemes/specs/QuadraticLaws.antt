-- The laws of a quadratic extension by X^2 = -1.
use Rattle.std.specs.Prelude.{◌≡◌, List, [], ◌∷◌, refl}
use Rattle.circle_field.specs.Field.{FieldOps, RingLaws}
use Rattle.circle_field.specs.Ring.{Expr, var, con, unit, plus, times, minus, denote}
use Rattle.circle_field.specs.RingSound.{ring}
use Rattle.circle_field.specs.CubicLaws.{expr, AreSame}
use Rattle.test_schemes.specs.QuadraticField.{Pair, pair, sum, opposite, multiple, constant}
use Rattle.test_schemes.specs.QuadraticField.{product, quadratic}

-- pairs with the same coefficients are one
pub same_pair : {F : Type 0} {a b c d : F} → a ≡ c → b ≡ d → pair a b ≡ pair c d
same_pair p q = cc

-- the coefficients of three elements
abbrev pub x : Pair Expr
x = pair (var 0) (var 1)

abbrev pub y : Pair Expr
y = pair (var 2) (var 3)

abbrev pub z : Pair Expr
z = pair (var 4) (var 5)

module _ {F : Type 0} {k : FieldOps F} (laws : RingLaws k) where
  -- the pair that two expressions stand for
  abbrev pub denoted : List F → Pair Expr → Pair F
  denoted env a = pair (denote k env a.c0) (denote k env a.c1)

  rings : (env : List F) (a b : Pair Expr) → AreSame a.c0 b.c0 → AreSame a.c1 b.c1 →
      denoted env a ≡ denoted env b
  rings env a b p q = same_pair (ring laws env a.c0 b.c0 p) (ring laws env a.c1 b.c1 q)

  -- the coefficients of three elements
  abbrev pub values : Pair F → Pair F → Pair F → List F
  values a b c = a.c0 ∷ a.c1 ∷ b.c0 ∷ b.c1 ∷ c.c0 ∷ c.c1 ∷ []

  pub quadratic_ring : RingLaws (quadratic k)
  quadratic_ring = record {
    add_assoc =
        λ a b c. rings (values a b c) (sum expr (sum expr x y) z)
        (sum expr x (sum expr y z)) refl refl;
    add_comm = λ a b. rings (values a b a) (sum expr x y) (sum expr y x) refl refl;
    zero_add = λ a. rings (values a a a) (sum expr (constant expr (con 0)) x) x refl refl;
    neg_add =
        λ a. rings (values a a a) (sum expr (opposite expr x) x) (constant expr (con 0)) refl refl;
    mul_assoc =
        λ a b c. rings (values a b c) (product expr (product expr x y) z)
        (product expr x (product expr y z)) refl refl;
    mul_comm = λ a b. rings (values a b a) (product expr x y) (product expr y x) refl refl;
    one_mul = λ a. rings (values a a a) (product expr (constant expr unit) x) x refl refl;
    mul_add =
        λ a b c. rings (values a b c) (product expr x (sum expr y z))
        (sum expr (product expr x y) (product expr x z)) refl refl;
  }

  -- the embedding of the base field keeps sums, products and opposites
  pub constant_add : (a b : F) → constant k (k.add a b) ≡ sum k (constant k a) (constant k b)
  constant_add a b =
      let c : Expr = var 0 in let d : Expr = var 1 in
      rings (a ∷ b ∷ []) (constant expr (plus c d))
      (sum expr (constant expr c) (constant expr d)) refl refl

  pub constant_mul : (a b : F) → constant k (k.mul a b) ≡ product k (constant k a) (constant k b)
  constant_mul a b =
      let c : Expr = var 0 in let d : Expr = var 1 in
      rings (a ∷ b ∷ []) (constant expr (times c d))
      (product expr (constant expr c) (constant expr d)) refl refl

  pub constant_neg : (a : F) → constant k (k.neg a) ≡ opposite k (constant k a)
  constant_neg a =
      let c : Expr = var 0 in
      rings (a ∷ []) (constant expr (minus c)) (opposite expr (constant expr c)) refl refl

  -- the product with an element of the base field, at each place
  pub constant_product : (b : F) (a : Pair F) → product k (constant k b) a ≡ multiple k b a
  constant_product b a =
      let c : Expr = var 2 in
      rings (a.c0 ∷ a.c1 ∷ b ∷ []) (product expr (constant expr c) x) (multiple expr c x) refl refl
