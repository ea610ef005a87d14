-- A cubic extension by X^3 = w is a commutative ring.
use Rattle.std.specs.Prelude.{◌≡◌, List, [], ◌∷◌, refl, IsTrue}
use Rattle.circle_field.specs.Field.{FieldOps, RingLaws}
use Rattle.circle_field.specs.Ring.{Expr, var, con, unit, plus, times, minus, norm as normal}
use Rattle.circle_field.specs.Ring.{is_zero_poly, denote}
use Rattle.circle_field.specs.RingSound.{ring}
use Rattle.circle_field.specs.CubicField.{Triple, triple, sum, opposite, multiple, constant}
use Rattle.circle_field.specs.CubicField.{product, cubic}

-- triples with the same coefficients are one
pub same_triple : {F : Type 0} {a b c d e f : F} → a ≡ d → b ≡ e → c ≡ f →
    triple a b c ≡ triple d e f
same_triple p q r = cc

-- expressions as operations
abbrev pub expr : FieldOps Expr
expr = record { zero = con 0; one = unit; add = plus; mul = times; neg = minus; inv = λ a. a }

-- the cube of X
abbrev pub w : Expr
w = var 0

-- the coefficients of a first element
abbrev pub x : Triple Expr
x = triple (var 1) (var 2) (var 3)

-- those of a second
abbrev pub y : Triple Expr
y = triple (var 4) (var 5) (var 6)

-- those of a third
abbrev pub z : Triple Expr
z = triple (var 7) (var 8) (var 9)

-- two expressions have the same polynomial
abbrev pub AreSame : Expr → Expr → Type 0
AreSame a b = IsTrue (is_zero_poly (normal (plus a (minus b))))

module _ {F : Type 0} {k : FieldOps F} (laws : RingLaws k) where
  -- the triple that three expressions stand for
  abbrev pub denoted : List F → Triple Expr → Triple F
  denoted env a = triple (denote k env a.c0) (denote k env a.c1) (denote k env a.c2)

  -- equations at each place, by computation
  rings : (env : List F) (a b : Triple Expr) → AreSame a.c0 b.c0 → AreSame a.c1 b.c1 →
      AreSame a.c2 b.c2 → denoted env a ≡ denoted env b
  rings env a b p q r =
      same_triple (ring laws env a.c0 b.c0 p) (ring laws env a.c1 b.c1 q)
      (ring laws env a.c2 b.c2 r)

  -- w and the coefficients of three elements
  abbrev pub values : F → Triple F → Triple F → Triple F → List F
  values v a b c = v ∷ a.c0 ∷ a.c1 ∷ a.c2 ∷ b.c0 ∷ b.c1 ∷ b.c2 ∷ c.c0 ∷ c.c1 ∷ c.c2 ∷ []

  -- the extension is a commutative ring
  pub cubic_ring : (v : F) → RingLaws (cubic k v)
  cubic_ring v = record {
    add_assoc =
        λ a b c. rings (values v a b c) (sum expr (sum expr x y) z)
        (sum expr x (sum expr y z)) refl refl refl;
    add_comm = λ a b. rings (values v a b a) (sum expr x y) (sum expr y x) refl refl refl;
    zero_add = λ a. rings (values v a a a) (sum expr (constant expr (con 0)) x) x refl refl refl;
    neg_add =
        λ a. rings (values v a a a) (sum expr (opposite expr x) x)
        (constant expr (con 0)) refl refl refl;
    mul_assoc =
        λ a b c. rings (values v a b c) (product expr w (product expr w x y) z)
        (product expr w x (product expr w y z)) refl refl refl;
    mul_comm =
        λ a b. rings (values v a b a) (product expr w x y) (product expr w y x) refl refl refl;
    one_mul = λ a. rings (values v a a a) (product expr w (constant expr unit) x) x refl refl refl;
    mul_add =
        λ a b c. rings (values v a b c) (product expr w x (sum expr y z))
        (sum expr (product expr w x y) (product expr w x z)) refl refl refl;
  }

  -- the embedding of the base field keeps sums
  pub constant_add : (a b : F) → constant k (k.add a b) ≡ sum k (constant k a) (constant k b)
  constant_add a b =
      let c : Expr = var 0 in let d : Expr = var 1 in
      rings (a ∷ b ∷ []) (constant expr (plus c d))
      (sum expr (constant expr c) (constant expr d)) refl refl refl

  -- .. and products
  pub constant_mul : (v a b : F) →
      constant k (k.mul a b) ≡ product k v (constant k a) (constant k b)
  constant_mul v a b =
      let c : Expr = var 1 in let d : Expr = var 2 in
      rings (v ∷ a ∷ b ∷ []) (constant expr (times c d))
      (product expr w (constant expr c) (constant expr d)) refl refl refl

  -- .. and opposites
  pub constant_neg : (a : F) → constant k (k.neg a) ≡ opposite k (constant k a)
  constant_neg a =
      let c : Expr = var 0 in
      rings (a ∷ []) (constant expr (minus c)) (opposite expr (constant expr c)) refl refl refl

  -- the product with an element of the base field, at each place
  pub constant_product : (v b : F) (a : Triple F) → product k v (constant k b) a ≡ multiple k b a
  constant_product v b a =
      let c : Expr = var 4 in
      rings (v ∷ a.c0 ∷ a.c1 ∷ a.c2 ∷ b ∷ []) (product expr w (constant expr c) x)
      (multiple expr c x) refl refl refl
