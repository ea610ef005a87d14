-- Equations of commutative rings by computation.
use Rattle.std.specs.Prelude.{ℕ, ◌+◌, ◌*◌, Bool, true, false, ◌&&◌, List, [], ◌∷◌, nat_eq, nat_le}
use Rattle.std.proofs.Common.{zero, suc}
use Rattle.circle_field.specs.Field.{FieldOps, of_nat}

-- a polynomial expression in numbered variables
pub data Expr : Type 0 where
  var : ℕ → Expr
  con : ℕ → Expr
  unit : Expr
  plus : Expr → Expr → Expr
  times : Expr → Expr → Expr
  minus : Expr → Expr

-- a term: its coefficient as a difference of two numbers, and its variables
pub record Term : Type 0 where
  pub up : ℕ
  pub down : ℕ
  pub vars : List ℕ

abbrev pub term : ℕ → ℕ → List ℕ → Term
term u d m = record { up = u; down = d; vars = m }

abbrev pub insert_var : ℕ → List ℕ → List ℕ
insert_var x [] = x ∷ []
insert_var x (y ∷ ys) = elim (nat_le x y) [ true ↦ x ∷ y ∷ ys | false ↦ y ∷ insert_var x ys ]

abbrev pub merge_vars : List ℕ → List ℕ → List ℕ
merge_vars [] ys = ys
merge_vars (x ∷ xs) ys = insert_var x (merge_vars xs ys)

abbrev pub same_vars : List ℕ → List ℕ → Bool
same_vars [] [] = true
same_vars [] (y ∷ ys) = false
same_vars (x ∷ xs) [] = false
same_vars (x ∷ xs) (y ∷ ys) = nat_eq x y && same_vars xs ys

abbrev pub add_term : Term → List Term → List Term
add_term t [] = t ∷ []
add_term t (s ∷ p) =
    elim (same_vars t.vars s.vars) [
      | true ↦ term (t.up + s.up) (t.down + s.down) s.vars
          ∷ p
      | false ↦ s ∷ add_term t p
    ]

abbrev pub add_poly : List Term → List Term → List Term
add_poly [] q = q
add_poly (t ∷ p) q = add_term t (add_poly p q)

abbrev pub mul_term : Term → List Term → List Term
mul_term t [] = []
mul_term t (s ∷ p) =
    add_term (term (t.up * s.up + t.down * s.down) (t.up * s.down + t.down * s.up)
    (merge_vars t.vars s.vars)) (mul_term t p)

abbrev pub mul_poly : List Term → List Term → List Term
mul_poly [] q = []
mul_poly (t ∷ p) q = add_poly (mul_term t q) (mul_poly p q)

abbrev pub neg_poly : List Term → List Term
neg_poly [] = []
neg_poly (t ∷ p) = term t.down t.up t.vars ∷ neg_poly p

abbrev pub norm : Expr → List Term
norm (var x) = term 1 0 (x ∷ []) ∷ []
norm (con n) = term n 0 [] ∷ []
norm unit = term 1 0 [] ∷ []
norm (plus a b) = add_poly (norm a) (norm b)
norm (times a b) = mul_poly (norm a) (norm b)
norm (minus a) = neg_poly (norm a)

abbrev pub is_zero_poly : List Term → Bool
is_zero_poly [] = true
is_zero_poly (t ∷ p) = nat_eq t.up t.down && is_zero_poly p

module _ {F : Type 0} (k : FieldOps F) where
  abbrev pub variable : List F → ℕ → F
  variable [] n = k.zero
  variable (a ∷ rest) zero = a
  variable (a ∷ rest) (suc n) = variable rest n

  abbrev pub denote : List F → Expr → F
  denote env (var x) = variable env x
  denote env (con n) = of_nat k n
  denote env unit = k.one
  denote env (plus a b) = k.add (denote env a) (denote env b)
  denote env (times a b) = k.mul (denote env a) (denote env b)
  denote env (minus a) = k.neg (denote env a)

  abbrev pub coefficient : ℕ → ℕ → F
  coefficient u d = k.add (of_nat k u) (k.neg (of_nat k d))

  abbrev pub product : List F → List ℕ → F
  product env [] = k.one
  product env (x ∷ xs) = k.mul (variable env x) (product env xs)

  abbrev pub total : List F → List Term → F
  total env [] = k.zero
  total env (t ∷ p) = k.add (k.mul (coefficient t.up t.down) (product env t.vars)) (total env p)
