-- The polynomial form of an expression has its value.
use Rattle.std.specs.Prelude.{◌≡◌, ℕ, ◌+◌, ◌*◌, Bool, true, false, ◌&&◌, List, [], ◌∷◌, refl}
use Rattle.std.specs.Prelude.{IsTrue, nat_eq, nat_le}
use Rattle.std.proofs.Common.{zero, suc, sym, ◌∙◌, ap}
use Rattle.std.proofs.Math.Nat.{suc-add, suc-mul, zero-mul, zero-add}
use Rattle.std.proofs.lemmas.Bool.{eqb-true}
use Rattle.circle_field.specs.Field.{FieldOps, RingLaws, of_nat}
use Rattle.circle_field.specs.Ring.{Expr, var, con, unit, plus, times, minus, Term, term}
use Rattle.circle_field.specs.Ring.{insert_var, merge_vars, same_vars, add_term, add_poly, mul_term}
use Rattle.circle_field.specs.Ring.{mul_poly, neg_poly, norm, is_zero_poly, variable, denote}
use Rattle.circle_field.specs.Ring.{coefficient, product, total}
use Rattle.circle_field.specs.RingFacts.{add_zero, add_neg, mul_one, add_mul, add_left_comm}
use Rattle.circle_field.specs.RingFacts.{mul_left_comm, add_swap, mul_swap, neg_zero_cancel}
use Rattle.circle_field.specs.RingFacts.{mul_zero, zero_mul, neg_mul, mul_neg, neg_neg, neg_of_add}
use Rattle.circle_field.specs.RingFacts.{neg_zero}

and_left : (a b : Bool) → (a && b) ≡ true → a ≡ true
and_left true b h = refl
and_left false b h = h

and_right : (a b : Bool) → (a && b) ≡ true → b ≡ true
and_right true b h = h
and_right false b h = cc

module _ {F : Type 0} {k : FieldOps F} (laws : RingLaws k) where
  open k use {zero as nil, one, add, mul, neg}
  open laws use {add_assoc, add_comm, zero_add, neg_add, mul_assoc, mul_comm, one_mul, mul_add}

  of_nat-+ : (m n : ℕ) → of_nat k (m + n) ≡ add (of_nat k m) (of_nat k n)
  of_nat-+ zero n = rw (zero-add n) (sym (zero_add (of_nat k n)))
  of_nat-+ (suc m) n =
      rw (suc-add m n) (ap (add one) (of_nat-+ m n) ∙ sym (add_assoc one (of_nat k m) (of_nat k n)))

  of_nat-* : (m n : ℕ) → of_nat k (m * n) ≡ mul (of_nat k m) (of_nat k n)
  of_nat-* zero n = rw (zero-mul n) (sym (zero_mul laws (of_nat k n)))
  of_nat-* (suc m) n =
      rw (
        suc-mul m n,
        of_nat-+ (m * n) n,
        of_nat-* m n,
        add_mul laws one (of_nat k m)
            (of_nat k n),
        one_mul (of_nat k n),
      )
      (add_comm (mul (of_nat k m) (of_nat k n)) (of_nat k n))

  coefficient-+ : (u d u' d' : ℕ) →
      coefficient k (u + u') (d + d') ≡ add (coefficient k u d) (coefficient k u' d')
  coefficient-+ u d u' d' =
      ap (λ x. add x (neg (of_nat k (d + d')))) (of_nat-+ u u')
      ∙ ap (λ x. add (add (of_nat k u) (of_nat k u')) (neg x)) (of_nat-+ d d')
      ∙ ap (add (add (of_nat k u) (of_nat k u'))) (neg_of_add laws (of_nat k d) (of_nat k d'))
      ∙ (add_swap laws (of_nat k u) (of_nat k u') (neg (of_nat k d)) (neg (of_nat k d')))

  coefficient-neg : (u d : ℕ) → coefficient k d u ≡ neg (coefficient k u d)
  coefficient-neg u d =
      rw (neg_of_add laws (of_nat k u) (neg (of_nat k d)), neg_neg laws (of_nat k d))
      (add_comm (of_nat k d) (neg (of_nat k u)))

  -- the product of two differences
  product_of_differences : (a b c d : F) →
      add (add (mul a c) (mul b d)) (neg (add (mul a d) (mul b c)))
      ≡ mul (add a (neg b)) (add c (neg d))
  product_of_differences a b c d =
      rw (
        add_mul laws a (neg b) (add c (neg d)),
        mul_add a c (neg d),
        mul_add (neg b) c (neg d),
        mul_neg laws a d,
        neg_mul laws b c,
        neg_mul laws b (neg d),
        mul_neg laws b d,
        neg_neg laws (mul b d),
        neg_of_add laws (mul a d) (mul b c),
      )
      (rw (add_comm (neg (mul b c)) (mul b d))
      (add_swap laws (mul a c) (mul b d) (neg (mul a d)) (neg (mul b c))))

  of_nat-sum : (a b c d : ℕ) →
      of_nat k (a * b + c * d) ≡ add (mul (of_nat k a) (of_nat k b)) (mul (of_nat k c) (of_nat k d))
  of_nat-sum a b c d =
      of_nat-+ (a * b) (c * d) ∙ ap (λ x. add x (of_nat k (c * d))) (of_nat-* a b)
      ∙ ap (add (mul (of_nat k a) (of_nat k b))) (of_nat-* c d)

  coefficient-* : (u d u' d' : ℕ) →
      coefficient k (u * u' + d * d') (u * d' + d * u')
      ≡ mul (coefficient k u d) (coefficient k u' d')
  coefficient-* u d u' d' =
      ap (λ x. add x (neg (of_nat k (u * d' + d * u')))) (of_nat-sum u u' d d')
      ∙ ap (λ x. add (add (mul (of_nat k u) (of_nat k u')) (mul (of_nat k d) (of_nat k d')))
      (neg x)) (of_nat-sum u d' d u')
      ∙ (product_of_differences (of_nat k u) (of_nat k d) (of_nat k u') (of_nat k d'))

  module _ (env : List F) where
    product-insert_var : (x : ℕ) (ys : List ℕ) →
        product k env (insert_var x ys) ≡ mul (variable k env x) (product k env ys)
    product-insert_var x [] = refl
    product-insert_var x (y ∷ ys) =
        elim (nat_le x y) as
        (λ b. product k env (elim b [ true ↦ x ∷ y ∷ ys | false ↦ y ∷ insert_var x ys ])
        ≡ mul (variable k env x) (product k env (y ∷ ys))) [
          | true ↦ refl
          | false ↦ ap (mul (variable k env y)) (product-insert_var x ys)
              ∙ (mul_left_comm laws (variable k env y) (variable k env x) (product k env ys))
        ]

    product-merge_vars : (xs ys : List ℕ) →
        product k env (merge_vars xs ys) ≡ mul (product k env xs) (product k env ys)
    product-merge_vars [] ys = sym (one_mul (product k env ys))
    product-merge_vars (x ∷ xs) ys =
        product-insert_var x (merge_vars xs ys)
        ∙ ap (mul (variable k env x)) (product-merge_vars xs ys)
        ∙ sym (mul_assoc (variable k env x) (product k env xs) (product k env ys))

    product-same_vars : (xs ys : List ℕ) → same_vars xs ys ≡ true →
        product k env xs ≡ product k env ys
    product-same_vars [] [] h = refl
    product-same_vars [] (y ∷ ys) h = cc
    product-same_vars (x ∷ xs) [] h = cc
    product-same_vars (x ∷ xs) (y ∷ ys) h =
        ap (λ z. mul (variable k env z) (product k env xs))
        (eqb-true x y (and_left (nat_eq x y) (same_vars xs ys) h))
        ∙ ap (mul (variable k env y))
        (product-same_vars xs ys (and_right (nat_eq x y) (same_vars xs ys) h))

    -- two terms in the same variables
    add_like : (t s : Term) (m : F) → mul (coefficient k (t.up + s.up) (t.down + s.down)) m
        ≡ add (mul (coefficient k t.up t.down) m) (mul (coefficient k s.up s.down) m)
    add_like t s m =
        rw (coefficient-+ t.up t.down s.up s.down)
        (add_mul laws (coefficient k t.up t.down) (coefficient k s.up s.down) m)

    total-add_term : (t : Term) (p : List Term) → total k env (add_term t p) ≡ total k env (t ∷ p)
    total-add_term t [] = refl
    total-add_term t (s ∷ p) =
        let motive : Bool → Type 0 =
        λ b. same_vars t.vars s.vars ≡ b
        → total k env
        (elim b [
          | true ↦ term (t.up + s.up) (t.down + s.down) s.vars ∷ p
          | false ↦ s
              ∷ add_term t p
        ]) ≡ total k env (t ∷ s ∷ p) in
        elim (same_vars t.vars s.vars) as motive [
          | true ↦ λ e.
              ap (λ x. add x (total k env p)) (add_like t s (product k env s.vars)
              ∙ ap (λ m. add (mul (coefficient k t.up t.down) m)
              (mul (coefficient k s.up s.down) (product k env s.vars)))
              (sym (product-same_vars t.vars s.vars e)))
              ∙ add_assoc _ _ _
          | false ↦ λ e. ap (add (mul (coefficient k s.up s.down) (product k env s.vars)))
              (total-add_term t p) ∙ add_left_comm laws _ _ _
        ] refl

    total-add_poly : (p q : List Term) →
        total k env (add_poly p q) ≡ add (total k env p) (total k env q)
    total-add_poly [] q = sym (zero_add (total k env q))
    total-add_poly (t ∷ p) q =
        total-add_term t (add_poly p q)
        ∙ ap (add (mul (coefficient k t.up t.down) (product k env t.vars))) (total-add_poly p q)
        ∙ sym (add_assoc _ _ _)

    -- the product of two terms
    mul_terms : (t s : Term) →
        mul (coefficient k (t.up * s.up + t.down * s.down) (t.up * s.down + t.down * s.up))
        (product k env (merge_vars t.vars s.vars))
        ≡ mul (mul (coefficient k t.up t.down) (product k env t.vars))
        (mul (coefficient k s.up s.down) (product k env s.vars))
    mul_terms t s =
        rw (coefficient-* t.up t.down s.up s.down, product-merge_vars t.vars s.vars)
        (mul_swap laws (coefficient k t.up t.down) (coefficient k s.up s.down)
        (product k env t.vars) (product k env s.vars))

    total-mul_term : (t : Term) (p : List Term) →
        total k env (mul_term t p)
        ≡ mul (mul (coefficient k t.up t.down) (product k env t.vars)) (total k env p)
    total-mul_term t [] = sym (mul_zero laws _)
    total-mul_term t (s ∷ p) =
        total-add_term _ (mul_term t p)
        ∙ ap (λ x. add x (total k env (mul_term t p))) (mul_terms t s)
        ∙ ap (add
        (mul (mul (coefficient k t.up t.down) (product k env t.vars))
        (mul (coefficient k s.up s.down) (product k env s.vars)))) (total-mul_term t p)
        ∙ sym (mul_add _ _ _)

    total-mul_poly : (p q : List Term) →
        total k env (mul_poly p q) ≡ mul (total k env p) (total k env q)
    total-mul_poly [] q = sym (zero_mul laws (total k env q))
    total-mul_poly (t ∷ p) q =
        total-add_poly (mul_term t q) (mul_poly p q)
        ∙ ap (λ x. add x (total k env (mul_poly p q))) (total-mul_term t q)
        ∙ ap (add (mul (mul (coefficient k t.up t.down) (product k env t.vars)) (total k env q)))
        (total-mul_poly p q)
        ∙ sym (add_mul laws _ _ _)

    total-neg_poly : (p : List Term) → total k env (neg_poly p) ≡ neg (total k env p)
    total-neg_poly [] = sym (neg_zero laws)
    total-neg_poly (t ∷ p) =
        ap (λ c. add (mul c (product k env t.vars)) (total k env (neg_poly p)))
        (coefficient-neg t.up t.down)
        ∙ ap (λ x. add x (total k env (neg_poly p)))
        (neg_mul laws (coefficient k t.up t.down) (product k env t.vars))
        ∙ ap (add (neg (mul (coefficient k t.up t.down) (product k env t.vars)))) (total-neg_poly p)
        ∙ sym (neg_of_add laws _ _)

    one_term : (u d : ℕ) (m : List ℕ) →
        total k env (term u d m ∷ []) ≡ mul (coefficient k u d) (product k env m)
    one_term u d m = add_zero laws _

    coefficient-one : coefficient k 1 0 ≡ one
    coefficient-one = ap (add (add one nil)) (neg_zero laws) ∙ add_zero laws _ ∙ add_zero laws one

    -- the normal form has the expression's value
    pub total-norm : (e : Expr) → total k env (norm e) ≡ denote k env e
    total-norm (var x) =
        one_term 1 0 (x ∷ []) ∙ ap (mul (coefficient k 1 0)) (mul_one laws (variable k env x))
        ∙ ap (λ c. mul c (variable k env x)) coefficient-one ∙ one_mul _
    total-norm (con n) =
        one_term n 0 [] ∙ mul_one laws _ ∙ ap (add (of_nat k n)) (neg_zero laws) ∙ add_zero laws _
    total-norm unit = one_term 1 0 [] ∙ mul_one laws _ ∙ coefficient-one
    total-norm (plus a b) =
        total-add_poly (norm a) (norm b) ∙ ap (λ x. add x (total k env (norm b))) (total-norm a)
        ∙ ap (add (denote k env a)) (total-norm b)
    total-norm (times a b) =
        total-mul_poly (norm a) (norm b) ∙ ap (λ x. mul x (total k env (norm b))) (total-norm a)
        ∙ ap (mul (denote k env a)) (total-norm b)
    total-norm (minus a) = total-neg_poly (norm a) ∙ ap neg (total-norm a)

    pub total-zero : (p : List Term) → is_zero_poly p ≡ true → total k env p ≡ nil
    total-zero [] h = refl
    total-zero (t ∷ p) h =
        ap (λ u. add (mul (coefficient k u t.down) (product k env t.vars)) (total k env p))
        (eqb-true t.up t.down (and_left (nat_eq t.up t.down) (is_zero_poly p) h))
        ∙ ap (λ c. add (mul c (product k env t.vars)) (total k env p))
        (add_neg laws (of_nat k t.down))
        ∙ ap (λ c. add c (total k env p)) (zero_mul laws _)
        ∙ zero_add _
        ∙ total-zero p (and_right (nat_eq t.up t.down) (is_zero_poly p) h)

    -- an equation that holds in every commutative ring
    pub ring : (a b : Expr) → IsTrue (is_zero_poly (norm (plus a (minus b)))) →
        denote k env a ≡ denote k env b
    ring a b h =
        neg_zero_cancel laws _ _
        (sym (total-norm (plus a (minus b))) ∙ total-zero (norm (plus a (minus b))) h)
