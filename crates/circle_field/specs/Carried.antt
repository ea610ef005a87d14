-- What fields made of coefficients share: laws that another form of the elements has, tests for 0,
-- products that are 0, and sums of ones.
use Rattle.std.specs.Prelude.{◌≡◌, ◌≢◌, ◌⊎◌, ℕ, List, [], ◌∷◌, refl, nat_eq, Bool, true, false}
use Rattle.std.proofs.Common.{zero, suc, sym, ◌∙◌, ap, inl, inr}
use Rattle.std.proofs.Math.ListN.{get_or}
use Rattle.circle_field.specs.declared.mersenne31.Mersenne31.{Mersenne31}
use Rattle.circle_field.specs.Field.{FieldOps, FieldLaws, IsEmbedding, of_nat}
use Rattle.circle_field.specs.Mersenne31.{residue, operations as base}
use Rattle.circle_field.specs.Mersenne31Laws.{equal_exactly as base_equal}
use Rattle.circle_field.specs.Ring.{Expr, var, con, unit, times, minus}
use Rattle.circle_field.specs.RingCombine.{given, combine}

module _ {A B : Type 0} (of : B → A) (form : A → B) where
  -- the operations of the forms, as those of the elements
  abbrev pub carried : FieldOps B → FieldOps A
  carried k = record {
    zero = of k.zero;
    one = of k.one;
    add = λ a b. of (k.add (form a) (form b));
    mul = λ a b. of (k.mul (form a) (form b));
    neg = λ a. of (k.neg (form a));
    inv = λ a. of (k.inv (form a));
  }

  module _ (formed : (b : B) → form (of b) ≡ b) (told : (a : A) → of (form a) ≡ a)
      {k : FieldOps B} (laws : FieldLaws k) where
    -- an operation on an element that was made of a form, and on another
    first_is : (op : B → B → B) (x : B) (b : A) →
        of (op (form (of x)) (form b)) ≡ of (op x (form b))
    first_is op x b = ap (λ v. of (op v (form b))) (formed x)

    second_is : (op : B → B → B) (a : A) (x : B) →
        of (op (form a) (form (of x))) ≡ of (op (form a) x)
    second_is op a x = ap (λ v. of (op (form a) v)) (formed x)

    both_are : (op : B → B → B) (x y : B) → of (op (form (of x)) (form (of y))) ≡ of (op x y)
    both_are op x y =
        ap (λ v. of (op v (form (of y)))) (formed x) ∙ ap (λ v. of (op x v)) (formed y)

    -- the elements have the laws of their forms
    pub carried_laws : FieldLaws (carried k)
    carried_laws =
        let r = laws.ring in
        record {
          ring = record {
            add_assoc = λ a b c.
                first_is k.add (k.add (form a) (form b)) c
                ∙ ap of (r.add_assoc (form a) (form b) (form c))
                ∙ sym (second_is k.add a (k.add (form b) (form c)));
            add_comm = λ a b. ap of (r.add_comm (form a) (form b));
            zero_add = λ a. first_is k.add k.zero a ∙ ap of (r.zero_add (form a)) ∙ told a;
            neg_add = λ a. first_is k.add (k.neg (form a)) a ∙ ap of (r.neg_add (form a));
            mul_assoc = λ a b c.
                first_is k.mul (k.mul (form a) (form b)) c
                ∙ ap of (r.mul_assoc (form a) (form b) (form c))
                ∙ sym (second_is k.mul a (k.mul (form b) (form c)));
            mul_comm = λ a b. ap of (r.mul_comm (form a) (form b));
            one_mul = λ a. first_is k.mul k.one a ∙ ap of (r.one_mul (form a)) ∙ told a;
            mul_add = λ a b c.
                second_is k.mul a (k.add (form b) (form c))
                ∙ ap of (r.mul_add (form a) (form b) (form c))
                ∙ sym (both_are k.add (k.mul (form a) (form b)) (k.mul (form a) (form c)));
          };
          mul_inv = λ a nonzero.
              second_is k.mul a (k.inv (form a))
              ∙ ap of (laws.mul_inv (form a) (λ h. nonzero (sym (told a) ∙ ap of h)));
          two_nonzero = λ h.
              laws.two_nonzero (sym (formed (k.add k.one k.one))
              ∙ ap form (sym (both_are k.add k.one k.one) ∙ h) ∙ formed k.zero);
        }

-- an embedding takes a sum of ones to that of the larger field
pub embedding-of_nat : {F E : Type 0} {k : FieldOps F} {l : FieldOps E} {m : F → E} →
    IsEmbedding k l m → (n : ℕ) → m (of_nat k n) ≡ of_nat l n
embedding-of_nat e zero = e.zero
embedding-of_nat {k = k} {l = l} {m = m} e (suc n) =
    e.add k.one (of_nat k n) ∙ ap (λ v. l.add v (m (of_nat k n))) e.one
    ∙ ap (l.add l.one) (embedding-of_nat e n)

module _ {F : Type 0} {k : FieldOps F} (laws : FieldLaws k) where
  -- a product is zero only where a factor is
  pub other_factor : (a b : F) → k.mul a b ≡ k.zero → a ≢ k.zero → b ≡ k.zero
  other_factor a b h nonzero =
      let a' : Expr = var 0 in let b' : Expr = var 1 in let i : Expr = var 2 in
      combine laws.ring (a ∷ b ∷ k.inv a ∷ []) b' (con 0)
      (given (minus b') (times a' i) unit ∷ given i (times a' b') (con 0) ∷ []) refl
      (laws.mul_inv a nonzero, (h, tt))

  -- a square is zero only where its root is
  pub zero_square : ((a : F) → (a ≡ k.zero) ⊎ (a ≢ k.zero)) →
      (a : F) → k.mul a a ≡ k.zero → a ≡ k.zero
  zero_square decide a h = elim (decide a) [ inl e ↦ e | inr n ↦ other_factor a a h n ]

-- whether an element of the prime field is 0, by the test of its residue
decided : (a : Mersenne31) (b : Bool) → nat_eq (residue a) 0 ≡ b → (a ≡ base.zero) ⊎ (a ≢ base.zero)
decided a true h = inl ((base_equal a base.zero).0 h)
decided a false h =
    inr (λ e. let t : nat_eq (residue a) 0 ≡ true = (base_equal a base.zero).1 e in cc)

-- an element of it is 0 or not
pub decide : (a : Mersenne31) → (a ≡ base.zero) ⊎ (a ≢ base.zero)
decide a = decided a (nat_eq (residue a) 0) refl

-- the coefficient at place i of a list, or 0 past its end
unfoldable pub entry : ℕ → List Mersenne31 → Mersenne31
entry i xs = get_or xs i base.zero
