-- Inverses, and products of elements that are not 0.
use Rattle.std.specs.Prelude.{◌≡◌, ◌≢◌, ℕ, ◌+◌, ◌<◌, List, [], ◌∷◌, ◌++◌, length, take, drop, All}
use Rattle.std.specs.Prelude.{Option, None, Some, IsNone, IsSome, slice_index_or}
use Rattle.std.proofs.Common.{suc, sym, ◌∙◌, ap, refl, arith}
use Rattle.std.proofs.lemmas.List.{take_more}
use Rattle.std.proofs.Math.Seq.{take-append_seam}
use Rattle.circle_field.specs.Field.{FieldOps, FieldLaws}
use Rattle.circle_field.specs.Products.{product}
use Rattle.circle_field.specs.RingFacts.{mul_one, mul_zero}

module _ {F : Type 0} {k : FieldOps F} (laws : FieldLaws k) where
  open laws.ring use {mul_assoc, mul_comm, one_mul}

  -- the only element whose product with a is 1
  pub inverse_unique : (a b : F) → a ≢ k.zero → k.mul b a ≡ k.one → b ≡ k.inv a
  inverse_unique a b h e =
      sym (mul_one laws.ring b) ∙ ap (k.mul b) (sym (laws.mul_inv a h))
      ∙ sym (mul_assoc b a (k.inv a))
      ∙ ap (λ x. k.mul x (k.inv a)) e ∙ one_mul (k.inv a)

  -- a field has no divisors of 0
  pub nonzero_product : (a b : F) → a ≢ k.zero → b ≢ k.zero → k.mul a b ≢ k.zero
  nonzero_product a b ha hb = λ e.
      hb (sym (one_mul b) ∙ ap (λ x. k.mul x b) (sym (laws.mul_inv a ha) ∙ mul_comm a (k.inv a))
      ∙ mul_assoc (k.inv a) a b ∙ ap (k.mul (k.inv a)) e ∙ mul_zero laws.ring (k.inv a))

  pub one_nonzero : k.one ≢ k.zero
  one_nonzero = λ e. laws.two_nonzero (ap (λ x. k.add x k.one) e ∙ laws.ring.zero_add k.one ∙ e)

  -- an element with an inverse is not 0
  pub nonzero_factor : (a b : F) → k.mul b a ≡ k.one → a ≢ k.zero
  nonzero_factor a b e = λ z. one_nonzero (sym e ∙ ap (k.mul b) z ∙ mul_zero laws.ring b)

  pub product-append : (xs : List F) (x : F) → product k (xs ++ x ∷ []) ≡ k.mul (product k xs) x
  product-append [] x = mul_one laws.ring x ∙ sym (one_mul x)
  product-append (y ∷ xs) x = ap (k.mul y) (product-append xs x)
      ∙ sym (mul_assoc y (product k xs) x)

  -- the product of one element more
  pub product-take : (xs : List F) (i : ℕ) (d : F) → i < length xs → product k (take (i + 1) xs)
      ≡ k.mul (product k (take i xs)) (slice_index_or xs i d)
  product-take xs i d h = ap (product k) (take_more xs i d h)
      ∙ product-append (take i xs) (slice_index_or xs i d)

  pub product-nonzero : (xs : List F) → All (λ a. a ≢ k.zero) xs → product k xs ≢ k.zero
  product-nonzero [] h = one_nonzero
  product-nonzero (x ∷ xs) h =
      nonzero_product x (product k xs) (h 0 k.zero (omega arith))
      (product-nonzero xs (λ i d lt. h (suc i) d (omega arith)))

  -- from the inverse u of p x: the inverse of x, and that of p
  pub last_inverse : (p x u : F) → k.mul u (k.mul p x) ≡ k.one → k.mul p u ≡ k.inv x
  last_inverse p x u e =
      let whole : k.mul (k.mul p u) x ≡ k.one = ap (λ v. k.mul v x) (mul_comm p u) ∙ mul_assoc u p x
      ∙ e in
      inverse_unique x (k.mul p u) (nonzero_factor x (k.mul p u) whole) whole

  pub next_inverse : (p x u : F) → k.mul u (k.mul p x) ≡ k.one → k.mul (k.mul u x) p ≡ k.one
  next_inverse p x u e = mul_assoc u x p ∙ ap (k.mul u) (mul_comm x p) ∙ e

pub some_unless : {A : Type 0} (o : Option A) → (IsNone o → ⊥) → IsSome o
some_unless None h = absurd (h refl)
some_unless (Some a) h = refl

-- what a slice of a whole vector leaves in it
pub take-whole : {X : Type 0} (n : ℕ) (xs ys : List X) → n ≡ length ys → length xs ≡ length ys →
    take n (xs ++ drop (length xs) ys) ≡ xs
take-whole n xs ys hn e =
    let long : n ≡ length xs = hn ∙ sym e in
    ap (λ m. take m (xs ++ drop (length xs) ys)) long ∙ take-append_seam xs (drop (length xs) ys)
