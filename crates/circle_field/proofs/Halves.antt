-- Halves, as the elements that plus themselves are the whole.
use Rattle.std.specs.Prelude.{◌≡◌}
use Rattle.std.proofs.Common.{sym, ◌∙◌, ap}
use Rattle.circle_field.specs.Field.{FieldOps, FieldLaws, two}
use Rattle.circle_field.specs.RingFacts.{mul_one}

module _ {F : Type 0} {k : FieldOps F} (laws : FieldLaws k) where
  open laws.ring use {mul_assoc, mul_add}

  -- x times 2 is x + x
  times_two : (x : F) → k.mul x (two k) ≡ k.add x x
  times_two x = mul_add x k.one k.one ∙ ap (λ y. k.add y y) (mul_one laws.ring x)

  -- x times 2 times the inverse of 2 is x
  pub halved_double : (x : F) → k.mul (k.add x x) (k.inv (two k)) ≡ x
  halved_double x =
      ap (λ y. k.mul y (k.inv (two k))) (sym (times_two x)) ∙ mul_assoc x (two k) (k.inv (two k))
      ∙ ap (k.mul x) (laws.mul_inv (two k) laws.two_nonzero) ∙ mul_one laws.ring x

  -- only the half of a, plus itself, is a
  pub half_unique : (a x : F) → k.add x x ≡ a → x ≡ k.mul a (k.inv (two k))
  half_unique a x e = sym (halved_double x) ∙ ap (λ y. k.mul y (k.inv (two k))) e

  -- the half of a, plus itself, is a
  pub doubled_half : (a x : F) → x ≡ k.mul a (k.inv (two k)) → k.add x x ≡ a
  doubled_half a x e =
      sym (times_two x) ∙ ap (λ y. k.mul y (two k)) e ∙ mul_assoc a (k.inv (two k)) (two k)
      ∙ ap (k.mul a) (laws.ring.mul_comm (k.inv (two k)) (two k)
      ∙ laws.mul_inv (two k) laws.two_nonzero)
      ∙ mul_one laws.ring a
