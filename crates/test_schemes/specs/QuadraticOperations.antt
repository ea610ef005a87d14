-- The laws of the quadratic extension of Mersenne31.
use Rattle.std.specs.Prelude.{◌≡◌, ℕ, refl, nat_eq, true, ◌&&◌, ◌↔◌}
use Rattle.std.proofs.Common.{◌∙◌, ap}
use Rattle.std.proofs.lemmas.Bool.{and_parts}
use Rattle.circle_field.specs.declared.mersenne31.Mersenne31.{Mersenne31}
use Rattle.test_schemes.specs.declared.quadratic.Quadratic.{Quadratic}
use Rattle.circle_field.specs.Field.{FieldLaws, IsEmbedding, of_nat}
use Rattle.circle_field.specs.Extension.{AreCoefficients}
use Rattle.circle_field.specs.Carried.{carried_laws, embedding-of_nat, decide, entry}
use Rattle.circle_field.specs.Mersenne31.{residue, operations as base}
use Rattle.circle_field.specs.Mersenne31Laws.{same_residue, equal_exactly as base_equal}
use Rattle.circle_field.specs.Mersenne31Laws.{laws as base_laws}
use Rattle.test_schemes.specs.NoSquare.{minus_one_is_no_square}
use Rattle.test_schemes.specs.QuadraticField.{norm}
use Rattle.test_schemes.specs.QuadraticLaws.{same_pair, constant_add, constant_mul, constant_neg}
use Rattle.test_schemes.specs.QuadraticLaws.{constant_product}
use Rattle.test_schemes.specs.QuadraticInverse.{quadratic_laws, norm_zero, norm_of_zero}
use Rattle.test_schemes.specs.Quadratic.{pair_of, of_pair, pairs, operations, embed}
use Rattle.test_schemes.specs.Quadratic.{coefficients}

pair_laws : FieldLaws pairs
pair_laws = quadratic_laws base_laws decide minus_one_is_no_square

-- the field's laws
pub laws : FieldLaws operations
laws = carried_laws of_pair pair_of (λ t. refl) (λ a. refl) pair_laws

-- what holds of coefficients holds of elements
pub same_quadratic : (a b : Quadratic) → a.c0 ≡ b.c0 → a.c1 ≡ b.c1 → a ≡ b
same_quadratic a b p q = ap of_pair (same_pair p q)

-- the embedding keeps the operations
pub is_embedding : IsEmbedding base operations embed
is_embedding = record {
  zero = refl;
  one = refl;
  add = λ a b. ap of_pair (constant_add base_laws.ring a b);
  mul = λ a b. ap of_pair (constant_mul base_laws.ring a b);
  neg = λ a. ap of_pair (constant_neg base_laws.ring a);
  injective = λ a b h. ap (λ c. c.c0) h;
}

-- the coefficients are linear, and different elements have different ones
pub are_coefficients : AreCoefficients base operations embed 2 coefficients
unfolding entry
are_coefficients = record {
  count = λ a. refl;
  of_sum = λ a b. refl;
  of_multiple =
      λ x a. ap (λ t. coefficients (of_pair t)) (constant_product base_laws.ring x (pair_of a));
  determined = λ a b h. same_quadratic a b (ap (entry 0) h) (ap (entry 1) h);
}

-- `==` compares coefficients
pub equal_exactly : (a b : Quadratic) →
    ((nat_eq (residue a.c0) (residue b.c0) && nat_eq (residue a.c1) (residue b.c1)) ≡ true)
    ↔ (a ≡ b)
equal_exactly a b = (
  λ h.
      let parts =
      and_parts (nat_eq (residue a.c0) (residue b.c0))
      (nat_eq (residue a.c1) (residue b.c1)) h in
      same_quadratic a b ((base_equal a.c0 b.c0).0 parts.0) ((base_equal a.c1 b.c1).0 parts.1),
  λ e.
      let e0 = (base_equal a.c0 b.c0).1 (ap (λ c. c.c0) e) in
      let e1 = (base_equal a.c1 b.c1).1 (ap (λ c. c.c1) e) in
      rw (e0, e1),
)

-- elements of equal residues are equal
pub same_residues : (a b : Quadratic) → residue a.c0 ≡ residue b.c0 → residue a.c1 ≡ residue b.c1 →
    a ≡ b
same_residues a b p q = same_quadratic a b (same_residue a.c0 b.c0 p) (same_residue a.c1 b.c1 q)

-- the sum of n ones is that of the base field
pub embedded_of_nat : (n : ℕ) → embed (of_nat base n) ≡ of_nat operations n
embedded_of_nat n = embedding-of_nat is_embedding n

-- the norm is 0 exactly at 0
pub norm_zero_exactly : (a : Quadratic) →
    (norm base (pair_of a) ≡ base.zero) ↔ (a ≡ operations.zero)
norm_zero_exactly a = (
  λ h. ap of_pair (norm_zero base_laws decide minus_one_is_no_square (pair_of a) h),
  λ e. ap (λ c. norm base (pair_of c)) e ∙ norm_of_zero base_laws decide minus_one_is_no_square,
)
