-- The laws of the cubic extension of Mersenne31.
use Rattle.std.specs.Prelude.{◌≡◌, ℕ, refl, nat_eq, true, ◌&&◌, ◌↔◌}
use Rattle.std.proofs.Common.{◌∙◌, ap}
use Rattle.std.proofs.lemmas.Bool.{and_parts}
use Rattle.circle_field.specs.declared.cubic.Cubic.{Cubic}
use Rattle.circle_field.specs.Field.{FieldLaws, IsEmbedding, of_nat}
use Rattle.circle_field.specs.Extension.{AreCoefficients}
use Rattle.circle_field.specs.Carried.{carried_laws, embedding-of_nat, decide, entry}
use Rattle.circle_field.specs.Mersenne31.{residue, operations as base}
use Rattle.circle_field.specs.Mersenne31Laws.{same_residue, equal_exactly as base_equal}
use Rattle.circle_field.specs.Mersenne31Laws.{laws as base_laws}
use Rattle.circle_field.specs.CubicField.{norm}
use Rattle.circle_field.specs.CubicLaws.{same_triple, constant_add, constant_mul, constant_neg}
use Rattle.circle_field.specs.CubicLaws.{constant_product}
use Rattle.circle_field.specs.CubicInverse.{cubic_laws, norm_zero, norm_of_zero}
use Rattle.circle_field.specs.Mersenne31Powers.{five_is_no_cube}
use Rattle.circle_field.specs.CubicFive.{five}
use Rattle.circle_field.specs.Cubic.{triple_of, of_triple, triples, operations, embed, coefficients}

-- the laws of triples
triple_laws : FieldLaws triples
triple_laws = cubic_laws base_laws decide five five_is_no_cube

-- the field's laws
pub laws : FieldLaws operations
laws = carried_laws of_triple triple_of (λ t. refl) (λ a. refl) triple_laws

-- elements of the same coefficients are equal
pub same_cubic : (a b : Cubic) → a.c0 ≡ b.c0 → a.c1 ≡ b.c1 → a.c2 ≡ b.c2 → a ≡ b
same_cubic a b p q r = ap of_triple (same_triple p q r)

-- the embedding keeps the operations
pub is_embedding : IsEmbedding base operations embed
is_embedding = record {
  zero = refl;
  one = refl;
  add = λ a b. ap of_triple (constant_add base_laws.ring a b);
  mul = λ a b. ap of_triple (constant_mul base_laws.ring five a b);
  neg = λ a. ap of_triple (constant_neg base_laws.ring a);
  injective = λ a b h. ap (λ c. c.c0) h;
}

-- the coefficients are linear, and different elements have different ones
pub are_coefficients : AreCoefficients base operations embed 3 coefficients
unfolding entry
are_coefficients = record {
  count = λ a. refl;
  of_sum = λ a b. refl;
  of_multiple =
      λ x a. ap (λ t. coefficients (of_triple t))
      (constant_product base_laws.ring five x (triple_of a));
  determined = λ a b h. same_cubic a b (ap (entry 0) h) (ap (entry 1) h) (ap (entry 2) h);
}

-- `==` compares coefficients
pub equal_exactly : (a b : Cubic) →
    ((nat_eq (residue a.c0) (residue b.c0) &&
    (nat_eq (residue a.c1) (residue b.c1) && nat_eq (residue a.c2) (residue b.c2))) ≡ true)
    ↔ (a ≡ b)
equal_exactly a b = (
  λ h.
      let first =
      and_parts (nat_eq (residue a.c0) (residue b.c0))
      (nat_eq (residue a.c1) (residue b.c1) && nat_eq (residue a.c2) (residue b.c2)) h in
      let rest =
      and_parts (nat_eq (residue a.c1) (residue b.c1))
      (nat_eq (residue a.c2) (residue b.c2)) first.1 in
      same_cubic a b ((base_equal a.c0 b.c0).0 first.0) ((base_equal a.c1 b.c1).0 rest.0)
      ((base_equal a.c2 b.c2).0 rest.1),
  λ e.
      let e0 = (base_equal a.c0 b.c0).1 (ap (λ c. c.c0) e) in
      let e1 = (base_equal a.c1 b.c1).1 (ap (λ c. c.c1) e) in
      let e2 = (base_equal a.c2 b.c2).1 (ap (λ c. c.c2) e) in
      rw (e0, e1, e2),
)

-- elements of equal residues are equal
pub same_residues : (a b : Cubic) → residue a.c0 ≡ residue b.c0 → residue a.c1 ≡ residue b.c1 →
    residue a.c2 ≡ residue b.c2 → a ≡ b
same_residues a b p q r =
    same_cubic a b (same_residue a.c0 b.c0 p) (same_residue a.c1 b.c1 q) (same_residue a.c2 b.c2 r)

-- the sum of n ones is that of the base field
pub embedded_of_nat : (n : ℕ) → embed (of_nat base n) ≡ of_nat operations n
embedded_of_nat n = embedding-of_nat is_embedding n

-- the norm is 0 exactly at 0
pub norm_zero_exactly : (a : Cubic) →
    (norm base five (triple_of a) ≡ base.zero) ↔ (a ≡ operations.zero)
norm_zero_exactly a = (
  λ h. ap of_triple (norm_zero base_laws decide five five_is_no_cube (triple_of a) h),
  λ e. ap (λ c. norm base five (triple_of c)) e
      ∙ norm_of_zero base_laws decide five five_is_no_cube,
)
