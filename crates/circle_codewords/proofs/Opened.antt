-- What matrices are opened to at a point.
use Rattle.std.specs.Prelude.{◌≡◌, ℕ, ◌+◌, ◌-◌, ◌*◌, ◌^◌, ◌%◌, ◌≤◌, List, take, Result, IfOk}
use Rattle.std.proofs.Common.{◌∙◌, ap, subst, arith, Ok, Err}
use Rattle.circle_field.specs.Circle.{Coordinates}
use Rattle.circle_commit.specs.RowMajorMatrix.{rows, width_of}
use Rattle.circle_commit.specs.declared.matrix.RowMajorMatrix.{RowMajorMatrix}
use Rattle.circle_domain.specs.Values.{HasValues, lifted_values_at}
use Rattle.circle_domain.proofs.Powers.{pow_within}
use Rattle.circle_point.specs.Projective.{from_line}
use Rattle.circle_relation.specs.Accepts.{Fields}
use Rattle.circle_codewords.specs.Values.{OpensTo}

-- what is known of a result
pub if_ok : {A E : Type 0} (r : Result A E) (P Q : A → Type 0) → ((a : A) → P a → Q a) → IfOk r P →
    IfOk r Q
if_ok (Ok a) P Q f h = f a h
if_ok (Err e) P Q f h = tt

-- 2^t rows, as the program counts them
pub counted : (t : ℕ) → t ≤ 62 → 1 * 2 ^ t % 18446744073709551616 ≡ 2 ^ t
counted t small = let bound : 2 ^ t ≤ 2 ^ 62 = pow_within t 62 small in omega (arith, bound)

-- the values of the polynomials that the first rows fix
pub opens : {F E : Type 0} (k : Fields F E) (blowup h : ℕ) (m : RowMajorMatrix F) (t : E)
    (values : List E) (n : ℕ) (s : Coordinates F) (width : ℕ) (first coeffs : List (List F)) →
    n ≡ h - blowup → s ≡ k.gen (h + 1) → width ≡ width_of m →
    first ≡ take (2 ^ (h - blowup)) (rows m) → HasValues k.field k.gen n s width coeffs first →
    values ≡ lifted_values_at k.field.zero k.extension k.embed coeffs width
    (from_line k.extension t) → OpensTo k blowup h m t values
opens k blowup h m t values n s width first coeffs size shift wide seen told are = record {
  coeffs = coeffs;
  told =
      subst (HasValues k.field k.gen (h - blowup) (k.gen (h + 1)) (width_of m) coeffs) seen
      (subst (λ w. HasValues k.field k.gen (h - blowup) (k.gen (h + 1)) w coeffs first) wide
      (subst (λ q. HasValues k.field k.gen (h - blowup) q width coeffs first) shift
      (subst (λ a. HasValues k.field k.gen a s width coeffs first) size told)));
  at_point =
      are
      ∙ ap
      (λ w. lifted_values_at k.field.zero k.extension k.embed coeffs w (from_line k.extension t))
      wide;
}
