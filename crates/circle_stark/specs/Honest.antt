-- What an honest prover commits to: the rows of a trace, and the chunks of its quotient.
use Rattle.std.specs.Prelude.{◌≡◌, ℕ, ◌+◌, ◌^◌, List, [], ◌∷◌, map, take, All}
use Rattle.circle_field.specs.Field.{FieldOps}
use Rattle.circle_field.specs.Circle.{Coordinates}
use Rattle.circle_field.specs.declared.field.Operations.{Ghosts}
use Rattle.circle_commit.specs.RowMajorMatrix.{rows, width_of}
use Rattle.circle_commit.specs.declared.matrix.RowMajorMatrix.{RowMajorMatrix}
use Rattle.circle_domain.specs.Domain.{IsStandardOf, log_size, shift_of}
use Rattle.circle_domain.specs.Order.{natural_order}
use Rattle.circle_domain.specs.Splitting.{split_rows}
use Rattle.circle_domain.specs.Values.{values_at}
use Rattle.circle_domain.specs.declared.domain.CircleDomain.{CircleDomain}
use Rattle.circle_quotient.specs.Quotient.{AreQuotientsOfColumns}
use Rattle.circle_relation.specs.Accepts.{Fields}
use Rattle.p3_circle.specs.Committing.{AreExtensions, HaveNaturalValues}
use Rattle.p3_circle.specs.Scheme.{IsCommitted}
use Rattle.circle_stark.specs.Statement.{Statement}

module _ {F : Type 0} (k : FieldOps F) (gen : ℕ → Coordinates F) where
  -- the given rows continued: the values, on the standard domain of 2^m points, of the polynomials
  -- that have the given rows on the standard domain of 2^n points
  pub record AreContinuedOn (n m : ℕ) (given made : RowMajorMatrix F) : Type 0 where
    pub width : width_of made ≡ width_of given
    pub values : (coeffs : List (List F)) →
        HaveNaturalValues k gen n (gen (n + 1)) (width_of given) coeffs (rows given) →
        rows made ≡ map (values_at k coeffs (width_of given)) (natural_order k gen m (gen (m + 1)))

module _ {F : Type 0} (g : Ghosts F) (k : FieldOps F) (gen : ℕ → Coordinates F) where
  -- made continues whatever rows have these matrices as their extension
  abbrev pub ContinuesTrace : ℕ → ℕ → ℕ → List (RowMajorMatrix F) → RowMajorMatrix F → Type 0
  ContinuesTrace blowup n m matrices made =
      (domain : CircleDomain F g) (given : RowMajorMatrix F) → IsStandardOf gen n domain →
      AreExtensions k gen blowup ((domain, given) ∷ []) matrices →
      AreContinuedOn k gen n m given made

  -- a committer keeps these matrices of some rows, of this width, on the standard domain of 2^n
  -- points
  pub record IsTraceKept (blowup n width : ℕ) (matrices : List (RowMajorMatrix F)) : Type 0 where
    pub given : RowMajorMatrix F
    pub domain : CircleDomain F g
    pub standard : IsStandardOf gen n domain
    pub columns : width_of given ≡ width
    pub extended : AreExtensions k gen blowup ((domain, given) ∷ []) matrices

  module _ {Com : Type 0} (blowup : ℕ) (Commits : List (RowMajorMatrix F) → Com → Type 0) where
    -- the commitment to rows on the standard domain of 2^n points, and the matrices that are kept
    pub record IsTraceCommitted (n : ℕ) (given : RowMajorMatrix F) (commitment : Com)
        (matrices : List (RowMajorMatrix F)) : Type 0 where
      pub domain : CircleDomain F g
      pub standard : IsStandardOf gen n domain
      pub committed : IsCommitted k gen blowup Commits ((domain, given) ∷ []) commitment matrices

    -- the commitment to 2^(n + kk) values as 2^kk parts, each on its domain, with a column for each
    -- coefficient of an element, and the matrices that are kept
    pub record AreChunksCommitted {E : Type 0} (coefficients : E → List F) (degree n kk : ℕ)
        (values : List E) (commitment : Com) (matrices : List (RowMajorMatrix F)) : Type 0 where
      pub batch : List (CircleDomain F g × RowMajorMatrix F)
      pub sizes : All (λ c. log_size c.0 ≡ n) batch
      pub shifts :
          map (λ c. shift_of c.0) batch
          ≡ take (2 ^ kk) (natural_order k gen (n + kk) (gen (n + kk + 1)))
      pub widths : All (λ c. width_of c.1 ≡ degree) batch
      pub rows :
          map (λ c. rows c.1) batch
          ≡ split_rows (2 ^ kk) (2 ^ (n + kk)) (map coefficients values)
      pub committed : IsCommitted k gen blowup Commits batch commitment matrices

-- the commitment to the chunks of the quotient, under the challenge alpha, of the trace that the
-- first matrices extend; the last matrices are those that are kept of it
pub record IsQuotientCommitted {F E Com : Type 0} (g : Ghosts F) (k : Fields F E) (blowup : ℕ)
    (Commits : List (RowMajorMatrix F) → Com → Type 0) (coefficients : E → List F) (degree : ℕ)
    (s : Statement F) (kk : ℕ) (trace : List (RowMajorMatrix F)) (alpha : E) (commitment : Com)
    (matrices : List (RowMajorMatrix F)) : Type 0 where
  pub extended : RowMajorMatrix F
  pub continues :
      ContinuesTrace g k.field k.gen blowup s.log_n (s.log_n + kk) trace extended
  pub values : List E
  pub quotients :
      AreQuotientsOfColumns k.field k.gen k.extension k.embed s.log_n kk s.parts (rows extended)
      s.public_values alpha values
  pub chunks :
      AreChunksCommitted g k.field k.gen blowup Commits coefficients degree s.log_n kk values
      commitment matrices
