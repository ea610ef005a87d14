-- Elements of a basis, one after the other.
use Rattle.std.specs.Prelude.{◌≡◌, ℕ, ◌+◌, ◌<◌, List, [], ◌∷◌, ◌++◌, length, replicate}
use Rattle.std.specs.Prelude.{slice_index_or, slice_set}
use Rattle.std.proofs.Common.{sym, ◌∙◌, ap, arith, length-append, ⊎_elim}
use Rattle.std.proofs.lemmas.Bool.{cases_lt}
use Rattle.std.proofs.lemmas.List.{get_or_append_left, get_or_push}
use Rattle.circle_field.specs.Field.{FieldOps}
use Rattle.circle_quotient.specs.Basis.{AreBasis}

module _ {F E : Type 0} (k : FieldOps F) (coefficients : E → List F) (degree : ℕ) where
  -- the first elements of a basis, as many as `number`
  pub record AreFirst (number : ℕ) (elements : List E) : Type 0 where
    pub count : length elements ≡ number
    pub each : (i : ℕ) (d : E) → i < number →
        coefficients (slice_index_or elements i d) ≡ slice_set (replicate degree k.zero) i k.one

  -- none
  pub no-elements : AreFirst 0 []
  no-elements = record { count = omega arith; each = λ i d lt. absurd (omega (arith, lt)) }

  -- one more
  pub one-more : (n : ℕ) (elements : List E) (element : E) → AreFirst n elements →
      coefficients element ≡ slice_set (replicate degree k.zero) n k.one →
      AreFirst (n + 1) (elements ++ element ∷ [])
  one-more n elements element first here = record {
    count = length-append elements (element ∷ []) ∙ ap (λ m. m + 1) first.count;
    each = λ i d lt. ⊎_elim
        (λ (low : i < n).
        ap coefficients (get_or_append_left elements (element ∷ []) d i
        (omega (arith, low, first.count)))
        ∙ first.each i d low)
        (λ high.
        let e : i ≡ n = omega (arith, high, lt) in
        let last : i ≡ length elements = omega (arith, e, first.count) in
        ap coefficients (get_or_push elements element d i (sym last)) ∙ here
        ∙ ap (λ p. slice_set (replicate degree k.zero) p k.one) (sym e))
        (cases_lt i n);
  }

  -- all
  pub whole : (elements : List E) → AreFirst degree elements →
      AreBasis k coefficients degree elements
  whole elements first = record { count = first.count; each = first.each }
