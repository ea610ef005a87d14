-- The value of a chunk's column of elements is put together from those of its columns.
use Rattle.std.specs.Prelude.{◌≡◌, ℕ, ◌+◌, ◌^◌, List, length, map, All, slice_index_or}
use Rattle.std.specs.List.{range_with_len}
use Rattle.std.proofs.Common.{zero, suc, sym, ◌∙◌, ap}
use Rattle.std.proofs.Math.ListN.{get_or-map as read-map}
use Rattle.std.proofs.lemmas.List.{length-map}
use Rattle.std.proofs.lemmas.List.FromFn.{fill_by_all}
use Rattle.circle_field.specs.Circle.{Coordinates}
use Rattle.circle_field.specs.Field.{FieldOps, RingLaws}
use Rattle.circle_point.specs.Basis.{circle_basis, value, vanishing, weighted_sum}
use Rattle.circle_commit.specs.DotProduct.{dot}
use Rattle.circle_commit.proofs.ColumnSums.{map-agree}
use Rattle.circle_domain.proofs.Twiddles.{map-map}
use Rattle.circle_folding.specs.WideSpans.{wide_value}
use Rattle.circle_quotient.specs.Identity.{WideColumn, wide_at}
use Rattle.circle_stark.specs.Linked.{combined_chunk}
use Rattle.circle_stark.proofs.BasisSums.{dot-combined, dot-zeros}

module _ {E : Type 0} {l : FieldOps E} (laws : RingLaws l) where
  -- where each coefficient is a sum over a list, the polynomial is that sum of polynomials
  sum-of-polynomials : {X : Type 0} (f : ℕ → E) (entry : ℕ → X → E) (ws : List E) (xs : List X)
      (i a count : ℕ) →
      weighted_sum l f i (map (λ t. dot l ws (map (entry t) xs)) (range_with_len a count))
      ≡ dot l ws
      (map (λ x. weighted_sum l f i (map (λ t. entry t x) (range_with_len a count))) xs)
  sum-of-polynomials f entry ws xs i a zero = sym (dot-zeros laws ws xs)
  sum-of-polynomials f entry ws xs i a (suc count) =
      let rest = λ (x : _).
      weighted_sum l f (suc i) (map (λ t. entry t x) (range_with_len (a + 1) count)) in
      ap (l.add (l.mul (dot l ws (map (entry a) xs)) (f i)))
      (sum-of-polynomials f entry ws xs (suc i) (a + 1) count)
      ∙ sym (dot-combined laws (entry a) rest (f i) ws xs)

  module _ {F : Type 0} (k : FieldOps F) (gen : ℕ → Coordinates F) (m : F → E)
      (n log_chunks : ℕ) (basis : List E) where
    -- a column's coefficients, entry by entry
    entries : (c : WideColumn F) → length c.coefficients ≡ 2 ^ n →
        map m c.coefficients
        ≡ map (λ t. m (slice_index_or c.coefficients t k.zero)) (range_with_len 0 (2 ^ n))
    entries c long =
        fill_by_all (λ t. m (slice_index_or c.coefficients t k.zero)) (map m c.coefficients)
        (2 ^ n) (m k.zero) (length-map c.coefficients m ∙ long)
        (λ t lt. read-map m c.coefficients t k.zero)

    pub combined-value : (chunk : List (WideColumn F)) →
        All (λ c. length c.coefficients ≡ 2 ^ n) chunk → (q : Coordinates E) →
        (let c = combined_chunk k gen l m n log_chunks basis chunk in
        wide_value l n c.coefficients c.multiple q)
        ≡ dot l basis (map (λ c. wide_at k gen l m n log_chunks c q) chunk)
    combined-value chunk long q =
        let v = vanishing l n q in
        let js = range_with_len 0 (2 ^ n) in
        let entry = λ (t : ℕ) (c : WideColumn F). m (slice_index_or c.coefficients t k.zero) in
        let polynomial = λ (c : WideColumn F). value l (map m c.coefficients) q in
        let multiple = λ (c : WideColumn F). m c.multiple in
        let scaled = l.mul (dot l basis (map multiple chunk)) v in
        ap (λ x. l.add x scaled)
        (sum-of-polynomials (λ j. circle_basis l j q) entry basis chunk 0 0 (2 ^ n)
        ∙ ap (dot l basis)
        (map-agree (λ c. value l (map (λ t. entry t c) js) q) polynomial chunk
        (λ i d lt. ap (λ cs. value l cs q)
        (sym (entries (slice_index_or chunk i d) (long i d lt))))))
        ∙ laws.add_comm (dot l basis (map polynomial chunk)) scaled
        ∙ sym (dot-combined laws multiple polynomial v basis chunk)
        ∙ ap (dot l basis)
        (map-agree (λ c. l.add (l.mul (multiple c) v) (polynomial c))
        (λ c. wide_at k gen l m n log_chunks c q) chunk
        (λ i d lt. let c = slice_index_or chunk i d in
        laws.add_comm (l.mul (multiple c) v) (polynomial c)))

    -- of all chunks
    pub combined-values : (chunks : List (List (WideColumn F))) →
        All (All (λ c. length c.coefficients ≡ 2 ^ n)) chunks → (q : Coordinates E) →
        map (dot l basis)
        (map (λ chunk. map (λ c. wide_at k gen l m n log_chunks c q) chunk) chunks)
        ≡ map (λ c. wide_value l n c.coefficients c.multiple q)
        (map (combined_chunk k gen l m n log_chunks basis) chunks)
    combined-values chunks long q =
        let of_columns = λ (chunk : List (WideColumn F)).
        map (λ c. wide_at k gen l m n log_chunks c q) chunk in
        let whole = combined_chunk k gen l m n log_chunks basis in
        map-map (dot l basis) of_columns chunks
        ∙ map-agree (λ chunk. dot l basis (of_columns chunk))
        (λ chunk. wide_value l n (whole chunk).coefficients (whole chunk).multiple q) chunks
        (λ i d lt. sym (combined-value (slice_index_or chunks i d) (long i d lt) q))
        ∙ sym
        (map-map (λ (c : WideColumn E). wide_value l n c.coefficients c.multiple q) whole chunks)
