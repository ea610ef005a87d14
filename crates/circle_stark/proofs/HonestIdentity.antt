-- The identity at the drawn point holds of what an honest prover opens.
use Rattle.std.specs.Prelude.{◌≡◌, ◌≢◌, ℕ, ◌+◌, ◌^◌, ◌<◌, ◌≤◌, List, length, map, take, All}
use Rattle.std.proofs.Common.{sym, ◌∙◌, ap}
use Rattle.std.proofs.lemmas.List.{length-map}
use Rattle.circle_field.specs.Extension.{AreCoefficients}
use Rattle.circle_field.specs.Field.{FieldOps, FieldLaws, IsEmbedding}
use Rattle.circle_field.specs.Circle.{Coordinates, IsOnCircle, AreGenerators}
use Rattle.circle_point.specs.Basis.{value, vanishing}
use Rattle.circle_commit.specs.DotProduct.{dot}
use Rattle.circle_domain.specs.Order.{natural_order}
use Rattle.circle_domain.specs.Values.{values_at, lifted_values_at}
use Rattle.circle_domain.proofs.Twiddles.{map-map}
use Rattle.circle_air.specs.Degrees.{degree_of_parts}
use Rattle.circle_air.specs.Parts.{Parts}
use Rattle.circle_air.specs.Satisfies.{Satisfies}
use Rattle.circle_air.specs.Valid.{IsValid}
use Rattle.circle_air.specs.Values.{Window}
use Rattle.circle_quotient.specs.Basis.{AreBasis}
use Rattle.circle_quotient.specs.Composition.{composition}
use Rattle.circle_quotient.specs.Quotient.{AreQuotientsOfColumns}
use Rattle.circle_quotient.specs.Recomposition.{part_values, recomposed}
use Rattle.circle_quotient.specs.Window.{IsWindowOf, next_point, selectors_at}
use Rattle.circle_quotient.proofs.Sizes.{recomposes}
use Rattle.circle_stark.proofs.ChunkPolynomials.{AreBaseChunksOf, elements_of, chunk-there}
use Rattle.circle_stark.proofs.ChunkPolynomials.{chunk-counts, chunk-values}
use Rattle.circle_stark.proofs.OpenedColumns.{columns_of, length-columns_of, are-columns}
use Rattle.circle_stark.proofs.OpenedColumns.{are-values, opened-window}

module _ {F E : Type 0} {k : FieldOps F} {l : FieldOps E} {m : F → E} (base : FieldLaws k)
    (big : FieldLaws l) (e : IsEmbedding k l m) {gen : ℕ → Coordinates F} {bits : ℕ}
    (gens : AreGenerators k bits gen) {degree : ℕ} {coefficients : E → List F}
    (are : AreCoefficients k l m degree coefficients) (n kk : ℕ) (positive : 1 ≤ n) (some : 1 ≤ kk)
    (fits : n + kk < bits) (p : Parts F) (valid : IsValid p) (rows : List (List F))
    (public : List F) (satisfied : Satisfies k p rows public)
    (enough : degree_of_parts p ≤ 2 ^ kk + 1)
    (periods : All (λ c. length c ≤ 2 ^ n) p.periodic_columns) where
  -- of rows that satisfy the constraints the coefficients are opened at q, and those of the chunks
  -- of the quotient's values: the constraints put together are the vanishing polynomial times the
  -- quotient
  pub honest-identity : (coeffs : List (List F)) → length coeffs ≡ 2 ^ n →
      map (values_at k coeffs p.width) (natural_order k gen n (gen (n + 1))) ≡ rows →
      (extended : List (List F)) →
      extended
      ≡ map (values_at k coeffs p.width) (natural_order k gen (n + kk) (gen (n + kk + 1))) →
      (alpha : E) (values : List E) →
      AreQuotientsOfColumns k gen l m n kk p extended public alpha values →
      (chunks : List (List (List F))) → length chunks ≡ 2 ^ kk →
      AreBaseChunksOf k gen n kk degree coefficients values chunks →
      (q : Coordinates E) → IsOnCircle l q → vanishing l n q ≢ l.zero → (w : Window E) →
      IsWindowOf k gen l m n p public q (lifted_values_at k.zero l m coeffs p.width q)
      (lifted_values_at k.zero l m coeffs p.width (next_point k gen l m n q)) w →
      (basis : List E) → AreBasis k coefficients degree basis →
      composition l m p w (selectors_at k gen l m n q) alpha
      ≡ l.mul (vanishing l n q)
      (recomposed l (map m (part_values k gen n kk))
      (map (dot l basis) (map (λ c. lifted_values_at k.zero l m c degree q) chunks))
      (vanishing l n q))
  honest-identity coeffs long same extended there alpha values quotients chunks count of_values q on
      off w window basis of_basis =
      let x = vanishing l n q in
      let columns = columns_of k coeffs p.width in
      let of_columns = quotients columns
      (are-values k coeffs p.width gen n positive extended l m kk there) in
      let elements = map (elements_of l m basis) chunks in
      let full = of_columns.count in
      let points = take (2 ^ kk) (natural_order k gen (n + kk) (gen (n + kk + 1))) in
      recomposes base big e gens p valid rows public n kk positive some fits enough periods
      satisfied alpha q on off columns values elements
      (are-columns k coeffs p.width gen n positive rows long same)
      (length-columns_of k coeffs p.width) of_columns
      (record {
        count = length-map chunks (elements_of l m basis) ∙ count;
        counts = chunk-counts base big e are of_basis gens n kk positive fits values full chunks
            count of_values;
        each = chunk-there base big e are of_basis gens n kk positive fits values full chunks
            count of_values;
      })
      w (opened-window k gen l m n p public coeffs q w window)
      ∙ ap (λ xs. l.mul x (recomposed l xs (map (λ c. value l c q) elements) x))
      (sym (map-map m (vanishing k n) points))
      ∙ ap (λ vs. l.mul x (recomposed l (map m (part_values k gen n kk)) vs x))
      (chunk-values base big e are of_basis gens n kk positive fits values full chunks count
      of_values q)
