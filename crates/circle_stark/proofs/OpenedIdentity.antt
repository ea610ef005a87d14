-- Where the identity holds of opened values, it holds of the columns that they are values of.
use Rattle.std.specs.Prelude.{◌≡◌, ◌↔◌, ℕ, ◌+◌, ◌^◌, ◌≤◌, Bool, true, List, length, map, take, All}
use Rattle.std.specs.Int.{is_power_of_two}
use Rattle.std.proofs.Common.{sym, ◌∙◌, ap, refl}
use Rattle.circle_field.specs.Extension.{AreCoefficients}
use Rattle.circle_field.specs.Field.{FieldOps, FieldLaws, IsEmbedding}
use Rattle.circle_field.specs.Circle.{Coordinates, AreGenerators, lifted}
use Rattle.circle_field.specs.CircleGroup.{plus-on_circle}
use Rattle.circle_point.specs.Basis.{vanishing}
use Rattle.circle_point.specs.Projective.{from_line, to_line}
use Rattle.circle_point.proofs.Projections.{from_line-to_line}
use Rattle.circle_commit.specs.DotProduct.{dot}
use Rattle.circle_domain.specs.Order.{natural_order}
use Rattle.circle_domain.specs.Selectors.{next_from}
use Rattle.circle_domain.proofs.Lifted.{lifted-generators}
use Rattle.circle_domain.proofs.Twiddles.{map-map}
use Rattle.circle_domain.proofs.Walking.{half_turn-by_x, nonzero_next}
use Rattle.circle_air.specs.Values.{Window}
use Rattle.circle_quotient.specs.Basis.{AreBasis}
use Rattle.circle_quotient.specs.Composition.{composition}
use Rattle.circle_quotient.specs.Fit.{IsFit}
use Rattle.circle_quotient.specs.Identity.{HasWideIdentity, IsWideWindowAt, WideColumn}
use Rattle.circle_quotient.specs.Identity.{values_of_parts, wide_at}
use Rattle.circle_folding.specs.WideSpans.{wide_value}
use Rattle.circle_quotient.specs.Recomposition.{part_values, recomposed}
use Rattle.circle_quotient.specs.Window.{IsWindowOf, selectors_at}
use Rattle.circle_quotient.proofs.FitPoints.{finite-on_circle}
use Rattle.circle_stark.specs.Accepts.{HasIdentity}
use Rattle.circle_stark.specs.Linked.{OpensColumns, combined_chunk}
use Rattle.circle_stark.specs.Statement.{OpenedValues, Statement}
use Rattle.circle_stark.proofs.CombinedChunks.{combined-values}
use Rattle.circle_stark.proofs.Fixed.{same-quotient, same-window}

module _ {F E : Type 0} {k : FieldOps F} {l : FieldOps E} {m : F → E} (big : FieldLaws l)
    (e : IsEmbedding k l m) {gen : ℕ → Coordinates F} {bits : ℕ} (gens : AreGenerators k bits gen)
    (eq : E → E → Bool) (law : (a b : E) → (eq a b ≡ true) ↔ (a ≡ b)) (n : ℕ) (fits : n ≤ bits)
    (zeta : E) (fit : IsFit l m gen n zeta) where
  -- the coordinate of the point that follows leads back to it
  pub next-there : from_line l (to_line l (next_from l m gen n zeta)) ≡ next_from l m gen n zeta
  next-there =
      let next = next_from l m gen n zeta in
      let on = plus-on_circle big.ring (from_line l zeta) (lifted m (gen n))
      (finite-on_circle big zeta fit.finite) ((lifted-generators e gens).on_circle n fits) in
      from_line-to_line big next on
      (nonzero_next big next.x (λ turn. fit.has_next (half_turn-by_x big eq law next on turn)))

module _ {F E : Type 0} {k : FieldOps F} {l : FieldOps E} {m : F → E} (big : FieldLaws l)
    {gen : ℕ → Coordinates F} {degree : ℕ} {coefficients : E → List F}
    (told : AreCoefficients k l m degree coefficients) (log_chunks : ℕ) (s : Statement F)
    (powers : All (λ column. is_power_of_two (length column) ≡ true) s.parts.periodic_columns)
    (v : OpenedValues E) (alpha zeta : E)
    (there : from_line l (to_line l (next_from l m gen s.log_n zeta))
    ≡ next_from l m gen s.log_n zeta)
    (identity : HasIdentity k gen l m s coefficients degree log_chunks v alpha zeta)
    (columns : List (WideColumn F)) (chunks : List (List (WideColumn F)))
    (opens : OpensColumns k gen l m s.log_n log_chunks columns chunks zeta
    (to_line l (next_from l m gen s.log_n zeta)) v) where
  abbrev point : Coordinates E
  point = from_line l zeta

  -- a window of the columns is one of the opened values
  opened-reads : (w : Window E) →
      IsWideWindowAt k gen l m s.log_n log_chunks s.parts columns s.public_values point w →
      IsWindowOf k gen l m s.log_n s.parts s.public_values point v.local v.next w
  opened-reads w reads = record {
    local = reads.local ∙ sym opens.local;
    next =
        reads.next
        ∙ ap (λ q. map (λ c. wide_at k gen l m s.log_n log_chunks c q) columns) (sym there)
        ∙ sym opens.next_row;
    periodic_count = reads.periodic_count;
    periodic = reads.periodic;
    public = reads.public;
  }

  -- the quotient is recomposed from the chunks' polynomials
  recomposed-chunks : (basis : List E) → AreBasis k coefficients degree basis →
      All (All (λ c. length c.coefficients ≡ 2 ^ s.log_n)) chunks →
      identity.quotient
      ≡ recomposed l (values_of_parts k gen l m s.log_n log_chunks)
      (map (λ c. wide_value l s.log_n c.coefficients c.multiple point)
      (map (combined_chunk k gen l m s.log_n log_chunks basis) chunks))
      (vanishing l s.log_n point)
  recomposed-chunks basis of_basis long =
      let n = s.log_n in
      let at = vanishing l n point in
      let parts = map m (part_values k gen n log_chunks) in
      let points = take (2 ^ log_chunks)
      (natural_order k gen (n + log_chunks) (gen (n + log_chunks + 1))) in
      same-quotient told gen n log_chunks v.chunks point identity.quotient
      (recomposed l parts (map (dot l basis) v.chunks) at) identity.recomposed
      (basis, of_basis, refl)
      ∙ ap (λ xs. recomposed l xs (map (dot l basis) v.chunks) at)
      (map-map m (vanishing k n) points)
      ∙ ap (λ cs. recomposed l (values_of_parts k gen l m n log_chunks) cs at)
      (ap (map (dot l basis)) opens.of_chunks
      ∙ combined-values big.ring k gen m n log_chunks basis chunks long point)

  -- so the identity holds of the columns
  pub of-columns : (basis : List E) → AreBasis k coefficients degree basis →
      All (All (λ c. length c.coefficients ≡ 2 ^ s.log_n)) chunks →
      HasWideIdentity k gen l m s.log_n log_chunks s.parts columns s.public_values alpha
      (map (combined_chunk k gen l m s.log_n log_chunks basis) chunks) point
  of-columns basis of_basis long w reads =
      let window = identity.composed.window in
      ap (λ x. composition l m s.parts x (selectors_at k gen l m s.log_n point) alpha)
      (same-window s.log_n s.parts s.public_values point v.local v.next w window powers
      (opened-reads w reads) identity.composed.reads)
      ∙ sym identity.composed.sum ∙ identity.equal
      ∙ ap (l.mul (vanishing l s.log_n point)) (recomposed-chunks basis of_basis long)
