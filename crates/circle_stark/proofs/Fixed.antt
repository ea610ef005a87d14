-- What the identity reads at the drawn point is fixed by the opened values.
use Rattle.std.specs.Prelude.{◌≡◌, ℕ, ◌<◌, ◌^◌, List, [], ◌∷◌, length, map, All}
use Rattle.std.specs.Prelude.{slice_index_or}
use Rattle.std.specs.Int.{is_power_of_two}
use Rattle.std.proofs.Common.{true, zero, suc, sym, ◌∙◌, ap, refl, arith}
use Rattle.std.proofs.lemmas.List.{ext_get_or}
use Rattle.circle_field.specs.Extension.{AreCoefficients}
use Rattle.circle_field.specs.Field.{FieldOps}
use Rattle.circle_field.specs.Circle.{Coordinates}
use Rattle.circle_domain.specs.Periodic.{IsPeriodicValue}
use Rattle.circle_air.specs.Parts.{Parts}
use Rattle.circle_air.specs.Values.{Window, window}
use Rattle.circle_quotient.proofs.Sizes.{is_power_of_two-exponent}
use Rattle.circle_quotient.specs.Basis.{AreBasis}
use Rattle.circle_quotient.specs.Recomposition.{IsRecomposed, part_values, recomposed}
use Rattle.circle_quotient.specs.Composition.{composition}
use Rattle.circle_quotient.specs.Window.{IsWindowOf, selectors_at}
use Rattle.circle_commit.specs.DotProduct.{dot}
use Rattle.circle_point.specs.Basis.{vanishing}
use Rattle.circle_point.specs.Projective.{from_line}
use Rattle.circle_stark.specs.Accepts.{HasIdentity, IsCompositionAt}
use Rattle.circle_stark.specs.Statement.{OpenedValues, Statement}

module _ {F E : Type 0} {k : FieldOps F} {gen : ℕ → Coordinates F} {l : FieldOps E} {m : F → E}
    (n : ℕ) where
  -- the value of a periodic column whose length is a power of two
  of_length : (column : List F) (q : Coordinates E) (v w : E) (j : ℕ) → length column ≡ 2 ^ j →
      IsPeriodicValue k gen l m n column q v → IsPeriodicValue k gen l m n column q w → v ≡ w
  of_length [] q v w j long one other = one.empty refl ∙ sym (other.empty refl)
  of_length (x ∷ []) q v w j long one other =
      one.constant x refl ∙ sym (other.constant x refl)
  of_length (x ∷ y ∷ column) q v w zero long one other = absurd (omega (arith, long))
  of_length (x ∷ y ∷ column) q v w (suc j) long one other =
      let told = one.of_period (suc j) (omega arith) long in
      told.2 ∙ sym (other.only (suc j) (omega arith) long told.0 told.1)

  pub same-periodic : (column : List F) (q : Coordinates E) (v w : E) →
      is_power_of_two (length column) ≡ true → IsPeriodicValue k gen l m n column q v →
      IsPeriodicValue k gen l m n column q w → v ≡ w
  same-periodic column q v w power one other =
      let exponent = is_power_of_two-exponent (length column) power in
      of_length column q v w exponent.0 exponent.1 one other

  -- a window is fixed by the values of the columns, where the periods are powers of two
  pub same-window : (p : Parts F) (public : List F) (q : Coordinates E) (here after : List E)
      (v w : Window E) →
      All (λ column. is_power_of_two (length column) ≡ true) p.periodic_columns →
      IsWindowOf k gen l m n p public q here after v →
      IsWindowOf k gen l m n p public q here after w → v ≡ w
  same-window p public q here after v w powers one other =
      let columns = p.periodic_columns in
      let periodic : v.periodic ≡ w.periodic =
      ext_get_or l.zero v.periodic w.periodic (one.periodic_count ∙ sym other.periodic_count)
      (λ i below.
      let there : i < length columns = omega (arith, below, one.periodic_count) in
      same-periodic (slice_index_or columns i []) q (slice_index_or v.periodic i l.zero)
      (slice_index_or w.periodic i l.zero) (powers i [] there) (one.periodic i there)
      (other.periodic i there)) in
      ap (λ x. window x v.next v.periodic v.public) (one.local ∙ sym other.local)
      ∙ ap (λ x. window w.local x v.periodic v.public) (one.next ∙ sym other.next)
      ∙ ap (λ x. window w.local w.next x v.public) periodic
      ∙ ap (window w.local w.next w.periodic) (one.public ∙ sym other.public)

-- a basis is fixed by its coefficients
pub same-basis : {F E : Type 0} {k : FieldOps F} {l : FieldOps E} {m : F → E} {degree : ℕ}
    {coefficients : E → List F} → AreCoefficients k l m degree coefficients → (xs ys : List E) →
    AreBasis k coefficients degree xs → AreBasis k coefficients degree ys → xs ≡ ys
same-basis {l = l} {degree = degree} told xs ys one other =
    ext_get_or l.zero xs ys (one.count ∙ sym other.count)
    (λ i below.
    let there : i < degree = omega (arith, below, one.count) in
    told.determined (slice_index_or xs i l.zero) (slice_index_or ys i l.zero)
    (one.each i l.zero there ∙ sym (other.each i l.zero there)))

-- the quotient is fixed by the chunks' values
pub same-quotient : {F E : Type 0} {k : FieldOps F} {l : FieldOps E} {m : F → E} {degree : ℕ}
    {coefficients : E → List F} → AreCoefficients k l m degree coefficients →
    (gen : ℕ → Coordinates F) (n kk : ℕ) (chunks : List (List E))
    (q : Coordinates E) (v w : E) →
    IsRecomposed k gen l m coefficients degree n kk chunks q v →
    IsRecomposed k gen l m coefficients degree n kk chunks q w → v ≡ w
same-quotient {k = k} {l = l} {m = m} told gen n kk chunks q v w one other =
    let same = same-basis told one.0 other.0 one.1 other.1 in
    one.2
    ∙ ap
    (λ basis. recomposed l (map m (part_values k gen n kk)) (map (dot l basis) chunks)
    (vanishing l n q)) same
    ∙ sym other.2

module _ {F E : Type 0} (k : FieldOps F) (gen : ℕ → Coordinates F) (l : FieldOps E) (m : F → E)
    (s : Statement F) (v : OpenedValues E) (alpha zeta : E)
    (powers : All (λ column. is_power_of_two (length column) ≡ true) s.parts.periodic_columns) where
  -- what the constraints come to is fixed by the opened values
  same-composition : (x y : E) → IsCompositionAt k gen l m s v alpha zeta x →
      IsCompositionAt k gen l m s v alpha zeta y → x ≡ y
  same-composition x y one other =
      let q = from_line l zeta in
      one.sum
      ∙ ap
      (λ w. composition l m s.parts w
      (selectors_at k gen l m s.log_n q) alpha)
      (same-window s.log_n s.parts s.public_values q v.local v.next one.window other.window powers
      one.reads other.reads)
      ∙ sym other.sum

  module _ (coefficients : E → List F) (degree log_chunks : ℕ)
      (told : AreCoefficients k l m degree coefficients) (value quotient : E)
      (composed : IsCompositionAt k gen l m s v alpha zeta value)
      (recomposes : IsRecomposed k gen l m coefficients degree s.log_n
      log_chunks v.chunks (from_line l zeta) quotient) where
    abbrev pub Matches : Type 0
    Matches =
        value ≡ l.mul (vanishing l s.log_n (from_line l zeta))
        quotient

    pub identity-shown : Matches →
        HasIdentity k gen l m s coefficients degree log_chunks v alpha zeta
    identity-shown equal = record {
      value = value;
      quotient = quotient;
      composed = composed;
      recomposed = recomposes;
      equal = equal;
    }

    pub identity-told : HasIdentity k gen l m s coefficients degree log_chunks v alpha zeta →
        Matches
    identity-told h =
        same-composition value h.value composed h.composed ∙ h.equal
        ∙ ap (l.mul (vanishing l s.log_n (from_line l zeta)))
        (same-quotient told gen s.log_n log_chunks v.chunks (from_line l zeta)
        h.quotient quotient h.recomposed recomposes)
