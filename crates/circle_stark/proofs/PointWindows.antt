-- There is a window of opened values at a point, so the constraints come to a value there.
use Rattle.std.specs.Prelude.{ℕ, ◌^◌, ◌<◌, ◌≤◌, List, [], length, map, All}
use Rattle.std.proofs.Common.{zero, suc, refl, arith}
use Rattle.circle_field.specs.Field.{FieldOps, FieldLaws, IsEmbedding}
use Rattle.circle_field.specs.Circle.{Coordinates, AreGenerators}
use Rattle.circle_point.specs.Projective.{from_line}
use Rattle.circle_air.specs.Parts.{Parts}
use Rattle.circle_air.specs.Valid.{IsValid}
use Rattle.circle_air.specs.Values.{Window, window}
use Rattle.circle_quotient.specs.Composition.{composition}
use Rattle.circle_quotient.specs.Window.{IsWindowOf, selectors_at}
use Rattle.circle_quotient.proofs.Sizes.{periods-of}
use Rattle.circle_quotient.proofs.Windows.{period_values, polynomials-told, window-is}
use Rattle.circle_stark.specs.Accepts.{IsCompositionAt}
use Rattle.circle_stark.specs.Statement.{OpenedValues, Statement}

module _ {F E : Type 0} {k : FieldOps F} {l : FieldOps E} {m : F → E} (base : FieldLaws k)
    (laws : FieldLaws l) (e : IsEmbedding k l m) {gen : ℕ → Coordinates F} {bits : ℕ}
    (gens : AreGenerators k bits gen) where
  -- the values of periodic columns make one of any entries
  window-there : (n : ℕ) → 1 ≤ n → n < bits → (p : Parts F) → IsValid p →
      All (λ c. length c ≤ 2 ^ n) p.periodic_columns → (public : List F) (q : Coordinates E)
      (here after : List E) →
      (w : Window E) × IsWindowOf k gen l m n p public q here after w
  window-there zero positive fits p valid short public q here after =
      absurd (omega (arith, positive))
  window-there (suc j) positive fits p valid short public q here after =
      let have = polynomials-told base laws e gens j fits p.periodic_columns
      (periods-of base laws e gens j fits p.periodic_columns valid.periods short) in
      let is = window-is base laws e gens j fits p {X = Unit {0}} [] (λ x r. l.zero) public have q
      in (
        window here after (period_values base laws e gens j fits p.periodic_columns have q)
            (map m public),
        record {
          local = refl;
          next = refl;
          periodic_count = is.periodic_count;
          periodic = is.periodic;
          public = refl;
        },
      )

  -- the constraints come to a value
  pub composition-there : (s : Statement F) → 1 ≤ s.log_n → s.log_n < bits → IsValid s.parts →
      All (λ c. length c ≤ 2 ^ s.log_n) s.parts.periodic_columns → (v : OpenedValues E)
      (alpha zeta : E) → (value : E) × IsCompositionAt k gen l m s v alpha zeta value
  composition-there s positive fits valid short v alpha zeta =
      let q = from_line l zeta in
      let read = window-there s.log_n positive fits s.parts valid short s.public_values q v.local
      v.next in (
        composition l m s.parts read.0 (selectors_at k gen l m s.log_n q) alpha,
        record { window = read.0; reads = read.1; sum = refl },
      )
