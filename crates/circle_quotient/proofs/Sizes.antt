-- The laws of the identity, for every size.
use Rattle.std.specs.Prelude.{◌≡◌, ◌≢◌, ℕ, ◌+◌, ◌/◌, ◌%◌, ◌^◌, ◌<◌, ◌≤◌, List, [], ◌∷◌, length}
use Rattle.std.specs.Prelude.{All, true, count_ones}
use Rattle.std.specs.Int.{is_power_of_two}
use Rattle.std.proofs.Common.{zero, suc, sym, arith, ⊎_elim}
use Rattle.std.proofs.Math.Nat.{pow-suc}
use Rattle.std.proofs.lemmas.Bool.{cases_eq}
use Rattle.std.proofs.lemmas.Nat.{ones_le_self, zero_from_ones}
use lib.Count.{ones_step}
use Rattle.circle_field.specs.Field.{FieldOps, FieldLaws, IsEmbedding}
use Rattle.circle_field.specs.Circle.{Coordinates, IsOnCircle, AreGenerators}
use Rattle.circle_point.specs.Basis.{vanishing}
use Rattle.circle_domain.proofs.Powers.{pow_order}
use Rattle.circle_folding.specs.Claims.{AreDistinct}
use Rattle.circle_air.specs.Degrees.{degree_of_parts}
use Rattle.circle_air.specs.Parts.{Parts}
use Rattle.circle_air.specs.Satisfies.{Satisfies}
use Rattle.circle_air.specs.Valid.{IsValid}
use Rattle.circle_quotient.specs.Identity.{Recomposes, Binds, WideColumn}
use Rattle.circle_quotient.proofs.Binding.{satisfied}
use Rattle.circle_quotient.proofs.Identity.{each-of, identity}
use Rattle.circle_quotient.proofs.Places.{all-places}
use Rattle.circle_quotient.proofs.Windows.{ArePeriods, polynomials-told}

-- a number with one bit set is a power of two
exponent : (d n : ℕ) → n ≤ d → count_ones n ≡ 1 → (m : ℕ) × (n ≡ 2 ^ m)
exponent zero n h one = absurd (omega (arith, ones_le_self n, h, one))
exponent (suc d) n h one =
    let step = ones_step n in
    ⊎_elim
    (λ even.
    let half =
    exponent d (n / 2) (omega (arith, h, one, ones_le_self n))
    (omega (arith, step, even, one)) in
    (suc half.0, omega (arith, even, half.1, pow-suc 2 half.0)))
    (λ odd.
    let none : n / 2 ≡ 0 = zero_from_ones (n / 2) (omega (arith, step, odd, one)) in
    (0, omega (arith, none, odd)))
    (cases_eq (n % 2) 0)

pub is_power_of_two-exponent : (n : ℕ) → is_power_of_two n ≡ true → (m : ℕ) × (n ≡ 2 ^ m)
is_power_of_two-exponent n h = exponent n n (omega arith) (grind (arith, h))

-- the lengths of columns as powers of two
pub periods-of : {F E : Type 0} {k : FieldOps F} {l : FieldOps E} {m : F → E} (base : FieldLaws k)
    (laws : FieldLaws l) (e : IsEmbedding k l m) {gen : ℕ → Coordinates F} {bits : ℕ}
    (gens : AreGenerators k bits gen) (j : ℕ) (fits : suc j < bits) (cs : List (List F)) →
    All (λ c. is_power_of_two (length c) ≡ true) cs → All (λ c. length c ≤ 2 ^ suc j) cs →
    ArePeriods base laws e gens j fits cs
periods-of base laws e gens j fits [] powers small = tt
periods-of base laws e gens j fits (c ∷ cs) powers small =
    let power = is_power_of_two-exponent (length c) (powers 0 c (omega arith)) in (
      (
        power.0,
        power.1,
        pow_order power.0 (suc j) (let le = small 0 c (omega arith) in omega (arith, le, power.1)),
      ),
      periods-of base laws e gens j fits cs (λ i d lt. powers (suc i) d (omega (arith, lt)))
          (λ i d lt. small (suc i) d (omega (arith, lt))),
    )

module _ {F E : Type 0} {k : FieldOps F} {l : FieldOps E} {m : F → E} (base : FieldLaws k)
    (laws : FieldLaws l) (e : IsEmbedding k l m) {gen : ℕ → Coordinates F} {bits : ℕ}
    (gens : AreGenerators k bits gen) (p : Parts F) (valid : IsValid p) (rows : List (List F))
    (public : List F) where
  pub recomposes : (n log_chunks : ℕ) → 1 ≤ n → 1 ≤ log_chunks → n + log_chunks < bits →
      degree_of_parts p ≤ 2 ^ log_chunks + 1 →
      All (λ c. length c ≤ 2 ^ n) p.periodic_columns → Satisfies k p rows public → (alpha : E)
      (q : Coordinates E) → IsOnCircle l q → vanishing l n q ≢ l.zero →
      Recomposes k gen l m n log_chunks p rows public alpha q
  recomposes zero log_chunks positive some fits degree short holds alpha q on off columns values
      chunks
      of_rows width of_quotient of_chunks = absurd (omega (arith, positive))
  recomposes (suc j) log_chunks positive some fits degree short holds alpha q on off columns
      values chunks of_rows width of_quotient of_chunks =
      let small : suc j < bits = omega (arith, fits) in
      let have = polynomials-told base laws e gens j small p.periodic_columns
      (periods-of base laws e gens j small p.periodic_columns valid.periods short) in
      identity base laws e gens j small p columns public have alpha log_chunks some fits values
      chunks
      of_quotient of_chunks
      (all-places (λ c. length c ≡ 2 ^ suc j) columns []
      (λ t below. (of_rows.each t below).count)) degree
      (each-of (λ c. length c ≡ 2 ^ suc j) (λ c. length c ≡ 2 ^ suc j) chunks (λ c h. h)
      of_chunks.counts) rows of_rows holds width q on off

  pub binds : (n log_chunks : ℕ) → 1 ≤ n → n < bits → degree_of_parts p ≤ 2 ^ log_chunks + 1 →
      All (λ c. length c ≤ 2 ^ n) p.periodic_columns → All (λ row. length row ≡ p.width) rows →
      length public ≡ p.num_public_values → (alphas : List E) →
      length alphas ≡ length p.constraints → AreDistinct alphas →
      Binds k gen l m n log_chunks p rows public alphas
  binds zero log_chunks positive fits degree short widths public_count alphas count distinct columns
      width counts of_rows evidence = absurd (omega (arith, positive))
  binds (suc j) log_chunks positive fits degree short widths public_count alphas count distinct
      columns
      width counts of_rows evidence =
      let have = polynomials-told base laws e gens j fits p.periodic_columns
      (periods-of base laws e gens j fits p.periodic_columns valid.periods short) in
      satisfied base laws e gens j fits p columns public have
      (each-of (λ (c : WideColumn F). length c.coefficients ≡ 2 ^ suc j)
      (λ (c : WideColumn F). length c.coefficients ≡ 2 ^ suc j) columns (λ c h. h) counts)
      log_chunks
      degree rows of_rows widths width public_count alphas (sym count) distinct evidence
