-- Of rows that are the values of polynomials on the quotient's domain, the quotient's values.
use Rattle.std.specs.Prelude.{◌≡◌, ℕ, ◌+◌, ◌%◌, ◌^◌, ◌<◌, ◌≤◌, List, [], ◌∷◌, map, Some}
use Rattle.std.specs.Prelude.{slice_get}
use Rattle.std.proofs.Common.{sym, ◌∙◌, ap, refl, arith}
use Rattle.std.proofs.lemmas.Nat.{pow_pos}
use Rattle.circle_field.specs.Field.{FieldOps, FieldLaws, IsEmbedding}
use Rattle.circle_field.specs.Circle.{Coordinates, AreGenerators, plus, times, lifted}
use Rattle.circle_field.specs.CircleGroup.{plus_assoc}
use Rattle.circle_point.specs.Basis.{value}
use Rattle.circle_point.proofs.Multiples.{times-+}
use Rattle.circle_domain.specs.Order.{natural_order}
use Rattle.circle_domain.proofs.Blocks.{times-generator}
use Rattle.circle_domain.proofs.Lifted.{lifted-plus}
use Rattle.circle_domain.proofs.LiftedValues.{lifted-value}
use Rattle.circle_domain.proofs.Walking.{standard-at, standard-point}
use Rattle.circle_air.specs.Parts.{Parts}
use Rattle.circle_quotient.specs.Quotient.{AreQuotientsOf, AreQuotientsOfColumns}
use Rattle.circle_quotient.proofs.Places.{point, point-mod}

module _ {F : Type 0} {k : FieldOps F} (laws : FieldLaws k) {gen : ℕ → Coordinates F} {bits : ℕ}
    (gens : AreGenerators k bits gen) (n kk : ℕ) (positive : 1 ≤ n) (fits : n + kk < bits) where
  abbrev total : ℕ
  total = n + kk

  -- 2^kk places on stands the next point of the trace's domain
  pub next-place : (i : ℕ) (s : Coordinates F) →
      slice_get (natural_order k gen total (gen (total + 1))) i ≡ Some s →
      slice_get (natural_order k gen total (gen (total + 1))) ((i + 2 ^ kk) % 2 ^ total)
      ≡ Some (plus k s (gen n))
  next-place i s here =
      let own : 1 ≤ total = omega (arith, positive) in
      let at = point laws gens total own fits in
      let g = gen total in
      let below : (i + 2 ^ kk) % 2 ^ total < 2 ^ total = omega (arith, pow_pos total) in
      let step : times k (2 ^ kk) g ≡ gen n =
      ap (λ t. times k (2 ^ kk) (gen t)) (let same : n + kk ≡ kk + n = omega arith in same)
      ∙ times-generator laws.ring gens kk n (omega (arith, fits)) in
      standard-point laws.ring gens total own fits ((i + 2 ^ kk) % 2 ^ total) below
      ∙ ap Some (point-mod laws gens total own fits (i + 2 ^ kk)
      ∙ ap (plus k (gen (total + 1))) (times-+ laws.ring i (2 ^ kk) g
      ∙ ap (plus k (times k i g)) step)
      ∙ sym (plus_assoc laws.ring (gen (total + 1)) (times k i g) (gen n))
      ∙ ap (λ p. plus k p (gen n)) (sym (standard-at laws.ring gens total own fits i s here)))

module _ {F E : Type 0} {k : FieldOps F} {l : FieldOps E} {m : F → E} (base : FieldLaws k)
    (e : IsEmbedding k l m) {gen : ℕ → Coordinates F} {bits : ℕ} (gens : AreGenerators k bits gen)
    (n kk : ℕ) (positive : 1 ≤ n) (fits : n + kk < bits) where
  lifted-row : (columns : List (List F)) (s : Coordinates F) →
      map m (map (λ c. value k c s) columns) ≡ map (λ c. value l (map m c) (lifted m s)) columns
  lifted-row [] s = refl
  lifted-row (c ∷ cs) s =
      ap (λ v. v ∷ map m (map (λ c. value k c s) cs)) (lifted-value e c s)
      ∙ ap (λ vs. value l (map m c) (lifted m s) ∷ vs) (lifted-row cs s)

  pub quotients-of_columns : (p : Parts F) (rows : List (List F)) (public : List F) (alpha : E)
      (values : List E) → AreQuotientsOf k gen l m n kk p rows public alpha values →
      AreQuotientsOfColumns k gen l m n kk p rows public alpha values
  quotients-of_columns p rows public alpha values are = λ columns of_columns. record {
    count = are.count;
    each = λ i s here w window.
        let next = next-place base gens n kk positive fits i s here in
        are.each i s here w (record {
          local = window.local ∙ sym (ap (map m) (of_columns.each i s here)
              ∙ lifted-row columns s);
          next = window.next
              ∙ ap (λ q. map (λ c. value l (map m c) q) columns) (sym (lifted-plus e s (gen n)))
              ∙ sym (ap (map m) (of_columns.each ((i + 2 ^ kk) % 2 ^ (n + kk))
              (plus k s (gen n)) next) ∙ lifted-row columns (plus k s (gen n)));
          periodic_count = window.periodic_count;
          periodic = window.periodic;
          public = window.public;
        });
  }
