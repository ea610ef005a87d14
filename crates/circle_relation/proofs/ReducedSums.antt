-- Sums of quotients, claim after claim.
use Rattle.std.specs.Prelude.{◌≡◌, ℕ, ◌+◌, ◌*◌, ◌<◌, List, [], ◌∷◌, ◌++◌, length, slice_index_or}
use Rattle.std.proofs.Common.{refl, sym, ◌∙◌, ap, arith}
use Rattle.std.proofs.lemmas.List.{append_assoc, append-nil}
use Rattle.circle_field.specs.Field.{FieldOps, RingLaws, nth_power}
use Rattle.circle_field.specs.RingFacts.{add_zero}
use Rattle.circle_field.specs.Circle.{Coordinates}
use Rattle.circle_field.proofs.Powers.{nth_power-+}
use Rattle.circle_point.specs.Projective.{from_line}
use Rattle.circle_commit.proofs.Written.{length-pairwise, pairwise-read}
use Rattle.circle_commit.specs.DotProduct.{pairwise}
use Rattle.circle_folding.specs.Quotient.{claim_quotient}
use Rattle.circle_folding.specs.Queries.{claim_quotients, with_multiples}
use Rattle.circle_relation.specs.Statement.{PointClaim}
use Rattle.circle_relation.specs.Sums.{reduced, Adds}

module _ {F E : Type 0} (l : FieldOps E) (embed : F → E) (alpha : E) (points : List (Coordinates F))
    (none : Coordinates F) where
  abbrev Claimed : Type 0
  Claimed = ℕ → List (PointClaim E × List F)

  pub adds-none : (offset : E) (sums : List E) →
      Adds l embed alpha points none (λ j. []) offset offset sums sums
  adds-none offset sums =
      record { counted = refl; added = λ columns e. (columns, e, λ j rest lt. refl) }

  -- some claims, and then others
  pub adds-both : (first second : Claimed) (a b c : E) (xs ys zs : List E) →
      Adds l embed alpha points none first a b xs ys
      → Adds l embed alpha points none second b c ys zs →
      Adds l embed alpha points none (λ j. first j ++ second j) a c xs zs
  adds-both first second a b c xs ys zs p q = record {
    counted = q.counted ∙ p.counted;
    added = λ columns e.
        let one = p.added columns e in
        let two = q.added one.0 one.1 in (
          two.0,
          two.1,
          λ j rest lt.
              let x = slice_index_or points j none in
              two.2 j rest (omega (arith, lt, p.counted)) ∙ one.2 j (second j ++ rest) lt
              ∙ ap (λ cs. l.add (slice_index_or xs j l.zero) (reduced l embed alpha columns x cs))
              (sym (append_assoc (first j) (second j) rest)),
        );
  }

  -- the same claims at each query
  pub adds-same : (first second : Claimed) (a b : E) (xs ys : List E) →
      Adds l embed alpha points none first a b xs ys
      → ((j : ℕ) → j < length xs → first j ≡ second j) →
      Adds l embed alpha points none second a b xs ys
  adds-same first second a b xs ys p same = record {
    counted = p.counted;
    added = λ columns e.
        let one = p.added columns e in (
          one.0,
          one.1,
          λ j rest lt.
              one.2 j rest lt
              ∙ ap
              (λ cs. l.add (slice_index_or xs j l.zero)
              (reduced l embed alpha columns (slice_index_or points j none) (cs ++ rest)))
              (same j lt),
        );
  }

module _ {F E : Type 0} {l : FieldOps E} (laws : RingLaws l) (embed : F → E) (alpha : E)
    (points : List (Coordinates F)) (none : Coordinates F) where
  -- one claim
  pub adds-claim : (claim : PointClaim E) (z : Coordinates E) (rows : List (List F))
      (offset power : E) (old new : List E) →
      z ≡ from_line l claim.point → power ≡ nth_power l alpha (length claim.values) →
      length points ≡ length old → length rows ≡ length old
      → new ≡ with_multiples l offset old (claim_quotients l embed alpha points z rows claim.values)
      → Adds l embed alpha points none (λ j. (claim, slice_index_or rows j []) ∷ []) offset
      (l.mul (l.mul offset power) power) old new
  adds-claim claim z rows offset power old new is_z is_power of_points of_rows is =
      let w = length claim.values in
      let q = λ (x : Coordinates F) (row : List F). claim_quotient l embed alpha x z row
      claim.values in
      let qs = pairwise q points rows in
      let f = λ (s t : E). l.add s (l.mul offset t) in
      let counted_qs : length qs ≡ length points =
      length-pairwise q points rows (of_points ∙ sym of_rows) in
      record {
        counted = ap length is ∙ length-pairwise f old qs (sym (counted_qs ∙ of_points));
        added = λ columns e.
            let sum : 2 * columns + w + w ≡ 2 * (columns + w) = omega arith in
            let after : l.mul (l.mul offset power) power ≡ nth_power l alpha (2 * (columns + w)) =
            ap (λ o. l.mul (l.mul o power) power) e
            ∙ ap (λ p. l.mul (l.mul (nth_power l alpha (2 * columns)) p) p) is_power
            ∙ ap (λ o. l.mul o (nth_power l alpha w)) (sym (nth_power-+ laws alpha (2 * columns) w))
            ∙ sym (nth_power-+ laws alpha (2 * columns + w) w) ∙ ap (nth_power l alpha) sum in (
              columns + w,
              after,
              λ j rest lt.
                  let x = slice_index_or points j none in
                  let row = slice_index_or rows j [] in
                  let s = slice_index_or old j l.zero in
                  let left = reduced l embed alpha (columns + w) x rest in
                  let read : slice_index_or new j l.zero ≡ l.add s (l.mul offset (q x row)) =
                  ap (λ ss. slice_index_or ss j l.zero) is
                  ∙ pairwise-read f old qs j l.zero l.zero l.zero lt
                  (omega (arith, lt, counted_qs, of_points))
                  ∙ ap (f s)
                  (pairwise-read q points rows j none [] l.zero (omega (arith, lt, of_points))
                  (omega (arith, lt, of_rows))) in
                  ap (λ t. l.add t left) read ∙ laws.add_assoc s (l.mul offset (q x row)) left
                  ∙ ap (λ o. l.add s (l.add (l.mul o (q x row)) left)) e
                  ∙ ap
                  (λ y. l.add s
                  (l.add
                  (l.mul (nth_power l alpha (2 * columns))
                  (claim_quotient l embed alpha x y row claim.values)) left)) is_z,
            );
      }

  -- what is added to zero, from the first power on
  pub adds-all : (claims : ℕ → List (PointClaim E × List F)) (after : E) (old new : List E) →
      Adds l embed alpha points none claims l.one after old new
      → (j : ℕ) → j < length old → slice_index_or old j l.zero ≡ l.zero
      → slice_index_or new j l.zero ≡ reduced l embed alpha 0 (slice_index_or points j none)
      (claims j)
  adds-all claims after old new adds j lt begun =
      let x = slice_index_or points j none in
      let all = adds.added 0 refl in
      sym (add_zero laws (slice_index_or new j l.zero)) ∙ all.2 j [] lt
      ∙ ap (λ s. l.add s (reduced l embed alpha 0 x (claims j ++ []))) begun
      ∙ laws.zero_add (reduced l embed alpha 0 x (claims j ++ []))
      ∙ ap (reduced l embed alpha 0 x) (append-nil (claims j))
