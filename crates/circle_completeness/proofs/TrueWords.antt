-- The codeword of a height, where all claims are true: it is the values of a polynomial with 2^n
-- coefficients plus a multiple of v_n.
use Rattle.std.specs.Prelude.{◌≡◌, ◌≢◌, ◌↔◌, ℕ, ◌+◌, ◌-◌, ◌*◌, ◌^◌, ◌<◌, ◌==◌, Bool, true, false}
use Rattle.std.specs.Prelude.{if◌then◌else◌, List, [], ◌∷◌, ◌++◌, length, map, All, slice_index_or}
use Rattle.std.proofs.Common.{suc, refl, sym, ◌∙◌, ap, subst, arith}
use Rattle.std.proofs.lemmas.Bool.{eqb-true}
use Rattle.std.proofs.lemmas.List.{length-map, get_or-map}
use Rattle.std.proofs.lemmas.List.FromFn.{fill_by_all}
use Rattle.std.proofs.lemmas.List.Elements.{All-head, All-tail}
use Rattle.circle_field.specs.Field.{FieldLaws, IsEmbedding, nth_power}
use Rattle.circle_field.specs.Circle.{Coordinates, AreGenerators, IsOnCircle, lifted, origin}
use Rattle.circle_field.specs.CircleGroup.{lifted-on_circle}
use Rattle.circle_point.specs.Basis.{value, vanishing}
use Rattle.circle_point.specs.Projective.{from_line}
use Rattle.circle_point.proofs.Projections.{line_norm-zero, from_line-on_circle}
use Rattle.circle_commit.specs.DotProduct.{pairwise}
use Rattle.circle_domain.specs.Layers.{factor}
use Rattle.circle_domain.specs.Values.{values_at, lifted_values_at}
use Rattle.circle_domain.proofs.CosetOrder.{length-cfft_order}
use Rattle.circle_domain.proofs.Lifted.{lifted-vanishing}
use Rattle.circle_folding.specs.Quotient.{claim_quotient}
use Rattle.circle_folding.specs.Spans.{Splits}
use Rattle.circle_relation.specs.Sums.{reduced}
use Rattle.circle_relation.specs.Accepts.{Fields}
use Rattle.circle_relation.specs.Statement.{PointClaim}
use Rattle.circle_codewords.specs.Ratios.{points_of_height}
use Rattle.circle_codewords.specs.Words.{Committed, claims_on, claims_at, reduced_word}
use Rattle.circle_codewords.proofs.DomainPoints.{order-on}
use Rattle.circle_codewords.proofs.Quotients.{real-nonzero, double-nonzero}
use Rattle.circle_completeness.specs.LowDegree.{AreColumns, IsTrueClaim, IsTrue}
use Rattle.circle_completeness.proofs.NearLow.{IsNearLow, near-same, near-constant, near-sum}
use Rattle.circle_completeness.proofs.NearLow.{near-scaled}
use Rattle.circle_completeness.proofs.TrueQuotients.{near-claim}

pub pairwise-map : {A B C D : Type 0} (f : B → C → D) (a : A → B) (b : A → C) (xs : List A) →
    pairwise f (map a xs) (map b xs) ≡ map (λ x. f (a x) (b x)) xs
pairwise-map f a b [] = refl
pairwise-map f a b (x ∷ xs) = ap (λ rest. f (a x) (b x) ∷ rest) (pairwise-map f a b xs)

module _ {F E : Type 0} (k : Fields F E) (base : FieldLaws k.field) (laws : FieldLaws k.extension)
    (e : IsEmbedding k.field k.extension k.embed)
    (eq : E → E → Bool) (eq_law : (a b : E) → (eq a b ≡ true) ↔ (a ≡ b)) {bits : ℕ}
    (gens : AreGenerators k.field bits k.gen)
    (blowup h : ℕ) (below : blowup < h) (fits : h < bits) (alpha : E) where
  abbrev points : List (Coordinates F)
  points = points_of_height k.field k.gen h

  long : length points ≡ 2 ^ h
  long = length-cfft_order base.ring gens h (k.gen (h + 1)) (omega (arith, below))

  -- a place in the codeword
  abbrev Place : Type 0
  Place = (i : ℕ) × (i < 2 ^ h)

  abbrev x : Place → Coordinates F
  x t = slice_index_or points t.0 (origin k.field)

  abbrev there : Place → Coordinates E
  there t = lifted k.embed (x t)

  abbrev b : ℕ
  b = h - blowup - 1

  width_is : suc b ≡ h - blowup
  width_is = omega (arith, below)

  abbrev IsNear : (Place → E) → Type 0
  IsNear = IsNearLow laws there (suc b)

  on : (t : Place) → IsOnCircle k.extension (there t)
  on t =
      lifted-on_circle e (x t)
      (order-on k.field base.ring gens h (k.gen (h + 1)) (omega (arith, fits))
      (omega (arith, below)) (gens.on_circle (h + 1) (omega (arith, fits))) t.0 (origin k.field)
      (let lt : t.0 < length points = omega (arith, long, t.1) in lt))

  -- the claims on one matrix, and whatever follows
  near-claims : (row : Place → List F) (rest : Place → List (PointClaim E × List F)) →
      ((columns : ℕ) → IsNear (λ t. reduced k.extension k.embed alpha columns (x t) (rest t))) →
      (claims : List (PointClaim E)) →
      All
      (λ c. IsNear
      (λ t. claim_quotient k.extension k.embed alpha (x t) (from_line k.extension c.point)
      (row t) c.values)) claims →
      (columns : ℕ) →
      IsNear
      (λ t. reduced k.extension k.embed alpha columns (x t)
      (map (λ c. (c, row t)) claims ++ rest t))
  near-claims row rest after [] each columns = after columns
  near-claims row rest after (c ∷ claims) each columns =
      let P : PointClaim E → Type 0 =
      λ c. IsNear
      (λ t. claim_quotient k.extension k.embed alpha (x t) (from_line k.extension c.point)
      (row t) c.values) in
      let q : Place → E =
      λ t. claim_quotient k.extension k.embed alpha (x t) (from_line k.extension c.point)
      (row t) c.values in
      let power = nth_power k.extension alpha (2 * columns) in
      near-sum laws there (suc b) (λ t. k.extension.mul power (q t))
      (λ t. reduced k.extension k.embed alpha (columns + length c.values) (x t)
      (map (λ c. (c, row t)) claims ++ rest t))
      (near-scaled laws there (suc b) power q (All-head P c claims each))
      (near-claims row rest after claims (All-tail P c claims each) (columns + length c.values))

  -- one claim
  near-true : (m : Committed F E) → m.log_height ≡ h → (width : ℕ) (coeffs : List (List F)) →
      AreColumns k blowup m width coeffs → (c : PointClaim E) →
      IsTrueClaim k blowup m width coeffs c →
      IsNear (λ t. claim_quotient k.extension k.embed alpha (x t) (from_line k.extension c.point)
      (slice_index_or m.rows t.0 []) c.values)
  near-true m same width coeffs columns c claim =
      let z = from_line k.extension c.point in
      let on_z =
      from_line-on_circle laws c.point
      (λ none. claim.finite (line_norm-zero laws c.point none)) in
      let is_rows : map (values_at k.field coeffs width) points ≡ m.rows =
      ap (λ i. map (values_at k.field coeffs width) (points_of_height k.field k.gen i)) (sym same)
      ∙ columns.values in
      let apart : (t : Place) → there t ≢ z = λ t.
      subst (λ i. All (λ p. lifted k.embed p ≢ z) (points_of_height k.field k.gen i)) same
      claim.apart t.0 (origin k.field)
      (let lt : t.0 < length points = omega (arith, long, t.1) in lt) in
      let count : length coeffs ≡ 2 ^ suc b = columns.count ∙ ap (λ i. 2 ^ (i - blowup)) same
      ∙ ap (λ i. 2 ^ i) (sym width_is) in
      let row : (t : Place) → slice_index_or m.rows t.0 [] ≡ values_at k.field coeffs width (x t) =
      λ t.
      ap (λ rs. slice_index_or rs t.0 []) (sym is_rows)
      ∙ get_or-map (values_at k.field coeffs width) points t.0 (origin k.field) []
      (let lt : t.0 < length points = omega (arith, long, t.1) in lt) in
      near-same laws there
      (λ t. claim_quotient k.extension k.embed alpha (x t) z
      (values_at k.field coeffs width (x t))
      (lifted_values_at k.field.zero k.extension k.embed coeffs width z))
      (λ t. claim_quotient k.extension k.embed alpha (x t) z (slice_index_or m.rows t.0 [])
      c.values)
      (λ t.
      ap (λ r. claim_quotient k.extension k.embed alpha (x t) z r c.values) (row t)
      ∙ ap (claim_quotient k.extension k.embed alpha (x t) z (values_at k.field coeffs width (x t)))
      claim.values)
      (near-claim laws e x z on_z on
      (λ t. real-nonzero laws eq eq_law k.embed (x t) z (on t) on_z (apart t))
      (λ t. double-nonzero laws eq eq_law k.embed (x t) z (on t) on_z (apart t)) b alpha coeffs
      width count)

  -- all matrices
  near-matrices : (ms : List (Committed F E)) → All (IsTrue k blowup) ms → (columns : ℕ) →
      IsNear (λ t. reduced k.extension k.embed alpha columns (x t) (claims_at h ms t.0))
  near-matrices [] each columns = near-constant laws there (suc b) k.extension.zero
  near-matrices (m ∷ ms) each columns =
      let true_m = All-head (IsTrue k blowup) m ms each in
      let after = near-matrices ms (All-tail (IsTrue k blowup) m ms each) in
      let by_test : (test : Bool) → (m.log_height == h) ≡ test →
      IsNear
      (λ t. reduced k.extension k.embed alpha columns (x t)
      ((if test then claims_on m t.0 else []) ++ claims_at h ms t.0)) = elim [
        | true ↦ λ yes.
            near-claims (λ t. slice_index_or m.rows t.0 []) (λ t. claims_at h ms t.0) after m.claims
            (λ i d lt. near-true m (eqb-true m.log_height h yes) true_m.width true_m.coeffs
            true_m.columns (slice_index_or m.claims i d) (true_m.claims i d lt)) columns
        | false ↦ λ no. after columns
      ] in
      by_test (m.log_height == h) refl

  -- the codeword
  pub true-split : (ms : List (Committed F E)) → All (IsTrue k blowup) ms →
      (low : List E) × (multiple : E) × Splits k.field k.gen k.extension k.embed blowup h
      (reduced_word k alpha ms h) low multiple
  true-split ms each =
      let near = near-matrices ms each 0 in
      let l = k.extension in
      let a = λ (p : Coordinates F). value l near.low (lifted k.embed p) in
      let v = λ (p : Coordinates F). k.embed (vanishing k.field (h - blowup) p) in
      let f = λ (s t : E). l.add s (l.mul near.multiple t) in
      let g = λ (i : ℕ). reduced l k.embed alpha 0 (slice_index_or points i (origin k.field))
      (claims_at h ms i) in
      let last : h - blowup - 1 ≡ b = refl in
      let is_v : (p : Coordinates F) → v p ≡ factor l (suc b) (lifted k.embed p) =
      λ p. lifted-vanishing e (h - blowup) p in
      let total = λ (p : Coordinates F). f (a p) (v p) in
      let is_word : map total points ≡ reduced_word k alpha ms h =
      fill_by_all g (map total points) (2 ^ h) l.zero (length-map points total ∙ long)
      (λ i lt.
      get_or-map total points i (origin k.field) l.zero (let short : i < length points =
      omega (arith, long, lt) in short)
      ∙ ap (λ u. f (a (x (i, lt))) u) (is_v (x (i, lt))) ∙ sym (near.values (i, lt))) in (
        map a points,
        near.multiple,
        record {
          span =
              (near.low, record { count = near.count ∙ ap (λ i. 2 ^ i) width_is; values = refl });
          sum = sym is_word ∙ sym (pairwise-map f a v points);
        },
      )
