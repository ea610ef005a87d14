-- The quotients of a claim that is true are the values of a polynomial with 2^n coefficients plus a
-- multiple of v_n.
use Rattle.std.specs.Prelude.{◌≡◌, ◌≢◌, ℕ, ◌+◌, ◌^◌, List, [], ◌∷◌, length, map}
use Rattle.std.specs.List.{range_with_len}
use Rattle.std.proofs.Common.{zero, suc, refl, sym, ◌∙◌, ap}
use Rattle.std.proofs.lemmas.List.{length-map}
use Rattle.std.proofs.lemmas.List.FromFn.{length-map-range_with_len}
use Rattle.circle_field.specs.Field.{FieldOps, FieldLaws, IsEmbedding, sub, two, nth_power}
use Rattle.circle_field.specs.Ring.{Expr, var, con, unit, plus as sum, times as prod, minus}
use Rattle.circle_field.specs.RingSound.{ring}
use Rattle.circle_field.specs.RingCombine.{given, combine}
use Rattle.circle_field.specs.RingFacts.{add_neg}
use Rattle.circle_field.specs.Circle.{Coordinates, IsOnCircle, lifted}
use Rattle.circle_point.specs.Basis.{value}
use Rattle.circle_commit.specs.Matrix.{column}
use Rattle.circle_commit.specs.DotProduct.{dot}
use Rattle.circle_commit.proofs.Written.{length-pairwise}
use Rattle.circle_domain.specs.Layers.{factor}
use Rattle.circle_domain.specs.Values.{values_at, lifted_values_at}
use Rattle.circle_domain.proofs.HalfSums.{value-low}
use Rattle.circle_domain.proofs.LiftedValues.{lifted-value}
use Rattle.circle_folding.specs.Quotient.{differences, real_part, imaginary_part, weighted_quotient}
use Rattle.circle_folding.specs.Quotient.{claim_quotient}
use Rattle.circle_completeness.proofs.NearLow.{IsNearLow, constant, plus_multiple, length-constant}
use Rattle.circle_completeness.proofs.NearLow.{value-constant, near-same, near-constant, near-plus}
use Rattle.circle_completeness.proofs.NearLow.{near-scaled}
use Rattle.circle_completeness.proofs.DifferenceQuotients.{near-difference}

-- (re - top im) / (2 re) times d
parted : {E : Type 0} {l : FieldOps E} (laws : FieldLaws l) (top re im d : E) → re ≢ l.zero →
    l.add re re ≢ l.zero →
    l.mul (l.mul (sub l re (l.mul top im)) (l.inv (l.add re re))) d
    ≡ l.add (l.mul (l.inv (two l)) d)
    (l.mul (l.mul (l.mul im (l.inv re)) d) (l.neg (l.mul top (l.inv (two l)))))
parted {l = l} laws top re im d nonzero twice =
    let u = l.inv re in
    let h = l.inv (two l) in
    let v = l.inv (l.add re re) in
    let t : Expr = var 0 in let r : Expr = var 1 in let i : Expr = var 2 in let e : Expr = var 3 in
    let x : Expr = var 4 in let y : Expr = var 5 in let z : Expr = var 6 in
    let env = top ∷ re ∷ im ∷ d ∷ u ∷ h ∷ v ∷ [] in
    let one_u : l.mul re u ≡ l.one = laws.mul_inv re nonzero in
    let one_h : l.mul (two l) h ≡ l.one = laws.mul_inv (two l) laws.two_nonzero in
    let one_v : l.mul (l.add re re) v ≡ l.one = laws.mul_inv (l.add re re) twice in
    let of_v : v ≡ l.mul h u =
    combine laws.ring env z (prod y x)
    (given (minus (prod (prod (con 2) y) z)) (prod r x) unit
    ∷ given (minus z) (prod (sum unit unit) y) unit ∷ given (prod y x) (prod (sum r r) z) unit
    ∷ []) refl (one_u, (one_h, (one_v, tt))) in
    combine laws.ring env
    (prod (prod (sum r (minus (prod t i))) z) e)
    (sum (prod y e) (prod (prod (prod i x) e) (minus (prod t y))))
    (given (prod (sum r (minus (prod t i))) e) z (prod y x) ∷ given (prod y e) (prod r x) unit ∷ [])
    refl
    (of_v, (one_u, tt))

module _ {F E : Type 0} {k : FieldOps F} {l : FieldOps E} {embed : F → E} (laws : FieldLaws l)
    (e : IsEmbedding k l embed)
    {T : Type 0} (x : T → Coordinates F) (z : Coordinates E) (on_z : IsOnCircle l z) (on : (t : T) →
    IsOnCircle l (lifted embed (x t)))
    (nonzero : (t : T) → real_part l embed (x t) z ≢ l.zero) (twice : (t : T) →
    l.add (real_part l embed (x t) z) (real_part l embed (x t) z) ≢ l.zero) (m : ℕ) where
  abbrev pub place : T → Coordinates E
  place t = lifted embed (x t)

  -- differences of the values of a polynomial at the places and at z
  pub record IsDifference (g : T → E) : Type 0 where
    pub coeffs : List E
    pub count : length coeffs ≡ 2 ^ suc m
    pub values : (t : T) → g t ≡ sub l (value l coeffs (place t)) (value l coeffs z)

  no_difference : IsDifference (λ t. l.zero)
  no_difference = record {
    coeffs = constant l (suc m) l.zero;
    count = length-constant l (suc m) l.zero;
    values = λ t.
        sym (add_neg laws.ring l.zero)
        ∙ ap (λ v. sub l v l.zero) (sym (value-constant l laws.ring (suc m) l.zero (place t)))
        ∙ ap (sub l (value l (constant l (suc m) l.zero) (place t)))
        (sym (value-constant l laws.ring (suc m) l.zero z));
  }

  -- sums of the differences of columns, each times its weight
  module _ (f : ℕ → List F) (long : (j : ℕ) → length (f j) ≡ 2 ^ suc m) where
    abbrev weighted : List E → ℕ → ℕ → T → E
    weighted ws a n t =
        dot l ws
        (differences l embed (map (λ j. value k (f j) (x t)) (range_with_len a n))
        (map (λ j. value l (map embed (f j)) z) (range_with_len a n)))

    pub weighted-difference : (ws : List E) (a n : ℕ) → IsDifference (weighted ws a n)
    weighted-difference [] a n = no_difference
    weighted-difference (w ∷ ws) a zero = no_difference
    weighted-difference (w ∷ ws) a (suc n) =
        let rest = weighted-difference ws (a + 1) n in
        let c = map embed (f a) in
        let wide : length c ≡ 2 ^ suc m = length-map (f a) embed ∙ long a in
        let same : length rest.coeffs ≡ length c = rest.count ∙ sym wide in
        let whole = plus_multiple l w rest.coeffs c in
        record {
          coeffs = whole;
          count = length-pairwise (λ a b. l.add a (l.mul b w)) rest.coeffs c same ∙ rest.count;
          values = λ t.
              let p = place t in
              ap (λ v. l.add (l.mul w (sub l v (value l c z))) (weighted ws (a + 1) n t))
              (lifted-value e (f a) (x t))
              ∙ ap (l.add (l.mul w (sub l (value l c p) (value l c z)))) (rest.values t)
              ∙ ring laws.ring (w ∷ value l c p ∷ value l c z ∷ value l rest.coeffs p
              ∷ value l rest.coeffs z ∷ [])
              (sum (prod (var 0) (sum (var 1) (minus (var 2)))) (sum (var 3) (minus (var 4))))
              (sum (sum (var 3) (prod (var 1) (var 0)))
              (minus (sum (var 4) (prod (var 2) (var 0))))) refl
              ∙ ap (λ v. sub l v (l.add (value l rest.coeffs z) (l.mul (value l c z) w)))
              (sym (value-low laws.ring w rest.coeffs c p same))
              ∙ ap (sub l (value l whole p)) (sym (value-low laws.ring w rest.coeffs c z same));
        }

  -- the quotients of such differences
  near-quotient : (top : E) (g : T → E) → IsDifference g →
      IsNearLow laws place (suc m)
      (λ t. l.mul
      (l.mul (sub l (real_part l embed (x t) z) (l.mul top (imaginary_part l embed (x t) z)))
      (l.inv (l.add (real_part l embed (x t) z) (real_part l embed (x t) z)))) (g t))
  near-quotient top g difference =
      let n = suc m in
      let c = difference.coeffs in
      let h = l.inv (two l) in
      let re = λ (t : T). real_part l embed (x t) z in
      let im = λ (t : T). imaginary_part l embed (x t) z in
      let r = λ (t : T). l.mul (im t) (l.inv (re t)) in
      let d = λ (t : T). sub l (value l c (place t)) (value l c z) in
      let values : IsNearLow laws place n (λ t. value l c (place t)) = record {
        low = c;
        multiple = l.zero;
        count = difference.count;
        values = λ t.
            ring laws.ring (value l c (place t) ∷ factor l n (place t) ∷ []) (var 0)
            (sum (var 0) (prod (con 0) (var 1))) refl;
      } in
      let near_d : IsNearLow laws place n d =
      near-same laws place (λ t. l.add (value l c (place t)) (l.mul l.one (l.neg (value l c z)))) d
      (λ t. ring laws.ring (value l c (place t) ∷ value l c z ∷ []) (sum (var 0) (minus (var 1)))
      (sum (var 0) (prod unit (minus (var 1)))) refl)
      (near-plus laws place n (l.neg (value l c z)) (λ t. value l c (place t)) (λ t. l.one) values
      (near-constant laws place n l.one)) in
      near-same laws place
      (λ t. l.add (l.mul h (d t)) (l.mul (l.mul (r t) (d t)) (l.neg (l.mul top h))))
      (λ t. l.mul (l.mul (sub l (re t) (l.mul top (im t))) (l.inv (l.add (re t) (re t)))) (g t))
      (λ t.
      ap (l.mul (l.mul (sub l (re t) (l.mul top (im t))) (l.inv (l.add (re t) (re t)))))
      (difference.values t)
      ∙ parted laws top (re t) (im t) (d t) (nonzero t) (twice t))
      (near-plus laws place n (l.neg (l.mul top h)) (λ t. l.mul h (d t)) (λ t. l.mul (r t) (d t))
      (near-scaled laws place n h d near_d)
      (near-difference laws place z on_z on nonzero m c difference.count))

  -- the quotients of a claim of true values
  pub near-claim : (alpha : E) (coeffs : List (List F)) (width : ℕ) → length coeffs ≡ 2 ^ suc m →
      IsNearLow laws place (suc m)
      (λ t. claim_quotient l embed alpha (x t) z (values_at k coeffs width (x t))
      (lifted_values_at k.zero l embed coeffs width z))
  near-claim alpha coeffs width long =
      let f = λ (j : ℕ). column k.zero coeffs j in
      let top = nth_power l alpha width in
      let ws = map (nth_power l alpha) (range_with_len 0 width) in
      near-same laws place
      (λ t. weighted_quotient l embed top ws (x t) z (values_at k coeffs width (x t))
      (lifted_values_at k.zero l embed coeffs width z))
      (λ t. claim_quotient l embed alpha (x t) z (values_at k coeffs width (x t))
      (lifted_values_at k.zero l embed coeffs width z))
      (λ t.
      ap
      (λ n. weighted_quotient l embed (nth_power l alpha n)
      (map (nth_power l alpha) (range_with_len 0 n)) (x t) z (values_at k coeffs width (x t))
      (lifted_values_at k.zero l embed coeffs width z))
      (length-map-range_with_len (λ j. value k (f j) (x t)) 0 width))
      (near-quotient top (weighted f (λ j. length-map coeffs _ ∙ long) ws 0 width)
      (weighted-difference f (λ j. length-map coeffs _ ∙ long) ws 0 width))
