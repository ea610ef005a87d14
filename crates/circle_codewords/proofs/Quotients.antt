-- The quotient of a claim, from the ratio at a point and the combined row there.
use Rattle.std.specs.Prelude.{◌≡◌, ◌≢◌, ◌≤◌, Bool, true, ◌↔◌, List, [], ◌∷◌, length, map, All}
use Rattle.std.proofs.Common.{refl, sym, ◌∙◌, ap, arith}
use Rattle.std.proofs.lemmas.List.Elements.{All-nil, All-cons, All-head, All-tail}
use Rattle.circle_field.specs.Field.{FieldOps, FieldLaws, sub, two, nth_power}
use Rattle.circle_field.specs.Circle.{Coordinates, IsOnCircle, lifted}
use Rattle.circle_field.specs.Ring.{Expr, var, con, unit, plus as sum, times as prod, minus}
use Rattle.circle_field.specs.RingSound.{ring}
use Rattle.circle_field.specs.RingCombine.{given, combine}
use Rattle.circle_field.specs.RingFacts.{add_neg, add_zero}
use Rattle.circle_commit.specs.DotProduct.{dot, pairwise}
use Rattle.circle_folding.specs.Quotient.{differences, real_part, imaginary_part, claim_quotient}
use Rattle.circle_folding.specs.Quotient.{ArePowers}
use Rattle.circle_folding.specs.Queries.{claim_quotients, with_multiples, IsApart}
use Rattle.circle_folding.proofs.Vanishing.{real_part-zero}
use Rattle.circle_folding.proofs.Weighted.{claimed_quotient}
use Rattle.circle_codewords.specs.Ratios.{vanishing_ratio, with_quotients}

module _ {F E : Type 0} {l : FieldOps E} (laws : FieldLaws l) (embed : F → E) where
  -- the weighted sum of differences is the difference of the weighted sums
  dot-differences : (ws : List E) (row : List F) (values : List E) → length row ≡ length values →
      dot l ws (differences l embed row values) ≡ sub l (dot l ws (map embed row)) (dot l ws values)
  dot-differences [] row values e = sym (add_neg laws.ring l.zero)
  dot-differences (w ∷ ws) [] [] e = sym (add_neg laws.ring l.zero)
  dot-differences (w ∷ ws) [] (v ∷ values) e = absurd (omega arith)
  dot-differences (w ∷ ws) (r ∷ row) [] e = absurd (omega arith)
  dot-differences (w ∷ ws) (r ∷ row) (v ∷ values) e =
      ap (l.add (l.mul w (sub l (embed r) v))) (dot-differences ws row values (omega arith))
      ∙ ring laws.ring (w ∷ embed r ∷ v ∷ dot l ws (map embed row) ∷ dot l ws values ∷ [])
      (sum (prod (var 0) (sum (var 1) (minus (var 2)))) (sum (var 3) (minus (var 4))))
      (sum (sum (prod (var 0) (var 1)) (var 3)) (minus (sum (prod (var 0) (var 2)) (var 4)))) refl

  -- offset times a quotient, by the ratio of the parts
  scaled : (offset half power re im d : E) → re ≢ l.zero → l.add re re ≢ l.zero →
      half ≡ l.mul offset (l.inv (two l)) →
      l.mul (sub l half (l.mul (l.mul half power) (l.mul im (l.inv re)))) d
      ≡ l.mul offset (l.mul (l.mul (sub l re (l.mul power im)) (l.inv (l.add re re))) d)
  scaled offset half power re im d nonzero twice is_half =
      let u = l.inv re in
      let h = l.inv (two l) in
      let v = l.inv (l.add re re) in
      let o : Expr = var 0 in let f : Expr = var 1 in let t : Expr = var 2 in let r : Expr =
      var 3 in let i : Expr = var 4 in
      let e : Expr = var 5 in let x : Expr = var 6 in let y : Expr = var 7 in let z : Expr =
      var 8 in
      let env = offset ∷ half ∷ power ∷ re ∷ im ∷ d ∷ u ∷ h ∷ v ∷ [] in
      let one_u : l.mul re u ≡ l.one = laws.mul_inv re nonzero in
      let one_h : l.mul (two l) h ≡ l.one = laws.mul_inv (two l) laws.two_nonzero in
      let one_v : l.mul (l.add re re) v ≡ l.one = laws.mul_inv (l.add re re) twice in
      let of_v : v ≡ l.mul h u =
      combine laws.ring env z (prod y x)
      (given (minus (prod (prod (con 2) y) z)) (prod r x) unit
      ∷ given (minus z) (prod (sum unit unit) y) unit ∷ given (prod y x) (prod (sum r r) z) unit
      ∷ []) refl (one_u, (one_h, (one_v, tt))) in
      combine laws.ring env
      (prod (sum f (minus (prod (prod f t) (prod i x)))) e)
      (prod o (prod (prod (sum r (minus (prod t i))) z) e))
      (given (prod (sum unit (minus (prod t (prod i x)))) e) f (prod o y)
      ∷ given (minus (prod (prod o e) (sum r (minus (prod t i))))) z (prod y x)
      ∷ given (minus (prod o (prod e y))) (prod r x) unit ∷ [])
      refl (is_half, (of_v, (one_u, tt)))

module _ {F E : Type 0} {l : FieldOps E} (laws : FieldLaws l) (eq : E → E → Bool)
    (eq_law : (a b : E) → (eq a b ≡ true) ↔ (a ≡ b)) (embed : F → E) where
  -- off the claimed point the real part isn't 0, nor is twice the real part
  pub double-nonzero : (x : Coordinates F) (z : Coordinates E) → IsOnCircle l (lifted embed x) →
      IsOnCircle l z → lifted embed x ≢ z →
      l.add (real_part l embed x z) (real_part l embed x z) ≢ l.zero
  double-nonzero x z hx hz apart =
      λ twice. apart (real_part-zero laws eq eq_law (lifted embed x) z hx hz twice)

  pub real-nonzero : (x : Coordinates F) (z : Coordinates E) → IsOnCircle l (lifted embed x) →
      IsOnCircle l z → lifted embed x ≢ z → real_part l embed x z ≢ l.zero
  real-nonzero x z hx hz apart =
      λ none. double-nonzero x z hx hz apart (ap (λ r. l.add r r) none ∙ add_zero laws.ring l.zero)

  -- at none of the points is the real part 0
  pub reals-nonzero : (points : List (Coordinates F)) (z : Coordinates E) →
      All (λ x. IsOnCircle l (lifted embed x)) points → IsOnCircle l z → IsApart embed points z →
      All (λ a. a ≢ l.zero) (map (λ x. real_part l embed x z) points)
  reals-nonzero [] z on hz apart = All-nil (λ a. a ≢ l.zero)
  reals-nonzero (x ∷ points) z on hz apart =
      All-cons (λ a. a ≢ l.zero) (real_part l embed x z) (map (λ p. real_part l embed p z) points)
      (real-nonzero x z (All-head (λ p. IsOnCircle l (lifted embed p)) x points on) hz
      (All-head (λ p. lifted embed p ≢ z) x points apart))
      (reals-nonzero points z (All-tail (λ p. IsOnCircle l (lifted embed p)) x points on) hz
      (All-tail (λ p. lifted embed p ≢ z) x points apart))

  module _ (alpha offset half power claimed : E) (powers : List E) (z : Coordinates E)
      (values : List E)
      (is_half : half ≡ l.mul offset (l.inv (two l))) (are : ArePowers l alpha powers)
      (is_power : power ≡ nth_power l alpha (length values))
      (is_claimed : claimed ≡ dot l powers values) (enough : length values ≤ length powers)
      (hz : IsOnCircle l z) where
    abbrev fast : E → E → E
    fast t c = l.mul (sub l half (l.mul (l.mul half power) t)) (sub l c claimed)

    -- one quotient
    fast-quotient : (x : Coordinates F) (row : List F) → length row ≡ length values →
        IsOnCircle l (lifted embed x) → lifted embed x ≢ z →
        fast (vanishing_ratio l embed z x) (dot l powers (map embed row))
        ≡ l.mul offset (claim_quotient l embed alpha x z row values)
    fast-quotient x row wide hx apart =
        let re = real_part l embed x z in
        let im = imaginary_part l embed x z in
        let d = dot l powers (differences l embed row values) in
        ap (l.mul (sub l half (l.mul (l.mul half power) (vanishing_ratio l embed z x))))
        (ap (sub l (dot l powers (map embed row))) is_claimed
        ∙ sym (dot-differences laws embed powers row values wide))
        ∙ scaled laws embed offset half power re im d (real-nonzero x z hx hz apart)
        (double-nonzero x z hx hz apart) is_half
        ∙ ap (l.mul offset)
        (claimed_quotient l embed alpha power powers x z row values wide
        (omega (arith, wide, enough)) (is_power ∙ ap (nth_power l alpha) (sym wide)) are)

    -- the quotients of rows at points, to sums
    pub fast-quotients : (points : List (Coordinates F)) (rows : List (List F)) (sums : List E) →
        All (λ x. IsOnCircle l (lifted embed x)) points → IsApart embed points z →
        All (λ row. length row ≡ length values) rows →
        with_quotients l half (l.mul half power) claimed (map (vanishing_ratio l embed z) points)
        (map (λ row. dot l powers (map embed row)) rows) sums
        ≡ with_multiples l offset sums (claim_quotients l embed alpha points z rows values)
    fast-quotients points rows [] on apart wide = refl
    fast-quotients [] rows (s ∷ sums) on apart wide = refl
    fast-quotients (x ∷ points) [] (s ∷ sums) on apart wide = refl
    fast-quotients (x ∷ points) (row ∷ rows) (s ∷ sums) on apart wide =
        ap
        (λ q. l.add s q
        ∷ pairwise l.add sums
        (pairwise fast (map (vanishing_ratio l embed z) points)
        (map (λ r. dot l powers (map embed r)) rows)))
        (fast-quotient x row (All-head (λ r. length r ≡ length values) row rows wide)
        (All-head (λ p. IsOnCircle l (lifted embed p)) x points on)
        (All-head (λ p. lifted embed p ≢ z) x points apart))
        ∙ ap (λ rest. l.add s (l.mul offset (claim_quotient l embed alpha x z row values)) ∷ rest)
        (fast-quotients points rows sums (All-tail (λ p. IsOnCircle l (lifted embed p)) x points on)
        (All-tail (λ p. lifted embed p ≢ z) x points apart)
        (All-tail (λ r. length r ≡ length values) row rows wide))

-- the imaginary parts, each times the inverse of its real part
pub ratios-made : {F E : Type 0} (l : FieldOps E) (embed : F → E) (z : Coordinates E)
    (points : List (Coordinates F)) →
    pairwise l.mul (map (λ x. imaginary_part l embed x z) points)
    (map l.inv (map (λ x. real_part l embed x z) points))
    ≡ map (vanishing_ratio l embed z) points
ratios-made l embed z [] = refl
ratios-made l embed z (x ∷ points) =
    ap (λ rest. vanishing_ratio l embed z x ∷ rest) (ratios-made l embed z points)
