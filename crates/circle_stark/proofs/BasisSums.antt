-- Elements of an extension as the sums of their coefficients, each times its element of the basis,
-- and polynomials whose coefficients are such sums.
use Rattle.std.specs.Prelude.{◌≡◌, ◌≢◌, ℕ, ◌<◌, List, [], ◌∷◌, length, map, All, replicate}
use Rattle.std.specs.Prelude.{slice_index_or, slice_set}
use Rattle.std.specs.List.{range_with_len}
use Rattle.std.proofs.Common.{zero, suc, sym, ◌∙◌, ap, refl, arith}
use Rattle.std.proofs.Math.ListN.{get_or-map as read-map}
use Rattle.std.proofs.lemmas.List.{get_or-map, length-map, get_or-set_same, get_or-set_other}
use Rattle.std.proofs.lemmas.List.{length-replicate, get_or-replicate, ext_get_or}
use Rattle.std.proofs.lemmas.List.Elements.{All-head, All-tail}
use Rattle.std.proofs.lemmas.List.FromFn.{fill_by_all}
use Rattle.circle_field.specs.Extension.{AreCoefficients, sums}
use Rattle.circle_field.specs.Field.{FieldOps, RingLaws, FieldLaws, IsEmbedding}
use Rattle.circle_field.specs.Ring.{var, con, unit, plus as sum, times as prod}
use Rattle.circle_field.specs.RingSound.{ring}
use Rattle.circle_field.specs.RingCombine.{given, combine}
use Rattle.circle_point.specs.Basis.{weighted_sum}
use Rattle.circle_commit.specs.DotProduct.{dot}
use Rattle.circle_commit.specs.Matrix.{column}
use Rattle.circle_quotient.specs.Basis.{AreBasis}
use Rattle.circle_quotient.proofs.Basis.{zero-coefficients}

module _ {E : Type 0} {l : FieldOps E} (laws : RingLaws l) where
  -- a sum of products by zeros
  pub dot-zeros : {X : Type 0} (ws : List E) (xs : List X) →
      dot l ws (map (λ x. l.zero) xs) ≡ l.zero
  dot-zeros [] xs = refl
  dot-zeros (w ∷ ws) [] = refl
  dot-zeros (w ∷ ws) (x ∷ xs) =
      ap (l.add (l.mul w l.zero)) (dot-zeros ws xs)
      ∙ ring laws (w ∷ []) (sum (prod (var 0) (con 0)) (con 0)) (con 0) refl

  -- a sum of products is linear in the second list
  pub dot-combined : {X : Type 0} (f h : X → E) (t : E) (ws : List E) (xs : List X) →
      dot l ws (map (λ x. l.add (l.mul (f x) t) (h x)) xs)
      ≡ l.add (l.mul (dot l ws (map f xs)) t) (dot l ws (map h xs))
  dot-combined f h t [] xs = ring laws (t ∷ []) (con 0) (sum (prod (con 0) (var 0)) (con 0)) refl
  dot-combined f h t (w ∷ ws) [] =
      ring laws (t ∷ []) (con 0) (sum (prod (con 0) (var 0)) (con 0)) refl
  dot-combined f h t (w ∷ ws) (x ∷ xs) =
      let a = dot l ws (map f xs) in
      let b = dot l ws (map h xs) in
      ap (l.add (l.mul w (l.add (l.mul (f x) t) (h x)))) (dot-combined f h t ws xs)
      ∙ ring laws (w ∷ f x ∷ h x ∷ t ∷ a ∷ b ∷ [])
      (sum (prod (var 0) (sum (prod (var 1) (var 3)) (var 2)))
      (sum (prod (var 4) (var 3)) (var 5)))
      (sum (prod (sum (prod (var 0) (var 1)) (var 4)) (var 3))
      (sum (prod (var 0) (var 2)) (var 5))) refl

  -- where the second list is 0 but for a 1, the sum is the entry at its place
  dot-one : (xs ys : List E) (i : ℕ) → length xs ≡ length ys → i < length ys →
      slice_index_or ys i l.zero ≡ l.one →
      ((j : ℕ) → j < length ys → j ≢ i → slice_index_or ys j l.zero ≡ l.zero) →
      dot l xs ys ≡ slice_index_or xs i l.zero
  dot-one [] ys i long lt own others = absurd (omega (arith, long, lt))
  dot-one (x ∷ xs) [] i long lt own others = absurd (omega (arith, lt))
  dot-one (x ∷ xs) (y ∷ ys) zero long lt own others =
      let rest : dot l xs ys ≡ l.zero =
      ap (dot l xs) (fill_by_all (λ j. l.zero) ys (length ys) l.zero refl
      (λ j below. others (suc j) (omega (arith, below)) (omega arith)))
      ∙ dot-zeros xs (range_with_len 0 (length ys)) in
      combine laws (x ∷ y ∷ dot l xs ys ∷ []) (sum (prod (var 0) (var 1)) (var 2)) (var 0)
      (given (var 0) (var 1) unit ∷ given unit (var 2) (con 0) ∷ []) refl (own, (rest, tt))
  dot-one (x ∷ xs) (y ∷ ys) (suc i) long lt own others =
      let rest = dot-one xs ys i (omega (arith, long)) (omega (arith, lt)) own
      (λ j below other. others (suc j) (omega (arith, below)) (omega (arith, other))) in
      combine laws (x ∷ y ∷ dot l xs ys ∷ slice_index_or xs i l.zero ∷ [])
      (sum (prod (var 0) (var 1)) (var 2)) (var 3)
      (given (var 0) (var 1) (con 0) ∷ given unit (var 2) (var 3) ∷ []) refl
      (others 0 (omega (arith, lt)) (omega arith), (rest, tt))

  module _ {F : Type 0} (m : F → E) (z : F) (ws : List E) where
    -- where each coefficient is such a sum over a row, the polynomial is that sum of the
    -- polynomials of the columns
    pub weighted-rows : (f : ℕ → E) (i degree : ℕ) (rows : List (List F)) →
        All (λ row. length row ≡ degree) rows →
        weighted_sum l f i (map (λ row. dot l ws (map m row)) rows)
        ≡ dot l ws
        (map (λ j. weighted_sum l f i (map m (column z rows j))) (range_with_len 0 degree))
    weighted-rows f i degree [] wide = sym (dot-zeros ws (range_with_len 0 degree))
    weighted-rows f i degree (row ∷ rows) wide =
        let js = range_with_len 0 degree in
        let entry = λ (j : ℕ). m (slice_index_or row j z) in
        let rest = λ (j : ℕ). weighted_sum l f (suc i) (map m (column z rows j)) in
        let own : map m row ≡ map entry js =
        fill_by_all entry (map m row) degree (m z)
        (length-map row m ∙ All-head (λ r. length r ≡ degree) row rows wide)
        (λ j lt. read-map m row j z) in
        ap (λ xs. l.add (l.mul (dot l ws xs) (f i))
        (weighted_sum l f (suc i) (map (λ r. dot l ws (map m r)) rows))) own
        ∙ ap (l.add (l.mul (dot l ws (map entry js)) (f i)))
        (weighted-rows f (suc i) degree rows (All-tail (λ r. length r ≡ degree) row rows wide))
        ∙ sym (dot-combined entry rest (f i) ws js)

-- the sum at a place
sums-read : {F : Type 0} (k : FieldOps F) (xs ys : List F) (i : ℕ) (d : F) → i < length xs →
    i < length ys →
    slice_index_or (sums k xs ys) i d ≡ k.add (slice_index_or xs i d) (slice_index_or ys i d)
sums-read k [] ys i d a b = absurd (omega (arith, a))
sums-read k (x ∷ xs) [] i d a b = absurd (omega (arith, b))
sums-read k (x ∷ xs) (y ∷ ys) zero d a b = refl
sums-read k (x ∷ xs) (y ∷ ys) (suc i) d a b =
    sums-read k xs ys i d (omega (arith, a)) (omega (arith, b))

module _ {F E : Type 0} {k : FieldOps F} {l : FieldOps E} {m : F → E} (base : FieldLaws k)
    (big : FieldLaws l) (e : IsEmbedding k l m) {degree : ℕ} {coefficients : E → List F}
    (are : AreCoefficients k l m degree coefficients) where
  -- a coefficient of an element
  abbrev coefficient : ℕ → E → F
  coefficient i a = slice_index_or (coefficients a) i k.zero

  -- the coefficients of 0
  coefficient-zero : (i : ℕ) → i < degree → coefficient i l.zero ≡ k.zero
  coefficient-zero i lt =
      ap (λ xs. slice_index_or xs i k.zero) (zero-coefficients base big e are)
      ∙ get_or-replicate degree i k.zero k.zero lt

  -- a coefficient of a sum of multiples
  coefficient-sum : (i : ℕ) → i < degree → (bs : List E) (xs : List F) →
      coefficient i (dot l bs (map m xs)) ≡ dot k xs (map (coefficient i) bs)
  coefficient-sum i lt [] [] = coefficient-zero i lt
  coefficient-sum i lt [] (x ∷ xs) = coefficient-zero i lt
  coefficient-sum i lt (b ∷ bs) [] = coefficient-zero i lt
  coefficient-sum i lt (b ∷ bs) (x ∷ xs) =
      let own = l.mul b (m x) in
      let rest = dot l bs (map m xs) in
      ap (λ cs. slice_index_or cs i k.zero) (are.of_sum own rest)
      ∙ sums-read k (coefficients own) (coefficients rest) i k.zero
      (omega (arith, lt, are.count own)) (omega (arith, lt, are.count rest))
      ∙ ap (λ v. k.add v (coefficient i rest))
      (ap (coefficient i) (big.ring.mul_comm b (m x))
      ∙ ap (λ cs. slice_index_or cs i k.zero) (are.of_multiple x b)
      ∙ get_or-map (k.mul x) (coefficients b) i k.zero k.zero (omega (arith, lt, are.count b)))
      ∙ ap (k.add (k.mul x (coefficient i b))) (coefficient-sum i lt bs xs)

  module _ {basis : List E} (of_basis : AreBasis k coefficients degree basis) where
    -- an element of the basis has one coefficient 1
    basis-coefficient : (i j : ℕ) → i < degree → j < degree →
        (i ≡ j → coefficient i (slice_index_or basis j l.zero) ≡ k.one)
        × (i ≢ j → coefficient i (slice_index_or basis j l.zero) ≡ k.zero)
    basis-coefficient i j li lj =
        let zeros = replicate degree k.zero in
        let read = ap (λ xs. slice_index_or xs i k.zero) (of_basis.each j l.zero lj) in (
          λ same. read ∙ ap (λ t. slice_index_or (slice_set zeros t k.one) i k.zero) (sym same)
              ∙ get_or-set_same zeros i k.one k.zero
              (omega (arith, li, length-replicate degree k.zero)),
          λ other. read ∙ get_or-set_other zeros j i k.one k.zero other
              ∙ get_or-replicate degree i k.zero k.zero li,
        )

    -- an element is the sum of its coefficients, each times its element of the basis
    pub element-sum : (a : E) → dot l basis (map m (coefficients a)) ≡ a
    element-sum a =
        let whole = dot l basis (map m (coefficients a)) in
        are.determined whole a
        (ext_get_or k.zero (coefficients whole) (coefficients a)
        (are.count whole ∙ sym (are.count a))
        (λ i below.
        let lt : i < degree = omega (arith, below, are.count whole) in
        let long : length (map (coefficient i) basis) ≡ degree =
        length-map basis (coefficient i) ∙ of_basis.count in
        let read = λ (j : ℕ) (lj : j < degree).
        get_or-map (coefficient i) basis j l.zero k.zero (omega (arith, lj, of_basis.count)) in
        coefficient-sum i lt basis (coefficients a)
        ∙ dot-one base.ring (coefficients a) (map (coefficient i) basis) i
        (are.count a ∙ sym long) (omega (arith, lt, long))
        (read i lt ∙ (basis-coefficient i i lt lt).0 refl)
        (λ j lj other.
        let within : j < degree = omega (arith, lj, long) in
        read j within ∙ (basis-coefficient i j lt within).1 (λ same. other (sym same)))))
