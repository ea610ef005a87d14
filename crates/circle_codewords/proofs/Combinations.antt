-- Combinations of the columns of rows, and of codewords by their coefficients.
use Rattle.std.specs.Prelude.{◌≡◌, ℕ, ◌<◌, List, [], ◌∷◌, length, map, slice_index_or, All}
use Rattle.std.specs.List.{range_with_len}
use Rattle.std.proofs.Common.{zero, suc, refl, sym, ◌∙◌, ap, arith}
use Rattle.std.proofs.lemmas.List.{get_or-map}
use Rattle.circle_domain.proofs.Twiddles.{map-map}
use Rattle.std.proofs.lemmas.List.Elements.{All-head, All-tail}
use Rattle.std.proofs.lemmas.List.FromFn.{fill_by_all}
use Rattle.circle_field.specs.Field.{FieldOps, RingLaws, IsEmbedding}
use Rattle.circle_field.specs.Extension.{AreCoefficients, sums}
use Rattle.circle_field.specs.Ring.{var, con, plus as sum, times as prod}
use Rattle.circle_field.specs.RingSound.{ring}
use Rattle.circle_commit.specs.Matrix.{column}
use Rattle.circle_commit.specs.DotProduct.{dot, column_sums}
use Rattle.circle_commit.proofs.ColumnSums.{map-agree}

-- the sum at a place
sums-read : {F : Type 0} (k : FieldOps F) (xs ys : List F) (i : ℕ) (d : F) → i < length xs →
    i < length ys →
    slice_index_or (sums k xs ys) i d ≡ k.add (slice_index_or xs i d) (slice_index_or ys i d)
sums-read k [] ys i d a b = absurd (omega (arith, a))
sums-read k (x ∷ xs) [] i d a b = absurd (omega (arith, b))
sums-read k (x ∷ xs) (y ∷ ys) zero d a b = refl
sums-read k (x ∷ xs) (y ∷ ys) (suc i) d a b =
    sums-read k xs ys i d (omega (arith, a)) (omega (arith, b))

dot-none : {F : Type 0} (k : FieldOps F) (ws : List F) → dot k ws [] ≡ k.zero
dot-none k [] = refl
dot-none k (w ∷ ws) = refl

module _ {F : Type 0} {k : FieldOps F} (laws : RingLaws k) where
  dot-zeros : {X : Type 0} (ps : List F) (xs : List X) → dot k ps (map (λ _. k.zero) xs) ≡ k.zero
  dot-zeros [] xs = refl
  dot-zeros (p ∷ ps) [] = refl
  dot-zeros (p ∷ ps) (x ∷ xs) =
      ap (k.add (k.mul p k.zero)) (dot-zeros ps xs)
      ∙ ring laws (p ∷ []) (sum (prod (var 0) (con 0)) (con 0)) (con 0) refl

  -- of sums, each of a multiple by one factor and another element
  dot-multiples : {X : Type 0} (w : F) (f h : X → F) (ps : List F) (xs : List X) →
      dot k ps (map (λ x. k.add (k.mul w (f x)) (h x)) xs)
      ≡ k.add (k.mul (dot k ps (map f xs)) w) (dot k ps (map h xs))
  dot-multiples w f h [] xs = ring laws (w ∷ []) (con 0) (sum (prod (con 0) (var 0)) (con 0)) refl
  dot-multiples w f h (p ∷ ps) [] = ring laws (w ∷ []) (con 0) (sum (prod (con 0) (var 0)) (con 0))
      refl
  dot-multiples w f h (p ∷ ps) (x ∷ xs) =
      ap (k.add (k.mul p (k.add (k.mul w (f x)) (h x)))) (dot-multiples w f h ps xs)
      ∙ ring laws (p ∷ w ∷ f x ∷ h x ∷ dot k ps (map f xs) ∷ dot k ps (map h xs) ∷ [])
      (sum (prod (var 0) (sum (prod (var 1) (var 2)) (var 3))) (sum (prod (var 4) (var 1)) (var 5)))
      (sum (prod (sum (prod (var 0) (var 2)) (var 4)) (var 1)) (sum (prod (var 0) (var 3)) (var 5)))
      refl

module _ {F E : Type 0} {k : FieldOps F} {l : FieldOps E} {m : F → E} (laws : RingLaws l)
    (e : IsEmbedding k l m) (powers : List E) where
  combined-sums : (width : ℕ) (rows : List (List F)) (ws : List F) →
      All (λ row. length row ≡ width) rows →
      dot l powers
      (map (λ j. m (dot k ws (map (λ a. a) (column k.zero rows j)))) (range_with_len 0 width))
      ≡ dot l (map (λ row. dot l powers (map m row)) rows) (map m ws)
  combined-sums width [] ws wide =
      let js = range_with_len 0 width in
      ap (dot l powers)
      (map-agree (λ j. m (dot k ws [])) (λ _. l.zero) js
      (λ i j _. ap m (dot-none k ws) ∙ e.zero)) ∙ dot-zeros laws powers js
  combined-sums width (row ∷ rows) [] wide =
      let js = range_with_len 0 width in
      ap (dot l powers) (map-agree (λ j. m k.zero) (λ _. l.zero) js (λ i j _. e.zero))
      ∙ dot-zeros laws powers js
  combined-sums width (row ∷ rows) (w ∷ ws) wide =
      let js = range_with_len 0 width in
      let read = λ (j : ℕ). slice_index_or row j k.zero in
      let rest = λ (j : ℕ). dot k ws (map (λ a. a) (column k.zero rows j)) in
      let own : map (λ j. m (read j)) js ≡ map m row =
      sym
      (ap (map m)
      (fill_by_all read row width k.zero (All-head (λ r. length r ≡ width) row rows wide)
      (λ j lt. refl)) ∙ map-map m read js) in
      ap (dot l powers)
      (map-agree (λ j. m (k.add (k.mul w (read j)) (rest j)))
      (λ j. l.add (l.mul (m w) (m (read j))) (m (rest j))) js
      (λ i d _. let j = slice_index_or js i d in e.add (k.mul w (read j)) (rest j)
      ∙ ap (λ v. l.add v (m (rest j))) (e.mul w (read j))))
      ∙ dot-multiples laws (m w) (λ j. m (read j)) (λ j. m (rest j)) powers js
      ∙ ap (λ vs. l.add (l.mul (dot l powers vs) (m w)) (dot l powers (map (λ j. m (rest j)) js)))
      own
      ∙ ap (l.add (l.mul (dot l powers (map m row)) (m w)))
      (combined-sums width rows ws (All-tail (λ r. length r ≡ width) row rows wide))

  -- the combination of the sums of rows' columns is the sum of the rows' combinations
  pub combined-columns : (width : ℕ) (rows : List (List F)) (ws : List F) →
      All (λ row. length row ≡ width) rows →
      dot l powers (map m (column_sums k k.zero (λ a. a) rows width ws))
      ≡ dot l (map (λ row. dot l powers (map m row)) rows) (map m ws)
  combined-columns width rows ws wide =
      ap (dot l powers)
      (map-map m (λ j. dot k ws (map (λ a. a) (column k.zero rows j))) (range_with_len 0 width))
      ∙ combined-sums width rows ws wide

module _ {F E : Type 0} {k : FieldOps F} {l : FieldOps E} {m : F → E} (base : RingLaws k)
    (laws : RingLaws l)
    {degree : ℕ} {coefficients : E → List F} (are : AreCoefficients k l m degree coefficients) where
  -- a coefficient of a multiple by an element of the base field
  coefficient-multiple : (x : E) (w : F) (i : ℕ) → i < degree →
      slice_index_or (coefficients (l.mul x (m w))) i k.zero
      ≡ k.mul w (slice_index_or (coefficients x) i k.zero)
  coefficient-multiple x w i lt =
      ap (λ v. slice_index_or (coefficients v) i k.zero) (laws.mul_comm x (m w))
      ∙ ap (λ cs. slice_index_or cs i k.zero) (are.of_multiple w x)
      ∙ get_or-map (k.mul w) (coefficients x) i k.zero k.zero (omega (arith, lt, are.count x))

  coefficient-zero : (i : ℕ) → i < degree → slice_index_or (coefficients l.zero) i k.zero ≡ k.zero
  coefficient-zero i lt =
      ap (λ v. slice_index_or (coefficients v) i k.zero)
      (ring laws (m k.zero ∷ []) (con 0) (prod (con 0) (var 0)) refl)
      ∙ coefficient-multiple l.zero k.zero i lt
      ∙ ring base (slice_index_or (coefficients l.zero) i k.zero ∷ []) (prod (con 0) (var 0))
      (con 0) refl

  coefficient-sum : (entries : List E) (ws : List F) (i : ℕ) → i < degree →
      slice_index_or (coefficients (dot l entries (map m ws))) i k.zero
      ≡ dot k ws (map (λ a. a) (column k.zero (map coefficients entries) i))
  coefficient-sum [] ws i lt = coefficient-zero i lt ∙ sym (dot-none k ws)
  coefficient-sum (x ∷ entries) [] i lt = coefficient-zero i lt
  coefficient-sum (x ∷ entries) (w ∷ ws) i lt =
      let rest = dot l entries (map m ws) in
      ap (λ cs. slice_index_or cs i k.zero) (are.of_sum (l.mul x (m w)) rest)
      ∙ sums-read k (coefficients (l.mul x (m w))) (coefficients rest) i k.zero
      (omega (arith, lt, are.count (l.mul x (m w)))) (omega (arith, lt, are.count rest))
      ∙ ap (λ v. k.add v (slice_index_or (coefficients rest) i k.zero))
      (coefficient-multiple x w i lt)
      ∙ ap (k.add (k.mul w (slice_index_or (coefficients x) i k.zero)))
      (coefficient-sum entries ws i lt)

  -- the coefficients of a sum of multiples are the sums of the columns of coefficients
  pub coefficients-sum : (entries : List E) (ws : List F) →
      coefficients (dot l entries (map m ws))
      ≡ column_sums k k.zero (λ a. a) (map coefficients entries) degree ws
  coefficients-sum entries ws =
      let sum = dot l entries (map m ws) in
      fill_by_all (λ i. dot k ws (map (λ a. a) (column k.zero (map coefficients entries) i)))
      (coefficients sum) degree k.zero (are.count sum)
      (λ i lt. coefficient-sum entries ws i lt)
