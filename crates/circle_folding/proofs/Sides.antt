-- Polynomials by their coefficients at even and at odd places, and codewords of pairs: what a fold
-- makes of a pair, and which pairs have two given folds.
use Rattle.std.specs.Prelude.{◌≡◌, ◌≢◌, ℕ, ◌+◌, ◌*◌, ◌/◌, ◌%◌, List, [], ◌∷◌, length, map, flat_map}
use Rattle.std.specs.Prelude.{All}
use Rattle.std.specs.List.{AllByRecursion}
use Rattle.std.proofs.Common.{zero, suc, refl, sym, ◌∙◌, ap, arith}
use Rattle.std.proofs.Math.Path.{fun_ext}
use Rattle.std.proofs.lemmas.List.Elements.{All-head, All-tail}
use Rattle.circle_field.specs.Field.{FieldOps, RingLaws, FieldLaws, sub, two}
use Rattle.circle_field.specs.Ring.{Expr, var, con, unit, plus as sum, times as prod, minus}
use Rattle.circle_field.specs.RingSound.{ring}
use Rattle.circle_field.specs.RingCombine.{given, combine}
use Rattle.circle_field.specs.RingFacts.{mul_one, neg_zero_cancel}
use Rattle.circle_field.specs.Circle.{Coordinates}
use Rattle.circle_point.specs.Basis.{doubled_x, bit_factor, x_basis, circle_basis, weighted_sum}
use Rattle.circle_point.specs.Basis.{value, x_value}
use Rattle.circle_point.proofs.Bases.{x_basis-doubled}
use Rattle.circle_commit.specs.DotProduct.{pairwise}
use Rattle.circle_domain.proofs.LagrangePolynomials.{twice-nonzero}
use Rattle.circle_commit.proofs.Written.{length-pairwise}
use Rattle.circle_folding.specs.Fold.{fold, folds}

-- the entries of two lists in turn
abbrev pub in_turn : {T : Type 0} → List T → List T → List T
in_turn [] os = []
in_turn (a ∷ es) [] = []
in_turn (a ∷ es) (b ∷ os) = a ∷ b ∷ in_turn es os

pub length-in_turn : {T : Type 0} (es os : List T) → length es ≡ length os → length (in_turn es os)
    ≡ length es + length es
length-in_turn [] os e = refl
length-in_turn (a ∷ es) [] e = absurd (omega (arith, e))
length-in_turn (a ∷ es) (b ∷ os) e = omega (arith, length-in_turn es os (omega (arith, e)))

-- a list of 2 * n entries as two that are taken in turn
pub record InTurn {T : Type 0} (n : ℕ) (c : List T) : Type 0 where
  pub even : List T
  pub odd : List T
  pub even_long : length even ≡ n
  pub odd_long : length odd ≡ n
  pub whole : in_turn even odd ≡ c

pub taken_in_turn : {T : Type 0} (n : ℕ) (c : List T) → length c ≡ n + n → InTurn n c
taken_in_turn zero [] e =
    record { even = []; odd = []; even_long = refl; odd_long = refl; whole = refl }
taken_in_turn zero (x ∷ c) e = absurd (omega (arith, e))
taken_in_turn (suc n) [] e = absurd (omega (arith, e))
taken_in_turn (suc n) (x ∷ []) e = absurd (omega (arith, e))
taken_in_turn (suc n) (x ∷ y ∷ c) e =
    let rest = taken_in_turn n c (omega (arith, e)) in
    record {
      even = x ∷ rest.even;
      odd = y ∷ rest.odd;
      even_long = ap suc rest.even_long;
      odd_long = ap suc rest.odd_long;
      whole = ap (λ r. x ∷ y ∷ r) rest.whole;
    }

module _ {F : Type 0} (k : FieldOps F) where
  -- r times coefficients plus s times others
  abbrev pub combination : F → F → List F → List F → List F
  combination r s = pairwise (λ a b. k.add (k.mul r a) (k.mul s b))

  -- at each place the pair a + b t and a - b t
  abbrev pub sides : {X : Type 0} → (X → F) → (X → F) → (X → F) → List X → List F
  sides a b t [] = []
  sides a b t (x ∷ xs) = k.add (a x) (k.mul (b x) (t x)) ∷ k.add (a x) (k.mul (b x) (k.neg (t x)))
      ∷ sides a b t xs

module _ {F : Type 0} {k : FieldOps F} (laws : RingLaws k) where
  weighted-in_turn : (f h : ℕ → F) (t : F) → ((n : ℕ) → f (2 * n) ≡ h n) →
      ((n : ℕ) → f (suc (2 * n)) ≡ k.mul (h n) t) →
      (i j : ℕ) (es os : List F) → i ≡ 2 * j → length es ≡ length os →
      weighted_sum k f i (in_turn es os)
      ≡ k.add (weighted_sum k h j es) (k.mul (weighted_sum k h j os) t)
  weighted-in_turn f h t even odd i j [] [] e s =
      ring laws (t ∷ []) (con 0) (sum (con 0) (prod (con 0) (var 0))) refl
  weighted-in_turn f h t even odd i j [] (b ∷ os) e s = absurd (omega (arith, s))
  weighted-in_turn f h t even odd i j (a ∷ es) [] e s = absurd (omega (arith, s))
  weighted-in_turn f h t even odd i j (a ∷ es) (b ∷ os) e s =
      let next : suc (suc i) ≡ 2 * suc j = omega (arith, e) in
      let rest = weighted_sum k f (suc (suc i)) (in_turn es os) in
      let u = weighted_sum k h (suc j) es in
      let v = weighted_sum k h (suc j) os in
      ap (λ n. k.add (k.mul a (f n)) (k.add (k.mul b (f (suc n))) rest)) e
      ∙ ap (λ y. k.add (k.mul a y) (k.add (k.mul b (f (suc (2 * j)))) rest)) (even j)
      ∙ ap (λ y. k.add (k.mul a (h j)) (k.add (k.mul b y) rest)) (odd j)
      ∙ ap (λ w. k.add (k.mul a (h j)) (k.add (k.mul b (k.mul (h j) t)) w))
      (weighted-in_turn f h t even odd (suc (suc i)) (suc j) es os next (omega (arith, s)))
      ∙ ring laws (a ∷ b ∷ h j ∷ t ∷ u ∷ v ∷ [])
      (sum (prod (var 0) (var 2))
      (sum (prod (var 1) (prod (var 2) (var 3))) (sum (var 4) (prod (var 5) (var 3)))))
      (sum (sum (prod (var 0) (var 2)) (var 4)) (prod (sum (prod (var 1) (var 2)) (var 5)) (var 3)))
      refl

  -- on the circle the coefficients at odd places count y times
  pub value-in_turn : (es os : List F) (p : Coordinates F) → length es ≡ length os →
      value k (in_turn es os) p ≡ k.add (x_value k es p.x) (k.mul (x_value k os p.x) p.y)
  value-in_turn es os p same =
      let even : (n : ℕ) → circle_basis k (2 * n) p ≡ x_basis k n p.x = λ n.
      let half : 2 * n / 2 ≡ n = omega arith in
      let bit : 2 * n % 2 ≡ 0 = omega arith in
      ap (λ i. k.mul (x_basis k i p.x) (bit_factor k (2 * n % 2) p.y)) half
      ∙ ap (λ i. k.mul (x_basis k n p.x) (bit_factor k i p.y)) bit
      ∙ mul_one laws (x_basis k n p.x) in
      let odd : (n : ℕ) → circle_basis k (suc (2 * n)) p ≡ k.mul (x_basis k n p.x) p.y = λ n.
      let half : suc (2 * n) / 2 ≡ n = omega arith in
      let bit : suc (2 * n) % 2 ≡ 1 = omega arith in
      ap (λ i. k.mul (x_basis k i p.x) (bit_factor k (suc (2 * n) % 2) p.y)) half
      ∙ ap (λ i. k.mul (x_basis k n p.x) (bit_factor k i p.y)) bit in
      weighted-in_turn (λ j. circle_basis k j p) (λ j. x_basis k j p.x) p.y even odd 0 0 es os refl
      same

  -- and for a polynomial in x they count x times, at the double's x coordinate
  pub x_value-in_turn : (es os : List F) (x : F) → length es ≡ length os →
      x_value k (in_turn es os) x
      ≡ k.add (x_value k es (doubled_x k x)) (k.mul (x_value k os (doubled_x k x)) x)
  x_value-in_turn es os x same =
      let even : (n : ℕ) → x_basis k (2 * n) x ≡ x_basis k n (doubled_x k x) = λ n.
      let e : 2 * n ≡ 2 * n + 0 = omega arith in
      ap (λ i. x_basis k i x) e ∙ x_basis-doubled laws n 0 x (omega arith)
      ∙ mul_one laws (x_basis k n (doubled_x k x)) in
      let odd : (n : ℕ) → x_basis k (suc (2 * n)) x ≡ k.mul (x_basis k n (doubled_x k x)) x = λ n.
      let e : suc (2 * n) ≡ 2 * n + 1 = omega arith in
      ap (λ i. x_basis k i x) e ∙ x_basis-doubled laws n 1 x (omega arith) in
      weighted-in_turn (λ j. x_basis k j x) (λ j. x_basis k j (doubled_x k x)) x even odd 0 0 es os
      refl same

  weighted-combination : (f : ℕ → F) (r s : F) (j : ℕ) (xs ys : List F) → length xs ≡ length ys →
      weighted_sum k f j (combination k r s xs ys)
      ≡ k.add (k.mul r (weighted_sum k f j xs)) (k.mul s (weighted_sum k f j ys))
  weighted-combination f r s j [] [] e =
      ring laws (r ∷ s ∷ []) (con 0) (sum (prod (var 0) (con 0)) (prod (var 1) (con 0))) refl
  weighted-combination f r s j [] (y ∷ ys) e = absurd (omega (arith, e))
  weighted-combination f r s j (x ∷ xs) [] e = absurd (omega (arith, e))
  weighted-combination f r s j (x ∷ xs) (y ∷ ys) e =
      ap (k.add (k.mul (k.add (k.mul r x) (k.mul s y)) (f j)))
      (weighted-combination f r s (suc j) xs ys (omega (arith, e)))
      ∙ ring laws (r ∷ s ∷ x ∷ y ∷ f j ∷ weighted_sum k f (suc j) xs ∷ weighted_sum k f (suc j) ys
      ∷ [])
      (sum (prod (sum (prod (var 0) (var 2)) (prod (var 1) (var 3))) (var 4))
      (sum (prod (var 0) (var 5)) (prod (var 1) (var 6))))
      (sum (prod (var 0) (sum (prod (var 2) (var 4)) (var 5)))
      (prod (var 1) (sum (prod (var 3) (var 4)) (var 6)))) refl

  pub x_value-combination : (r s : F) (xs ys : List F) (x : F) → length xs ≡ length ys →
      x_value k (combination k r s xs ys) x
      ≡ k.add (k.mul r (x_value k xs x)) (k.mul s (x_value k ys x))
  x_value-combination r s xs ys x e = weighted-combination (λ j. x_basis k j x) r s 0 xs ys e

module _ {E : Type 0} {l : FieldOps E} (laws : FieldLaws l) where
  -- a + b t and a - b t fold to a + b beta
  fold-sides : (a b t beta : E) → t ≢ l.zero →
      fold l (l.add a (l.mul b t)) (l.add a (l.mul b (l.neg t))) t beta ≡ l.add a (l.mul b beta)
  fold-sides a b t beta nonzero =
      let a' : Expr = var 0 in let b' : Expr = var 1 in let t' : Expr = var 2 in let beta' : Expr =
      var 3 in
      let half : Expr = var 4 in let inverse : Expr = var 5 in
      let high : Expr = sum a' (prod b' t') in
      let low : Expr = sum a' (prod b' (minus t')) in
      combine laws.ring (a ∷ b ∷ t ∷ beta ∷ l.inv (two l) ∷ l.inv (l.add t t) ∷ [])
      (sum (prod (sum high low) half) (prod (prod beta' (sum high (minus low))) inverse))
      (sum a' (prod b' beta'))
      (given a' (prod (sum unit unit) half) unit ∷ given (prod b' beta') (prod (sum t' t') inverse)
      unit ∷ []) refl (
        laws.mul_inv (two l) laws.two_nonzero,
        (laws.mul_inv (l.add t t) (twice-nonzero laws t nonzero), tt),
      )

  -- and nothing else folds so by two challenges
  sides-told : (a b u v t beta gamma : E) → t ≢ l.zero → gamma ≢ beta →
      fold l u v t beta ≡ l.add a (l.mul b beta) → fold l u v t gamma ≡ l.add a (l.mul b gamma) →
      (u ≡ l.add a (l.mul b t)) × (v ≡ l.add a (l.mul b (l.neg t)))
  sides-told a b u v t beta gamma nonzero other first second =
      let i = l.inv (two l) in
      let j = l.inv (l.add t t) in
      let d = l.inv (sub l beta gamma) in
      let halves : l.mul (two l) i ≡ l.one = laws.mul_inv (two l) laws.two_nonzero in
      let twice : l.mul (l.add t t) j ≡ l.one =
      laws.mul_inv (l.add t t) (twice-nonzero laws t nonzero) in
      let apart : l.mul (sub l beta gamma) d ≡ l.one =
      laws.mul_inv (sub l beta gamma)
      (λ none. other (sym (neg_zero_cancel laws.ring beta gamma none))) in
      let a' : Expr = var 0 in let b' : Expr = var 1 in let u' : Expr = var 2 in let v' : Expr =
      var 3 in let t' : Expr = var 4 in
      let beta' : Expr = var 5 in let gamma' : Expr = var 6 in let i' : Expr = var 7 in
      let j' : Expr = var 8 in let d' : Expr = var 9 in
      let env : List E = a ∷ b ∷ u ∷ v ∷ t ∷ beta ∷ gamma ∷ i ∷ j ∷ d ∷ [] in
      let mean : Expr = prod (sum u' v') i' in
      let slope : Expr = prod (sum u' (minus v')) j' in
      let folded : Expr → Expr = λ c. sum mean (prod (prod c (sum u' (minus v'))) j') in
      let is_b : l.mul (sub l u v) j ≡ b =
      combine laws.ring env slope b'
      (given d' (folded beta') (sum a' (prod b' beta'))
      ∷ given (minus d') (folded gamma') (sum a' (prod b' gamma'))
      ∷ given (minus (sum slope (minus b'))) (prod (sum beta' (minus gamma')) d') unit ∷ []) refl
      (first, (second, (apart, tt))) in
      let is_a : l.mul (l.add u v) i ≡ a =
      combine laws.ring env mean a' (given unit (folded beta') (sum a' (prod b' beta'))
      ∷ given (minus beta') slope b' ∷ []) refl (first, (is_b, tt)) in
      let spread : Expr = prod (sum u' (minus v')) (prod j' t') in (
        combine laws.ring env u' (sum a' (prod b' t'))
            (given unit mean a' ∷ given t' slope b'
            ∷ given (sum (minus u') spread) (prod (sum unit unit) i') unit
            ∷ given (minus (prod (sum u' (minus v')) i')) (prod (sum t' t') j') unit ∷ []) refl
            (is_a, (is_b, (halves, (twice, tt)))),
        combine laws.ring env v' (sum a' (prod b' (minus t')))
            (given unit mean a' ∷ given (minus t') slope b'
            ∷ given (sum (minus v') (minus spread)) (prod (sum unit unit) i') unit
            ∷ given (prod (sum u' (minus v')) i') (prod (sum t' t') j') unit ∷ []) refl
            (is_a, (is_b, (halves, (twice, tt)))),
      )

  module _ {X : Type 0} (a b t : X → E) where
    folds-sides : (beta : E) (xs : List X) (rows : List (List E)) →
        AllByRecursion (λ x. t x ≢ l.zero) xs → All (λ row. length row ≡ 2) rows →
        length rows ≡ length xs →
        flat_map (λ row. row) rows ≡ sides l a b t xs → folds l beta (map t xs) rows
        ≡ map (λ x. l.add (a x) (l.mul (b x) beta)) xs
    folds-sides beta [] rows nonzero wide same e = refl
    folds-sides beta (x ∷ xs) [] nonzero wide same e = absurd (omega (arith, same))
    folds-sides beta (x ∷ xs) ([] ∷ rows) nonzero wide same e =
        absurd (omega (arith, All-head (λ row. length row ≡ 2) [] rows wide))
    folds-sides beta (x ∷ xs) ((u ∷ []) ∷ rows) nonzero wide same e =
        absurd (omega (arith, All-head (λ row. length row ≡ 2) (u ∷ []) rows wide))
    folds-sides beta (x ∷ xs) ((u ∷ v ∷ w ∷ more) ∷ rows) nonzero wide same e =
        absurd (omega (arith, All-head (λ row. length row ≡ 2) (u ∷ v ∷ w ∷ more) rows wide))
    folds-sides beta (x ∷ xs) ((u ∷ v ∷ []) ∷ rows) nonzero wide same e =
        let high : u ≡ l.add (a x) (l.mul (b x) (t x)) = cc in
        let low : v ≡ l.add (a x) (l.mul (b x) (l.neg (t x))) = cc in
        let others : flat_map (λ row. row) rows ≡ sides l a b t xs = cc in
        let rest =
        folds-sides beta xs rows nonzero.1
        (All-tail (λ row. length row ≡ 2) (u ∷ v ∷ []) rows wide) (omega (arith, same))
        others in
        ap (λ p. fold l p v (t x) beta ∷ folds l beta (map t xs) rows) high
        ∙ ap (λ p. fold l (l.add (a x) (l.mul (b x) (t x))) p (t x) beta
        ∷ folds l beta (map t xs) rows) low
        ∙ ap (λ p. p ∷ folds l beta (map t xs) rows) (fold-sides (a x) (b x) (t x) beta nonzero.0)
        ∙ ap (λ ps. l.add (a x) (l.mul (b x) beta) ∷ ps) rest

    rows-told : (beta gamma : E) (xs : List X) (rows : List (List E)) → gamma ≢ beta →
        AllByRecursion (λ x. t x ≢ l.zero) xs → All (λ row. length row ≡ 2) rows →
        length rows ≡ length xs →
        folds l beta (map t xs) rows ≡ map (λ x. l.add (a x) (l.mul (b x) beta)) xs →
        folds l gamma (map t xs) rows ≡ map (λ x. l.add (a x) (l.mul (b x) gamma)) xs →
        flat_map (λ row. row) rows ≡ sides l a b t xs
    rows-told beta gamma [] [] other nonzero wide same first second = refl
    rows-told beta gamma [] (row ∷ rows) other nonzero wide same first second =
        absurd (omega (arith, same))
    rows-told beta gamma (x ∷ xs) [] other nonzero wide same first second =
        absurd (omega (arith, same))
    rows-told beta gamma (x ∷ xs) ([] ∷ rows) other nonzero wide same first second =
        absurd (omega (arith, All-head (λ row. length row ≡ 2) [] rows wide))
    rows-told beta gamma (x ∷ xs) ((u ∷ []) ∷ rows) other nonzero wide same first second =
        absurd (omega (arith, All-head (λ row. length row ≡ 2) (u ∷ []) rows wide))
    rows-told beta gamma (x ∷ xs) ((u ∷ v ∷ w ∷ more) ∷ rows) other nonzero wide same first second =
        absurd (omega (arith, All-head (λ row. length row ≡ 2) (u ∷ v ∷ w ∷ more) rows wide))
    rows-told beta gamma (x ∷ xs) ((u ∷ v ∷ []) ∷ rows) other nonzero wide same first second =
        let by_beta : fold l u v (t x) beta ≡ l.add (a x) (l.mul (b x) beta) = cc in
        let by_gamma : fold l u v (t x) gamma ≡ l.add (a x) (l.mul (b x) gamma) = cc in
        let rest_beta : folds l beta (map t xs) rows ≡ map (λ x. l.add (a x) (l.mul (b x) beta))
        xs = cc in
        let rest_gamma : folds l gamma (map t xs) rows ≡ map (λ x. l.add (a x) (l.mul (b x) gamma))
        xs = cc in
        let told = sides-told (a x) (b x) u v (t x) beta gamma nonzero.0 other by_beta by_gamma in
        ap (λ p. p ∷ v ∷ flat_map (λ row. row) rows) told.0
        ∙ ap (λ p. l.add (a x) (l.mul (b x) (t x)) ∷ p ∷ flat_map (λ row. row) rows) told.1
        ∙ ap (λ ps. l.add (a x) (l.mul (b x) (t x)) ∷ l.add (a x) (l.mul (b x) (l.neg (t x))) ∷ ps)
        (rows-told beta gamma xs rows other nonzero.1
        (All-tail (λ row. length row ≡ 2) (u ∷ v ∷ []) rows wide) (omega (arith, same))
        rest_beta rest_gamma)

  -- rows of two entries as the two sides of polynomials in x
  module _ {X : Type 0} (at t : X → E) (xs : List X) (rows : List (List E))
      (nonzero : AllByRecursion (λ x. t x ≢ l.zero) xs) (wide : All (λ row. length row ≡ 2) rows)
      (tall : length rows ≡ length xs) where
    -- the sides of these coefficients
    abbrev pub AreSides : List E → List E → Type 0
    AreSides es os = flat_map (λ row. row) rows
        ≡ sides l (λ x. x_value l es (at x)) (λ x. x_value l os (at x)) t xs

    pub polynomial-folds : (beta : E) (es os : List E) → length es ≡ length os → AreSides es os →
        folds l beta (map t xs) rows ≡ map (λ x. x_value l (combination l l.one beta es os) (at x))
        xs
    polynomial-folds beta es os same are =
        folds-sides (λ x. x_value l es (at x)) (λ x. x_value l os (at x)) t beta xs rows nonzero
        wide tall are
        ∙ ap (λ f. map f xs)
        (fun_ext (λ x. sym (x_value-combination laws.ring l.one beta es os (at x) same
        ∙ ring laws.ring (x_value l es (at x) ∷ x_value l os (at x) ∷ beta ∷ [])
        (sum (prod unit (var 0)) (prod (var 2) (var 1))) (sum (var 0) (prod (var 1) (var 2)))
        refl)))

    module _ (beta gamma : E) (ds gs : List E) (other : gamma ≢ beta) (same : length ds ≡ length gs)
      where
        -- (d - g) / (beta - gamma), and d - beta times that
        abbrev pub odd_told : List E
        odd_told = combination l (l.inv (sub l beta gamma)) (l.neg (l.inv (sub l beta gamma))) ds gs

        abbrev pub even_told : List E
        even_told = combination l l.one (l.neg beta) ds odd_told

        pub length-odd_told : length odd_told ≡ length ds
        length-odd_told =
            length-pairwise
            (λ a b. l.add (l.mul (l.inv (sub l beta gamma)) a)
            (l.mul (l.neg (l.inv (sub l beta gamma))) b)) ds gs same

        pub length-even_told : length even_told ≡ length ds
        length-even_told = length-pairwise (λ a b. l.add (l.mul l.one a) (l.mul (l.neg beta) b)) ds
            odd_told (sym length-odd_told)

        pub polynomial-told : folds l beta (map t xs) rows ≡ map (λ x. x_value l ds (at x)) xs →
            folds l gamma (map t xs) rows ≡ map (λ x. x_value l gs (at x)) xs →
            AreSides even_told odd_told
        polynomial-told first second =
            let i = l.inv (sub l beta gamma) in
            let apart : l.mul (sub l beta gamma) i ≡ l.one =
            laws.mul_inv (sub l beta gamma)
            (λ none. other (sym (neg_zero_cancel laws.ring beta gamma none))) in
            let a = λ (x : X). x_value l even_told (at x) in
            let b = λ (x : X). x_value l odd_told (at x) in
            let of_even : (x : X) →
            a x ≡ l.add (l.mul l.one (x_value l ds (at x))) (l.mul (l.neg beta) (b x)) =
            λ x. x_value-combination laws.ring l.one (l.neg beta) ds odd_told (at x)
            (sym length-odd_told) in
            let of_odd : (x : X) →
            b x ≡ l.add (l.mul i (x_value l ds (at x))) (l.mul (l.neg i) (x_value l gs (at x))) =
            λ x. x_value-combination laws.ring i (l.neg i) ds gs (at x) same in
            let by_beta : (x : X) → x_value l ds (at x) ≡ l.add (a x) (l.mul (b x) beta) = λ x.
            combine laws.ring (x_value l ds (at x) ∷ a x ∷ b x ∷ beta ∷ []) (var 0)
            (sum (var 1) (prod (var 2) (var 3)))
            (given (minus unit) (var 1) (sum (prod unit (var 0)) (prod (minus (var 3)) (var 2)))
            ∷ [])
            refl (of_even x, tt) in
            let by_gamma : (x : X) → x_value l gs (at x) ≡ l.add (a x) (l.mul (b x) gamma) = λ x.
            let d' : Expr = var 0 in let g' : Expr = var 1 in let a' : Expr = var 2 in
            let b' : Expr =
            var 3 in
            let beta' : Expr = var 4 in let gamma' : Expr = var 5 in let i' : Expr = var 6 in
            combine laws.ring (x_value l ds (at x) ∷ x_value l gs (at x) ∷ a x ∷ b x ∷ beta ∷ gamma
            ∷ i ∷ []) g' (sum a' (prod b' gamma'))
            (given (minus unit) a' (sum (prod unit d') (prod (minus beta') b'))
            ∷ given (sum beta' (minus gamma')) b' (sum (prod i' d') (prod (minus i') g'))
            ∷ given (sum d' (minus g')) (prod (sum beta' (minus gamma')) i') unit ∷ []) refl
            (of_even x, (of_odd x, (apart, tt))) in
            rows-told a b t beta gamma xs rows other nonzero wide tall
            (first ∙ ap (λ f. map f xs) (fun_ext by_beta))
            (second ∙ ap (λ f. map f xs) (fun_ext by_gamma))
