-- The selectors of a standard domain's rows are functions of the degree of a column.
use Rattle.std.specs.Prelude.{◌≡◌, ◌≢◌, ℕ, ◌+◌, ◌-◌, ◌^◌, ◌<◌, List, [], ◌∷◌, ◌++◌, length}
use Rattle.std.specs.Prelude.{map, replicate, slice_index_or}
use Rattle.std.specs.List.{AllByRecursion}
use Rattle.std.proofs.Common.{zero, suc, sym, ◌∙◌, ap, refl, subst, arith}
use Rattle.std.proofs.Math.Nat.{pow-suc}
use Rattle.std.proofs.lemmas.List.{length-replicate, get_or-map}
use Rattle.std.proofs.lemmas.Nat.{pow_pos}
use Rattle.std.proofs.lemmas.Option.{get_or_from_slice_get}
use Rattle.circle_field.specs.Field.{FieldOps, FieldLaws, sub, nth_power, two}
use Rattle.circle_field.specs.Ring.{Expr, var, con, unit, plus as sum, times as prod, minus}
use Rattle.circle_field.specs.RingSound.{ring}
use Rattle.circle_field.specs.RingCombine.{given, combine}
use Rattle.circle_field.specs.Circle.{Coordinates, IsOnCircle, AreGenerators, opposite, plus}
use Rattle.circle_field.specs.Circle.{origin, times}
use Rattle.circle_field.specs.CircleGroup.{same_coordinates, opposite-on_circle}
use Rattle.circle_field.proofs.Inverses.{inverse_unique, nonzero_factor, nonzero_product}
use Rattle.circle_point.specs.Basis.{value, iterated_x}
use Rattle.circle_point.specs.Projective.{to_line}
use Rattle.circle_commit.specs.DotProduct.{dot}
use Rattle.circle_domain.specs.Lagrange.{shares}
use Rattle.circle_domain.specs.Order.{coset, cfft_order, with_opposites, natural_order}
use Rattle.circle_domain.specs.Order.{natural_from}
use Rattle.circle_domain.specs.Ordering.{cfft_index, reversed}
use Rattle.circle_point.proofs.Multiples.{iterated_x-times, times-on_circle}
use Rattle.circle_domain.specs.Selectors.{vanishing_on, first_row, last_row, transition, normaliser}
use Rattle.circle_domain.proofs.Blocks.{times-generator}
use Rattle.circle_domain.proofs.Coefficients.{column-told}
use Rattle.circle_domain.proofs.LagrangeShares.{shares-sum, s_p-nonzero}
use Rattle.circle_domain.proofs.LagrangePolynomials.{neg-nonzero}
use Rattle.circle_domain.proofs.CosetOrder.{cfft-place, length-cfft_order}
use Rattle.circle_domain.proofs.Reversal.{cfft_index-below, cfft_index-own_inverse, cfft_index-even}
use Rattle.circle_domain.proofs.Reversal.{cfft_index-odd, reversed-complement}
use Rattle.circle_domain.proofs.StandardDomain.{standard-genuine}
use Rattle.circle_domain.proofs.Walking.{standard-point}
use Rattle.circle_quotient.proofs.Cosets.{coset-doubled}
use Rattle.circle_quotient.proofs.Monomials.{zero_factor}

module _ {E : Type 0} {l : FieldOps E} (laws : FieldLaws l) where
  -- a doubling forgets the sign
  opposite-doubled : (j : ℕ) (x : E) → iterated_x l j x ≡ l.zero → iterated_x l j (l.neg x) ≡ l.zero
  opposite-doubled zero x e = combine laws.ring (x ∷ []) (minus (var 0)) (con 0)
      (given (minus unit) (var 0) (con 0) ∷ []) refl (e, tt)
  opposite-doubled (suc j) x e =
      ap (iterated_x l j) (ring laws.ring (x ∷ [])
      (sum (sum (prod (minus (var 0)) (minus (var 0))) (prod (minus (var 0)) (minus (var 0))))
      (minus unit))
      (sum (sum (prod (var 0) (var 0)) (prod (var 0) (var 0))) (minus unit)) refl) ∙ e

  -- at a point q where v_n is not 0, of a point s where it is 0: one over the selector that is 0 at
  -- s alone
  pub over-line : (j : ℕ) (s q : Coordinates E) → IsOnCircle l s → IsOnCircle l q →
      iterated_x l j s.x ≡ l.zero → iterated_x l j q.x ≢ l.zero →
      sub l s.x q.x ≢ l.zero →
      l.inv (to_line l (plus l q (opposite l s))) ≡ l.mul (l.add s.y q.y) (l.inv (sub l s.x q.x))
  over-line j s q on_s on_q at_s at_q apart =
      let d = plus l q (opposite l s) in
      let sx : Expr = var 0 in let sy : Expr = var 1 in let qx : Expr = var 2 in
      let qy : Expr = var 3 in let i : Expr = var 4 in let b : Expr = var 5 in
      let dx : Expr = sum (prod qx sx) (minus (prod qy (minus sy))) in
      let dy : Expr = sum (prod qx (minus sy)) (prod qy sx) in
      let away : l.add d.x l.one ≢ l.zero = λ z.
      let square : l.mul d.y d.y ≡ l.zero =
      combine laws.ring (s.x ∷ s.y ∷ q.x ∷ q.y ∷ []) (prod dy dy) (con 0)
      (given (sum (prod qx qx) (prod qy qy)) (sum (prod sx sx) (prod sy sy)) unit
      ∷ given unit (sum (prod qx qx) (prod qy qy)) unit
      ∷ given (minus (sum dx (minus unit))) (sum dx unit) (con 0) ∷ []) refl
      (on_s, (on_q, (z, tt))) in
      let straight : d.y ≢ l.zero = λ flat.
      let back : q.x ≡ l.neg s.x =
      combine laws.ring (s.x ∷ s.y ∷ q.x ∷ q.y ∷ []) qx (minus sx)
      (given sx (sum dx unit) (con 0) ∷ given (minus sy) dy (con 0)
      ∷ given (minus qx) (sum (prod sx sx) (prod sy sy)) unit ∷ []) refl
      (z, (flat, (on_s, tt))) in
      at_q (ap (iterated_x l j) back ∙ opposite-doubled j s.x at_s) in
      nonzero_product laws d.y d.y straight straight square in
      let cot : l.mul (l.add s.y q.y) d.y ≡ l.mul (l.add d.x l.one) (sub l s.x q.x) =
      combine laws.ring (s.x ∷ s.y ∷ q.x ∷ q.y ∷ []) (prod (sum sy qy) dy)
      (prod (sum dx unit) (sum sx (minus qx)))
      (given sx (sum (prod qx qx) (prod qy qy)) unit
      ∷ given (minus qx) (sum (prod sx sx) (prod sy sy)) unit ∷ []) refl (on_q, (on_s, tt)) in
      let t = to_line l d in
      let u = l.mul (l.add s.y q.y) (l.inv (sub l s.x q.x)) in
      let whole : l.mul u t ≡ l.one =
      combine laws.ring
      (s.x ∷ s.y ∷ q.x ∷ q.y ∷ l.inv (sub l s.x q.x) ∷ l.inv (l.add d.x l.one) ∷ [])
      (prod (prod (sum sy qy) i) (prod dy b)) unit
      (given (prod i b) (prod (sum sy qy) dy) (prod (sum dx unit) (sum sx (minus qx)))
      ∷ given (prod (sum dx unit) b) (prod (sum sx (minus qx)) i) unit
      ∷ given unit (prod (sum dx unit) b) unit ∷ []) refl
      (cot, (laws.mul_inv (sub l s.x q.x) apart, (laws.mul_inv (l.add d.x l.one) away, tt))) in
      sym (inverse_unique laws t u (nonzero_factor laws t u whole) whole)

dot-zeros : {E : Type 0} {l : FieldOps E} (laws : FieldLaws l) (xs : List E) (n : ℕ) →
    dot l xs (replicate n l.zero) ≡ l.zero
dot-zeros laws [] n = refl
dot-zeros laws (x ∷ xs) zero = refl
dot-zeros {l = l} laws (x ∷ xs) (suc n) =
    ap (l.add (l.mul x l.zero)) (dot-zeros laws xs n)
    ∙ ring laws.ring (x ∷ []) (sum (prod (var 0) (con 0)) (con 0)) (con 0) refl

times-opposite : {E : Type 0} {l : FieldOps E} (laws : FieldLaws l) (n : ℕ) (p : Coordinates E) →
    times l n (opposite l p) ≡ opposite l (times l n p)
times-opposite {l = l} laws zero p = same_coordinates refl
    (ring laws.ring [] (con 0) (minus (con 0)) refl)
times-opposite {l = l} laws (suc n) p =
    let q = times l n p in
    ap (plus l (opposite l p)) (times-opposite laws n p)
    ∙ same_coordinates
    (ring laws.ring (p.x ∷ p.y ∷ q.x ∷ q.y ∷ [])
    (sum (prod (var 0) (var 2)) (minus (prod (minus (var 1)) (minus (var 3)))))
    (sum (prod (var 0) (var 2)) (minus (prod (var 1) (var 3)))) refl)
    (ring laws.ring (p.x ∷ p.y ∷ q.x ∷ q.y ∷ [])
    (sum (prod (var 0) (minus (var 3))) (prod (minus (var 1)) (var 2)))
    (minus (sum (prod (var 0) (var 3)) (prod (var 1) (var 2)))) refl)

coset-head : {F : Type 0} (k : FieldOps F) (gen : ℕ → Coordinates F) (m : ℕ) (s : Coordinates F) →
    (rest : List (Coordinates F)) × (coset k gen m s ≡ s ∷ rest)
coset-head k gen zero s = ([], refl)
coset-head k gen (suc m) s =
    let first = coset-head k gen m s in
    let more = coset k gen m (plus k s (gen (suc m))) in
    (first.0 ++ more, ap (λ ps. ps ++ more) first.1)

module _ {E : Type 0} {l : FieldOps E} (laws : FieldLaws l) {gen : ℕ → Coordinates E} {bits : ℕ}
    (gens : AreGenerators l bits gen) (j : ℕ) (fits : suc j < bits) where
  abbrev pub shift : Coordinates E
  shift = gen (suc j + 1)

  abbrev pub points : List (Coordinates E)
  points = coset l gen j shift

  on_shift : IsOnCircle l shift
  on_shift = gens.on_circle (suc j + 1) (omega (arith, fits))

  genuine : times l (2 ^ suc j) shift ≢ origin l
  genuine = (standard-genuine laws gens (suc j) (omega arith) fits).1

  -- v_n is 0 at the shift
  pub at_shift : iterated_x l j shift.x ≡ l.zero
  at_shift =
      let p = times l (2 ^ j) shift in
      let e : suc j + 1 ≡ j + 2 = omega arith in
      let up : p ≡ gen 2 =
      ap (λ i. times l (2 ^ j) (gen i)) e
      ∙ times-generator laws.ring gens j 2 (omega (arith, fits)) in
      let double : plus l p p ≡ gen 1 =
      ap (λ r. plus l r r) up ∙ gens.doubled 1 (omega (arith, fits)) in
      let turn = double ∙ gens.half_turn in
      let twice : l.add p.x p.x ≡ l.zero =
      combine laws.ring (p.x ∷ p.y ∷ []) (sum (var 0) (var 0)) (con 0)
      (given (var 0) (sum (prod (var 0) (var 0)) (minus (prod (var 1) (var 1)))) (minus unit)
      ∷ given (minus (var 0)) (sum (prod (var 0) (var 0)) (prod (var 1) (var 1))) unit
      ∷ given (var 1) (sum (prod (var 0) (var 1)) (prod (var 1) (var 0))) (con 0) ∷ []) refl (
        ap (λ (r : Coordinates E). r.x) turn,
        (
          times-on_circle laws.ring (2 ^ j) shift on_shift,
          (ap (λ (r : Coordinates E). r.y) turn, tt),
        ),
      ) in
      iterated_x-times laws.ring j shift on_shift
      ∙ zero_factor laws (l.add l.one l.one) p.x laws.two_nonzero
      (ring laws.ring (p.x ∷ []) (prod (sum unit unit) (var 0)) (sum (var 0) (var 0)) refl ∙ twice)

  all-apart : (q : Coordinates E) → iterated_x l j q.x ≢ l.zero → (ps : List (Coordinates E)) →
      AllByRecursion (λ p. iterated_x l j p.x ≡ l.zero) ps →
      AllByRecursion (λ p. sub l p.x q.x ≢ l.zero) ps
  all-apart q off [] all = tt
  all-apart q off (p ∷ ps) all = (
    (λ z. off (ap (iterated_x l j) (combine laws.ring (q.x ∷ p.x ∷ []) (var 0) (var 1)
        (given (minus unit) (sum (var 1) (minus (var 0))) (con 0) ∷ []) refl (z, tt)) ∙ all.0)),
    all-apart q off ps all.1,
  )

  apart : (q : Coordinates E) → iterated_x l j q.x ≢ l.zero →
      AllByRecursion (λ p. sub l p.x q.x ≢ l.zero) points
  apart q off = all-apart q off points
      (coset-doubled laws gens j shift l.zero (omega (arith, fits)) on_shift at_shift)

  -- a polynomial with these values at the points in the transform's order
  told : (ws : List E) → length ws ≡ 2 ^ suc j → (c : List E) × (length c ≡ 2 ^ suc j)
      × (map (value l c) (cfft_order l gen (suc j) shift) ≡ ws)
  told ws long = column-told laws gens (suc j) shift (omega (arith, fits)) on_shift
      (omega arith, genuine) ws long

  -- 1 at the first point, and at its opposite, 0 at the others
  abbrev pub first_values : List E
  first_values = l.one ∷ replicate (2 ^ suc j - 1) l.zero

  abbrev pub last_values : List E
  last_values = l.zero ∷ l.one ∷ replicate (2 ^ suc j - 2) l.zero

  pub first_told : (c : List E) × (length c ≡ 2 ^ suc j)
      × (map (value l c) (cfft_order l gen (suc j) shift) ≡ first_values)
  first_told = told first_values
      (omega (arith, length-replicate (2 ^ suc j - 1) l.zero, pow_pos (suc j)))

  pub last_told : (c : List E) × (length c ≡ 2 ^ suc j)
      × (map (value l c) (cfft_order l gen (suc j) shift) ≡ last_values)
  last_told = told last_values
      (omega (arith, length-replicate (2 ^ suc j - 2) l.zero, pow_pos j, pow-suc 2 j))

  -- the normalisation of the first point
  abbrev pub normal : E
  normal = l.neg (l.mul (nth_power l (two l) (suc j)) (times l (2 ^ j) shift).y)

  module _ (q : Coordinates E) (on : IsOnCircle l q) (off : iterated_x l j q.x ≢ l.zero) where
    abbrev v : E
    v = sub l (iterated_x l j q.x) (iterated_x l j shift.x)

    abbrev first_share : E
    first_share = l.mul (l.add shift.y q.y) (l.inv (sub l shift.x q.x))

    abbrev last_share : E
    last_share = l.mul (sub l shift.y q.y) (l.inv (sub l shift.x q.x))

    summed : (c ws : List E) → length c ≡ 2 ^ suc j →
        map (value l c) (cfft_order l gen (suc j) shift) ≡ ws →
        value l c q ≡ l.mul (dot l (shares l q points) ws) (l.mul v (l.inv normal))
    summed c ws long e =
        let same : suc j - 1 ≡ j = omega arith in
        sym (shares-sum laws j shift q on_shift genuine gens c long (omega (arith, fits))
        (apart q off))
        ∙ ap (λ vs. l.mul (dot l (shares l q points) vs) (l.mul v (l.inv normal)))
        (ap (λ i. map (value l c) (with_opposites l (coset l gen i shift))) (sym same) ∙ e)

    first_dot : dot l (shares l q points) first_values ≡ first_share
    first_dot =
        let head = coset-head l gen j shift in
        ap (λ ps. dot l (shares l q ps) first_values) head.1
        ∙ ap (l.add (l.mul first_share l.one))
        (dot-zeros laws (last_share ∷ shares l q head.0) (2 ^ suc j - 1))
        ∙ ring laws.ring (first_share ∷ []) (sum (prod (var 0) unit) (con 0)) (var 0) refl

    last_dot : dot l (shares l q points) last_values ≡ last_share
    last_dot =
        let head = coset-head l gen j shift in
        ap (λ ps. dot l (shares l q ps) last_values) head.1
        ∙ ap (λ z. l.add (l.mul first_share l.zero) (l.add (l.mul last_share l.one) z))
        (dot-zeros laws (shares l q head.0) (2 ^ suc j - 2))
        ∙ ring laws.ring (first_share ∷ last_share ∷ [])
        (sum (prod (var 0) (con 0)) (sum (prod (var 1) unit) (con 0))) (var 1) refl

    first_apart : sub l shift.x q.x ≢ l.zero
    first_apart = (subst (AllByRecursion (λ p. sub l p.x q.x ≢ l.zero))
        (coset-head l gen j shift).1 (apart q off)).0

    normal-inverse : l.mul normal (l.inv normal) ≡ l.one
    normal-inverse = laws.mul_inv normal (s_p-nonzero laws j shift q on_shift genuine)

    vanishing-there : vanishing_on l (suc j) shift q ≡ v
    vanishing-there = let same : suc j - 1 ≡ j = omega arith in
        ap (λ i. sub l (iterated_x l i q.x) (iterated_x l i shift.x)) same

    -- the selectors, by these polynomials
    pub first_row-value : first_row l (suc j) shift q ≡ l.mul normal (value l first_told.0 q)
    first_row-value =
        ap (λ w. l.mul w (l.inv (to_line l (plus l q (opposite l shift))))) vanishing-there
        ∙ ap (l.mul v) (over-line laws j shift q on_shift on at_shift off first_apart)
        ∙ combine laws.ring (v ∷ first_share ∷ normal ∷ l.inv normal ∷ value l first_told.0 q ∷ [])
        (prod (var 0) (var 1)) (prod (var 2) (var 4))
        (given (minus (var 2)) (var 4) (prod (var 1) (prod (var 0) (var 3)))
        ∷ given (minus (prod (var 0) (var 1))) (prod (var 2) (var 3)) unit ∷ []) refl (
          summed first_told.0 first_values first_told.1 first_told.2
              ∙ ap (λ w. l.mul w (l.mul v (l.inv normal))) first_dot,
          (normal-inverse, tt),
        )

    pub last_row-value : last_row l (suc j) shift q
        ≡ l.neg (l.mul normal (value l last_told.0 q))
    last_row-value =
        let o = opposite l shift in
        ap (λ w. l.mul w (l.inv (to_line l (plus l q (opposite l o))))) vanishing-there
        ∙ ap (l.mul v) (over-line laws j o q (opposite-on_circle laws.ring shift on_shift) on
        at_shift off first_apart)
        ∙ combine laws.ring
        (v ∷ shift.y ∷ q.y ∷ l.inv (sub l shift.x q.x) ∷ normal ∷ l.inv normal
        ∷ value l last_told.0 q ∷ [])
        (prod (var 0) (prod (sum (minus (var 1)) (var 2)) (var 3))) (minus (prod (var 4) (var 6)))
        (given (var 4) (var 6)
        (prod (prod (sum (var 1) (minus (var 2))) (var 3)) (prod (var 0) (var 5)))
        ∷ given (prod (var 0) (prod (sum (var 1) (minus (var 2))) (var 3)))
        (prod (var 4) (var 5)) unit ∷ []) refl (
          summed last_told.0 last_values last_told.1 last_told.2
              ∙ ap (λ w. l.mul w (l.mul v (l.inv normal))) last_dot,
          (normal-inverse, tt),
        )

    pub transition-value : transition l (suc j) shift q ≡ sub l l.one (value l last_told.0 q)
    transition-value =
        let o = opposite l shift in
        let same : suc j - 1 ≡ j = omega arith in
        let power = nth_power l (two l) (suc j) in
        let turned : normaliser l (suc j) o ≡ l.neg normal =
        ap (λ i. l.neg (l.mul power (times l (2 ^ i) o).y)) same
        ∙ ap (λ (r : Coordinates E). l.neg (l.mul power r.y)) (times-opposite laws (2 ^ j) shift)
        ∙ ring laws.ring (power ∷ (times l (2 ^ j) shift).y ∷ [])
        (minus (prod (var 0) (minus (var 1)))) (minus (minus (prod (var 0) (var 1)))) refl in
        let inverse : l.inv (normaliser l (suc j) o) ≡ l.neg (l.inv normal) =
        ap l.inv turned
        ∙ sym (inverse_unique laws (l.neg normal) (l.neg (l.inv normal))
        (neg-nonzero laws normal (s_p-nonzero laws j shift q on_shift genuine))
        (combine laws.ring (normal ∷ l.inv normal ∷ []) (prod (minus (var 1)) (minus (var 0))) unit
        (given unit (prod (var 0) (var 1)) unit ∷ []) refl (normal-inverse, tt))) in
        ap (λ w. sub l l.one (l.mul w (l.inv (normaliser l (suc j) o)))) last_row-value
        ∙ ap (λ w. sub l l.one (l.mul (l.neg (l.mul normal (value l last_told.0 q))) w)) inverse
        ∙ combine laws.ring (normal ∷ l.inv normal ∷ value l last_told.0 q ∷ [])
        (sum unit (minus (prod (minus (prod (var 0) (var 2))) (minus (var 1)))))
        (sum unit (minus (var 2)))
        (given (minus (var 2)) (prod (var 0) (var 1)) unit ∷ []) refl (normal-inverse, tt)

  -- the polynomials at the domain's points in natural order
  abbrev point : ℕ → Coordinates E
  point i = plus l shift (times l i (gen (suc j)))

  at_point : (c ws : List E) → map (value l c) (cfft_order l gen (suc j) shift) ≡ ws → (i : ℕ) →
      i < 2 ^ suc j → value l c (point i) ≡ slice_index_or ws (cfft_index (suc j) i) l.zero
  at_point c ws e i lt =
      let n = suc j in
      let same : n - 1 ≡ j = omega arith in
      let there = cfft_order l gen n shift in
      let t = cfft_index n i in
      let below : t < 2 ^ n = cfft_index-below n i in
      let long : length there ≡ 2 ^ n = length-cfft_order laws.ring gens n shift (omega arith) in
      let own : cfft_index n t ≡ i = cfft_index-own_inverse n i lt in
      let here : slice_index_or there t (origin l) ≡ point i =
      ap (λ m. slice_index_or (with_opposites l (coset l gen m shift)) t (origin l)) same
      ∙ cfft-place laws.ring gens j t shift (origin l) below (omega (arith, fits))
      ∙ ap
      (λ m. slice_index_or (natural_from l (2 ^ m) (gen m) shift 0) (cfft_index n t) (origin l))
      (sym same)
      ∙ ap (λ m. slice_index_or (natural_order l gen n shift) m (origin l)) own
      ∙ get_or_from_slice_get (natural_order l gen n shift) i (point i) (origin l)
      (standard-point laws.ring gens n (omega arith) fits i lt) in
      sym (ap (λ ws. slice_index_or ws t l.zero) (sym e)
      ∙ get_or-map (value l c) there t (origin l) l.zero (omega (arith, below, long))
      ∙ ap (value l c) here)

  zeros-read : (m t : ℕ) → slice_index_or (replicate m l.zero) t l.zero ≡ l.zero
  zeros-read zero t = refl
  zeros-read (suc m) zero = refl
  zeros-read (suc m) (suc t) = zeros-read m t

  ones : (ws : List E) (t s : ℕ) → t ≡ s → slice_index_or ws t l.zero ≡ slice_index_or ws s l.zero
  ones ws t s e = ap (λ i. slice_index_or ws i l.zero) e

  reversed-none : (n : ℕ) → reversed n 0 ≡ 0
  reversed-none zero = refl
  reversed-none (suc n) = omega (arith, reversed-none n)

  -- places 0 and 1 of the transform's order are the first and the last of the natural one
  first_place : (i : ℕ) → i < 2 ^ suc j → cfft_index (suc j) i ≡ 0 → i ≡ 0
  first_place i lt e = sym (cfft_index-own_inverse (suc j) i lt) ∙ ap (cfft_index (suc j)) e
      ∙ cfft_index-even (suc j) 0 refl ∙ reversed-none (suc j)

  last_place-index : cfft_index (suc j) 1 + 1 ≡ 2 ^ suc j
  last_place-index =
      let whole = pow_pos (suc j) in
      let none = reversed-none (suc j) in
      omega (
        arith,
        whole,
        cfft_index-odd (suc j) 1 refl,
        reversed-complement (suc j) 0 (omega (arith, whole)),
        none,
      )

  last_place : (i : ℕ) → i < 2 ^ suc j → cfft_index (suc j) i ≡ 1 → i + 1 ≡ 2 ^ suc j
  last_place i lt e =
      ap (λ k. k + 1) (sym (cfft_index-own_inverse (suc j) i lt) ∙ ap (cfft_index (suc j)) e)
      ∙ last_place-index

  pub first-elsewhere : (i : ℕ) → i < 2 ^ suc j → (i ≡ 0 → ⊥) → value l first_told.0 (point i)
      ≡ l.zero
  first-elsewhere i lt other =
      at_point first_told.0 first_values first_told.2 i lt ∙ go (cfft_index (suc j) i) refl
    where
      go : (t : ℕ) → cfft_index (suc j) i ≡ t → slice_index_or first_values t l.zero ≡ l.zero
      go zero e = absurd (other (first_place i lt e))
      go (suc t) e = zeros-read (2 ^ suc j - 1) t

  pub last-elsewhere : (i : ℕ) → i < 2 ^ suc j → (i + 1 ≡ 2 ^ suc j → ⊥) →
      value l last_told.0 (point i) ≡ l.zero
  last-elsewhere i lt other =
      at_point last_told.0 last_values last_told.2 i lt ∙ go (cfft_index (suc j) i) refl
    where
      go : (t : ℕ) → cfft_index (suc j) i ≡ t → slice_index_or last_values t l.zero ≡ l.zero
      go zero e = refl
      go (suc zero) e = absurd (other (last_place i lt e))
      go (suc (suc t)) e = zeros-read (2 ^ suc j - 2) t

  pub last-there : (i : ℕ) → i + 1 ≡ 2 ^ suc j → value l last_told.0 (point i) ≡ l.one
  last-there i e =
      let lt : i < 2 ^ suc j = omega (arith, e) in
      let place : cfft_index (suc j) 1 ≡ i = omega (arith, e, last_place-index) in
      let two : 1 < 2 ^ suc j = omega (arith, pow_pos j, pow-suc 2 j) in
      at_point last_told.0 last_values last_told.2 i lt
      ∙ ones last_values (cfft_index (suc j) i) 1
      (ap (cfft_index (suc j)) (sym place) ∙ cfft_index-own_inverse (suc j) 1 two)

  pub first-there : value l first_told.0 (point 0) ≡ l.one
  first-there =
      let lt : 0 < 2 ^ suc j = omega (arith, pow_pos (suc j)) in
      at_point first_told.0 first_values first_told.2 0 lt
      ∙ ones first_values (cfft_index (suc j) 0) 0 (cfft_index-even (suc j) 0 refl
      ∙ reversed-none (suc j))

  pub normal-nonzero : normal ≢ l.zero
  normal-nonzero = s_p-nonzero laws j shift shift on_shift genuine
