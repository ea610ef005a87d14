-- Functions on places of the circle that are the values of a polynomial with 2^n coefficients plus
-- a multiple of v_n: what they are closed under.
use Rattle.std.specs.Prelude.{◌≡◌, ℕ, ◌+◌, ◌^◌, List, [], ◌∷◌, ◌++◌, length}
use Rattle.std.proofs.Common.{zero, suc, refl, sym, ◌∙◌, ap, arith}
use Rattle.std.proofs.Math.Nat.{pow-suc}
use Rattle.std.proofs.lemmas.List.{length-append}
use Rattle.circle_field.specs.Field.{FieldOps, FieldLaws, RingLaws, two}
use Rattle.circle_field.specs.Ring.{var, con, unit, plus as sum, times as prod, minus}
use Rattle.circle_field.specs.RingSound.{ring}
use Rattle.circle_field.specs.RingCombine.{given, combine}
use Rattle.circle_field.specs.Circle.{Coordinates}
use Rattle.circle_point.specs.Basis.{value}
use Rattle.circle_point.proofs.Multiples.{iterated_x-suc}
use Rattle.circle_commit.specs.DotProduct.{pairwise}
use Rattle.circle_commit.proofs.Written.{length-pairwise}
use Rattle.circle_domain.specs.Layers.{factor}
use Rattle.circle_domain.proofs.HalfSums.{value-halves, value-low}

pub two-halves : (n : ℕ) → 2 ^ suc n ≡ 2 ^ n + 2 ^ n
two-halves n = omega (arith, pow-suc 2 n)

module _ {E : Type 0} (l : FieldOps E) where
  -- a + b t, coefficient by coefficient
  abbrev pub plus_multiple : E → List E → List E → List E
  plus_multiple t = pairwise (λ a b. l.add a (l.mul b t))

  -- a and 2^n - 1 zeros
  abbrev pub constant : ℕ → E → List E
  constant zero a = a ∷ []
  constant (suc n) a = constant n a ++ constant n l.zero

  pub length-constant : (n : ℕ) (a : E) → length (constant n a) ≡ 2 ^ n
  length-constant zero a = refl
  length-constant (suc n) a =
      length-append (constant n a) (constant n l.zero)
      ∙ ap (λ i. i + length (constant n l.zero)) (length-constant n a)
      ∙ ap (λ i. 2 ^ n + i) (length-constant n l.zero) ∙ sym (two-halves n)

  module _ (laws : RingLaws l) where
    pub value-constant : (n : ℕ) (a : E) (p : Coordinates E) → value l (constant n a) p ≡ a
    value-constant zero a p = ring laws (a ∷ []) (sum (prod (var 0) (prod unit unit)) (con 0))
        (var 0) refl
    value-constant (suc n) a p =
        value-halves laws n (constant n a) (constant n l.zero) p (length-constant n a)
        (omega (arith, length-constant n l.zero))
        ∙ ap (λ v. l.add v (l.mul (value l (constant n l.zero) p) (factor l n p)))
        (value-constant n a p)
        ∙ ap (λ v. l.add a (l.mul v (factor l n p))) (value-constant n l.zero p)
        ∙ ring laws (a ∷ factor l n p ∷ []) (sum (var 0) (prod (con 0) (var 1))) (var 0) refl

module _ {E : Type 0} {l : FieldOps E} (laws : FieldLaws l) {T : Type 0} (place : T → Coordinates E)
  where
    -- the values of a polynomial with 2^n coefficients plus a multiple of v_n
    pub record IsNearLow (n : ℕ) (g : T → E) : Type 0 where
      pub low : List E
      pub multiple : E
      pub count : length low ≡ 2 ^ n
      pub values : (t : T) →
          g t ≡ l.add (value l low (place t)) (l.mul multiple (factor l n (place t)))

    pub near-same : {n : ℕ} (g h : T → E) → ((t : T) → h t ≡ g t) → IsNearLow n g → IsNearLow n h
    near-same g h same near =
        record {
          low = near.low;
          multiple = near.multiple;
          count = near.count;
          values =
              λ t. same t ∙ near.values t;
        }

    pub near-constant : (n : ℕ) (a : E) → IsNearLow n (λ t. a)
    near-constant n a = record {
      low = constant l n a;
      multiple = l.zero;
      count = length-constant l n a;
      values = λ t.
          ring laws.ring (a ∷ factor l n (place t) ∷ []) (var 0)
          (sum (var 0) (prod (con 0) (var 1)))
          refl
          ∙ ap (λ v. l.add v (l.mul l.zero (factor l n (place t))))
          (sym (value-constant l laws.ring n a (place t)));
    }

    -- g + b h
    pub near-plus : (n : ℕ) (b : E) (g h : T → E) → IsNearLow n g → IsNearLow n h →
        IsNearLow n (λ t. l.add (g t) (l.mul (h t) b))
    near-plus n b g h ng nh =
        let same : length ng.low ≡ length nh.low = ng.count ∙ sym nh.count in
        record {
          low = plus_multiple l b ng.low nh.low;
          multiple = l.add ng.multiple (l.mul nh.multiple b);
          count = length-pairwise (λ x y. l.add x (l.mul y b)) ng.low nh.low same ∙ ng.count;
          values = λ t.
              let p = place t in
              let v = factor l n p in
              ap (λ x. l.add x (l.mul (h t) b)) (ng.values t)
              ∙ ap (λ x. l.add (l.add (value l ng.low p) (l.mul ng.multiple v)) (l.mul x b))
              (nh.values t)
              ∙ ring laws.ring (value l ng.low p ∷ ng.multiple ∷ value l nh.low p ∷ nh.multiple ∷ b
              ∷ v ∷ [])
              (sum (sum (var 0) (prod (var 1) (var 5)))
              (prod (sum (var 2) (prod (var 3) (var 5))) (var 4)))
              (sum (sum (var 0) (prod (var 2) (var 4)))
              (prod (sum (var 1) (prod (var 3) (var 4))) (var 5))) refl
              ∙ ap (λ x. l.add x (l.mul (l.add ng.multiple (l.mul nh.multiple b)) v))
              (sym (value-low laws.ring b ng.low nh.low p same));
        }

    pub near-scaled : (n : ℕ) (b : E) (h : T → E) → IsNearLow n h → IsNearLow n (λ t. l.mul b (h t))
    near-scaled n b h near =
        near-same (λ t. l.add l.zero (l.mul (h t) b)) (λ t. l.mul b (h t))
        (λ t. ring laws.ring (b ∷ h t ∷ []) (prod (var 0) (var 1))
        (sum (con 0) (prod (var 1) (var 0))) refl)
        (near-plus n b (λ t. l.zero) h (near-constant n l.zero) near)

    pub near-sum : (n : ℕ) (g h : T → E) → IsNearLow n g → IsNearLow n h →
        IsNearLow n (λ t. l.add (g t) (h t))
    near-sum n g h ng nh =
        near-same (λ t. l.add (g t) (l.mul (h t) l.one)) (λ t. l.add (g t) (h t))
        (λ t. ring laws.ring (g t ∷ h t ∷ []) (sum (var 0) (var 1))
        (sum (var 0) (prod (var 1) unit))
        refl)
        (near-plus n l.one g h ng nh)

    -- v_n^2 is half of v_(n + 1) and one half
    square : (m : ℕ) (p : Coordinates E) →
        let v = factor l (suc m) p in factor l (suc (suc m)) p
        ≡ l.add (l.add (l.mul v v) (l.mul v v)) (l.neg l.one)
    square m p = iterated_x-suc l m p.x

    -- g + v_n h for twice as many coefficients
    pub near-raised : (m : ℕ) (g h : T → E) → IsNearLow (suc m) g → IsNearLow (suc m) h →
        IsNearLow (suc (suc m)) (λ t. l.add (g t) (l.mul (h t) (factor l (suc m) (place t))))
    near-raised m g h ng nh =
        let n = suc m in
        let half = l.mul nh.multiple (l.inv (two l)) in
        let lo = plus_multiple l half ng.low (constant l n l.one) in
        let hi = plus_multiple l ng.multiple nh.low (constant l n l.one) in
        let same_lo : length ng.low ≡ length (constant l n l.one) =
        ng.count ∙ sym (length-constant l n l.one) in
        let same_hi : length nh.low ≡ length (constant l n l.one) =
        nh.count ∙ sym (length-constant l n l.one) in
        let long_lo : length lo ≡ 2 ^ n =
        length-pairwise (λ x y. l.add x (l.mul y half)) ng.low (constant l n l.one) same_lo
        ∙ ng.count in
        let long_hi : length hi ≡ 2 ^ n =
        length-pairwise (λ x y. l.add x (l.mul y ng.multiple)) nh.low (constant l n l.one) same_hi
        ∙ nh.count in
        record {
          low = lo ++ hi;
          multiple = half;
          count = length-append lo hi ∙ ap (λ i. i + length hi) long_lo
              ∙ ap (λ i. 2 ^ n + i) long_hi
              ∙ sym (two-halves n);
          values = λ t.
              let p = place t in
              let v = factor l n p in
              let a = value l ng.low p in
              let b = value l nh.low p in
              let of_lo : value l lo p ≡ l.add a (l.mul l.one half) =
              value-low laws.ring half ng.low (constant l n l.one) p same_lo
              ∙ ap (λ x. l.add a (l.mul x half)) (value-constant l laws.ring n l.one p) in
              let of_hi : value l hi p ≡ l.add b (l.mul l.one ng.multiple) =
              value-low laws.ring ng.multiple nh.low (constant l n l.one) p same_hi
              ∙ ap (λ x. l.add b (l.mul x ng.multiple)) (value-constant l laws.ring n l.one p) in
              let whole : value l (lo ++ hi) p ≡ l.add (l.add a (l.mul l.one half))
              (l.mul (l.add b (l.mul l.one ng.multiple)) v) =
              value-halves laws.ring n lo hi p long_lo (omega (arith, long_hi))
              ∙ ap (λ x. l.add x (l.mul (value l hi p) v)) of_lo
              ∙ ap (λ x. l.add (l.add a (l.mul l.one half)) (l.mul x v)) of_hi in
              let i = l.inv (two l) in
              ap (λ x. l.add x (l.mul (h t) v)) (ng.values t)
              ∙ ap (λ x. l.add (l.add a (l.mul ng.multiple v)) (l.mul x v)) (nh.values t)
              ∙ combine laws.ring (a ∷ ng.multiple ∷ b ∷ nh.multiple ∷ v ∷ i ∷ [])
              (sum (sum (var 0) (prod (var 1) (var 4)))
              (prod (sum (var 2) (prod (var 3) (var 4))) (var 4)))
              (sum
              (sum (sum (var 0) (prod unit (prod (var 3) (var 5))))
              (prod (sum (var 2) (prod unit (var 1))) (var 4)))
              (prod (prod (var 3) (var 5))
              (sum (sum (prod (var 4) (var 4)) (prod (var 4) (var 4))) (minus unit))))
              (given (minus (prod (var 3) (prod (var 4) (var 4)))) (prod (sum unit unit) (var 5))
              unit
              ∷ []) refl
              (laws.mul_inv (two l) laws.two_nonzero, tt)
              ∙ ap (λ x. l.add x (l.mul half (l.add (l.add (l.mul v v) (l.mul v v)) (l.neg l.one))))
              (sym whole)
              ∙ ap (λ x. l.add (value l (lo ++ hi) p) (l.mul half x)) (sym (square m p));
        }
