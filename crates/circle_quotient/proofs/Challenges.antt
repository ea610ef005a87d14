-- Sums by the powers of a challenge that are 0 for as many challenges as there are terms have no
-- term
-- but 0.
use Rattle.std.specs.Prelude.{◌≡◌, ◌≢◌, List, [], ◌∷◌, fold, length}
use Rattle.std.specs.List.{AllByRecursion}
use Rattle.std.proofs.Common.{suc, sym, ◌∙◌, ap, refl, arith}
use Rattle.circle_field.specs.Field.{FieldOps, FieldLaws, sub, nth_power}
use Rattle.circle_field.specs.Ring.{var, con, unit, plus as sum, times as prod, minus}
use Rattle.circle_field.specs.RingSound.{ring}
use Rattle.circle_field.specs.RingCombine.{given, combine}
use Rattle.circle_quotient.proofs.Monomials.{IsDistinct, all-both, zero_factor}

module _ {E : Type 0} {l : FieldOps E} (laws : FieldLaws l) where
  -- the sum of the terms, each times x to the number of those that follow, from a first term on
  abbrev pub horner : E → E → List E → E
  horner x s ts = fold (λ sum t. l.add (l.mul x sum) t) s ts

  -- the sums so far, but for the last
  abbrev partial : E → E → List E → List E
  partial r s [] = []
  partial r s (t ∷ ts) = s ∷ partial r (l.add (l.mul r s) t) ts

  length-partial : (r s : E) (ts : List E) → length (partial r s ts) ≡ length ts
  length-partial r s [] = refl
  length-partial r s (t ∷ ts) = ap suc (length-partial r (l.add (l.mul r s) t) ts)

  pub first-term : (x s : E) (ts : List E) →
      horner x s ts ≡ l.add (horner x l.zero ts) (l.mul s (nth_power l x (length ts)))
  first-term x s [] = ring laws.ring (s ∷ []) (var 0) (sum (con 0) (prod (var 0) unit)) refl
  first-term x s (t ∷ ts) =
      let power = nth_power l x (length ts) in
      first-term x (l.add (l.mul x s) t) ts
      ∙ combine laws.ring
      (x ∷ s ∷ t ∷ horner x l.zero ts ∷ power ∷ horner x (l.add (l.mul x l.zero) t) ts ∷ [])
      (sum (var 3) (prod (sum (prod (var 0) (var 1)) (var 2)) (var 4)))
      (sum (var 5) (prod (var 1) (prod (var 0) (var 4))))
      (given (minus unit) (var 5)
      (sum (var 3) (prod (sum (prod (var 0) (con 0)) (var 2)) (var 4))) ∷ []) refl
      (first-term x (l.add (l.mul x l.zero) t) ts, tt)

  -- the difference of two sums is a multiple of the difference of their challenges
  divided : (x r s : E) (ts : List E) →
      horner x s ts
      ≡ l.add (horner r s ts) (l.mul (sub l x r) (horner x l.zero (partial r s ts)))
  divided x r s [] = ring laws.ring (x ∷ r ∷ s ∷ []) (var 2)
      (sum (var 2) (prod (sum (var 0) (minus (var 1))) (con 0))) refl
  divided x r s (t ∷ ts) =
      let next = l.add (l.mul r s) t in
      let rest = partial r next ts in
      let power = nth_power l x (length ts) in
      let count = length-partial r next ts in
      combine laws.ring
      (x ∷ r ∷ s ∷ t ∷ horner x (l.add (l.mul x s) t) ts ∷ horner x l.zero ts ∷ power
      ∷ horner r next ts ∷ horner x l.zero rest ∷ horner x (l.add (l.mul x l.zero) s) rest
      ∷ horner x next ts ∷ [])
      (var 4) (sum (var 7) (prod (sum (var 0) (minus (var 1))) (var 9)))
      (given unit (var 4) (sum (var 5) (prod (sum (prod (var 0) (var 2)) (var 3)) (var 6)))
      ∷ given (minus unit) (var 10)
      (sum (var 5) (prod (sum (prod (var 1) (var 2)) (var 3)) (var 6)))
      ∷ given unit (var 10) (sum (var 7) (prod (sum (var 0) (minus (var 1))) (var 8)))
      ∷ given (minus (sum (var 0) (minus (var 1)))) (var 9)
      (sum (var 8) (prod (sum (prod (var 0) (con 0)) (var 2)) (var 6))) ∷ []) refl (
        first-term x (l.add (l.mul x s) t) ts,
        (
          first-term x next ts,
          (
            divided x r next ts,
            (
              first-term x (l.add (l.mul x l.zero) s) rest
                  ∙ ap (λ n. l.add (horner x l.zero rest)
                  (l.mul (l.add (l.mul x l.zero) s) (nth_power l x n))) count,
              tt,
            ),
          ),
        ),
      )

  from-partial : (r s : E) (ts : List E) →
      AllByRecursion (λ t. t ≡ l.zero) (partial r s ts) → horner r s ts ≡ l.zero →
      (s ≡ l.zero) × AllByRecursion (λ t. t ≡ l.zero) ts
  from-partial r s [] all e = (e, tt)
  from-partial r s (t ∷ ts) all e =
      let rest = from-partial r (l.add (l.mul r s) t) ts all.1 e in (
        all.0,
        (
          combine laws.ring (r ∷ s ∷ t ∷ []) (var 2) (con 0)
              (given unit (sum (prod (var 0) (var 1)) (var 2)) (con 0)
              ∷ given (minus (var 0)) (var 1) (con 0) ∷ []) refl (rest.0, (all.0, tt)),
          rest.1,
        ),
      )

  -- as many challenges as terms
  pub all-zero : (alphas ts : List E) → length ts ≡ length alphas → IsDistinct alphas →
      AllByRecursion (λ x. horner x l.zero ts ≡ l.zero) alphas → AllByRecursion (λ t. t ≡ l.zero) ts
  all-zero [] [] long distinct all = tt
  all-zero [] (t ∷ ts) long distinct all = absurd (omega (arith, long))
  all-zero (r ∷ alphas) [] long distinct all = absurd (omega (arith, long))
  all-zero (r ∷ alphas) (t ∷ ts) long distinct all =
      let s = l.add (l.mul r l.zero) t in
      let plain : (x : E) → l.add (l.mul x l.zero) t ≡ s = λ x.
      ring laws.ring (x ∷ r ∷ t ∷ []) (sum (prod (var 0) (con 0)) (var 2))
      (sum (prod (var 1) (con 0)) (var 2)) refl in
      let quotient : (x : E) → x ≢ r → horner x l.zero (t ∷ ts) ≡ l.zero →
      horner x l.zero (partial r s ts) ≡ l.zero = λ x apart root.
      zero_factor laws (sub l x r) (horner x l.zero (partial r s ts))
      (λ z. apart (combine laws.ring (x ∷ r ∷ []) (var 0) (var 1)
      (given unit (sum (var 0) (minus (var 1))) (con 0) ∷ []) refl (z, tt)))
      (combine laws.ring
      (l.mul (sub l x r) (horner x l.zero (partial r s ts)) ∷ horner x s ts ∷ horner r s ts ∷ [])
      (var 0) (con 0)
      (given (minus unit) (var 1) (sum (var 2) (var 0)) ∷ given unit (var 1) (con 0)
      ∷ given (minus unit) (var 2) (con 0) ∷ []) refl
      (divided x r s ts, (ap (λ v. horner x v ts) (sym (plain x)) ∙ root, (all.0, tt)))) in
      let zeros = all-zero alphas (partial r s ts) (length-partial r s ts ∙ omega (arith, long))
      distinct.1
      (all-both (λ x. x ≢ r) (λ x. horner x l.zero (t ∷ ts) ≡ l.zero)
      (λ x. horner x l.zero (partial r s ts) ≡ l.zero) alphas quotient distinct.0 all.1) in
      let each = from-partial r s ts zeros all.0 in (
        combine laws.ring (r ∷ t ∷ []) (var 1) (con 0)
            (given unit (sum (prod (var 0) (con 0)) (var 1)) (con 0) ∷ []) refl (each.0, tt),
        each.1,
      )
