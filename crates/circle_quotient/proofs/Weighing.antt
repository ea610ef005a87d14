-- The powers of a challenge as weights: what constraints put together are of their terms.
use Rattle.std.specs.Prelude.{◌≡◌, ℕ, ◌+◌, ◌<◌, List, [], ◌∷◌, map, fold, length, take}
use Rattle.std.specs.Prelude.{slice_index_or}
use Rattle.std.specs.List.{range_with_len}
use Rattle.std.proofs.Common.{zero, suc, sym, ◌∙◌, ap, refl, arith, reverse}
use Rattle.std.proofs.lemmas.List.{get_or-map, length-map, reverse-append}
use Rattle.circle_field.specs.Field.{FieldOps, FieldLaws, nth_power}
use Rattle.circle_field.specs.Ring.{var, con, unit, plus as sum, times as prod}
use Rattle.circle_field.specs.RingCombine.{given, combine}
use Rattle.circle_commit.specs.DotProduct.{dot}
use Rattle.circle_commit.proofs.ColumnSums.{dot-more}
use Rattle.circle_commit.proofs.Written.{range-more}
use Rattle.circle_air.specs.declared.node.Constraint.{Constraint}
use Rattle.circle_quotient.specs.Composition.{Selectors, term, together}
use Rattle.circle_quotient.specs.Terms.{falling_powers, terms}
use Rattle.circle_quotient.proofs.Challenges.{horner, first-term}

-- powers from the greatest on
pub reversed-powers : {E : Type 0} (l : FieldOps E) (x : E) (n : ℕ) →
    reverse (map (nth_power l x) (range_with_len 0 n)) ≡ falling_powers l x n
reversed-powers l x zero = refl
reversed-powers l x (suc n) =
    let more : suc n ≡ n + 1 = omega arith in
    let before = map (nth_power l x) (range_with_len 0 n) in
    ap (λ m. reverse (map (nth_power l x) (range_with_len 0 m))) more
    ∙ ap reverse (range-more (nth_power l x) 0 n)
    ∙ reverse-append before (nth_power l x (0 + n) ∷ [])
    ∙ ap (λ m. nth_power l x m ∷ reverse before) (let same : 0 + n ≡ n = omega arith in same)
    ∙ ap (λ rest. nth_power l x n ∷ rest) (reversed-powers l x n)

pub length-falling_powers : {E : Type 0} (l : FieldOps E) (x : E) (n : ℕ) →
    length (falling_powers l x n) ≡ n
length-falling_powers l x zero = refl
length-falling_powers l x (suc n) = ap suc (length-falling_powers l x n)

module _ {E : Type 0} {l : FieldOps E} (laws : FieldLaws l) where
  -- a sum by the powers of x as one of products
  pub horner-dot : (x : E) (ts : List E) →
      horner laws x l.zero ts ≡ dot l ts (falling_powers l x (length ts))
  horner-dot x [] = refl
  horner-dot x (t ∷ ts) =
      let power = nth_power l x (length ts) in
      let rest = dot l ts (falling_powers l x (length ts)) in
      combine laws.ring
      (x ∷ t ∷ power ∷ horner laws x l.zero ts ∷ rest
      ∷ horner laws x (l.add (l.mul x l.zero) t) ts ∷ [])
      (var 5) (sum (prod (var 1) (var 2)) (var 4))
      (given unit (var 5) (sum (var 3) (prod (sum (prod (var 0) (con 0)) (var 1)) (var 2)))
      ∷ given unit (var 3) (var 4) ∷ []) refl
      (first-term laws x (l.add (l.mul x l.zero) t) ts, (horner-dot x ts, tt))

  -- so of the terms of constraints
  pub together-horner : (s : Selectors E) (nodes : List E) (alpha a : E) (cs : List Constraint) →
      fold (λ v c. l.add (l.mul alpha v) (term l s nodes c)) a cs
      ≡ horner laws alpha a (map (term l s nodes) cs)
  together-horner s nodes alpha a [] = refl
  together-horner s nodes alpha a (c ∷ cs) =
      together-horner s nodes alpha (l.add (l.mul alpha a) (term l s nodes c)) cs

  pub together-dot : (s : Selectors E) (nodes : List E) (alpha : E) (cs : List Constraint) →
      together l cs nodes s alpha
      ≡ dot l (map (term l s nodes) cs) (falling_powers l alpha (length (map (term l s nodes) cs)))
  together-dot s nodes alpha cs =
      together-horner s nodes alpha l.zero cs ∙ horner-dot alpha (map (term l s nodes) cs)

-- the terms of one constraint more, each times its weight
pub weighted-more : {F E : Type 0} (k : FieldOps F) {l : FieldOps E} (laws : FieldLaws l)
    (m : F → E)
    (s : Selectors F) (nodes : List F) (cs : List Constraint) (weights : List E) (j : ℕ)
    (d : Constraint) (w : E) → j < length cs → length weights ≡ length cs →
    w ≡ slice_index_or weights j w →
    dot l (take (j + 1) (map m (terms k cs nodes s))) (take (j + 1) weights)
    ≡ l.add (dot l (take j (map m (terms k cs nodes s))) (take j weights))
    (l.mul (m (term k s nodes (slice_index_or cs j d))) w)
weighted-more k {l = l} laws m s nodes cs weights j d w below count is =
    let ts = terms k cs nodes s in
    let t = term k s nodes (slice_index_or cs j d) in
    let long : length ts ≡ length cs = length-map cs (term k s nodes) in
    dot-more l (λ x. x) laws.ring j (map m ts) weights (m t) w
    (omega (arith, below, long, length-map ts m)) (omega (arith, below, count))
    (sym (get_or-map m ts j t (m t) (omega (arith, below, long))
    ∙ ap m (get_or-map (term k s nodes) cs j d t below))) is
