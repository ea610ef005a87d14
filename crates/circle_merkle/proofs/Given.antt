-- The digests of a proof at their positions.
use Rattle.std.specs.Prelude.{◌≡◌, ℕ, ◌+◌, ◌-◌, ◌^◌, ◌<◌, ◌≤◌, Bool, true, false, List, [], ◌∷◌}
use Rattle.std.specs.Prelude.{◌++◌, length, map, filter, drop, All, if◌then◌else◌}
use Rattle.std.specs.List.{range_with_len}
use Rattle.std.proofs.Common.{zero, suc, refl, sym, ap, subst, ◌∙◌, arith, length-drop}
use Rattle.std.proofs.lemmas.Bool.{eq-eqb, ne_eqb}
use Rattle.std.proofs.lemmas.List.{drop-drop}
use Rattle.std.proofs.lemmas.List.Elements.{All-nil, All-cons, All-weaker}
use Rattle.circle_merkle.specs.Tree.{is_taken, taken, taken_below, at_place_of, given}
use Rattle.circle_merkle.proofs.Maps.{map-same}

-- numbers in ascending order, none below low
abbrev From : ℕ → List ℕ → Type 0
From low [] = Unit {0}
From low (x ∷ xs) = (low ≤ x) × From (suc x) xs

from-lower : (a b : ℕ) (xs : List ℕ) → a ≤ b → From b xs → From a xs
from-lower a b [] le h = tt
from-lower a b (x ∷ xs) le h = (let low : b ≤ x = h.0 in omega arith, h.1)

from-filter : (p : ℕ → Bool) (a n : ℕ) → From a (filter p (range_with_len a n))
from-filter p a zero = tt
from-filter p a (suc n) =
    from-cond (p a) (filter p (range_with_len (a + 1) n)) (from-filter p (a + 1) n)
  where
    from-cond : (t : Bool) (xs : List ℕ) → From (a + 1) xs → From a (if t then a ∷ xs else xs)
    from-cond true xs h =
        (omega arith, subst (λ b. From b xs) (let e : a + 1 ≡ suc a = omega arith in e) h)
    from-cond false xs h = from-lower a (a + 1) xs (omega arith) h

all-from : (low : ℕ) (xs : List ℕ) → From low xs → All (λ x. low ≤ x) xs
all-from low [] h = All-nil (λ x. low ≤ x)
all-from low (x ∷ xs) h =
    let first : low ≤ x = h.0 in
    All-cons (λ y. low ≤ y) x xs first
    (All-weaker (λ y. suc x ≤ y) (λ y. low ≤ y) (λ y le. omega arith) xs
    (all-from (suc x) xs h.1))

-- a list is what stands in it at the places of numbers in ascending order
at-places : (low : ℕ) (places : List ℕ) (digests : List (List ℕ)) → From low places →
    length places ≤ length digests →
    digests ≡ map (λ q. at_place_of q places digests) places ++ drop (length places) digests
at-places low [] digests h le = refl
at-places low (p ∷ places) [] h le = absurd (omega arith)
at-places low (p ∷ places) (d ∷ digests) h le =
    let later = at-places (suc p) places digests h.1 (omega arith) in
    let same =
    map-same (λ q. at_place_of q places digests) (λ q. at_place_of q (p ∷ places) (d ∷ digests))
    places
    (All-weaker (λ q. suc p ≤ q) (λ q. at_place_of q places digests
    ≡ at_place_of q (p ∷ places) (d ∷ digests))
    (λ q gt. sym
    (ap (λ b. if b then d else at_place_of q places digests)
    (ne_eqb p q (λ e. absurd (omega arith))))) places (all-from (suc p) places h.1)) in
    ap (λ ds. d ∷ ds) later
    ∙ ap (λ ds. d ∷ (ds ++ drop (length places) digests)) same
    ∙ ap
    (λ e. e
    ∷ (map (λ q. at_place_of q (p ∷ places) (d ∷ digests)) places
    ++ drop (length places) digests))
    (sym (ap (λ b. if b then d else at_place_of p places digests) (eq-eqb p p refl)))

module _ (indices : List ℕ) (levels : ℕ) where
  -- higher levels have the digests of lower ones below them
  pub taken_below-more : (a n : ℕ) →
      taken_below indices levels a ≤ taken_below indices levels (n + a)
  taken_below-more a zero = let e : 0 + a ≡ a = omega arith in
      subst (λ m. taken_below indices levels a ≤ taken_below indices levels m) (sym e) (omega arith)
  taken_below-more a (suc n) =
      let e : suc n + a ≡ suc (n + a) = omega arith in
      subst (λ m. taken_below indices levels a ≤ taken_below indices levels m) (sym e)
      (omega (arith, taken_below-more a n))

  module _ (proof : List (List ℕ)) (level : ℕ) (h : level < levels)
      (count : length proof ≡ taken_below indices levels levels) where
    taken-fits : length (taken indices levels level)
        + taken_below indices levels level ≤ length proof
    taken-fits =
        let more = taken_below-more (suc level) (levels - suc level) in
        let e : levels - suc level + suc level ≡ levels = omega arith in
        let le : taken_below indices levels (suc level) ≤ taken_below indices levels levels =
        subst (λ m. taken_below indices levels (suc level) ≤ taken_below indices levels m) e
        more in
        omega (arith, le, count)

    pub given-fits : length (taken indices levels level) ≤ length
        (drop (taken_below indices levels level) proof)
    given-fits = rw length-drop (omega (arith, taken-fits))

    pub given-level : drop (taken_below indices levels level) proof
        ≡ map (given indices levels proof level) (taken indices levels level)
        ++ drop (taken_below indices levels (suc level)) proof
    given-level =
        let places = taken indices levels level in
        let digests = drop (taken_below indices levels level) proof in
        at-places 0 places digests (from-filter (is_taken indices level) 0 (2 ^ (levels - level)))
        given-fits
        ∙ ap (λ ds. map (given indices levels proof level) places ++ ds)
        (drop-drop (length places) (taken_below indices levels level) proof)
