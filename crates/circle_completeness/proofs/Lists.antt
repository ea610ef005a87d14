-- Lists made of others, and rows of matrices whose heights are powers of two.
use Rattle.std.specs.Prelude.{◌≡◌, ℕ, ◌+◌, ◌-◌, ◌/◌, ◌^◌, ◌<◌, ◌≤◌, if◌then◌else◌, max, Bool, true}
use Rattle.std.specs.Prelude.{false, List, [], ◌∷◌, ◌++◌, length, map, flat_map, zip}
use Rattle.std.specs.List.{AllByRecursion}
use Rattle.std.proofs.Common.{refl, ◌∙◌, ap, subst, arith, ⊎_elim}
use Rattle.std.proofs.lemmas.Bool.{cases_lt}
use Rattle.std.proofs.lemmas.List.Concat.{flat_map-append}
use Rattle.std.proofs.lemmas.Nat.{shr-shr, shr_below}
use Rattle.circle_commit.specs.Mmcs.{greatest, row_at}
use Rattle.circle_commit.specs.MmcsFacts.{row_at-powers}
use Rattle.circle_domain.proofs.Powers.{pow_within}

-- what is made of the same elements, side by side
pub zip-maps : {A B C : Type 0} (f : A → B) (g : A → C) (xs : List A) → zip (map f xs) (map g xs)
    ≡ map (λ x. (f x, g x)) xs
zip-maps f g [] = refl
zip-maps f g (x ∷ xs) = ap (λ rest. (f x, g x) ∷ rest) (zip-maps f g xs)

-- lists of lists of lists
pub flat-twice : {A B C : Type 0} (f : B → List C) (g : A → List B) (xs : List A) →
    flat_map f (flat_map g xs) ≡ flat_map (λ x. flat_map f (g x)) xs
flat-twice f g [] = refl
flat-twice f g (x ∷ xs) = flat_map-append f (g x) (flat_map g xs)
    ∙ ap (λ l. flat_map f (g x) ++ l) (flat-twice f g xs)

pub flat-same : {A B : Type 0} (f g : A → List B) (xs : List A) →
    AllByRecursion (λ x. f x ≡ g x) xs → flat_map f xs ≡ flat_map g xs
flat-same f g [] same = refl
flat-same f g (x ∷ xs) same = ap (λ l. l ++ flat_map f xs) same.0
    ∙ ap (λ l. g x ++ l) (flat-same f g xs same.1)

-- what holds of anything
pub each-known : {A : Type 0} (P : A → Type 0) → ((x : A) → P x) → (xs : List A) →
    AllByRecursion P xs
each-known P all [] = tt
each-known P all (x ∷ xs) = (all x, each-known P all xs)

-- what is the same where a test passes
pub if-same : {A : Type 0} (b : Bool) (x y none : A) → (b ≡ true → x ≡ y) → (if b then x else none)
    ≡ (if b then y else none)
if-same true x y none same = same refl
if-same false x y none same = refl

max-power : (a b : ℕ) → max (2 ^ a) (2 ^ b) ≡ 2 ^ max a b
max-power a b =
    ⊎_elim
    (λ lt.
    let order : 2 ^ a ≤ 2 ^ b = pow_within a b (omega (arith, lt)) in
    let high : max (2 ^ a) (2 ^ b) ≡ 2 ^ b = omega (arith, order) in
    high ∙ ap (λ n. 2 ^ n) (let e : b ≡ max a b = omega (arith, lt) in e))
    (λ ge.
    let order : 2 ^ b ≤ 2 ^ a = pow_within b a ge in
    let high : max (2 ^ a) (2 ^ b) ≡ 2 ^ a = omega (arith, order) in
    high ∙ ap (λ n. 2 ^ n) (let e : a ≡ max a b = omega (arith, ge) in e))
    (cases_lt a b)

-- the greatest of powers of two
pub greatest-power : (hs : List ℕ) → 1 ≤ length hs → greatest (map (λ h. 2 ^ h) hs)
    ≡ 2 ^ greatest hs
greatest-power [] some = absurd (omega (arith, some))
greatest-power (h ∷ []) some =
    let alone : max (2 ^ h) 0 ≡ 2 ^ h = omega arith in
    alone ∙ ap (λ n. 2 ^ n) (let e : h ≡ max h 0 = omega arith in e)
greatest-power (h ∷ g ∷ hs) some = ap (max (2 ^ h)) (greatest-power (g ∷ hs) (omega arith))
    ∙ max-power h (greatest (g ∷ hs))

module _ (high low most height : ℕ) (is_most : most ≡ 2 ^ high) (is_height : height ≡ 2 ^ low)
    (le : low ≤ high) where
  row-powers : (place : ℕ) → row_at most height place ≡ place / 2 ^ (high - low)
  row-powers place = ap (λ m. row_at m height place) is_most
      ∙ ap (λ n. row_at (2 ^ high) n place) is_height ∙ row_at-powers high low place le

  -- the row of a matrix of 2^low rows at a place below 2^high is one of its rows
  pub row-below : (place : ℕ) → place < 2 ^ high → row_at most height place < height
  row-below place lt =
      let split : high ≡ low + (high - low) = omega (arith, le) in
      let same = row-powers place in
      let below = shr_below place low (high - low) (subst (λ n. place < 2 ^ n) split lt) in
      omega (arith, same, is_height, below)

  -- that of a query below 2^top is the query without its lowest top - low bits
  pub row-place : (q top : ℕ) → high ≤ top → row_at most height (q / 2 ^ (top - high))
      ≡ q / 2 ^ (top - low)
  row-place q top within =
      row-powers (q / 2 ^ (top - high)) ∙ shr-shr q (top - high) (high - low)
      ∙ ap (λ n. q / 2 ^ n) (let e : top - high + (high - low) ≡ top - low =
      omega (arith, le, within) in e)
