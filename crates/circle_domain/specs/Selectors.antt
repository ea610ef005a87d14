-- What a domain has at points off it: its vanishing polynomial, its selectors, and its next points.
-- Circle STARKs (ePrint 2024/278), sections 3.3 and 5.1.
use Rattle.std.specs.Prelude.{◌≡◌, ◌≢◌, ℕ, ◌+◌, ◌-◌, ◌^◌, ◌<◌, ◌≤◌}
use Rattle.std.specs.Prelude.{nat_eq, if◌then◌else◌, List, All}
use Rattle.circle_field.specs.Field.{FieldOps, nth_power, two, sub}
use Rattle.circle_field.specs.Circle.{Coordinates, plus, opposite, times, lifted}
use Rattle.circle_point.specs.Basis.{vanishing}
use Rattle.circle_point.specs.Projective.{to_line, from_line}

module _ {F : Type 0} (k : FieldOps F) where
  -- a coordinate of the projective line that is not at infinity
  abbrev pub IsFinite : F → Type 0
  IsFinite t = k.mul t t ≢ k.neg k.one

  -- v_n (q) - v_n (s): the vanishing polynomial of the domain (n, s) at q
  abbrev pub vanishing_on : ℕ → Coordinates F → Coordinates F → F
  vanishing_on n s q = sub k (vanishing k n q) (vanishing k n s)

  -- the selector that is zero at p alone, at q: the projective coordinate of q - p
  abbrev pub zero_at : Coordinates F → Coordinates F → F
  zero_at p q = to_line k (plus k q (opposite k p))

  -- a value over the selector that is zero at p alone, at q
  abbrev pub over_zero_at : Coordinates F → F → Coordinates F → F
  over_zero_at p v q = k.mul v (k.inv (zero_at p q))

  -- -2^n times the y coordinate of the multiple of p by 2^(n-1)
  abbrev pub normaliser : ℕ → Coordinates F → F
  normaliser n p = k.neg (k.mul (nth_power k (two k) n) (times k (2 ^ (n - 1)) p).y)

  -- the selector of the first row, not zero at the shift s alone among the domain's points
  abbrev pub first_row : ℕ → Coordinates F → Coordinates F → F
  first_row n s q = k.mul (vanishing_on n s q) (k.inv (zero_at s q))

  -- the selector of the last row, whose point is -s
  abbrev pub last_row : ℕ → Coordinates F → Coordinates F → F
  last_row n s q = k.mul (vanishing_on n s q) (k.inv (zero_at (opposite k s) q))

  -- the selector of all rows but the last: 1 - the last row's, normalised
  abbrev pub transition : ℕ → Coordinates F → Coordinates F → F
  transition n s q = sub k k.one (k.mul (last_row n s q) (k.inv (normaliser n (opposite k s))))

-- the point of coordinate t and one step by the generator of 2^n points
abbrev pub next_from : {F E : Type 0} →
    FieldOps E → (F → E) → (ℕ → Coordinates F) → ℕ → E → Coordinates E
next_from l embed gen n t = plus l (from_line l t) (lifted embed (gen n))

-- the domain (n, s) is the standard one of its size
abbrev pub IsStandard : {F : Type 0} → ℕ → (ℕ → Coordinates F) → ℕ → Coordinates F → Type 0
IsStandard bits gen n s = (n < bits) × (s ≡ gen (n + 1))

-- no entry of one list stands in the other
abbrev pub AreDisjoint : {A : Type 0} → List A → List A → Type 0
AreDisjoint xs ys = All (λ x. All (λ y. x ≢ y) ys) xs

-- k is the least number of at least 1 for which 2^k is at least m
abbrev pub IsLeastLog : ℕ → ℕ → Type 0
IsLeastLog m k = (1 ≤ k) × (m ≤ 2 ^ k) × ((j : ℕ) → 1 ≤ j → m ≤ 2 ^ j → k ≤ j)

-- k, or one more where k is n
abbrev pub other_than : ℕ → ℕ → ℕ
other_than n k = if nat_eq k n then k + 1 else k
