-- Powers of two.
use Rattle.std.specs.Prelude.{◌≡◌, ℕ, ◌+◌, ◌-◌, ◌*◌, ◌/◌, ◌^◌, ◌<◌, ◌≤◌}
use Rattle.std.proofs.Common.{suc, ap, ◌∙◌, arith, lit<, ⊎_elim}
use Rattle.std.proofs.Math.Nat.{pow-suc, pow-le-pow_right}
use Rattle.std.proofs.lemmas.Nat.{pow_pos}
use Rattle.std.proofs.lemmas.Bool.{cases_lt}
use Rattle.circle_commit.specs.MmcsFacts.{pow-div}

pub pow_within : (i j : ℕ) → i ≤ j → 2 ^ i ≤ 2 ^ j
pow_within i j h = pow-le-pow_right (lit< tt) h

-- a level has twice the positions of the next
pub halves : (count level : ℕ) → level < count → 2 ^ (count - level) ≡ 2 * 2 ^ (count - (level + 1))
halves count level h =
    let e : count - level ≡ suc (count - (level + 1)) = omega arith in
    ap (λ k. 2 ^ k) e ∙ pow-suc 2 (count - (level + 1)) ∙ omega arith

-- the size of a level of a tree
pub level_size : (top count level : ℕ) → top ≡ 2 ^ count → level ≤ count → top / 2 ^ level
    ≡ 2 ^ (count - level)
level_size top count level e h = ap (λ n. n / 2 ^ level) e ∙ pow-div count level h

-- the exponents stand as the powers do
pub exponent_within : (h l : ℕ) → 2 ^ h ≤ 2 ^ l → h ≤ l
exponent_within h l le =
    ⊎_elim
    (λ lt. absurd (let next : 2 ^ suc l ≤ 2 ^ h = pow_within (suc l) h lt in
    omega (arith, next, pow-suc 2 l, pow_pos l)))
    (λ ge. ge)
    (cases_lt l h)

-- a power of two divided by its quotient with another
pub quotient_twice : (l k : ℕ) → k ≤ l → 2 ^ l / 2 ^ (l - k) ≡ 2 ^ k
quotient_twice l k h = pow-div l (l - k) (omega arith)
    ∙ (let e : l - (l - k) ≡ k = omega arith in ap (λ n. 2 ^ n) e)
