-- Numbers of entries of periodic columns.
use Rattle.std.specs.Prelude.{◌≡◌, ℕ, ◌+◌, ◌-◌, ◌*◌, ◌%◌, ◌^◌, ◌<◌, ◌≤◌, List, [], ◌∷◌, ◌++◌}
use Rattle.std.specs.Prelude.{length, map, max, take, All}
use Rattle.std.proofs.Common.{zero, suc, refl, sym, ap, subst, ◌∙◌, arith, get_or, ⊎_elim}
use Rattle.std.specs.Int.Bits.{bit_and}
use Rattle.std.proofs.lemmas.Nat.{pow_pos, and_mask}
use Rattle.std.proofs.lemmas.Bool.{cases_lt}
use Rattle.std.proofs.lemmas.List.{length-map, take_more}
use Rattle.std.proofs.lemmas.List.Elements.{All-head, All-tail}
use Rattle.circle_commit.specs.Matrix.{IsPowerOfTwo}
use Rattle.circle_commit.specs.Mmcs.{greatest}
use Rattle.circle_domain.proofs.Powers.{pow_order}
use Rattle.circle_plane.specs.PeriodicColumns.{IsPeriod, table_height}

greatest-append : (ns : List ℕ) (n : ℕ) → greatest (ns ++ n ∷ []) ≡ max n (greatest ns)
greatest-append [] n = refl
greatest-append (m ∷ ns) n = ap (max m) (greatest-append ns n) ∙ omega arith

-- the greatest with one number more
pub greatest-more : (ns : List ℕ) (i d : ℕ) → i < length ns → greatest (take (i + 1) ns)
    ≡ max (get_or ns i d) (greatest (take i ns))
greatest-more ns i d lt = ap greatest (take_more ns i d lt)
    ∙ greatest-append (take i ns) (get_or ns i d)

-- no number is above the greatest
pub below-greatest : (ns : List ℕ) (j d : ℕ) → j < length ns → get_or ns j d ≤ greatest ns
below-greatest [] j d h = absurd (omega arith)
below-greatest (n ∷ ns) zero d h = omega arith
below-greatest (n ∷ ns) (suc j) d h = omega (arith, below-greatest ns j d (omega arith))

-- the greatest of some periods is one
pub greatest-period : (size : ℕ) (ns : List ℕ) → 1 ≤ length ns → All (IsPeriod size) ns →
    IsPeriod size (greatest ns)
greatest-period size [] some periods = absurd (omega arith)
greatest-period size (n ∷ []) some periods =
    let e : n ≡ max n 0 = omega arith in
    subst (IsPeriod size) e (All-head (IsPeriod size) n [] periods)
greatest-period size (n ∷ next ∷ ns) some periods =
    let rest = greatest (next ∷ ns) in
    ⊎_elim
    (λ lt. let e : rest ≡ max n rest = omega arith in
    subst (IsPeriod size) e
    (greatest-period size (next ∷ ns) (omega arith)
    (All-tail (IsPeriod size) n (next ∷ ns) periods)))
    (λ ge. let e : n ≡ max n rest = omega arith in
    subst (IsPeriod size) e (All-head (IsPeriod size) n (next ∷ ns) periods))
    (cases_lt n rest)

-- the greatest of some periods is positive
pub greatest-positive : (size : ℕ) (ns : List ℕ) → 1 ≤ length ns → All (IsPeriod size) ns →
    1 ≤ greatest ns
greatest-positive size ns some periods =
    let power = (greatest-period size ns some periods).0 in
    omega (arith, power.1, pow_pos power.0)

-- the number of a table's entries, of the numbers as they are at hand
pub entries-counted : (periods : List ℕ) (period a b m n width : ℕ) → period ≡ greatest periods →
    a ≡ m → b ≡ n → width ≡ length periods →
    period * 2 ^ (a - b) * width ≡ table_height periods (m - n) * length periods
entries-counted periods period a b m n width e_p e_a e_b e_w =
    ap (λ p. p * 2 ^ (a - b) * width) e_p
    ∙ ap (λ i. greatest periods * 2 ^ (i - b) * width) e_a
    ∙ ap (λ i. greatest periods * 2 ^ (m - i) * width) e_b
    ∙ ap (λ w. table_height periods (m - n) * w) e_w

-- the remainder by a power of two is the low bits
pub low-bits : (r n : ℕ) → IsPowerOfTwo n → bit_and r (n - 1) ≡ r % n
low-bits r n power = ap (λ m. bit_and r (m - 1)) power.1 ∙ and_mask r power.0
    ∙ ap (λ m. r % m) (sym power.1)

-- the logarithm of the longest period
pub log_period : {F : Type 0} (n period r : ℕ) (columns : List (List F)) → 1 ≤ length columns →
    All (IsPeriod (2 ^ n)) (map length columns) →
    period ≡ greatest (map length columns) → 2 ^ r ≡ period → (period ≡ 2 ^ r) × (r ≤ n)
log_period n period r columns some periods longest power =
    let h =
    greatest-period (2 ^ n) (map length columns)
    (omega (arith, some, length-map columns length)) periods in
    (sym power, pow_order r n (omega (arith, power, longest, h.1)))

-- the longest period is a power of two
pub longest-power : {F : Type 0} (size period : ℕ) (columns : List (List F)) → 1 ≤ length columns →
    All (IsPeriod size) (map length columns) →
    period ≡ greatest (map length columns) → IsPowerOfTwo period
longest-power size period columns some periods longest =
    subst IsPowerOfTwo (sym longest)
    (greatest-period size (map length columns) (omega (arith, some, length-map columns length))
    periods).0

pub log_positive : (period r : ℕ) → period ≡ 2 ^ r → 2 ≤ period → 1 ≤ r
log_positive period zero is two = absurd (omega (arith, is, two))
log_positive period (suc r) is two = omega arith
