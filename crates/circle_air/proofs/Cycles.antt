-- Places that go round, and lists that are written from the front.
use Rattle.std.proofs.Common.{◌≡◌, ◌≢◌, ℕ, ◌+◌, ◌%◌, ◌<◌, List, length, get_or, arith, sym, ◌∙◌, ap}
use Rattle.std.proofs.Common.{below_more}
use Rattle.std.proofs.Math.ListN.{set}
use Rattle.std.proofs.Math.Nat.{mod-add-mod, mod-eq_of_lt, mod_self}
use Rattle.std.proofs.lemmas.List.{get_or-set_same, get_or-set_other}

-- the place after the last is the first
pub after_last : (at count : ℕ) → at + 1 ≡ count → 0 ≡ (at + 1) % count
after_last at count last = sym (ap (λ n. n % count) last ∙ mod_self count)

pub after : (at count : ℕ) → at < count → (at + 1 ≡ count → ⊥) → at + 1 ≡ (at + 1) % count
after at count below more =
    let small : at + 1 < count = let apart : at + 1 ≢ count = more in omega arith in
    sym (mod-eq_of_lt small)

-- one place on
pub place_more : (first i count at next : ℕ) → at ≡ (first + i) % count → next ≡ (at + 1) % count
    → next ≡ (first + (i + 1)) % count
place_more first i count at next here is =
    is ∙ ap (λ n. (n + 1) % count) here ∙ mod-add-mod (first + i) count 1
    ∙ ap (λ n. n % count) (omega arith)

-- one entry more
pub written_more : {X : Type 0} (xs : List X) (f : ℕ → X → X) (i : ℕ) (v : X) → i < length xs
    → ((r : ℕ) (d : X) → r < i → get_or xs r d ≡ f r d) → ((d : X) → v ≡ f i d)
    → (r : ℕ) (d : X) → r < i + 1 → get_or (set xs i v) r d ≡ f r d
written_more xs f i v room before here r d below =
    below_more (λ k. get_or (set xs i v) k d ≡ f k d) i
    (λ k h. let other : k ≢ i = omega arith in get_or-set_other xs i k v d other ∙ before k d h)
    (get_or-set_same xs i v d room ∙ here d) r below

-- the rows that come next
pub next_row : (start r count first : ℕ) → first ≡ (start + 1) % count
    → (first + r) % count ≡ (start + r + 1) % count
next_row start r count first is =
    ap (λ n. (n + r) % count) is ∙ mod-add-mod (start + 1) count r
    ∙ ap (λ n. n % count) (omega arith)

pub first_place : (first count : ℕ) → first < count → first ≡ (first + 0) % count
first_place first count below = sym (ap (λ n. n % count) (omega arith) ∙ mod-eq_of_lt below)
