-- Entries of lists, as loops read and push them.
use Rattle.std.specs.Prelude.{◌≡◌, ℕ, ◌+◌, ◌-◌, ◌*◌, ◌^◌, ◌%◌, ◌<◌, ◌≤◌, List, [], ◌∷◌, ◌++◌}
use Rattle.std.specs.Prelude.{length, map, take, drop, slice_index_or}
use Rattle.std.specs.List.{range_with_len}
use Rattle.std.proofs.Common.{suc, ◌∙◌, ap, arith, append_assoc}
use Rattle.std.proofs.Math.Nat.{pow-suc}
use Rattle.std.proofs.lemmas.List.{drop_more, length-take-le}
use Rattle.std.proofs.lemmas.Nat.{one_shl, pow_pos}
use Rattle.circle_domain.proofs.Twiddles.{made-count, made-read}

-- an entry of a list of the values of f
pub made-at : {V F : Type 0} (items_of : V → List F) (f : ℕ → List F) (all : List V) (n : ℕ) →
    map items_of all ≡ map f (range_with_len 0 n) →
    (seen : List V) (m : ℕ) (v : V) → seen ≡ all → m < length seen → v ≡ slice_index_or seen m v →
    (m < n) × (items_of v ≡ f m)
made-at items_of f all n made seen m v same lt here =
    let below : m < n = omega (arith, lt, ap length same, made-count items_of f all n made) in (
      below,
      made-read items_of f all n made m v (here ∙ ap (λ xs. slice_index_or xs m v) same)
          below,
    )

-- four entries more, before the rest
pub pushed_four : {T : Type 0} (made rest one two three four : List T) (a b c d : T) →
    one ≡ made ++ a ∷ [] → two ≡ one ++ b ∷ [] → three ≡ two ++ c ∷ [] → four ≡ three ++ d ∷ [] →
    four ++ rest ≡ made ++ (a ∷ b ∷ c ∷ d ∷ rest)
pushed_four made rest one two three four a b c d p q r s =
    ap (λ ys. ys ++ rest)
    (s
    ∙ ap (λ ys. ys ++ d ∷ [])
    (r
    ∙ ap (λ ys. ys ++ c ∷ [])
    (q ∙ ap (λ ys. ys ++ b ∷ []) p ∙ append_assoc made (a ∷ []) (b ∷ []))
    ∙ append_assoc made (a ∷ b ∷ []) (c ∷ [])) ∙ append_assoc made (a ∷ b ∷ c ∷ []) (d ∷ []))
    ∙ append_assoc made (a ∷ b ∷ c ∷ d ∷ []) rest

-- two entries more of a list of pairs
pub drop_pair : {T : Type 0} (xs : List T) (i : ℕ) (d e : T) → 2 * i + 1 < length xs →
    drop (2 * i) xs ≡ slice_index_or xs (2 * i) d ∷ slice_index_or xs (2 * i + 1) e
    ∷ drop (2 * (i + 1)) xs
drop_pair xs i d e h =
    let n : 2 * i + 1 + 1 ≡ 2 * (i + 1) = omega arith in
    drop_more xs (2 * i) d (omega (arith, h))
    ∙ ap (λ rest. slice_index_or xs (2 * i) d ∷ rest)
    (drop_more xs (2 * i + 1) e h ∙ ap (λ m. slice_index_or xs (2 * i + 1) e ∷ drop m xs) n)

-- the shift of 1, as code computes it
pub shifted : (m : ℕ) → m ≤ 62 → 1 * 2 ^ m % 18446744073709551616 ≡ 2 ^ m
shifted m small = one_shl m 64 (omega (arith, small))

-- one list with parts of 2^m, .., 4, 2, 1 entries
pub half-within : (m long : ℕ) → long + 1 ≡ 2 ^ suc m → 2 ^ m ≤ long
half-within m long count = omega (arith, count, pow-suc 2 m, pow_pos m)

-- the first of these parts
pub length-first_part : {T : Type 0} (n : ℕ) (xs : List T) → 3 ≤ n → n ≤ 62 →
    length xs + 1 ≡ 2 ^ (n - 1) →
    length (take (1 * 2 ^ (n - 2) % 18446744073709551616) xs) ≡ 2 ^ (n - 2)
length-first_part n xs some small count =
    let e : n - 1 ≡ suc (n - 2) = omega arith in
    let size = shifted (n - 2) (omega arith) in
    length-take-le (1 * 2 ^ (n - 2) % 18446744073709551616) xs
    (omega (arith, size, half-within (n - 2) (length xs) (count ∙ ap (λ i. 2 ^ i) e))) ∙ size
