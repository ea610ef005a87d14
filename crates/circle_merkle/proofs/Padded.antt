-- Padded messages: how long they are, and sixteen of them one after another.
use Rattle.std.proofs.Common.{◌≡◌, ℕ, ◌+◌, ◌-◌, ◌*◌, ◌/◌, ◌%◌, ◌^◌, List, [], ◌∷◌, ◌++◌, All}
use Rattle.std.proofs.Common.{get_or, length, map, flat_map, replicate, length-append, append_assoc}
use Rattle.std.proofs.Common.{append-nil, sym, ap, refl, subst, ◌∙◌, arith}
use Rattle.std.specs.Int.{to_be_bytes, w64}
use Rattle.std.specs.List.{range_with_len}
use Rattle.std.proofs.lemmas.List.{length-replicate, take_all}
use Rattle.std.proofs.lemmas.List.Elements.{All-append}
use Rattle.std.proofs.lemmas.List.FromFn.{length-map-range_with_len, map-range_with_len_more}
use Rattle.std.proofs.lemmas.Grind.{flat_map-append}
use Rattle.sha2.specs.Sha256.{padded_message, padding}
use Rattle.circle_merkle.proofs.Sixteen.{prefix-length}

-- how long a padded message is
pub length-padded : (m : List ℕ) → length (padded_message m) ≡ length m
    + (1 + ((119 - length m % 64) % 64) + 8)
length-padded m =
    let n = length m in
    let zeros : List ℕ = replicate ((119 - n % 64) % 64) 0 in
    let bits : List ℕ = to_be_bytes w64 (n * 8 % 2 ^ 64) in
    let eight : length bits ≡ 8 = refl in
    omega (
      arith,
      length-append m (0x80 ∷ zeros ++ bits),
      length-append zeros bits,
      length-replicate {A = ℕ} ((119 - n % 64) % 64) 0,
      eight,
    )

-- messages of one length have one length when padded
pub padded-alike : (m n : List ℕ) → length m ≡ length n → length (padded_message m)
    ≡ length (padded_message n)
padded-alike m n same = omega (arith, length-padded m, length-padded n, same)

-- of sixteen messages, each as long as m when padded, the number of blocks of each
pub padded-blocks : (m : List ℕ) (all : ℕ) → all ≡ 16 * length (padded_message m) →
    64 * (all / 1024) ≡ length (padded_message m)
padded-blocks m all whole =
    let long : length (padded_message m) ≡ length m + (1 + ((119 - length m % 64) % 64) + 8) =
    length-padded m in
    omega (arith, long, whole)

-- the message of two digests behind a byte, added part by part
pub pair-added : (old left right : List ℕ) (first : ℕ) → length left ≡ 32 → length right ≡ 32
    → (((old ++ first ∷ []) ++ left) ++ right) ++ padding 65 ≡ old
    ++ padded_message ((first ∷ left) ++ right)
pair-added old left right first l r =
    let m : List ℕ = (first ∷ left) ++ right in
    let count : length m ≡ 65 = omega (arith, length-append left right) in
    ap (λ xs. (xs ++ right) ++ padding 65) (append_assoc old (first ∷ []) left)
    ∙ ap (λ xs. xs ++ padding 65) (append_assoc old (first ∷ left) right)
    ∙ append_assoc old m (padding 65)
    ∙ ap (λ k. old ++ (m ++ padding k)) (sym count)

-- a message of bytes behind a byte, added part by part
pub bytes-added : (old bytes : List ℕ) (first n : ℕ) → n ≡ length (first ∷ bytes)
    → ((old ++ first ∷ []) ++ bytes) ++ padding n ≡ old ++ padded_message (first ∷ bytes)
bytes-added old bytes first n count =
    ap (λ xs. xs ++ padding n) (append_assoc old (first ∷ []) bytes)
    ∙ append_assoc old (first ∷ bytes) (padding n)
    ∙ ap (λ k. old ++ ((first ∷ bytes) ++ padding k)) count

-- the messages of a range, one after another, all of one length when padded
abbrev pub AreMessages : (ℕ → List ℕ) → ℕ → ℕ → ℕ → List ℕ → Type 0
AreMessages f s from count bytes =
    (bytes ≡ flat_map padded_message (map f (range_with_len from count)))
    × All (λ m. length (padded_message m) ≡ s) (map f (range_with_len from count))

module _ (f : ℕ → List ℕ) (s from : ℕ) where
  pub messages-none : AreMessages f s from 0 []
  messages-none = (refl, λ k d lt. absurd (omega arith))

  pub messages-more : (i count next : ℕ) (old new : List ℕ) → from + count ≡ i → next ≡ count + 1 →
      AreMessages f s from count old
      → new ≡ old ++ padded_message (f i) → length (padded_message (f i)) ≡ s →
      AreMessages f s from next new
  messages-more i count next old new at is held added long =
      let before = map f (range_with_len from count) in
      let more : map f (range_with_len from next) ≡ before ++ f i ∷ [] =
      ap (λ n. map f (range_with_len from n)) is ∙ map-range_with_len_more f from count i at in
      let one : All (λ m. length (padded_message m) ≡ s) (f i ∷ []) = λ k d lt. let first : k ≡ 0 =
      omega arith in subst (λ k. length (padded_message (get_or (f i ∷ []) k d)) ≡ s)
      (sym first) long in (
        added ∙ ap (λ xs. xs ++ padded_message (f i)) held.0
            ∙ ap (λ xs. flat_map padded_message before ++ xs)
            (sym (append-nil (padded_message (f i))))
            ∙ sym (flat_map-append padded_message before (f i ∷ []))
            ∙ ap (flat_map padded_message) (sym more),
        subst (All (λ m. length (padded_message m) ≡ s)) (sym more)
            (All-append (λ m. length (padded_message m) ≡ s) before (f i ∷ []) held.1 one),
      )

  pub messages-length : (count : ℕ) (bytes : List ℕ) → AreMessages f s from count bytes →
      length bytes ≡ count * s
  messages-length count bytes held =
      let messages = map f (range_with_len from count) in
      let many : length messages ≡ count = length-map-range_with_len f from count in
      ap length
      (held.0 ∙ ap (flat_map padded_message) (sym (take_all count messages (omega arith))))
      ∙ prefix-length padded_message messages s count held.1 (omega arith)

  pub sixteen-at : (i : ℕ) (bytes : List ℕ) → i ≡ from + 16 →
      AreMessages f s from (i - from) bytes → AreMessages f s from 16 bytes
  sixteen-at i bytes end held =
      let many : i - from ≡ 16 = omega arith in
      subst (λ n. AreMessages f s from n bytes) many held
