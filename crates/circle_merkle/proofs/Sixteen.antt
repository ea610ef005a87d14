-- Sixteen messages side by side: what a list's items are after one more was written, words of a
-- lane, rounds one by one, and where a message's bytes stand among those of all.
use Rattle.std.proofs.Common.{◌≡◌, ◌≢◌, ℕ, zero, suc, ◌+◌, ◌-◌, ◌*◌, ◌<◌, ◌≤◌, List, [], ◌∷◌}
use Rattle.std.proofs.Common.{length, flat_map, take, drop, get_or, set, slice_index, All}
use Rattle.std.proofs.Common.{length-append, refl, sym, ap, subst, ◌∙◌, arith, inl, inr}
use Rattle.std.proofs.lemmas.Bool.{cases_lt}
use Rattle.std.proofs.lemmas.List.{get_or-set_same, get_or-set_other, get_or-take, get_or-drop}
use Rattle.std.proofs.lemmas.List.Concat.{get_or-flat_map}
use Rattle.std.proofs.lemmas.List.Elements.{All-get_or}
use Rattle.std.proofs.lemmas.Grind.{same_number_lists}
use Rattle.std.proofs.lemmas.List.{length-map}
use Rattle.std.proofs.Math.ListN as M
use Rattle.sha2.specs.Sha256.{round, round_constants, rounds, schedule, word_at}
use Rattle.sha2.proofs.Schedule256.{length-schedule, rounds_next, slice_index-schedule_next}
use Rattle.circle_merkle.specs.Lanes.{lane, variables, IsBlock, IsNextWord}

-- one more item is written, of which what holds of those before it holds too
pub set-more : {X : Type 0} (P : ℕ → X → Type 0) (xs : List X) (i : ℕ) (x d : X) → i < length xs
    → ((k : ℕ) → k < i → P k (get_or xs k d)) → P i x → (k : ℕ) → k < i + 1 →
    P k (get_or (set xs i x) k d)
set-more P xs i x d fits before now k lt = elim (cases_lt k i) [
  | inl low ↦
      let other : k ≢ i = omega arith in
      subst (P k) (sym (get_or-set_other xs i k x d other)) (before k low)
  | inr high ↦
      let same : k ≡ i = omega arith in
      subst (λ (j : ℕ). P j (get_or (set xs i x) j d)) (sym same)
      (subst (P i) (sym (get_or-set_same xs i x d fits)) now)
]

-- word t of a lane
pub lane-at : (i t : ℕ) (words : List (List ℕ)) → slice_index (lane i words) t
    ≡ slice_index (get_or words t []) i
lane-at i t words = M.get_or-map (λ word. slice_index word i) words t []

-- eight lists have a lane of eight words
pub lane-variables : (i : ℕ) (v : List (List ℕ)) → length v ≡ 8
    → variables (get_or v 0 []) (get_or v 1 []) (get_or v 2 []) (get_or v 3 []) (get_or v 4 [])
    (get_or v 5 []) (get_or v 6 []) (get_or v 7 []) i ≡ lane i v
lane-variables i (a ∷ b ∷ c ∷ d ∷ e ∷ f ∷ g ∷ h ∷ []) count = refl
lane-variables i (a ∷ b ∷ c ∷ d ∷ e ∷ f ∷ g ∷ h ∷ x ∷ xs) count = absurd (omega arith)
lane-variables i (a ∷ b ∷ c ∷ d ∷ e ∷ f ∷ g ∷ []) count = absurd (omega arith)
lane-variables i (a ∷ b ∷ c ∷ d ∷ e ∷ f ∷ []) count = absurd (omega arith)
lane-variables i (a ∷ b ∷ c ∷ d ∷ e ∷ []) count = absurd (omega arith)
lane-variables i (a ∷ b ∷ c ∷ d ∷ []) count = absurd (omega arith)
lane-variables i (a ∷ b ∷ c ∷ []) count = absurd (omega arith)
lane-variables i (a ∷ b ∷ []) count = absurd (omega arith)
lane-variables i (a ∷ []) count = absurd (omega arith)
lane-variables i [] count = absurd (omega arith)

-- lists of eight numbers that agree one by one
pub eight_same : (a b c d e f g h a2 b2 c2 d2 e2 f2 g2 h2 : ℕ) → a ≡ a2 → b ≡ b2 → c ≡ c2 → d ≡ d2 →
    e ≡ e2 → f ≡ f2 → g ≡ g2 → h ≡ h2
    → a ∷ b ∷ c ∷ d ∷ e ∷ f ∷ g ∷ h ∷ [] ≡ a2 ∷ b2 ∷ c2 ∷ d2 ∷ e2 ∷ f2 ∷ g2 ∷ h2 ∷ []
eight_same a b c d e f g h a2 b2 c2 d2 e2 f2 g2 h2 ea eb ec ed ee ef eg eh =
    rw (ea, eb, ec, ed, ee, ef, eg, eh) refl

-- an item of eight from place t on
pub part-at : {X : Type 0} (xs : List X) (t j p : ℕ) (d : X) → j < 8 → p ≡ t + j →
    get_or (take (t + 8 - t) (drop t xs)) j d ≡ get_or xs p d
part-at xs t j p d low is =
    get_or-take (t + 8 - t) (drop t xs) j d (omega arith) ∙ get_or-drop t xs j d
    ∙ ap (λ k. get_or xs k d) (sym is)

-- one more round
pub rounds_more : (h w v next : List ℕ) (t n k x : ℕ) → n ≡ t + 1 → v ≡ rounds h w t →
    k ≡ slice_index round_constants t
    → x ≡ slice_index w t → next ≡ round v k x → next ≡ rounds h w n
rounds_more h w v next t n k x is ev ek ex en =
    rw (is, en) (rw (rounds_next h w t, ← ev, ← ek, ← ex) refl)

-- one more word of a lane's schedule
pub scheduled : (block second seventh fifteenth sixteenth : List ℕ) (i t word : ℕ) → 16 ≤ t → t < 64
    → slice_index second i ≡ slice_index (schedule block 48) (t - 2) → slice_index seventh i
    ≡ slice_index (schedule block 48) (t - 7)
    → slice_index fifteenth i ≡ slice_index (schedule block 48) (t - 15) → slice_index sixteenth i
    ≡ slice_index (schedule block 48) (t - 16)
    → IsNextWord second seventh fifteenth sixteenth i word →
    word ≡ slice_index (schedule block 48) t
scheduled block second seventh fifteenth sixteenth i t word from below e2 e7 e15 e16 is =
    is ∙ rw (e2, e7, e15, e16) (sym (slice_index-schedule_next block 48 t from (omega arith)))

-- a lane that has the words of a block's schedule
pub lane-schedule : (block : List ℕ) (words : List (List ℕ)) (i : ℕ) → length words ≡ 64
    → ((t : ℕ) → t < 64 → slice_index (get_or words t []) i ≡ slice_index (schedule block 48) t) →
    lane i words ≡ schedule block 48
lane-schedule block words i count at =
    let long : length (lane i words) ≡ 64 = length-map words (λ word. slice_index word i) ∙ count in
    same_number_lists (lane i words) (schedule block 48) (long ∙ sym (length-schedule block 48))
    (λ t lt. lane-at i t words ∙ at t (omega arith))

-- the bytes before message i
pub prefix-length : (f : List ℕ → List ℕ) (xs : List (List ℕ)) (s i : ℕ) →
    All (λ x. length (f x) ≡ s) xs → i ≤ length xs → length (flat_map f (take i xs)) ≡ i * s
prefix-length f xs s zero all le = omega arith
prefix-length f [] s (suc i) all le = absurd (omega arith)
prefix-length f (x ∷ xs) s (suc i) all le =
    let first : length (f x) ≡ s = all 0 x (omega arith) in
    let rest = prefix-length f xs s i (λ k d lt. all (suc k) d (omega arith)) (omega arith) in
    omega (arith, length-append (f x) (flat_map f (take i xs)), rest, first)

-- byte j of block n of message i, among all messages' bytes
byte-at : (f : List ℕ → List ℕ) (messages : List (List ℕ)) (bytes : List ℕ) (s n i j p : ℕ)
    → bytes ≡ flat_map f messages → All (λ m. length (f m) ≡ s) messages → i < length messages →
    n * 64 + 64 ≤ s → j < 64
    → p ≡ i * s + 64 * n + j → slice_index bytes p
    ≡ slice_index (take 64 (drop (n * 64) (f (get_or messages i [])))) j
byte-at f messages bytes s n i j p whole all within fits low at =
    let m : List ℕ = get_or messages i [] in
    let long : length (f m) ≡ s = All-get_or (λ m. length (f m) ≡ s) messages i [] within all in
    let before : length (flat_map f (take i messages)) ≡ i * s =
    prefix-length f messages s i all (omega arith) in
    let place : p ≡ length (flat_map f (take i messages)) + (n * 64 + j) = omega arith in
    ap (λ (xs : List ℕ). slice_index xs p) whole
    ∙ ap (slice_index (flat_map f messages)) place
    ∙ get_or-flat_map f messages i (n * 64 + j) [] 0 within (omega arith)
    ∙ sym (get_or-drop (n * 64) (f m) j 0)
    ∙ sym (get_or-take 64 (drop (n * 64) (f m)) j 0 low)

word-same : (xs ys : List ℕ) (p q : ℕ) → slice_index xs p ≡ slice_index ys q →
    slice_index xs (p + 1) ≡ slice_index ys (q + 1)
    → slice_index xs (p + 2) ≡ slice_index ys (q + 2) → slice_index xs (p + 3)
    ≡ slice_index ys (q + 3) → word_at xs p ≡ word_at ys q
word-same xs ys p q e0 e1 e2 e3 = rw (e0, e1, e2, e3) refl

-- block n of message i, among all messages' bytes
pub block-at : (f : List ℕ → List ℕ) (messages : List (List ℕ)) (bytes : List ℕ) (s n i : ℕ)
    → bytes ≡ flat_map f messages → All (λ m. length (f m) ≡ s) messages → i < length messages →
    n * 64 + 64 ≤ s
    → IsBlock bytes (i * s + 64 * n) (take 64 (drop (n * 64) (f (get_or messages i []))))
block-at f messages bytes s n i whole all within fits t lt =
    let at = λ (j p : ℕ) (low : j < 64) (is : p ≡ i * s + 64 * n + j). byte-at f messages bytes s n
    i j p whole all within fits low is in
    word-same bytes _ (i * s + 64 * n + 4 * t) (4 * t)
    (at (4 * t) (i * s + 64 * n + 4 * t) (omega arith) (omega arith))
    (at (4 * t + 1) (i * s + 64 * n + 4 * t + 1) (omega arith) (omega arith))
    (at (4 * t + 2) (i * s + 64 * n + 4 * t + 2) (omega arith) (omega arith))
    (at (4 * t + 3) (i * s + 64 * n + 4 * t + 3) (omega arith) (omega arith))
