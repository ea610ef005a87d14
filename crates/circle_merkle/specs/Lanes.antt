-- Words of several messages side by side: a list has one of each message, and a lane is what is one
-- message's of such lists.
use Rattle.std.specs.Prelude.{◌≡◌, ℕ, ◌+◌, ◌*◌, ◌<◌, List, [], ◌∷◌, map, slice_index}
use Rattle.sha2.specs.Sha256.{add32, final_hash, initial_hash_256, small_sigma0, small_sigma1}
use Rattle.sha2.specs.Sha256.{word_at}

-- message i's words of lists of words
abbrev pub lane : ℕ → List (List ℕ) → List ℕ
lane i words = map (λ word. slice_index word i) words

-- message i's working variables
abbrev pub variables : List ℕ → List ℕ → List ℕ → List ℕ → List ℕ → List ℕ → List ℕ → List ℕ → ℕ →
    List ℕ
variables a b c d e f g h i =
    slice_index a i ∷ slice_index b i ∷ slice_index c i ∷ slice_index d i ∷ slice_index e i
    ∷ slice_index f i ∷ slice_index g i ∷ slice_index h i ∷ []

-- the words at a place of the bytes are those of a block
abbrev pub IsBlock : List ℕ → ℕ → List ℕ → Type 0
IsBlock bytes at block = (t : ℕ) → t < 16 → word_at bytes (at + 4 * t) ≡ word_at block (4 * t)

-- message i's next word, from those 2, 7, 15 and 16 before it
abbrev pub IsNextWord : List ℕ → List ℕ → List ℕ → List ℕ → ℕ → ℕ → Type 0
IsNextWord second seventh fifteenth sixteenth i word =
    word ≡ add32 (add32 (add32 (small_sigma1 (slice_index second i)) (slice_index seventh i))
    (small_sigma0 (slice_index fifteenth i))) (slice_index sixteenth i)

-- a message's hash value
abbrev pub final_value : List ℕ → List ℕ
final_value m = final_hash initial_hash_256 m
