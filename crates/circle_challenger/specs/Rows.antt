-- The definitions at worked examples. Expected values were computed apart from these definitions.
use Rattle.std.specs.Prelude.{◌≡◌, ℕ, List, [], ◌∷◌, length, take, map, replicate, ◌++◌, codes}
use Rattle.std.specs.Prelude.{refl}
use Rattle.circle_field.specs.Mersenne31.{element, residue}
use Rattle.circle_challenger.specs.Step.{Step, be64, step_text}
use Rattle.circle_challenger.specs.Separator.{Separator, separator, steps_text, labels_text}
use Rattle.circle_challenger.specs.Separator.{seed_text}
use Rattle.circle_challenger.specs.Played.{element_message, elements_message, opaque_message}
use Rattle.circle_challenger.specs.Played.{pow_step, element_challenge, numbers_challenge}
use Rattle.circle_challenger.specs.Sponge.{absorbed_element, after_squeeze, sampled_element}
use Rattle.circle_challenger.specs.Sponge.{sampled_number}
use Rattle.sha2.specs.Sha256.{sha256, first_words, schedule, rounds, compress, hash_after}
use Rattle.sha2.specs.Sha256.{digest_bytes}

-- one claim of one column, one round and no grinding, in the extension of degree 3
example_steps : List Step
example_steps =
    elements_message 3 (codes "opening_point") 2
    ∷ elements_message 3 (codes "opened_values") 1
    ∷ element_challenge 3 (codes "batch_challenge")
    ∷ opaque_message (codes "first_layer_commitment")
    ∷ element_challenge 3 (codes "bivariate_challenge")
    ∷ opaque_message (codes "commit_phase_commitment")
    ∷ element_challenge 3 (codes "fold_challenge")
    ∷ element_message 3 (codes "final_poly")
    ∷ numbers_challenge (codes "query_indices") 3 2
    ∷ []

-- its labels: the number 1, and the numbers 1, 1, 1
example_labels : List (List ℕ)
unfolding be64
example_labels = be64 1 ∷ (be64 1 ++ (be64 1 ++ be64 1)) ∷ []

example : Separator
example = separator 1 (codes "p3-circle-pcs") example_steps example_labels

-- there are nine steps, and their texts have these lengths
step_lengths : map (λ s. length (step_text s)) example_steps ≡ 41 ∷ 41 ∷ 43 ∷ 50 ∷ 47 ∷ 51 ∷ 42 ∷ 38
    ∷ 41 ∷ []
unfolding example_steps step_text be64
step_lengths = refl

-- the last step's text
last_step : step_text (numbers_challenge (codes "query_indices") 3 2)
    ≡ 0 ∷ 1 ∷ 2 ∷ 0 ∷ 0 ∷ 0 ∷ 0 ∷ 0 ∷ 0 ∷ 0 ∷ 3 ∷ 0 ∷ 0 ∷ 0 ∷ 0 ∷ 0 ∷ 0 ∷ 0 ∷ 13
    ∷ 113 ∷ 117 ∷ 101 ∷ 114 ∷ 121 ∷ 95 ∷ 105 ∷ 110 ∷ 100 ∷ 105 ∷ 99 ∷ 101 ∷ 115 ∷ 1 ∷ 0 ∷ 0 ∷ 0 ∷ 0
    ∷ 0 ∷ 0 ∷ 0 ∷ 2 ∷ []
unfolding step_text be64
last_step = refl

-- a proof of work of 8 bits
pow_text : step_text (pow_step (codes "batch_pow") 8)
    ≡ 0 ∷ 2 ∷ 0 ∷ 0 ∷ 0 ∷ 0 ∷ 0 ∷ 0 ∷ 0 ∷ 0 ∷ 1 ∷ 0 ∷ 0 ∷ 0 ∷ 0 ∷ 0 ∷ 0 ∷ 0 ∷ 9
    ∷ 98 ∷ 97 ∷ 116 ∷ 99 ∷ 104 ∷ 95 ∷ 112 ∷ 111 ∷ 119 ∷ 1 ∷ 0 ∷ 0 ∷ 0 ∷ 0 ∷ 0 ∷ 0 ∷ 0 ∷ 8 ∷ []
unfolding step_text be64
pow_text = refl

-- the seed text begins with the version, the name and the number of steps
header : take 30 (seed_text example)
    ≡ 1 ∷ 0 ∷ 0 ∷ 0 ∷ 0 ∷ 0 ∷ 0 ∷ 0 ∷ 13 ∷ 112 ∷ 51 ∷ 45 ∷ 99 ∷ 105 ∷ 114 ∷ 99 ∷ 108 ∷ 101 ∷ 45
    ∷ 112 ∷ 99 ∷ 115
    ∷ 0 ∷ 0 ∷ 0 ∷ 0 ∷ 0 ∷ 0 ∷ 0 ∷ 9 ∷ []
unfolding example example_steps example_labels steps_text labels_text step_text be64
header = refl

-- the labels take 56 bytes, and the whole 480
labels_length : length (labels_text example_labels) ≡ 56
unfolding example_labels labels_text be64
labels_length = refl

seed_length : length (seed_text example) ≡ 480
unfolding example example_steps example_labels steps_text labels_text step_text be64
seed_length = refl

-- the first element and the first ten bits that the challenger over SHA-256 gives
first_element : residue (sampled_element (replicate 32 0)) ≡ 887805594
unfolding sha256 first_words schedule rounds compress hash_after digest_bytes
first_element = refl

first_bits : map (sampled_number (replicate 32 0)) (10 ∷ 63 ∷ []) ≡ 708 ∷ 1908961002832976580 ∷ []
unfolding sha256 first_words schedule rounds compress hash_after digest_bytes
first_bits = refl

-- the states after that, and after the element -1 is absorbed
after_draw : after_squeeze (replicate 32 0)
    ≡ 82 ∷ 59 ∷ 165 ∷ 167 ∷ 236 ∷ 147 ∷ 98 ∷ 219 ∷ 176 ∷ 128 ∷ 57 ∷ 163 ∷ 135 ∷ 146 ∷ 37 ∷ 146
    ∷ 204 ∷ 234 ∷ 61 ∷ 222 ∷ 99 ∷ 99 ∷ 68 ∷ 128 ∷ 205 ∷ 27 ∷ 5 ∷ 183 ∷ 189 ∷ 80 ∷ 162 ∷ 105 ∷ []
unfolding sha256 first_words schedule rounds compress hash_after digest_bytes
after_draw = refl

after_minus_one : absorbed_element (replicate 32 0) (element 2147483646)
    ≡ 8 ∷ 44 ∷ 150 ∷ 66 ∷ 179 ∷ 177 ∷ 180 ∷ 243 ∷ 23 ∷ 135 ∷ 128 ∷ 188 ∷ 60 ∷ 203 ∷ 191 ∷ 230
    ∷ 67 ∷ 121 ∷ 209 ∷ 123 ∷ 124 ∷ 16 ∷ 111 ∷ 220 ∷ 155 ∷ 183 ∷ 19 ∷ 8 ∷ 53 ∷ 105 ∷ 63 ∷ 251 ∷ []
unfolding sha256 first_words schedule rounds compress hash_after digest_bytes
after_minus_one = refl
