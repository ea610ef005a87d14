-- The shape of a run of the scheme, the steps of its transcript and its seed.
use Rattle.std.specs.Prelude.{◌≡◌, ℕ, ◌<◌, ◌^◌, ◌==◌, if◌then◌else◌, List, [], ◌∷◌, ◌++◌, length}
use Rattle.std.specs.Prelude.{flat_map, All, codes}
use Rattle.std.proofs.Common.{zero, suc}
use Rattle.circle_challenger.specs.Step.{Step, step, be64}
use Rattle.circle_challenger.specs.Played.{elements_message, opaque_message, pow_step}
use Rattle.circle_challenger.specs.Played.{element_challenge, numbers_challenge}
use Rattle.circle_challenger.specs.Separator.{Separator, separator, seed_text}
use Rattle.circle_challenger.specs.declared.interaction.Hierarchy.TheVariants.{Atomic}
use Rattle.circle_challenger.specs.declared.interaction.Kind.TheVariants.{Message}
use Rattle.circle_challenger.specs.declared.interaction.ValueType.TheVariants.{Algebra}
use Rattle.circle_challenger.specs.declared.interaction.Length.TheVariants.{Scalar, Fixed}

-- the numbers that fix the transcript of a run: the number of columns of each claim, by batch,
-- matrix and point; the number of rounds; the difficulties of the proofs of work; how many indices
-- are drawn, and of how many bits; the logarithms of the blowup and of the number of coefficients
-- of the final polynomial
pub record Shape : Type 0 where
  pub opened_widths : List (List (List ℕ))
  pub num_commit_rounds : ℕ
  pub batch_pow_bits : ℕ
  pub commit_pow_bits : ℕ
  pub query_pow_bits : ℕ
  pub num_queries : ℕ
  pub index_bits : ℕ
  pub log_blowup : ℕ
  pub log_final_poly_len : ℕ

-- a proof of work is a step where it has a difficulty
abbrev pub pow_steps : List ℕ → ℕ → List Step
pow_steps label bits = if bits == 0 then [] else pow_step label bits ∷ []

-- a challenge that a proof of work guards
abbrev pub guarded_challenge_steps : ℕ → List ℕ → ℕ → List ℕ → List Step
guarded_challenge_steps degree pow_label bits label =
    pow_steps pow_label bits ++ element_challenge degree label ∷ []

-- numbers that a proof of work guards
abbrev pub guarded_numbers_steps : List ℕ → ℕ → List ℕ → ℕ → ℕ → List Step
guarded_numbers_steps pow_label bits label width count =
    pow_steps pow_label bits ++ numbers_challenge label width count ∷ []

-- a claim of `width` columns: its point's two coordinates, and its values
unfoldable pub claim_steps : ℕ → ℕ → List Step
claim_steps degree width =
    elements_message degree (codes "opening_point") 2
    ∷ elements_message degree (codes "opened_values") width ∷ []

-- the claims, and the challenge that batches them
unfoldable pub batch_steps : ℕ → List ℕ → ℕ → List Step
batch_steps degree widths bits =
    flat_map (claim_steps degree) widths
    ++ guarded_challenge_steps degree (codes "batch_pow") bits (codes "batch_challenge")

-- the commitment to the first layer, and the challenge that folds it
unfoldable pub first_layer_steps : ℕ → List Step
first_layer_steps degree =
    opaque_message (codes "first_layer_commitment")
    ∷ element_challenge degree (codes "bivariate_challenge") ∷ []

-- a round: a commitment, and the challenge that folds what it commits to
unfoldable pub round_steps : ℕ → ℕ → List Step
round_steps degree bits =
    opaque_message (codes "commit_phase_commitment")
    ∷ guarded_challenge_steps degree (codes "commit_pow") bits (codes "fold_challenge")

-- rounds
unfoldable pub rounds_steps : ℕ → ℕ → ℕ → List Step
rounds_steps degree bits zero = []
rounds_steps degree bits (suc n) = round_steps degree bits ++ rounds_steps degree bits n

-- the final polynomial: its one coefficient, or its 2^f coefficients where f is not 0
abbrev pub final_poly_step : ℕ → ℕ → Step
final_poly_step degree f =
    step Atomic Message (Algebra degree) (codes "final_poly")
    (if f == 0 then Scalar else Fixed (2 ^ f))

-- the final polynomial, and `count` indices of `width` bits
unfoldable pub query_steps : ℕ → ℕ → ℕ → ℕ → ℕ → List Step
query_steps degree f bits width count =
    final_poly_step degree f
    ∷ guarded_numbers_steps (codes "query_pow") bits (codes "query_indices") width count

-- the number of columns of each claim, one claim after another
abbrev pub widths_in : List (List (List ℕ)) → List ℕ
widths_in batches = flat_map (λ matrix. matrix) (flat_map (λ batch. batch) batches)

abbrev pub claimed_widths : Shape → List ℕ
claimed_widths s = widths_in s.opened_widths

-- the steps of a run whose challenges are elements of an algebra of this degree
abbrev pub steps_of : ℕ → Shape → List Step
steps_of degree s =
    batch_steps degree (claimed_widths s) s.batch_pow_bits
    ++ (first_layer_steps degree
    ++ (rounds_steps degree s.commit_pow_bits s.num_commit_rounds
    ++ query_steps degree s.log_final_poly_len s.query_pow_bits s.index_bits s.num_queries))

-- how the claims are grouped: the number of batches, for each batch its number of matrices, and for
-- each of these its number of points
unfoldable pub batch_layout : List (List ℕ) → List ℕ
batch_layout batch = be64 (length batch) ++ flat_map (λ matrix. be64 (length matrix)) batch

unfoldable pub layout : List (List (List ℕ)) → List ℕ
layout batches = be64 (length batches) ++ flat_map batch_layout batches

-- the version that the seed names, another one where the final polynomial has several coefficients
abbrev pub version_of : Shape → ℕ
version_of s = if s.log_final_poly_len == 0 then 1 else 2

-- the labels: the logarithm of the blowup, how the claims are grouped, and the logarithm of the
-- number of coefficients where it is not 0
abbrev pub labels_of : Shape → List (List ℕ)
labels_of s =
    be64 s.log_blowup ∷ layout s.opened_widths
    ∷ (if s.log_final_poly_len == 0 then [] else be64 s.log_final_poly_len ∷ [])

-- what the run is seeded with
abbrev pub separator_of : ℕ → Shape → Separator
separator_of degree s =
    separator (version_of s) (codes "p3-circle-pcs") (steps_of degree s) (labels_of s)

-- the seed's text
abbrev pub text_of : ℕ → Shape → List ℕ
text_of degree s = seed_text (separator_of degree s)

-- the numbers that the labels hold have eight bytes
pub record HasWritableLabels (s : Shape) : Type 0 where
  pub log_blowup : s.log_blowup < 2 ^ 64
  pub log_final_poly_len : s.log_final_poly_len < 2 ^ 64
  pub batch_count : length s.opened_widths < 2 ^ 64
  pub matrix_counts : All (λ batch. length batch < 2 ^ 64) s.opened_widths
  pub point_counts : All (λ batch. All (λ matrix. length matrix < 2 ^ 64) batch) s.opened_widths

-- shapes of one transcript: they agree in all but the difficulty of rounds that there aren't
pub record IsSameRun (a b : Shape) : Type 0 where
  pub opened_widths : a.opened_widths ≡ b.opened_widths
  pub num_commit_rounds : a.num_commit_rounds ≡ b.num_commit_rounds
  pub batch_pow_bits : a.batch_pow_bits ≡ b.batch_pow_bits
  pub commit_pow_bits : 0 < a.num_commit_rounds → a.commit_pow_bits ≡ b.commit_pow_bits
  pub query_pow_bits : a.query_pow_bits ≡ b.query_pow_bits
  pub num_queries : a.num_queries ≡ b.num_queries
  pub index_bits : a.index_bits ≡ b.index_bits
  pub log_blowup : a.log_blowup ≡ b.log_blowup
  pub log_final_poly_len : a.log_final_poly_len ≡ b.log_final_poly_len
