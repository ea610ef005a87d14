-- The steps of a phase that are still due after its messages.
use Rattle.std.specs.Prelude.{codes, flat_map}
use Rattle.std.proofs.Common.{◌≡◌, ℕ, List, [], ◌∷◌, ◌++◌, drop, append_assoc, ◌∙◌}
use Rattle.circle_challenger.specs.Played.{element_challenge, numbers_challenge}
use Rattle.circle_challenger.specs.Step.{Step}
use Rattle.circle_transcript.specs.Shape.{batch_steps, claim_steps, pow_steps, query_steps}
use Rattle.circle_transcript.specs.Shape.{round_steps}
use Rattle.circle_transcript.proofs.Playing.{left_is}

pub past_claims : (degree bits : ℕ) (widths : List ℕ) (rest due left : List Step) →
    ((r : List Step) → due ≡ flat_map (claim_steps degree) widths ++ r → left ≡ r) →
    due ≡ batch_steps degree widths bits ++ rest →
    left ≡ pow_steps (codes "batch_pow") bits
    ++ (element_challenge degree (codes "batch_challenge") ∷ rest)
unfolding batch_steps
past_claims degree bits widths rest due left played is =
    played _ (is ∙ append_assoc (flat_map (claim_steps degree) widths) _ rest)
    ∙ append_assoc (pow_steps (codes "batch_pow") bits)
    (element_challenge degree (codes "batch_challenge") ∷ []) rest

pub past_commitment : (degree bits : ℕ) (rest due left : List Step) →
    due ≡ round_steps degree bits ++ rest → left ≡ drop 1 due →
    left ≡ pow_steps (codes "commit_pow") bits
    ++ (element_challenge degree (codes "fold_challenge") ∷ rest)
unfolding round_steps
past_commitment degree bits rest due left is after =
    left_is _ _ due left is after
    ∙ append_assoc (pow_steps (codes "commit_pow") bits)
    (element_challenge degree (codes "fold_challenge") ∷ []) rest

pub past_final_poly : (degree f bits width count : ℕ) (rest due left : List Step) →
    due ≡ query_steps degree f bits width count ++ rest → left ≡ drop 1 due →
    left ≡ pow_steps (codes "query_pow") bits
    ++ (numbers_challenge (codes "query_indices") width count ∷ rest)
unfolding query_steps
past_final_poly degree f bits width count rest due left is after =
    left_is _ _ due left is after
    ∙ append_assoc (pow_steps (codes "query_pow") bits)
    (numbers_challenge (codes "query_indices") width count ∷ []) rest
