-- Commitments are absorbed one after another.
use Rattle.std.proofs.Common.{◌≡◌, ℕ, ◌+◌, ◌<◌, ◌≤◌, List, length, drop, get_or, map, ap, sym, ◌∙◌}
use Rattle.std.proofs.Common.{replicate}
use Rattle.std.proofs.lemmas.List.{at_drop_more, drop_all}
use Rattle.circle_challenger.specs.Sponge.{absorbed}
use Rattle.circle_commands.specs.Commitments.{after_commitments}

module _ {T : Type 0} (commitment_of : T → List ℕ) where
  -- the state once the commitments of the batches were absorbed
  abbrev after : List ℕ → List T → List ℕ
  after s batches = after_commitments s (map commitment_of batches)

  -- one more was absorbed
  pub one_more : (s t : List ℕ) (batches : List T) (i : ℕ) (b : T) → i < length batches →
      b ≡ get_or batches i b → t ≡ absorbed s (commitment_of b) →
      after t (drop (i + 1) batches) ≡ after s (drop i batches)
  one_more s t batches i b h at step =
      ap (λ u. after u (drop (i + 1) batches)) step
      ∙ ap (λ x. after (absorbed s (commitment_of x)) (drop (i + 1) batches)) at
      ∙ sym (at_drop_more (after s) batches i b h)

  -- all were
  pub all_absorbed : (s : List ℕ) (batches : List T) (i : ℕ) → length batches ≤ i →
      s ≡ after s (drop i batches)
  all_absorbed s batches i h = ap (after s) (sym (drop_all i batches h))

  -- a new challenger absorbed them all
  pub from_new : (s t : List ℕ) (seen batches : List T) → s ≡ replicate 32 0 → seen ≡ batches →
      t ≡ after s seen → t ≡ after (replicate 32 0) batches
  from_new s t seen batches begun same step =
      step ∙ ap (λ u. after u seen) begun ∙ ap (after (replicate 32 0)) same
