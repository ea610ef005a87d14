-- A worked example: the searches of an opening's own run find their witnesses, though those of
-- another run over the same claims don't.
use Rattle.std.specs.Prelude.{◌≡◌, ℕ, ◌==◌, if◌then◌else◌, Bool, true, false, List, [], ◌∷◌}
use Rattle.std.specs.Prelude.{Some, None, flat_map, slice_get}
use Rattle.std.proofs.Common.{zero, suc, refl, sym, ◌∙◌, subst}
use Rattle.circle_challenger.specs.Moves.{RunMoves, run_moves, is_passed, after_element}
use Rattle.circle_challenger.specs.Observing.{after_all}
use Rattle.circle_challenger.specs.Sampling.{after_samples}
use Rattle.circle_commit.specs.declared.matrix.RowMajorMatrix.{RowMajorMatrix}
use Rattle.circle_commit.specs.declared.params.FriParameters.{FriParameters}
use Rattle.circle_commit.specs.declared.params.PowPhase.{PowPhase}
use Rattle.circle_commit.specs.declared.params.PowPhase.TheVariants.{Batch, CommitPhase, Query}
use Rattle.circle_commit.specs.declared.pcs.OpeningRequest.{OpeningRequest}
use Rattle.circle_relation.specs.Accepts.{Fields}
use Rattle.circle_transcript.specs.Runs.{NonePasses}
use Rattle.circle_transcript.specs.Draw.{Claim, after_claims, after_round, after_rounds, closed}
use Rattle.circle_transcript.specs.Draw.{layered, seeded, taken}
use Rattle.circle_transcript.specs.Numbers.{numbers_of}
use Rattle.circle_transcript.specs.declared.transcript.Numbers.{Numbers}
use Rattle.circle_codewords.specs.Words.{Committed}
use Rattle.circle_prover.specs.Failure.{FindsNone}
use Rattle.circle_prover.specs.Opening.{answered_claims, answered_matrices}
use Rattle.circle_relation.specs.Taken.{claims_taken, shape_by}
use Rattle.p3_circle.specs.Honest.{FindsWitnesses}

-- codewords have the commitment 1, and no other
abbrev pub CommitsToOne : {E : Type 0} → List (RowMajorMatrix E) → ℕ → Type 0
CommitsToOne words commitment = commitment ≡ 1

same-either : {A : Type 0} (b : Bool) (x : A) → (if b then x else x) ≡ x
same-either true x = refl
same-either false x = refl

still : {A S : Type 0} (s : S) (xs : List A) → after_all (λ t x. t) s xs ≡ s
still s [] = refl
still s (x ∷ xs) = still s xs

still-drawn : {S : Type 0} (n : ℕ) (s : S) → after_samples (λ t. t) n s ≡ s
unfolding after_samples
still-drawn zero s = refl
still-drawn (suc n) s = still-drawn n s

not-both : true ≡ false → ⊥
not-both bad = cc

module _ {F E : Type 0} (k : Fields F E) where
  -- a challenger whose state is the commitment that it absorbed last: at any difficulty every
  -- witness passes where that is 1, and none elsewhere
  abbrev pub picky : RunMoves (Unit {0}) ℕ F E ℕ
  picky =
      run_moves (λ c. 0) (λ s x. s) (λ s commitment. commitment) (λ s. k.field.zero) (λ s. s)
      (λ s bits. if s == 1 then 0 else 1) (λ s bits. s)
      (λ s bits. if s == 1 then Some k.field.zero else None) 1 (λ x. []) (λ n. k.field.zero)
      k.field.zero

  passes-at-one : (s bits : ℕ) → s ≡ 1 → NonePasses picky.base s bits → ⊥
  passes-at-one s bits is none =
      not-both (sym (subst (λ t. is_passed picky.base t bits k.field.zero ≡ true) (sym is)
      (same-either (bits == 0) true)) ∙ none k.field.zero)

  after-one : (bits s : ℕ) (round : ℕ × F) → round.0 ≡ 1 → after_round picky bits s round ≡ 1
  after-one bits s round is =
      still-drawn 1 (if bits == 0 then round.0 else round.0) ∙ same-either (bits == 0) round.0 ∙ is

  stays-one : (bits s : ℕ) (rounds : List (ℕ × F)) → s ≡ 1
      → ((i : ℕ) (round : ℕ × F) → slice_get rounds i ≡ Some round → round.0 ≡ 1)
      → after_rounds picky bits s rounds ≡ 1
  unfolding after_rounds
  stays-one bits s [] is each = is
  stays-one bits s (round ∷ rounds) is each =
      stays-one bits (after_round picky bits s round) rounds
      (after-one bits s round (each 0 round refl)) (λ i r got. each (suc i) r got)

  module _ {M : Type 0} (p : FriParameters M) (easy : p.batch_proof_of_work_bits ≡ 0)
      (n : Numbers) (same : n.batch_pow_bits ≡ p.batch_proof_of_work_bits)
      (matrices : List (Committed F E)) (claims : List (Claim E)) (s : ℕ) where
    -- a run that absorbs commitments of the codewords alone is never stuck
    never : (phase : PowPhase) → FindsNone picky CommitsToOne k p matrices n claims s phase → ⊥
    never Batch none =
        let passes : ℕ → Type 0 =
        λ bits. is_passed picky.base (after_claims picky.base s claims) bits k.field.zero ≡ true in
        not-both (sym (subst passes (sym (same ∙ easy)) refl) ∙ none k.field.zero)
    never CommitPhase stuck =
        passes-at-one stuck.stuck.commitment n.commit_pow_bits stuck.stuck.next.1.commits
        stuck.stuck.none
    never Query stuck =
        let layer = stuck.begins.first_layer.1.commits in
        let begun = still-drawn 1 stuck.taken.first_layer ∙ layer in
        let begins = after_element picky.base (layered picky n stuck.taken s) in
        let folded = stays-one n.commit_pow_bits begins stuck.taken.rounds begun
        (λ i round got. (stuck.played.committed i round got).1.commits) in
        let ends = after_rounds picky n.commit_pow_bits begins stuck.taken.rounds in
        let closes = still ends (flat_map picky.base.coefficients stuck.taken.final_poly) in
        passes-at-one (closed picky n stuck.taken s) n.query_pow_bits (closes ∙ folded) stuck.none

  -- so it finds its witnesses
  pub own-run-finds : {D M : Type 0} (p : FriParameters M) → p.batch_proof_of_work_bits ≡ 0
      → (kept : D → List (RowMajorMatrix F)) (requests : List (OpeningRequest D E)) (s : ℕ)
      → FindsWitnesses k picky p CommitsToOne kept requests s
  own-run-finds p easy kept requests s = record {
    never_stuck = λ values e answers stuck.
        let claims = answered_claims k p kept requests values in
        let shape = shape_by p claims in
        never p easy (numbers_of shape) refl (answered_matrices k p kept requests values)
        (claims_taken k.extension claims) (seeded picky shape s) stuck.0 stuck.2;
  }

  -- a run over the same claims with a commitment of nothing is stuck at one bit before its queries
  pub other-run-is-stuck : (n : Numbers) (claims : List (Claim E)) (s : ℕ) → n.query_pow_bits ≡ 1
      → NonePasses picky.base (closed picky n (taken claims k.field.zero 2 [] [] k.field.zero) s)
      n.query_pow_bits
  unfolding after_rounds
  other-run-is-stuck n claims s hard =
      let at-two = still-drawn 1 2 in
      λ w. subst (λ t. is_passed picky.base t n.query_pow_bits w ≡ false) (sym at-two)
      (subst (λ bits. is_passed picky.base 2 bits w ≡ false) (sym hard) refl)
