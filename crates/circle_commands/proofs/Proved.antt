-- What is proved of the batches that are committed to and opened.
use Rattle.std.proofs.Common.{◌≡◌, ℕ, List, ap, map, subst}
use Rattle.std.specs.List.{AllZip}
use Rattle.circle_commit.specs.DotProduct.{pairwise}
use Rattle.circle_commit.specs.Parameters.{with_scheme}
use Rattle.circle_commit.specs.Pcs.{Openings}
use Rattle.circle_commit.specs.declared.params.FriParameters.{FriParameters}
use Rattle.circle_commit.specs.declared.pcs.OpeningRequest.{OpeningRequest}
use Rattle.circle_field.specs.declared.cubic.Cubic.{Cubic}
use Rattle.circle_field.specs.declared.mersenne31.Mersenne31.{Mersenne31}
use Rattle.circle_merkle.specs.declared.mmcs.ShaMmcs.{ShaMmcs}
use Rattle.circle_prover.specs.Opening.{IsOpening}
use Rattle.circle_codewords.specs.Requests.{AreAnswers}
use Rattle.circle_relation.specs.RunOf.{proof_of}
use Rattle.circle_commands.specs.Chosen.{preset}
use Rattle.circle_commands.specs.Proved.{AreCommitments, AreCommitted, AreOpened}
use Rattle.circle_commands.specs.Proved.{IsCommittedInput, IsRequested, batch_claimed}
use Rattle.circle_commands.specs.Verified.{batches_told}
use Rattle.circle_commands.specs.declared.prove.Committed.{Committed}
use Rattle.circle_commands.specs.declared.prove.CommittedInput.{CommittedInput}
use Rattle.circle_commands.specs.declared.prove.Input.{Input}
use Rattle.circle_commands.specs.declared.verify.Input.{Input as Claims}

module _ (input : Input) (output : Claims) where
  -- what is opened under the input's parameters is proved
  pub proved : (mmcs : ShaMmcs Mersenne31) (scheme : ShaMmcs Cubic) (committed : List Committed)
      (requests : List (OpeningRequest preset.Kept Cubic)) (values : Openings Cubic)
      (old new : List ℕ) (params : FriParameters (ShaMmcs Cubic)) →
      params ≡ with_scheme input.params scheme →
      AreCommitted mmcs params.log_blowup input.batches.items committed →
      AllZip IsRequested committed requests →
      AllZip (AreAnswers preset.schemes.kept preset.schemes.fields params.log_blowup) requests
      values
      → IsOpening params preset.schemes.kept requests values preset.schemes.fields
      preset.schemes.run (proof_of output.proof) (preset.schemes.Commits mmcs)
      (preset.schemes.authenticates mmcs) (preset.schemes.WordCommits scheme)
      (preset.schemes.word_authenticates scheme) old new
      → batches_told output.batches.items ≡ pairwise batch_claimed committed values →
      output.params ≡ input.params → AreOpened input output committed old new
  proved mmcs scheme committed requests values old new params same batches asked answered opened
      claims kept_params =
      let blowup : params.log_blowup ≡ input.params.log_blowup =
      ap (λ (p : FriParameters (ShaMmcs Cubic)). p.log_blowup) same in
      record {
        mmcs = mmcs;
        scheme = scheme;
        requests = requests;
        values = values;
        batches =
            subst (λ n. AreCommitted mmcs n input.batches.items committed) blowup batches;
        asked = asked;
        answered =
            subst
            (λ n. AllZip (AreAnswers preset.schemes.kept preset.schemes.fields n) requests values)
            blowup answered;
        opened =
            subst
            (λ (p : FriParameters (ShaMmcs Cubic)). IsOpening p preset.schemes.kept requests values
            preset.schemes.fields preset.schemes.run (proof_of output.proof)
            (preset.schemes.Commits mmcs) (preset.schemes.authenticates mmcs)
            (preset.schemes.WordCommits scheme) (preset.schemes.word_authenticates scheme) old new)
            same opened;
        claims = claims;
        params = kept_params;
      }

module _ (given : CommittedInput) (input : Input) (same : given.input.now ≡ input) where
  -- what was committed to of an input is opened of it
  pub opened-of : (output : Claims) (old new : List ℕ) →
      AreOpened given.input.now output given.batches.items old new →
      AreOpened input output given.batches.items old new
  opened-of output old new is =
      subst (λ (i : Input). AreOpened i output given.batches.items old new) same is

  -- so its commitments are to the input's batches
  pub commitments-of : (commitments : List (List ℕ)) → IsCommittedInput given →
      commitments ≡ map (λ b. b.commitment) given.batches.items → AreCommitments input commitments
  commitments-of commitments is are = record {
    mmcs = given.scheme.mmcs;
    committed = given.batches.items;
    batches =
        subst (λ (i : Input). AreCommitted given.scheme.mmcs i.params.log_blowup i.batches.items
        given.batches.items) same
        (subst (λ (n : ℕ). AreCommitted given.scheme.mmcs n given.input.now.batches.items
        given.batches.items)
        (ap (λ (p : FriParameters (ShaMmcs Cubic)). p.log_blowup) is.params) is.batches);
    are = are;
  }
