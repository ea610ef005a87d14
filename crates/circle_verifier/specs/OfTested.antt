-- What the tests before the seeding return of a run.
use Rattle.std.specs.Prelude.{◌≡◌, List, Result}
use Rattle.std.specs.Result.{result_map_both}
use Rattle.circle_commit.specs.declared.error.FriError.{FriError}
use Rattle.circle_commit.specs.declared.params.FriParameters.{FriParameters}
use Rattle.circle_commit.specs.declared.pcs.CommitmentOpening.{CommitmentOpening}
use Rattle.circle_domain.specs.declared.domain.CircleDomain.{CircleDomain}
use Rattle.circle_relation.specs.declared.error.InputError.{InputError}
use Rattle.circle_relation.specs.declared.proof.CirclePcsProof.{CirclePcsProof}
use Rattle.circle_relation.specs.TestsInOrder.{answer}
use Rattle.circle_verifier.specs.Tests.{run_tests}
use Rattle.circle_verifier.specs.declared.tested.TestedRun.{TestedRun}

-- I and W are the schemes of the batches and of the codewords, each with its commitments, data,
-- proofs and errors; what is known of the fields is in `over`
module _ {F E I W IC ID IP IE WC WD WP WE : Type 0} {g over inputs ic ip ie words wc wp we : _}
    (t : TestedRun F E I W IC ID IP IE WC WD WP WE g over inputs ic ip ie words wc wp we) where
  -- what a run is of
  abbrev pub parts_of : FriParameters W × List (CommitmentOpening E IC (CircleDomain F g))
      × CirclePcsProof F E I W F IC ID IP IE WC WD WP WE
  parts_of = (t.params.now, t.claims.now, t.proof.now)

module _ {F E I W IC ID IP IE WC WD WP WE : Type 0} {g over inputs ic ip ie words wc wp we : _}
    (result :
    Result (TestedRun F E I W IC ID IP IE WC WD WP WE g over inputs ic ip ie words wc wp we)
    (FriError WE (InputError IE WE))) where
  -- the run of these parameters, claims and proof, or the first refusal that there is reason for
  abbrev pub IsTestedOf : FriParameters W → List (CommitmentOpening E IC (CircleDomain F g))
      → CirclePcsProof F E I W F IC ID IP IE WC WD WP WE → Type 0
  IsTestedOf p claims proof =
      result_map_both parts_of (λ e. e) result
      ≡ answer (run_tests over.fields p claims proof) (p, claims, proof)
