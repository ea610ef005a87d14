-- What a verifier's transcript is described by, and what it absorbs.
use Rattle.std.proofs.Common.{◌≡◌, ℕ, ◌+◌, ◌≤◌, List, [], ◌∷◌, length, zip, sym, ap, ◌∙◌, arith}
use Rattle.std.proofs.Common.{inl, inr}
use Rattle.std.specs.Prelude.{All, Result, Ok, ◌⊎◌}
use Rattle.std.proofs.lemmas.List.{length-map}
use Rattle.std.proofs.lemmas.List.Elements.{All-head}
use Rattle.std.proofs.lemmas.Slice.Zip.{length-zip}
use Rattle.circle_field.specs.Field.{FieldOps}
use Rattle.circle_challenger.specs.Moves.{RunMoves}
use Rattle.circle_commit.specs.declared.params.PowPhase.{PowPhase}
use Rattle.circle_commit.specs.declared.error.FriError.{FriError}
use Rattle.circle_commit.specs.declared.error.FriError.TheVariants.{Memory}
use Rattle.circle_commit.specs.declared.params.FriParameters.{FriParameters}
use Rattle.circle_relation.specs.Statement.{BatchClaim, MatrixClaim, OpeningProof, Challenges}
use Rattle.circle_relation.specs.Statement.{all_matrices, log_max_height}
use Rattle.circle_relation.specs.StatementOf.{batch_claims}
use Rattle.circle_relation.specs.Taken.{drawn_by}
use Rattle.circle_relation.proofs.Counts.{betas-count, queries-count}
use Rattle.circle_transcript.specs.declared.failure.CircleTranscriptFailure.{CircleTranscriptFailure}
use Rattle.circle_transcript.specs.declared.failure.CircleTranscriptFailure.TheVariants.{Memory as OutOfMemory}
use Rattle.circle_transcript.specs.Failure.{phase_of}
use Rattle.circle_transcript.specs.declared.transcript.Numbers.{Numbers}
use Rattle.circle_transcript.specs.Runs.{IsMiss}
use Rattle.circle_transcript.specs.Shape.{Shape}
use Rattle.circle_transcript.specs.Draw.{Claim, Taken, taken, Drawn, draw}
use Rattle.circle_verifier.specs.Replay.{drawing, refusal_of, IsMissedIn}
use Rattle.circle_verifier.specs.Tested.{rounds_due}
use Rattle.circle_verifier.specs.declared.tested.TestedRun.{TestedRun}

-- claims that leave something to fold are of heights above what folding stops at
tested_high : {E : Type 0} (blowup final : ℕ) (ms : List (MatrixClaim E)) → 1 ≤ length ms →
    All (λ m. final + 1 ≤ m.log_n) ms → blowup + final + 1 ≤ log_max_height blowup ms
tested_high blowup final [] some all = absurd (omega (arith, some))
tested_high blowup final (m ∷ ms) some all = let here =
    All-head (λ m. final + 1 ≤ m.log_n) m ms all in omega (arith, here)

pub high-of : {F E I W IC ID IP IE WC WD WP WE : Type 0} {g over inputs ic ip ie words wc wp we : _}
    (t : TestedRun F E I W IC ID IP IE WC WD WP WE g over inputs ic ip ie words wc wp we) →
    t.params.now.log_blowup + t.params.now.log_final_poly_len + 1 ≤ t.log_max_height
high-of t =
    let high =
    tested_high t.params.now.log_blowup t.params.now.log_final_poly_len
    (all_matrices (batch_claims t.claims.now)) t.tested.some_matrix t.tested.large in
    let top = t.top in
    omega (arith, high, top)

-- what is absorbed, part by part
pub taken_is : {F E Com : Type 0} (cs ds : List (Claim E)) (batch query : F) (layer : Com)
    (coms coms' : List Com) (ws ws' : List F) (fs fs' : List E) →
    cs ≡ ds → coms ≡ coms' → ws ≡ ws' → fs ≡ fs' → taken cs batch layer (zip coms ws) fs query
    ≡ taken ds batch layer (zip coms' ws') fs' query
taken_is cs ds batch query layer coms coms' ws ws' fs fs' a b c d =
    ap (λ x. taken x batch layer (zip coms ws) fs query) a
    ∙ ap (λ x. taken ds batch layer (zip x ws) fs query) b
    ∙ ap (λ x. taken ds batch layer (zip coms' x) fs query) c
    ∙ ap (λ x. taken ds batch layer (zip coms' ws') x query) d

-- the same run is drawn
pub redrawn : {C S F E Com : Type 0} (m : RunMoves C S F E Com) (s s' : Shape)
    (t t' : Taken F E Com) (state : S) (x : Result (Drawn S F) PowPhase) →
    s ≡ s' → t ≡ t' → draw m s t state ≡ x → draw m s' t' state ≡ x
redrawn m s s' t t' state x shapes taken is = ap (λ u. draw m u t' state) (sym shapes)
    ∙ ap (λ u. draw m s u state) (sym taken) ∙ is

-- what a transcript's failure says of the refusal that is returned for it
pub refused_by : {S F WE I : Type 0} (n : Numbers) (d d' : Result (Drawn S F) PowPhase)
    (x : CircleTranscriptFailure) (e : FriError WE I) →
    d' ≡ d → e ≡ refusal_of x → (x ≡ OutOfMemory) ⊎ IsMiss n d x → (e ≡ Memory) ⊎ IsMissedIn d' e
refused_by n d d' x e same is (inl memory) = inl (is ∙ ap refusal_of memory)
refused_by n d d' x e same is (inr miss) =
    inr
    (record {
      phase = phase_of x;
      named = is ∙ ap refusal_of miss.named;
      missed =
          same ∙ miss.failed;
    })

module _ {C S F E M Com InputCom InputProof WordProof : Type 0} (m : RunMoves C S F E Com)
    (p : FriParameters M) (l : FieldOps E) (batches : List (BatchClaim InputCom E))
    (proof : OpeningProof F E Com InputProof WordProof) (old new : S) (c : Challenges E)
    (is : drawing m p l batches proof old ≡ Ok (drawn_by m.base.coefficients c new)) where
  -- as many queries are drawn as the parameters say, and a challenge for each round
  pub queries-drawn : length c.queries ≡ p.num_queries
  queries-drawn = queries-count m _ _ _ _ is

  pub betas-drawn : length proof.commitments ≡ rounds_due p batches →
      length proof.witnesses ≡ rounds_due p batches → length c.betas ≡ rounds_due p batches
  betas-drawn commitments witnesses =
      let count = betas-count m _ _ _ _ is in
      let listed = length-map c.betas m.base.coefficients in
      let zipped = length-zip proof.commitments proof.witnesses in
      omega (arith, count, listed, zipped, commitments, witnesses)
