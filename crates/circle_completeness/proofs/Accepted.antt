-- What an opening returns is accepted.
use Rattle.std.specs.Prelude.{◌≡◌, ℕ, ◌+◌, ◌^◌, ◌<◌, ◌≤◌, List, [], ◌∷◌, length, map, All, Ok}
use Rattle.std.specs.List.{AllByRecursion}
use Rattle.std.proofs.Common.{refl, sym, ◌∙◌, ap, subst, arith}
use Rattle.std.proofs.lemmas.List.{get_or-map, length-map}
use Rattle.std.proofs.lemmas.List.Elements.{All-from_recursion, recursion_from_All}
use Rattle.circle_challenger.specs.Moves.{RunMoves}
use Rattle.circle_commit.specs.Mmcs.{greatest}
use Rattle.circle_commit.specs.Pcs.{Openings}
use Rattle.circle_commit.specs.RowMajorMatrix.{height_of}
use Rattle.circle_commit.specs.declared.matrix.RowMajorMatrix.{RowMajorMatrix}
use Rattle.circle_commit.specs.declared.params.FriParameters.{FriParameters}
use Rattle.circle_commit.specs.declared.pcs.OpeningRequest.{OpeningRequest}
use Rattle.circle_field.specs.Circle.{AreGenerators}
use Rattle.circle_field.specs.Field.{FieldLaws, IsEmbedding}
use Rattle.circle_prover.specs.Opening.{answered_claims, answered_matrices}
use Rattle.circle_codewords.specs.Requests.{AreFit, AreRequests, batch_committed, claimed, log_of}
use Rattle.circle_codewords.specs.Requests.{points_of}
use Rattle.circle_relation.specs.Taken.{drawn_by, shape_by, taken_by}
use Rattle.circle_prover.specs.Words.{top_of}
use Rattle.circle_prover.proofs.Answered.{all-some, fit-known, heights-known}
use Rattle.circle_prover.proofs.Tops.{top-known}
use Rattle.circle_relation.specs.Accepts.{Authenticates, Fields, Run}
use Rattle.circle_relation.specs.Statement.{BatchClaim, MatrixClaim, all_matrices, log_max_height}
use Rattle.circle_transcript.specs.Draw.{draw, queried, seeded}
use Rattle.circle_transcript.specs.Numbers.{numbers_of}
use Rattle.circle_codewords.specs.Words.{Committed}
use Rattle.circle_completeness.specs.Accepted.{AcceptsOpenings}
use Rattle.circle_completeness.specs.Claimed.{AreClaimed}
use Rattle.circle_completeness.proofs.Drawn.{drawn-is, numbers-below, parts, same-matrices}
use Rattle.circle_completeness.proofs.Drawn.{same-shape, same-taken}
use Rattle.circle_completeness.proofs.FirstLayer.{first-authenticates, first-siblings, folds-first}
use Rattle.circle_completeness.proofs.FirstLayer.{lambdas-count}
use Rattle.circle_completeness.proofs.Heights.{claimed-same, heights-claimed, heights-same}
use Rattle.circle_completeness.proofs.Heights.{top-same}
use Rattle.circle_completeness.proofs.Inputs.{apart, claims-are, finite, inputs-authenticate}
use Rattle.circle_completeness.proofs.Inputs.{inputs-count, inputs-rows, reads, run-over}
use Rattle.circle_completeness.proofs.ReadRows.{all-read}
use Rattle.circle_completeness.proofs.Rounds.{canonical, chains, rounds-authenticate, rounds-shape}

-- claims of what is returned have the parts that it has
parts-are : {D F E M IC : Type 0} (k : Fields F E) (p : FriParameters M)
    (kept : D → List (RowMajorMatrix F)) (Commits : List (RowMajorMatrix F) → IC → Type 0)
    (requests : List (OpeningRequest D E)) (values : Openings E)
    (batches : List (BatchClaim IC E)) → AreClaimed k p kept Commits requests values batches →
    parts batches ≡ parts (answered_claims k p kept requests values)
parts-are k p kept Commits [] [] [] are = refl
parts-are k p kept Commits (r ∷ rs) (v ∷ vs) (b ∷ bs) are =
    ap (λ first. first ∷ parts bs) are.0.matrices
    ∙ ap
    (λ rest. map (claimed p.log_blowup)
    (batch_committed k p.log_blowup (kept r.prover_data.now) (points_of kept r) v) ∷ rest)
    (parts-are k p kept Commits rs vs bs are.1)
parts-are k p kept Commits [] [] (b ∷ bs) are = absurd are
parts-are k p kept Commits [] (v ∷ vs) [] are = absurd are
parts-are k p kept Commits [] (v ∷ vs) (b ∷ bs) are = absurd are
parts-are k p kept Commits (r ∷ rs) [] [] are = absurd are
parts-are k p kept Commits (r ∷ rs) [] (b ∷ bs) are = absurd are
parts-are k p kept Commits (r ∷ rs) (v ∷ vs) [] are = absurd are

-- each matrix that is claimed at a point was opened at one
claimed-pointed : {F E : Type 0} (blowup : ℕ) (ms : List (Committed F E)) →
    All (λ m. 1 ≤ length m.claims) (map (claimed blowup) ms) → All (λ m. 1 ≤ length m.claims) ms
claimed-pointed {E = E} blowup ms all = λ i d lt.
    let within : i < length (map (claimed blowup) ms) =
    omega (arith, lt, length-map ms (claimed blowup)) in
    let there = all i (claimed blowup d) within in
    subst (λ (m : MatrixClaim E). 1 ≤ length m.claims)
    (get_or-map (claimed blowup) ms i d (claimed blowup d) lt) there

-- the greatest height that is claimed
claimed-top : {F E M : Type 0} (p : FriParameters M) (ms : List (Committed F E)) →
    All (λ m. p.log_blowup + p.log_final_poly_len + 2 ≤ m.log_height) ms →
    log_max_height p.log_blowup (map (claimed p.log_blowup) ms) ≡ top_of ms
claimed-top {F = F} {E = E} p ms tall =
    ap greatest
    (heights-claimed p.log_blowup p.log_final_poly_len ms
    (recursion_from_All (λ (m : Committed F E). p.log_blowup + p.log_final_poly_len
    + 2 ≤ m.log_height) ms tall))

-- the logarithms of the sizes of what was opened
each-large : {F E : Type 0} (blowup final : ℕ) (ms : List (Committed F E)) →
    AllByRecursion (λ m. blowup + final + 2 ≤ m.log_height) ms →
    AllByRecursion (λ m. final + 2 ≤ m.log_n) (map (claimed blowup) ms)
each-large blowup final [] tall = tt
each-large blowup final (m ∷ ms) tall = (omega (arith, tall.0), each-large blowup final ms tall.1)

claimed-large : {F E M : Type 0} (p : FriParameters M) (ms : List (Committed F E)) →
    All (λ m. p.log_blowup + p.log_final_poly_len + 2 ≤ m.log_height) ms →
    All (λ m. p.log_final_poly_len + 2 ≤ m.log_n) (map (claimed p.log_blowup) ms)
claimed-large {F = F} {E = E} p ms tall =
    All-from_recursion (λ (m : MatrixClaim E). p.log_final_poly_len + 2 ≤ m.log_n)
    (map (claimed p.log_blowup) ms)
    (each-large p.log_blowup p.log_final_poly_len ms
    (recursion_from_All (λ (m : Committed F E). p.log_blowup + p.log_final_poly_len
    + 2 ≤ m.log_height) ms tall))

module _ {C S D F E M IC IP WC WP : Type 0} (k : Fields F E) (base : FieldLaws k.field)
    (laws : FieldLaws k.extension) (e : IsEmbedding k.field k.extension k.embed)
    (gens : AreGenerators k.field k.two_adicity k.gen) (small : k.two_adicity ≤ 62)
    (r : RunMoves C S F E WC) (below : (s : S) (n : ℕ) → n ≤ 63 →
    r.base.sampled_bits s n < 2 ^ n) (p : FriParameters M)
    (kept : D → List (RowMajorMatrix F)) (Commits : List (RowMajorMatrix F) → IC → Type 0)
    (authenticates : Authenticates IC F IP)
    (WordCommits : List (RowMajorMatrix E) → WC → Type 0)
    (word_authenticates : Authenticates WC E WP)
    (requests : List (OpeningRequest D E)) (fit : AreFit p) (arity : p.max_log_arity ≡ 1)
    (asked : AreRequests kept k k.two_adicity p requests) where
  pub accepts-openings : AcceptsOpenings k r p authenticates word_authenticates kept Commits
      WordCommits requests
  accepts-openings as_is values answers proof old new opening batches claims pointed =
      let ms = answered_matrices k p kept requests values in
      let own = answered_claims k p kept requests values in
      let drawn = opening.drawn in
      let words = opening.words in
      let run : Run F E _ IC _ _ = record { batches = batches; proof = proof; drawn = drawn } in
      let same = parts-are k p kept Commits requests values batches claims in
      let shape = same-shape batches own same p in
      let taken = same-taken batches own same k.extension proof in
      let draws : draw r (shape_by p batches) (taken_by k.extension batches proof) old ≡ Ok
      (drawn_by r.base.coefficients drawn new) =
      ap (λ t. draw r (shape_by p batches) t old) taken
      ∙ ap (λ h. draw r h (taken_by k.extension own proof) old) shape ∙ opening.drawing in
      let high = top_of ms in
      let some = all-some k p.log_blowup kept requests values answers asked.some asked.matrices in
      let tall = heights-known k p.log_blowup (λ h. p.log_blowup + p.log_final_poly_len + 2 ≤ h)
      kept requests values asked.tall in
      let fits : high < k.two_adicity =
      top-known ms (λ h. h < k.two_adicity) some
      (heights-known k p.log_blowup (λ h. h < k.two_adicity) kept requests values
      (fit-known kept k p.log_blowup k.two_adicity (λ m. log_of (height_of m) < k.two_adicity)
      (λ m points openable. openable.in_group) requests asked.fit)) in
      let positive : 2 ≤ high = let enough =
      top-known ms (λ h. p.log_blowup + p.log_final_poly_len + 2 ≤ h) some tall in
      omega (arith, enough) in
      let all_claims = claims-are k p kept Commits requests values batches claims in
      let shaped = shape_by p own in
      let entering = taken_by k.extension own proof in
      let n = numbers_of shaped in
      let state = seeded r shaped old in
      let is = drawn-is r n entering state (drawn_by r.base.coefficients drawn new)
      opening.drawing in
      let begun = queried r n entering state in
      let top_claimed : log_max_height p.log_blowup (all_matrices own) ≡ high =
      ap (log_max_height p.log_blowup) (sym (same-matrices batches own same) ∙ all_claims)
      ∙ claimed-top p ms tall in
      let within : n.index_bits ≤ 63 = omega (arith, fits, small, top_claimed) in
      let bits_are : n.index_bits ≡ high = omega (arith, positive, top_claimed) in
      let queries : All (λ q. q < 2 ^ high) drawn.queries =
      subst (λ b. All (λ q. q < 2 ^ b) drawn.queries) bits_are
      (subst (λ qs. All (λ q. q < 2 ^ n.index_bits) qs) (ap (λ d. d.indices) is)
      (numbers-below r.base below n.index_bits n.num_queries begun within)) in
      let over = run-over k p kept requests values Commits run fit.blowup asked answers claims
      queries in
      let opened =
      claimed-pointed p.log_blowup ms
      (subst (All (λ m. 1 ≤ length m.claims)) all_claims pointed) in
      let top_is = top-same k p ms run over in
      let heights_are = heights-same k p ms run over in
      let read = all-read k base gens p kept requests asked.fit as_is in
      let reading = reads k p kept requests values Commits authenticates run over asked answers
      claims opening.inputs opened read in
      let folds = folds-first over words top_is heights_are reading in
      record {
        drawn = drawn;
        draws = draws;
        accepts = record {
          fit = record {
            some_matrix = let some = over.some in
                omega (arith, some, ap length all_claims, length-map ms (claimed p.log_blowup));
            large = subst (All (λ m. p.log_final_poly_len + 2 ≤ m.log_n)) (sym all_claims)
                (claimed-large p ms over.tall);
            in_group = let fits = over.in_group in omega (arith, fits, top_is);
            batch_work = fit.batch_work;
            commit_work = fit.commit_work;
            query_work = fit.query_work;
            queries = fit.queries;
            blowup = fit.blowup;
            arity = arity;
            finite = finite k p kept requests values Commits authenticates run over asked answers
                claims opening.inputs opened read;
            claimed = pointed;
          };
          rounds_shape = rounds-shape k p ms run top_is over words;
          inputs_shape = record {
            inputs = inputs-count k p kept requests values Commits authenticates run over asked
                answers claims opening.inputs opened read;
            rows = inputs-rows k p kept requests values Commits authenticates run over asked answers
                claims opening.inputs opened read;
            first_siblings = first-siblings over words top_is heights_are;
            lambdas = lambdas-count over words top_is heights_are;
          };
          canonical = canonical k p ms run top_is over words;
          holds = record {
            inputs_authenticate = inputs-authenticate k p kept requests values Commits authenticates
                run over asked answers claims opening.inputs opened read;
            apart = apart k p kept requests values Commits authenticates run over asked answers
                claims opening.inputs opened read base laws e gens;
            first_layer = first-authenticates over words top_is heights_are reading;
            rounds_authenticate =
                rounds-authenticate k p ms run top_is over words laws.ring
                (claimed-same k p ms run over) folds;
            chains = chains k p ms run top_is over words laws.ring (claimed-same k p ms run over)
                folds;
          };
        };
      }
