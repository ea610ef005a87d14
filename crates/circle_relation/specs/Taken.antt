-- What describes a run's transcript, what it absorbs and what it draws, of claims and a proof.
use Rattle.std.specs.Prelude.{ℕ, ◌+◌, ◌-◌, List, map, flat_map, length, zip}
use Rattle.circle_field.specs.Field.{FieldOps}
use Rattle.circle_point.specs.Projective.{from_line}
use Rattle.circle_commit.specs.declared.params.FriParameters.{FriParameters}
use Rattle.circle_relation.specs.Statement.{PointClaim, BatchClaim, Challenges, OpeningProof}
use Rattle.circle_relation.specs.Statement.{all_matrices, log_max_height}
use Rattle.circle_transcript.specs.declared.run.CircleDraws.{CircleDraws}
use Rattle.circle_transcript.specs.Shape.{Shape}
use Rattle.circle_transcript.specs.Draw.{Claim, claim, Drawn, Taken}

-- the number of columns of each claim, by batch, matrix and point
abbrev pub widths_by : {Com E : Type 0} → List (BatchClaim Com E) → List (List (List ℕ))
widths_by batches =
    map (λ b. map (λ m. map (λ c. length c.values) m.claims) b.matrices) batches

-- the shape of a run over these claims: as many rounds as leave 2^final coefficients, and indices
-- below the greatest height, of which the first layer takes one bit
abbrev pub shape_by : {M Com E : Type 0} → FriParameters M → List (BatchClaim Com E) → Shape
shape_by p batches =
    let top = log_max_height p.log_blowup (all_matrices batches) in
    record {
      opened_widths = widths_by batches;
      num_commit_rounds = top - 1 - p.log_blowup - p.log_final_poly_len;
      batch_pow_bits = p.batch_proof_of_work_bits;
      commit_pow_bits = p.commit_proof_of_work_bits;
      query_pow_bits = p.query_proof_of_work_bits;
      num_queries = p.num_queries;
      index_bits = top - 1 + 1;
      log_blowup = p.log_blowup;
      log_final_poly_len = p.log_final_poly_len;
    }

module _ {E : Type 0} (l : FieldOps E) where
  -- the claims as a transcript takes them in, in the order batch, matrix, point
  abbrev pub point_taken : PointClaim E → Claim E
  point_taken c = claim (from_line l c.point) c.values

  abbrev pub claims_taken : {Com : Type 0} → List (BatchClaim Com E) → List (Claim E)
  claims_taken batches = flat_map (λ m. map point_taken m.claims) (all_matrices batches)

  -- what the transcript absorbs of claims and a proof
  abbrev pub taken_by : {F Com WordCom InputProof WordProof : Type 0} → List (BatchClaim Com E)
      → OpeningProof F E WordCom InputProof WordProof → Taken F E WordCom
  taken_by batches proof = record {
    claims = claims_taken batches;
    batch_witness = proof.batch_witness;
    first_layer = proof.first_layer;
    rounds = zip proof.commitments proof.witnesses;
    final_poly = proof.final_poly;
    query_witness = proof.query_witness;
  }

-- challenges as their coefficients, with the state after the run
abbrev pub drawn_by : {S F E : Type 0} → (E → List F) → Challenges E → S → Drawn S F
drawn_by coefficients c state = record {
  alpha = coefficients c.alpha;
  bivariate = coefficients c.bivariate;
  betas = map coefficients c.betas;
  indices = c.queries;
  state = state;
}

-- the challenges that a run drew
abbrev pub challenges_of : {E : Type 0} → CircleDraws E → Challenges E
challenges_of d = record {
  alpha = d.alpha;
  bivariate = d.bivariate;
  betas = d.betas.items;
  queries = d.indices.items;
}
