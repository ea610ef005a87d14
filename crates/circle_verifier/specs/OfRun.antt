-- A run as clauses see it. The operations of its fields, and what its schemes show, are arguments
-- of its type: the definitions of this page read them off the run.
use Rattle.std.specs.Prelude.{ℕ, ◌+◌, ◌≤◌, List, length, map, All}
use Rattle.circle_field.specs.Circle.{Coordinates}
use Rattle.circle_commit.specs.declared.error.FriError.{FriError}
use Rattle.circle_relation.specs.declared.error.InputError.{InputError}
use Rattle.circle_relation.specs.Accepts.{Fields, Run, matrices, rounds, claimed_heights}
use Rattle.circle_relation.specs.Accepts.{at_queries, point_among, reduced_at, claims_of}
use Rattle.circle_relation.specs.Accepts.{first_pair, folded, round_value, HoldsWith}
use Rattle.circle_relation.specs.Accepts as relation
use Rattle.circle_relation.specs.Reasons.{IsReason}
use Rattle.circle_relation.specs.RunOf.{run_with}
use Rattle.circle_verifier.specs.declared.run.OpenedRun.{OpenedRun}

-- I and W are the schemes of the batches and of the codewords, each with its commitments, data,
-- proofs and errors; what is known of the fields is in `over`, what is of the schemes in `inputs`
-- and `words`
module _ {F E I W IC ID IP IE WC WD WP WE : Type 0} {g ext over inputs ic ip ie words wc wp we : _}
    (o : OpenedRun F E I W IC ID IP IE WC WD WP WE g ext over inputs ic ip ie words wc wp we) where
  abbrev pub fields_of : Fields F E
  fields_of = over.fields

  -- the run, as the relation has it
  abbrev pub run_of : Run F E WC IC IP WP
  run_of =
      run_with o.claims.now o.proof.now (record {
        alpha = o.alpha;
        bivariate = o.bivariate;
        betas = o.betas.now;
        queries = o.indices.now;
      })

  -- the logarithms of all heights that are claimed, ascending
  abbrev pub heights_of : List ℕ
  heights_of = claimed_heights fields_of o.params.now run_of

  -- for each of them the points of the queries, and the sums of the quotients of their rows
  abbrev pub reduced_words : List (ℕ × (List (Coordinates F) × List E))
  reduced_words =
      let k = fields_of in
      let p = o.params.now in
      let r = run_of in
      map (λ h. (
        h,
        (
          at_queries k p r (λ j q. point_among k p r j q h),
          at_queries k p r
              (λ j q. reduced_at k p r (point_among k p r j q h) (claims_of k p r h j)),
        ),
      ))
      heights_of

  -- for each query its pairs in the first layer
  abbrev pub first_pairs : List (List (List E))
  first_pairs =
      let k = fields_of in
      let p = o.params.now in
      let r = run_of in
      at_queries k p r (λ j q. map (first_pair k p r j q) heights_of)

  -- for each height the folds of these pairs
  abbrev pub folded_words : List (ℕ × List E)
  folded_words =
      let k = fields_of in
      let p = o.params.now in
      let r = run_of in
      map (λ h. (h, at_queries k p r (λ j q. folded k p r j q h))) heights_of

  -- the queries' values in the last codeword
  abbrev pub last_values : List E
  last_values =
      let k = fields_of in
      let p = o.params.now in
      let r = run_of in
      at_queries k p r (λ j q. round_value k p r j q (rounds k p r))

  -- the relation's parts, each under the name that it has there
  abbrev pub HasInputs : Type 0
  HasInputs = relation.HasInputs fields_of o.params.now run_of

  abbrev pub InputsAuthenticate : Type 0
  InputsAuthenticate =
      relation.InputsAuthenticate fields_of o.params.now run_of (inputs.authenticates o.mmcs.now)

  abbrev pub AreApart : Type 0
  AreApart = relation.AreApart fields_of o.params.now run_of

  abbrev pub FirstLayerAuthenticates : Type 0
  FirstLayerAuthenticates =
      relation.FirstLayerAuthenticates fields_of o.params.now run_of
      (words.authenticates o.params.now.mmcs)

  abbrev pub RoundsAuthenticate : Type 0
  RoundsAuthenticate =
      relation.RoundsAuthenticate fields_of o.params.now run_of
      (words.authenticates o.params.now.mmcs)

  abbrev pub ChainsEnd : Type 0
  ChainsEnd = relation.ChainsEnd fields_of o.params.now run_of

  -- all that the relation says of the run once its challenges are drawn
  abbrev pub Holds : Type 0
  Holds =
      HoldsWith fields_of o.params.now run_of (inputs.authenticates o.mmcs.now)
      (words.authenticates o.params.now.mmcs)

  -- the run is refused for this reason
  abbrev pub Refuses : FriError WE (InputError IE WE) → Type 0
  Refuses e =
      IsReason fields_of o.params.now run_of (inputs.authenticates o.mmcs.now)
      (words.authenticates o.params.now.mmcs) inputs.is_memory words.is_memory e

  -- the lists of a proof have the lengths that the claims and the queries fix, each matrix is
  -- claimed at a point, and each leaves something to fold
  pub record IsOpened : Type 0 where
    pub shape : HasInputs
    pub claimed : All (λ m. 1 ≤ length m.claims) (matrices fields_of o.params.now run_of)
    pub large :
        All (λ m. o.params.now.log_final_poly_len + 2 ≤ m.log_n)
        (matrices fields_of o.params.now run_of)
