-- When a verifier accepts: Circle STARKs (ePrint 2024/278), sections 4 to 6, as a relation between
-- claims, a proof and the challenges that are drawn.
--
-- Four definitions are needed to trust an Ok: `Accepts`, at the end of this page, whose parts (a)
-- to (h) but (d) stand above it; `Statement`, beside this page, which says what claims and a proof
-- are; `draw` of `circle_transcript`, which says what a transcript draws of them; and
-- `AcceptsFrom`, below `Accepts`, which joins the two: what is drawn from a challenger's state (d)
-- is accepted.
use Rattle.std.specs.Prelude.{◌≡◌, ◌≢◌, ℕ, ◌+◌, ◌-◌, ◌/◌, ◌^◌, ◌<◌, ◌≤◌, Bool, ◌==◌}
use Rattle.std.specs.Prelude.{if◌then◌else◌, List, [], ◌∷◌, length, map, zip, All}
use Rattle.std.specs.Prelude.{slice_index_or, nat_lt, Ok}
use Rattle.std.specs.List.{filter, list_any, range_with_len}
use Rattle.std.proofs.Common.{zero, suc}
use Rattle.circle_field.specs.Field.{FieldOps, sub}
use Rattle.circle_field.specs.Circle.{Coordinates, lifted}
use Rattle.circle_point.specs.Basis.{vanishing, x_value}
use Rattle.circle_point.specs.Projective.{from_line}
use Rattle.circle_domain.specs.Order.{coset}
use Rattle.circle_domain.specs.Selectors.{IsFinite}
use Rattle.circle_commit.specs.declared.matrix.Dimensions.{Dimensions}
use Rattle.circle_commit.specs.declared.params.FriParameters.{FriParameters}
use Rattle.circle_folding.specs.Queries.{query_point}
use Rattle.circle_folding.specs.Fold.{fold_pair}
use Rattle.circle_folding.specs.Chain.{pair_of, first_layer_twiddle, round_twiddle}
use Rattle.circle_challenger.specs.Moves.{RunMoves}
use Rattle.circle_transcript.specs.Draw.{draw}
use Rattle.circle_relation.specs.Taken.{drawn_by, shape_by, taken_by}
use Rattle.circle_relation.specs.Statement.{PointClaim, MatrixClaim, BatchClaim, Opened}
use Rattle.circle_relation.specs.Statement.{OpeningProof, Challenges, all_matrices, log_height}
use Rattle.circle_relation.specs.Statement.{log_max_height}
use Rattle.circle_relation.specs.Sums.{all_claims_at, reduced}

-- a field with the generators of its circle's group, of an order of 2^two_adicity, and an extension
-- of it; which of its elements are zero, and which of the extension are the same
pub record Fields (F E : Type 0) : Type 0 where
  pub field : FieldOps F
  pub gen : ℕ → Coordinates F
  pub two_adicity : ℕ
  pub is_zero : F → Bool
  pub extension : FieldOps E
  pub embed : F → E
  pub same : E → E → Bool

-- what is claimed, what is opened of it, and what is drawn
pub record Run (F E Com InputCom InputProof WordProof : Type 0) : Type 0 where
  pub batches : List (BatchClaim InputCom E)
  pub proof : OpeningProof F E Com InputProof WordProof
  pub drawn : Challenges E

-- when a scheme shows rows at indices, of matrices of these shapes, to be those of a commitment
abbrev pub Authenticates : Type 0 → Type 0 → Type 0 → Type 1
Authenticates C T P = C → List Dimensions → List ℕ → List (List (List T)) → P → Type 0

module _ {F E M Com InputCom InputProof WordProof : Type 0} (k : Fields F E)
    (params : FriParameters M) (r : Run F E Com InputCom InputProof WordProof) where
  -- the claimed matrices, and the logarithm of the greatest height
  abbrev pub matrices : List (MatrixClaim E)
  matrices = all_matrices r.batches

  abbrev pub top : ℕ
  top = log_max_height params.log_blowup matrices

  -- whether a matrix of height 2^h is claimed; all such h, ascending; the place of h among them
  abbrev pub is_claimed : ℕ → Bool
  is_claimed h = list_any (λ m. log_height params.log_blowup m == h) matrices

  abbrev pub claimed_heights : List ℕ
  claimed_heights = filter is_claimed (range_with_len 0 (suc top))

  abbrev pub place_of : ℕ → ℕ
  place_of h = length (filter (λ g. nat_lt g h) claimed_heights)

  -- the number of rounds
  abbrev pub rounds : ℕ
  rounds = top - 1 - params.log_blowup - params.log_final_poly_len

  -- the claims on matrices of height 2^h, each with the row that is opened of its matrix at the
  -- query in place j
  abbrev pub claims_of : ℕ → ℕ → List (PointClaim E × List F)
  claims_of h j = all_claims_at params.log_blowup h (zip r.batches r.proof.inputs) j

  -- the quotients of claims at a point x, each times alpha to twice the number of columns that are
  -- claimed before it, added up
  abbrev pub reduced_at : Coordinates F → List (PointClaim E × List F) → E
  reduced_at x claims = reduced k.extension k.embed r.drawn.alpha 0 x claims

  -- the query q, in place j
  module _ (j q : ℕ) where
    -- its place and its point among 2^h
    abbrev pub place_among : ℕ → ℕ
    place_among h = q / 2 ^ (top - h)

    abbrev pub point_among : ℕ → Coordinates F
    point_among h = query_point k.field k.gen h top q

    -- the reduced value of the height 2^h, less lambda times the vanishing polynomial
    abbrev pub first_value : ℕ → E
    first_value h =
        let lambda = slice_index_or r.proof.lambdas (place_of h) k.extension.zero in
        let zero_at = vanishing k.field (h - params.log_blowup) (point_among h) in
        sub k.extension (reduced_at (point_among h) (claims_of h j))
        (k.extension.mul lambda (k.embed zero_at))

    -- its pair in the first layer, and the fold of that pair
    abbrev pub first_pair : ℕ → List E
    first_pair h =
        let siblings = slice_index_or r.proof.first_layer_opened.entries j [] in
        let sibling = slice_index_or siblings (place_of h) k.extension.zero in
        pair_of (place_among h) (first_value h) sibling

    abbrev pub folded : ℕ → E
    folded h =
        let twiddle = first_layer_twiddle k.field k.gen h top q in
        fold_pair k.extension r.drawn.bivariate (k.embed twiddle) (first_pair h)

    -- what joins the rounds at a height: the folded value, where a matrix of the height is claimed
    abbrev pub joining : ℕ → E
    joining h = if is_claimed h then folded h else k.extension.zero

    -- its sibling in the codeword of a round
    abbrev pub sibling_in : ℕ → E
    sibling_in round =
        let siblings = slice_index_or (map (λ o. o.entries) r.proof.rounds_opened) round [] in
        slice_index_or (slice_index_or siblings j []) 0 k.extension.zero

    -- its value in the codeword of a round: that of the greatest height in the first round, then
    -- the fold of the pair of the round before, and the height that joins there
    abbrev pub round_value : ℕ → E
    round_value zero = folded top
    round_value (suc n) =
        let beta = slice_index_or r.drawn.betas n k.extension.zero in
        let pair = pair_of (q / 2 ^ (n + 1)) (round_value n) (sibling_in n) in
        let twiddle = round_twiddle k.field k.gen top n q in
        k.extension.add (fold_pair k.extension beta (k.embed twiddle) pair) (joining (top - 1 - n))

    -- its pair in the codeword of a round
    abbrev pub round_pair : ℕ → List E
    round_pair n = pair_of (q / 2 ^ (n + 1)) (round_value n) (sibling_in n)

    -- the x coordinate of its entry of the last codeword, and the final polynomial's value there
    abbrev pub last_x : F
    last_x =
        let m = params.log_blowup + params.log_final_poly_len in
        let xs = map (λ p. p.x) (coset k.field k.gen m (k.gen (m + 2))) in
        slice_index_or xs (q / 2 ^ (rounds + 1)) k.field.zero

    abbrev pub final_value : E
    final_value = x_value k.extension r.proof.final_poly (k.embed last_x)

  -- `height` pairs
  abbrev pub pairs : ℕ → Dimensions
  pairs height = record { width = 2; height = height }

  -- the queries with their places, and what is opened at each
  abbrev pub placed_queries : List (ℕ × ℕ)
  placed_queries = zip (range_with_len 0 (length r.drawn.queries)) r.drawn.queries

  abbrev pub at_queries : {T : Type 0} → (ℕ → ℕ → T) → List T
  at_queries f = map (λ p. f p.0 p.1) placed_queries

  -- (a) the parameters and the claims are such that a verifier can judge them
  pub record IsFit : Type 0 where
    pub some_matrix : 1 ≤ length matrices
    pub large : All (λ m. params.log_final_poly_len + 2 ≤ m.log_n) matrices
    pub in_group : top < k.two_adicity
    pub batch_work : params.batch_proof_of_work_bits ≤ 30
    pub commit_work : params.commit_proof_of_work_bits ≤ 30
    pub query_work : params.query_proof_of_work_bits ≤ 30
    pub queries : 1 ≤ params.num_queries
    pub blowup : 1 ≤ params.log_blowup
    pub arity : params.max_log_arity ≡ 1
    pub finite : All (λ m. All (λ c. IsFinite k.extension c.point) m.claims) matrices
    pub claimed : All (λ m. 1 ≤ length m.claims) matrices

  -- a row is as long as each claim of its matrix
  abbrev pub IsAsLongAsClaims : MatrixClaim E × List F → Type 0
  IsAsLongAsClaims p = All (λ c. length p.1 ≡ length c.values) p.0.claims

  -- the rows that are opened of a batch: for each query a row of each matrix, as long as its claims
  abbrev pub HasRows : BatchClaim InputCom E × Opened (List (List F)) InputProof → Type 0
  HasRows p = (length p.1.entries ≡ length r.drawn.queries)
      × All (λ rows. (length rows ≡ length p.0.matrices)
      × All IsAsLongAsClaims (zip p.0.matrices rows)) p.1.entries

  -- `count` siblings at each query
  abbrev pub HasSiblings : ℕ → Opened (List E) WordProof → Type 0
  HasSiblings count o =
      (length o.entries ≡ length r.drawn.queries)
      × All (λ siblings. length siblings ≡ count) o.entries

  -- (b) the proof's lists have the lengths that the claims and the queries fix: those of the rounds
  -- and of the final polynomial, and those of what was committed to before
  pub record HasRounds : Type 0 where
    pub commitments : length r.proof.commitments ≡ rounds
    pub witnesses : length r.proof.witnesses ≡ rounds
    pub opened : length r.proof.rounds_opened ≡ rounds
    pub siblings : All (HasSiblings 1) r.proof.rounds_opened
    pub final_poly : length r.proof.final_poly ≡ 2 ^ params.log_final_poly_len

  pub record HasInputs : Type 0 where
    pub inputs : length r.proof.inputs ≡ length r.batches
    pub rows : All HasRows (zip r.batches r.proof.inputs)
    pub first_siblings : HasSiblings (length claimed_heights) r.proof.first_layer_opened
    pub lambdas : length r.proof.lambdas ≡ length claimed_heights

  -- (c) a witness of no difficulty is zero
  pub record AreCanonical : Type 0 where
    pub batch : params.batch_proof_of_work_bits ≡ 0 → r.proof.batch_witness ≡ k.field.zero
    pub commit :
        params.commit_proof_of_work_bits ≡ 0 → All (λ w. w ≡ k.field.zero) r.proof.witnesses
    pub query : params.query_proof_of_work_bits ≡ 0 → r.proof.query_witness ≡ k.field.zero

  -- (e) the rows of a batch authenticate at the queries, as rows of matrices of the claimed widths
  -- and heights
  abbrev pub dimensions : MatrixClaim E → Dimensions
  dimensions m = record {
    width = length (slice_index_or (map (λ c. c.values) m.claims) 0 []);
    height = 2 ^ log_height params.log_blowup m;
  }

  abbrev pub InputAuthenticates :
      Authenticates InputCom F InputProof →
      BatchClaim InputCom E × Opened (List (List F)) InputProof → Type 0
  InputAuthenticates authenticates p =
      let shift = top - log_max_height params.log_blowup p.0.matrices in
      let places = map (λ q. q / 2 ^ shift) r.drawn.queries in
      authenticates p.0.commitment (map dimensions p.0.matrices) places p.1.entries p.1.proof

  abbrev pub InputsAuthenticate : Authenticates InputCom F InputProof → Type 0
  InputsAuthenticate authenticates =
      All (InputAuthenticates authenticates) (zip r.batches r.proof.inputs)

  -- (f) no claimed point is that of a query
  abbrev pub IsApart : ℕ → MatrixClaim E → Type 0
  IsApart q m =
      let x = lifted k.embed (query_point k.field k.gen (log_height params.log_blowup m) top q) in
      All (λ c. x ≢ from_line k.extension c.point) m.claims

  abbrev pub AreApart : Type 0
  AreApart = All (λ q. All (IsApart q) matrices) r.drawn.queries

  -- (g) the pairs of the first layer and of a round authenticate
  abbrev pub FirstLayerAuthenticates : Authenticates Com E WordProof → Type 0
  FirstLayerAuthenticates authenticates =
      let shapes = map (λ h. pairs (2 ^ (h - 1))) claimed_heights in
      authenticates r.proof.first_layer shapes (map (λ q. q / 2) r.drawn.queries)
      (at_queries (λ j q. map (first_pair j q) claimed_heights)) r.proof.first_layer_opened.proof

  abbrev pub RoundAuthenticates :
      Authenticates Com E WordProof → ℕ × (Com × Opened (List E) WordProof) → Type 0
  RoundAuthenticates authenticates p =
      let n = p.0 in
      let places = map (λ q. q / 2 ^ (n + 2)) r.drawn.queries in
      authenticates p.1.0 (pairs (2 ^ (top - 2 - n)) ∷ []) places
      (at_queries (λ j q. round_pair j q n ∷ [])) p.1.1.proof

  abbrev pub RoundsAuthenticate : Authenticates Com E WordProof → Type 0
  RoundsAuthenticate authenticates =
      let opened = zip r.proof.commitments r.proof.rounds_opened in
      All (RoundAuthenticates authenticates) (zip (range_with_len 0 (length opened)) opened)

  -- (h) each query's chain ends in the value of the final polynomial
  abbrev pub ChainsEnd : Type 0
  ChainsEnd = All (λ p. round_value p.0 p.1 rounds ≡ final_value p.0 p.1) placed_queries

  -- what the relation says of a run once its challenges are drawn, under the schemes of the batches
  -- and of the codewords
  pub record HoldsWith (inputs : Authenticates InputCom F InputProof)
      (words : Authenticates Com E WordProof) : Type 0 where
    pub inputs_authenticate : InputsAuthenticate inputs
    pub apart : AreApart
    pub first_layer : FirstLayerAuthenticates words
    pub rounds_authenticate : RoundsAuthenticate words
    pub chains : ChainsEnd

  -- the run is accepted: all parts but (d), that the transcript draws these challenges of the
  -- claims and the proof, which `AcceptsFrom` adds
  pub record Accepts (inputs : Authenticates InputCom F InputProof)
      (words : Authenticates Com E WordProof) : Type 0 where
    pub fit : IsFit
    pub rounds_shape : HasRounds
    pub inputs_shape : HasInputs
    pub canonical : AreCanonical
    pub holds : HoldsWith inputs words

-- r is what the challenger is to the transcript
module _ {S C F E M Com InputCom InputProof WordProof : Type 0} (k : Fields F E)
    (params : FriParameters M) (r : RunMoves C S F E Com)
    (inputs : Authenticates InputCom F InputProof) (words : Authenticates Com E WordProof) where
  -- (d) from the one state of a challenger the transcript draws these challenges of the claims and
  -- the proof, and leaves the other; and they are accepted
  pub record AcceptsFrom (batches : List (BatchClaim InputCom E))
      (proof : OpeningProof F E Com InputProof WordProof) (old new : S) : Type 0 where
    pub drawn : Challenges E
    pub draws :
        draw r (shape_by params batches) (taken_by k.extension batches proof) old
        ≡ Ok (drawn_by r.base.coefficients drawn new)
    pub accepts :
        Accepts k params (record { batches = batches; proof = proof; drawn = drawn }) inputs words
