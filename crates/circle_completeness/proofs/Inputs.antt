-- What is opened of requested matrices at the queries is what a verifier of the claims on them
-- reads.
use Rattle.std.specs.Prelude.{◌≡◌, ◌≢◌, ℕ, ◌+◌, ◌-◌, ◌/◌, ◌^◌, ◌<◌, ◌≤◌, ◌==◌, if◌then◌else◌, List}
use Rattle.std.specs.Prelude.{[], ◌∷◌, ◌++◌, length, map, flat_map, zip, All, Some, slice_get}
use Rattle.std.specs.Prelude.{slice_index_or}
use Rattle.std.specs.List.{AllByRecursion, AllZip}
use Rattle.std.proofs.Common.{suc, refl, sym, ◌∙◌, ap, subst, arith}
use Rattle.std.proofs.lemmas.List.{get_or-map, length-map, map-append}
use Rattle.std.proofs.lemmas.List.Elements.{All-from_recursion, All-map, recursion_from_All}
use Rattle.std.proofs.lemmas.List.Folds.{flat_map-map}
use Rattle.std.proofs.lemmas.Option.{get_or_from_slice_get, slice_get_within}
use Rattle.circle_field.specs.Field.{FieldLaws, IsEmbedding}
use Rattle.circle_field.specs.Circle.{AreGenerators, lifted, origin}
use Rattle.circle_commit.specs.Mmcs.{dimensions_of, max_height, rows_at}
use Rattle.circle_commit.specs.Pcs.{Openings}
use Rattle.circle_commit.specs.RowMajorMatrix.{height_of}
use Rattle.circle_commit.specs.declared.matrix.RowMajorMatrix.{RowMajorMatrix}
use Rattle.circle_commit.specs.declared.params.FriParameters.{FriParameters}
use Rattle.circle_commit.specs.declared.pcs.OpeningRequest.{OpeningRequest}
use Rattle.circle_domain.specs.Selectors.{IsFinite}
use Rattle.circle_domain.proofs.CosetOrder.{length-cfft_order}
use Rattle.circle_folding.specs.Queries.{query_point}
use Rattle.circle_folding.proofs.Places.{place-below}
use Rattle.circle_point.specs.Projective.{from_line}
use Rattle.circle_relation.specs.Accepts.{AreApart, Authenticates, Fields, HasRows}
use Rattle.circle_relation.specs.Accepts.{InputAuthenticates, InputsAuthenticate, IsApart}
use Rattle.circle_relation.specs.Accepts.{IsAsLongAsClaims, Run, dimensions, top}
use Rattle.circle_relation.specs.Sums.{of_height}
use Rattle.circle_relation.specs.Statement.{BatchClaim, MatrixClaim, Opened, PointClaim}
use Rattle.circle_relation.specs.Statement.{all_matrices, log_height, log_max_height}
use Rattle.circle_relation.proofs.Contradictions.{All-flat}
use Rattle.circle_relation.proofs.Shown.{moved, same-bits}
use Rattle.circle_codewords.specs.Words.{Committed, claims_on}
use Rattle.circle_codewords.proofs.Prefix.{off-apart}
use Rattle.circle_prover.specs.Opening.{answered_matrices}
use Rattle.circle_codewords.specs.Openings.{places_of}
use Rattle.circle_codewords.specs.Requests.{AreAnswers, AreRequests, HasBatchRows, IsFit}
use Rattle.circle_codewords.specs.Requests.{all_committed, batch_committed, claimed, log_of}
use Rattle.circle_codewords.specs.Requests.{points_of}
use Rattle.circle_prover.specs.Words.{top_of}
use Rattle.circle_prover.proofs.Answered.{all-some, fit-known, heights-back, heights-known}
use Rattle.circle_prover.proofs.OpenedPairs.{places-left}
use Rattle.circle_prover.proofs.Tops.{matrices-low, top-known}
use Rattle.circle_completeness.specs.Claimed.{AreClaimed}
use Rattle.circle_completeness.specs.Over.{IsRunOver, ReadsRows}
use Rattle.circle_completeness.proofs.Gathered.{AreGathered, Part, gathered}
use Rattle.circle_completeness.proofs.Heights.{top-same}
use Rattle.circle_completeness.proofs.Items.{IsAway, Item, claimed_of, claims-read, committed_of}
use Rattle.circle_completeness.proofs.Items.{heights-fit, highest, highest-claimed, item-away}
use Rattle.circle_completeness.proofs.Items.{items-low, matrices_of, order, row-long, row_in}
use Rattle.circle_completeness.proofs.Items.{rows-are, rows-beside, shapes-are}
use Rattle.circle_completeness.proofs.ReadRows.{HasReadRows}
use Rattle.circle_completeness.proofs.Lists.{each-known, flat-same, flat-twice, zip-maps}

module _ {D F E M IC : Type 0} (k : Fields F E) (p : FriParameters M)
    (kept : D → List (RowMajorMatrix F)) (Commits : List (RowMajorMatrix F) → IC → Type 0) where
  -- what is claimed is claimed of the opened matrices
  pub claims-are : (requests : List (OpeningRequest D E)) (values : Openings E)
      (batches : List (BatchClaim IC E)) → AreClaimed k p kept Commits requests values batches →
      all_matrices batches ≡ map (claimed p.log_blowup) (answered_matrices k p kept requests values)
  claims-are [] [] [] claims = refl
  claims-are [] [] (b ∷ batches) claims = absurd claims
  claims-are [] (v ∷ values) [] claims = absurd claims
  claims-are [] (v ∷ values) (b ∷ batches) claims = absurd claims
  claims-are (r ∷ requests) [] [] claims = absurd claims
  claims-are (r ∷ requests) [] (b ∷ batches) claims = absurd claims
  claims-are (r ∷ requests) (v ∷ values) [] claims = absurd claims
  claims-are (r ∷ requests) (v ∷ values) (b ∷ batches) claims =
      let here = batch_committed k p.log_blowup (kept r.prover_data.now) (points_of kept r) v in
      ap (λ ms. ms ++ all_matrices batches) claims.0.matrices
      ∙ ap (λ ms. map (claimed p.log_blowup) here ++ ms)
      (claims-are requests values batches claims.1)
      ∙ sym
      (map-append (claimed p.log_blowup) here
      (flat_map (λ b. b) (all_committed kept k p.log_blowup requests values)))

-- a verifier's run over the opened matrices, whose queries are below the greatest height
pub run-over : {D F E M IC IP WC WP : Type 0} (k : Fields F E) {bits : ℕ} (p : FriParameters M)
    (kept : D → List (RowMajorMatrix F)) (requests : List (OpeningRequest D E))
    (values : Openings E)
    (Commits : List (RowMajorMatrix F) → IC → Type 0) (r : Run F E WC IC IP WP) → 1 ≤ p.log_blowup →
    AreRequests kept k bits p requests →
    AllZip (AreAnswers kept k p.log_blowup) requests values →
    AreClaimed k p kept Commits requests values r.batches →
    All (λ q. q < 2 ^ top_of (answered_matrices k p kept requests values)) r.drawn.queries →
    IsRunOver k p (answered_matrices k p kept requests values) r bits
run-over k {bits} p kept requests values Commits r blowup asked answers claims below =
    let ms = answered_matrices k p kept requests values in
    let some = all-some k p.log_blowup kept requests values answers asked.some asked.matrices in
    record {
      some = some;
      tall = heights-known k p.log_blowup (λ h. p.log_blowup + p.log_final_poly_len + 2 ≤ h) kept
          requests values asked.tall;
      in_group =
          top-known ms (λ h. h < bits) some
          (heights-known k p.log_blowup (λ h. h < bits) kept requests values
          (fit-known kept k p.log_blowup bits (λ m. log_of (height_of m) < bits)
          (λ m points openable. openable.in_group) requests asked.fit));
      blowup = blowup;
      claims = claims-are k p kept Commits requests values r.batches claims;
      below = below;
    }

module _ {D F E M IC IP WC WP : Type 0} (k : Fields F E) {bits : ℕ} (p : FriParameters M)
    (kept : D → List (RowMajorMatrix F)) (requests : List (OpeningRequest D E))
    (values : Openings E)
    (Commits : List (RowMajorMatrix F) → IC → Type 0) (authenticates : Authenticates IC F IP)
    (r : Run F E WC IC IP WP)
    (over : IsRunOver k p (answered_matrices k p kept requests values) r bits)
    (asked : AreRequests kept k bits p requests)
    (answers : AllZip (AreAnswers kept k p.log_blowup) requests values)
    (claims : AreClaimed k p kept Commits requests values r.batches)
    (inputs : AllZip
    (HasBatchRows kept Commits authenticates
    (top_of (answered_matrices k p kept requests values)) r.drawn.queries) requests
    r.proof.inputs)
    (opened : All (λ m. 1 ≤ length m.claims) (answered_matrices k p kept requests values))
    (read : AllByRecursion (λ r. All (HasReadRows k p.log_blowup) (kept r.prover_data.now))
    requests) where
  abbrev ms : List (Committed F E)
  ms = answered_matrices k p kept requests values

  abbrev high : ℕ
  high = top_of ms

  abbrev qs : List ℕ
  qs = r.drawn.queries

  abbrev One : Type 0
  One = Item k bits p.log_blowup high

  abbrev PartOf : Type 0
  PartOf = Part k bits p.log_blowup high Commits authenticates qs

  all : AreGathered k bits p.log_blowup high Commits authenticates qs ms r.batches r.proof.inputs
  all =
      let low = heights-back k p.log_blowup (λ h. h ≤ high) kept requests values answers
      (matrices-low ms) in
      gathered k bits high p kept Commits authenticates qs requests values r.batches r.proof.inputs
      (recursion_from_All (IsFit kept k p.log_blowup bits) requests asked.fit)
      (recursion_from_All (λ (q : OpeningRequest D E). 1 ≤ length (kept q.prover_data.now))
      requests asked.matrices)
      (recursion_from_All
      (λ (q : OpeningRequest D E). All (λ m. log_of (height_of m) ≤ high)
      (kept q.prover_data.now)) requests low) read
      (recursion_from_All (λ (m : Committed F E). 1 ≤ length m.claims) ms opened) answers claims
      inputs

  -- claims and what is opened, side by side
  abbrev beside : PartOf → BatchClaim IC E × Opened (List (List F)) IP
  beside part = (part.batch, part.opened)

  side-by-side : zip r.batches r.proof.inputs ≡ map beside all.parts
  side-by-side =
      ap (λ bs. zip bs r.proof.inputs) all.batches_are
      ∙ ap (zip (map (λ (part : PartOf). part.batch) all.parts)) all.inputs_are
      ∙ zip-maps (λ (part : PartOf). part.batch) (λ (part : PartOf). part.opened) all.parts

  -- what holds of each part
  each-part : (P : BatchClaim IC E × Opened (List (List F)) IP → Type 0) →
      ((part : PartOf) → P (beside part)) → All P (zip r.batches r.proof.inputs)
  each-part P known =
      subst (All P) (sym side-by-side)
      (All-map P beside all.parts (λ n d lt. known (slice_index_or all.parts n d)))

  -- something is opened of each batch
  pub inputs-count : length r.proof.inputs ≡ length r.batches
  inputs-count =
      ap length all.inputs_are ∙ length-map all.parts (λ (part : PartOf). part.opened)
      ∙ sym (ap length all.batches_are ∙ length-map all.parts (λ (part : PartOf). part.batch))

  module _ (part : PartOf) where
    abbrev items : List One
    items = part.items

    abbrev kept_here : List (RowMajorMatrix F)
    kept_here = matrices_of k bits p.log_blowup high items

    abbrev most : ℕ
    most = highest k bits p.log_blowup high items part.some

    fits : most ≤ high
    fits = (heights-fit k bits p.log_blowup high items part.some).fits

    most-is : max_height kept_here ≡ 2 ^ most
    most-is = (heights-fit k bits p.log_blowup high items part.some).power

    most-claimed : log_max_height p.log_blowup part.batch.matrices ≡ most
    most-claimed = ap (log_max_height p.log_blowup) part.claims
        ∙ highest-claimed k bits p.log_blowup high items part.some

    part-authenticates : InputAuthenticates k p r authenticates (beside part)
    part-authenticates =
        moved authenticates part.batch.commitment part.opened.proof (dimensions_of kept_here)
        (map (dimensions k p r) part.batch.matrices) (places_of (high - most) qs)
        (map (λ q. q / 2 ^ (top k p r - log_max_height p.log_blowup part.batch.matrices)) qs)
        part.opened.entries part.opened.entries
        (sym (ap (map (dimensions k p r)) part.claims ∙ shapes-are k bits p.log_blowup high items))
        (same-bits qs high (top k p r) most (log_max_height p.log_blowup part.batch.matrices)
        (sym (top-same k p ms r over)) (sym most-claimed)) refl
        (part.opens.shown part.batch.commitment part.commits)

    -- the rows at a place below the greatest height
    abbrev IsRow : List (List F) → Type 0
    IsRow row = (length row ≡ length part.batch.matrices)
        × All (IsAsLongAsClaims k p r) (zip part.batch.matrices row)

    row-fits : (place : ℕ) → place < 2 ^ most → IsRow (rows_at kept_here place)
    row-fits place lt =
        let row_of : One → List F = row_in k bits p.log_blowup high (max_height kept_here) place in
        let together : One → MatrixClaim E × List F =
        λ i. (claimed_of k bits p.log_blowup high i, row_of i) in
        let low = All-from_recursion (λ (i : One). order k bits p.log_blowup high i ≤ most) items
        (items-low k bits p.log_blowup high items part.some) in
        let long : All (λ i. IsAsLongAsClaims k p r (together i)) items =
        λ n d inside. row-long k bits p.log_blowup high (slice_index_or items n d) most
        (max_height kept_here) most-is (low n d inside) place lt in
        let count : length (rows_at kept_here place) ≡ length part.batch.matrices =
        ap length (rows-are k bits p.log_blowup high items place) ∙ length-map items row_of
        ∙ sym
        (ap length part.claims ∙ length-map items (claimed_of k bits p.log_blowup high)) in (
          count,
          subst (All (IsAsLongAsClaims k p r))
              (sym (ap (λ ms. zip ms (rows_at kept_here place)) part.claims
              ∙ rows-beside k bits p.log_blowup high items place))
              (All-map (IsAsLongAsClaims k p r) together items long),
        )

    part-rows : HasRows k p r (beside part)
    part-rows =
        let places = places_of (high - most) qs in
        let back : high - (high - most) ≡ most = omega (arith, fits) in
        let below =
        subst (λ n. All (λ i. i < 2 ^ n) places) back
        (places-left high (high - most) qs (omega arith) over.below) in (
          ap length part.opens.rows ∙ length-map places (rows_at kept_here)
              ∙ length-map qs (λ q. q / 2 ^ (high - most)),
          subst (All IsRow) (sym part.opens.rows)
              (All-map IsRow (rows_at kept_here) places
              (λ n d lt. row-fits (slice_index_or places n d) (below n d lt))),
        )

    -- the claims of a height with the rows of a query
    part-reads : (j q h : ℕ) → slice_get qs j ≡ Some q →
        of_height p.log_blowup h (zip part.batch.matrices (slice_index_or part.opened.entries j []))
        ≡ flat_map (λ m. if m.log_height == h then claims_on m (q / 2 ^ (high - h)) else [])
        (map (committed_of k bits p.log_blowup high) items)
    part-reads j q h at =
        let places = places_of (high - most) qs in
        let within : j < length qs = slice_get_within qs j q at in
        let place = q / 2 ^ (high - most) in
        let there : slice_index_or part.opened.entries j [] ≡ rows_at kept_here place =
        ap (λ es. slice_index_or es j []) part.opens.rows
        ∙ get_or-map (rows_at kept_here) places j 0 []
        (omega (arith, within, length-map qs (λ q. q / 2 ^ (high - most))))
        ∙ ap (rows_at kept_here) (get_or-map (λ q. q / 2 ^ (high - most)) qs j 0 0 within
        ∙ ap (λ x. x / 2 ^ (high - most)) (get_or_from_slice_get qs j q 0 at)) in
        let row_of : One → List F = row_in k bits p.log_blowup high (max_height kept_here) place in
        let together : One → MatrixClaim E × List F =
        λ i. (claimed_of k bits p.log_blowup high i, row_of i) in
        let claims_with : MatrixClaim E × List F → List (PointClaim E × List F) =
        λ x. if log_height p.log_blowup x.0 == h then map (λ c. (c, x.1)) x.0.claims else [] in
        let claims_there : Committed F E → List (PointClaim E × List F) = λ m. if m.log_height ==
        h then claims_on m (q / 2 ^ (high - h)) else [] in
        let low = All-from_recursion (λ (i : One). order k bits p.log_blowup high i ≤ most) items
        (items-low k bits p.log_blowup high items part.some) in
        let same : All
        (λ i. claims_with (together i) ≡ claims_there (committed_of k bits p.log_blowup high i))
        items =
        λ n d inside. claims-read k bits p.log_blowup high (slice_index_or items n d) most
        (max_height kept_here) most-is (low n d inside) h q fits in
        ap (λ ms. of_height p.log_blowup h (zip ms (slice_index_or part.opened.entries j [])))
        part.claims
        ∙ ap
        (λ row. of_height p.log_blowup h
        (zip (map (claimed_of k bits p.log_blowup high) items) row)) there
        ∙ ap (flat_map claims_with) (rows-beside k bits p.log_blowup high items place)
        ∙ flat_map-map claims_with together items
        ∙ flat-same (λ i. claims_with (together i))
        (λ i. claims_there (committed_of k bits p.log_blowup high i)) items
        (recursion_from_All (λ (i : One). claims_with (together i)
        ≡ claims_there (committed_of k bits p.log_blowup high i)) items same)
        ∙ sym (flat_map-map claims_there (committed_of k bits p.log_blowup high) items)

  -- the rows of each batch authenticate
  pub inputs-authenticate : InputsAuthenticate k p r authenticates
  inputs-authenticate = each-part (InputAuthenticates k p r authenticates) part-authenticates

  -- and are as long as the claims
  pub inputs-rows : All (HasRows k p r) (zip r.batches r.proof.inputs)
  inputs-rows = each-part (HasRows k p r) part-rows

  -- the claims are read with the matrices' rows
  pub reads : ReadsRows k p ms r
  reads j q h at le =
      let with_rows : BatchClaim IC E × Opened (List (List F)) IP → List (PointClaim E × List F) =
      λ x. of_height p.log_blowup h (zip x.0.matrices (slice_index_or x.1.entries j [])) in
      let claims_there : Committed F E → List (PointClaim E × List F) = λ m. if m.log_height ==
      h then claims_on m (q / 2 ^ (high - h)) else [] in
      let matrices_in : PartOf → List (Committed F E) =
      λ part. map (committed_of k bits p.log_blowup high) part.items in
      ap (flat_map with_rows) side-by-side ∙ flat_map-map with_rows beside all.parts
      ∙ flat-same (λ part. with_rows (beside part))
      (λ part. flat_map claims_there (matrices_in part)) all.parts
      (each-known (λ (part : PartOf). with_rows (beside part)
      ≡ flat_map claims_there (matrices_in part)) (λ part. part-reads part j q h at) all.parts)
      ∙ sym (ap (flat_map claims_there) all.matrices ∙ flat-twice claims_there matrices_in
      all.parts)

  abbrev Away : Committed F E → Type 0
  Away = IsAway k bits p.log_blowup high

  all-away : All Away ms
  all-away =
      subst (All Away) (sym all.matrices)
      (All-flat Away (λ part. map (committed_of k bits p.log_blowup high) part.items) all.parts
      (λ n d lt. let part = slice_index_or all.parts n d in
      All-map Away (committed_of k bits p.log_blowup high) part.items
      (λ i o inside. item-away k bits p.log_blowup high (slice_index_or part.items i o))))

  -- no claimed point is at infinity
  pub finite : All (λ m. All (λ c. IsFinite k.extension c.point) m.claims) (all_matrices r.batches)
  finite =
      let Finite : MatrixClaim E → Type 0 = λ m. All (λ c. IsFinite k.extension c.point) m.claims in
      subst (All Finite) (sym over.claims)
      (All-map Finite (claimed p.log_blowup) ms (λ n d lt. (all-away n d lt).finite))

  module _ (base : FieldLaws k.field) (laws : FieldLaws k.extension)
      (e : IsEmbedding k.field k.extension k.embed) (gens : AreGenerators k.field bits k.gen) where
    one-apart : (q : ℕ) → q < 2 ^ high → (c : Committed F E) → Away c →
        IsApart k p r q (claimed p.log_blowup c)
    one-apart q lt c away = λ n d inside.
        let h = c.log_height in
        let z = from_line k.extension (slice_index_or c.claims n d).point in
        let below = away.above in
        let positive : 1 ≤ h = omega (arith, below) in
        let within : h ≤ suc bits = omega (arith, away.in_group) in
        let place = place-below q h high away.low lt in
        let same : log_height p.log_blowup (claimed p.log_blowup c) ≡ h = omega (arith, below) in
        let apart =
        off-apart base laws e gens h (slice_index_or c.claims n d).point positive within
        (away.finite n d inside) (away.off n d inside) (q / 2 ^ (high - h)) (origin k.field)
        (omega (arith, place, length-cfft_order base.ring gens h (k.gen (h + 1)) positive)) in
        subst (λ m. lifted k.embed (query_point k.field k.gen m (top k p r) q) ≢ z) (sym same)
        (subst (λ t. lifted k.embed (query_point k.field k.gen h t q) ≢ z)
        (sym (top-same k p ms r over)) apart)

    -- nor that of a query
    pub apart : AreApart k p r
    apart = λ j d inside.
        let q = slice_index_or qs j d in
        subst (All (IsApart k p r q)) (sym over.claims)
        (All-map (IsApart k p r q) (claimed p.log_blowup) ms
        (λ n m lt. one-apart q (over.below j d inside) (slice_index_or ms n m)
        (all-away n m lt)))
