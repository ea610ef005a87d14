-- The claims of a run, one after another, and the sums of their quotients.
use Rattle.std.specs.Prelude.{◌≡◌, ◌≢◌, ℕ, ◌+◌, ◌<◌, ◌≤◌, ◌==◌, if◌then◌else◌, List, [], ◌∷◌, ◌++◌}
use Rattle.std.specs.Prelude.{length, map, flat_map, zip, All, slice_index_or}
use Rattle.std.specs.Borrow.{Bor}
use Rattle.std.proofs.Common.{refl, sym, ◌∙◌, ap, subst, take, arith}
use Rattle.std.proofs.lemmas.Bool.{eq-eqb, ne_eqb}
use Rattle.std.proofs.lemmas.List.{append-nil, length-map, get_or-map, get_or_default, take_all}
use Rattle.std.proofs.lemmas.List.{take_more}
use Rattle.std.proofs.lemmas.List.Elements.{All-more, All-nil, All-weaker}
use Rattle.std.proofs.lemmas.Grind.{flat_map-append}
use Rattle.circle_field.specs.Field.{FieldOps, RingLaws, nth_power}
use Rattle.circle_field.specs.Circle.{Coordinates, origin, lifted}
use Rattle.circle_point.specs.declared.point.Point.{Point}
use Rattle.circle_point.specs.Point.{coordinates}
use Rattle.circle_point.specs.Projective.{from_line}
use Rattle.circle_folding.specs.Queries.{rows_of, claim_quotients, with_multiples, IsApart, Meets}
use Rattle.circle_relation.specs.Statement.{PointClaim, MatrixClaim, all_matrices}
use Rattle.circle_relation.specs.Sums.{all_claims_at, HasRowsOf, AreApartAt, Adds}
use Rattle.circle_relation.specs.Taken.{point_taken}
use Rattle.circle_relation.proofs.ReducedSums.{adds-both, adds-same, adds-claim, adds-none}
use Rattle.circle_transcript.specs.Claims.{claim_of, claims_of}
use Rattle.circle_transcript.specs.Draw.{Claim}
use Rattle.circle_verifier.specs.OfRun.{run_of}
use Rattle.circle_verifier.specs.Rows.{Place, all_placed, rows_at}
use Rattle.circle_verifier.specs.Sums.{claimed_rows, IsApartFrom, AddsAll}
use Rattle.circle_verifier.specs.declared.checked.CheckedRun.{CheckedRun}
use Rattle.circle_verifier.specs.declared.reduced.ClaimedRows.{ClaimedRows}
use Rattle.circle_verifier.specs.declared.reduced.Word.{Word}
use Rattle.circle_verifier.proofs.ReducedRows.{Claimed, row_at, at_height, Fits, IsFar}
use Rattle.circle_verifier.proofs.ReducedRows.{claims_placed, places-placed, taken-placed, fits-all}
use Rattle.circle_verifier.proofs.ReducedRows.{at_height-all, all_matrices-placed, far-from-apart}
use Rattle.circle_verifier.proofs.ReducedRows.{apart-from-far}

-- one more claim
at_height-more : {F E : Type 0} (h : ℕ) (cs : List (Claimed F E)) (n : ℕ) (c : Claimed F E) →
    n < length cs → slice_index_or cs n c ≡ c → (j : ℕ) →
    at_height h (take n cs) j ++ (if c.1.0 == h then (c.0, row_at j c.1.1) ∷ [] else [])
    ≡ at_height h (take (n + 1) cs) j
at_height-more {F} {E} h cs n c within is j =
    let one : Claimed F E → List (PointClaim E × List F) =
    λ c. if c.1.0 == h then (c.0, row_at j c.1.1) ∷ [] else [] in
    sym (ap (λ ds. at_height h ds j)
    (take_more cs n c within ∙ ap (λ d. take n cs ++ d ∷ []) is)
    ∙ flat_map-append one (take n cs) (c ∷ [])
    ∙ ap (λ ds. at_height h (take n cs) j ++ ds) (append-nil (one c)))

-- lists that become the same
module _ {A B C : Type 0} (f : A → B) (g : C → B) (xs : List A) (ys : List C)
    (same : map f xs ≡ map g ys) where
  same-length : length xs ≡ length ys
  same-length = sym (length-map xs f) ∙ ap length same ∙ length-map ys g

  same-at : (n : ℕ) (x : A) (y : C) → n < length ys → y ≡ slice_index_or ys n y →
      f (slice_index_or xs n x) ≡ g y
  same-at n x y lt is =
      sym (get_or-map f xs n x (g y) (omega (arith, lt, same-length)))
      ∙ ap (λ zs. slice_index_or zs n (g y)) same ∙ get_or-map g ys n y (g y) lt ∙ ap g (sym is)

module _ {F E I W IC ID IP IE WC WD WP WE : Type 0} {g ext over inputs ic ip ie words wc wp we : _}
    (o : CheckedRun F E I W IC ID IP IE WC WD WP WE g ext over inputs ic ip ie words wc wp we) where
  abbrev l : FieldOps E
  l = over.fields.extension

  abbrev blowup : ℕ
  blowup = o.run.params.now.log_blowup

  abbrev matrices : List (MatrixClaim E × Place F)
  matrices = let r = run_of o.run in all_placed (zip r.batches r.proof.inputs)

  -- each claim, with its matrix's height and place
  abbrev pub all_claims : List (Claimed F E)
  all_claims = claims_placed blowup matrices

  same-matrices : map (λ m. m.0) matrices ≡ all_matrices (run_of o.run).batches
  same-matrices = let r = run_of o.run in
      all_matrices-placed r.batches r.proof.inputs o.opened.shape.inputs

  -- they are the claimed points
  same-points : map (λ c. point_taken l c.0) all_claims ≡ claims_of o.run.claimed_points.now
  same-points =
      taken-placed blowup l matrices
      ∙ ap (λ ms. flat_map (λ m. map (point_taken l) m.claims) ms) same-matrices
      ∙ sym o.run.listed

  module _ (rows : List (ClaimedRows F)) (are : map rows_at rows ≡ claimed_rows o.run) where
    same-rows : map (λ c. c.1) all_claims ≡ map rows_at rows
    same-rows = places-placed blowup matrices ∙ sym are

    pub counted : (length all_claims ≡ length o.run.claimed_points.now)
        × (length all_claims ≡ length rows)
    counted = (
      same-length (λ (c : Claimed F E). point_taken l c.0) claim_of all_claims
          o.run.claimed_points.now same-points,
      same-length (λ (c : Claimed F E). c.1) rows_at all_claims rows same-rows,
    )

  module _ (p : Point E ext × Bor (List E)) (at : ClaimedRows F) (n : ℕ) where
    -- the claim at this point, where t is its coordinate, with these rows of its matrix
    abbrev claimed : E → Claimed F E
    claimed t = (record { point = t; values = p.1.now }, rows_at at)

    -- it is the one in place n
    pub record IsRead : Type 0 where
      pub line : E
      pub point : coordinates p.0 ≡ from_line l line
      pub within : n < length all_claims
      pub is : slice_index_or all_claims n (claimed line) ≡ claimed line
      pub fits : Fits (length o.run.indices.now) (claimed line)

    pub read : (rows : List (ClaimedRows F)) → map rows_at rows ≡ claimed_rows o.run →
        n < length o.run.claimed_points.now → n < length rows →
        p ≡ slice_index_or o.run.claimed_points.now n p → at ≡ slice_index_or rows n at → IsRead
    read rows are lt lt' is_p is_at =
        let r = run_of o.run in
        let none = claimed p.0.x in
        let found = slice_index_or all_claims n none in
        let t = found.0.point in
        let within : n < length all_claims = omega (arith, lt, (counted rows are).0) in
        let taken = same-at (λ (c : Claimed F E). point_taken l c.0) claim_of all_claims
        o.run.claimed_points.now same-points n none p lt is_p in
        let is : found ≡ claimed t =
        ap (λ vs. (record { point = t; values = vs }, found.1))
        (ap (λ (c : Claim E). c.values) taken)
        ∙ ap (λ r. (record { point = t; values = p.1.now }, r))
        (same-at (λ (c : Claimed F E). c.1) rows_at all_claims rows (same-rows rows are) n none at
        lt' is_at) in
        record {
          line = t;
          point = sym (ap (λ (c : Claim E). c.point) taken);
          within = within;
          is = get_or_default all_claims n (claimed t) none within ∙ is;
          fits = subst (Fits (length o.run.indices.now)) is
              (fits-all blowup (length o.run.indices.now) (zip r.batches r.proof.inputs)
              o.opened.shape.rows n none within);
        }

  module _ (word : Word F E g) where
    abbrev points : List (Coordinates F)
    points = map coordinates word.points.now

    abbrev pub Far : Claimed F E → Type 0
    Far = IsFar l over.fields.embed word.log_height points

    far-from : IsApartFrom o.run word → All Far all_claims
    far-from apart =
        far-from-apart blowup l over.fields.embed word.log_height points matrices
        (subst (AreApartAt l over.fields.embed blowup word.log_height points) (sym same-matrices)
        apart)

    -- a codeword's sums and the next offset, by n claims: those on matrices of its height
    pub record IsSummed (n : ℕ) (offset : E) (old new : List E) : Type 0 where
      pub counted : length new ≡ length old
      pub apart : All Far (take n all_claims)
      pub adds : Adds l over.fields.embed o.run.alpha points (origin over.fields.field)
          (at_height word.log_height (take n all_claims)) l.one offset old new

    pub summed-none : (offset : E) (sums : List E) → offset ≡ l.one → IsSummed 0 offset sums sums
    summed-none offset sums first = record {
      counted = refl;
      apart = All-nil Far;
      adds = subst (λ e. Adds l over.fields.embed o.run.alpha points (origin over.fields.field)
          (λ j. []) l.one e sums sums) (sym first)
          (adds-none l over.fields.embed o.run.alpha points (origin over.fields.field) l.one sums);
    }

    -- all of them
    pub apart-all : (n : ℕ) (offset : E) (old new : List E) → length all_claims ≤ n →
        IsSummed n offset old new → IsApartFrom o.run word
    apart-all n offset old new done s =
        subst (AreApartAt l over.fields.embed blowup word.log_height points) same-matrices
        (apart-from-far blowup l over.fields.embed word.log_height points matrices
        (subst (All Far) (take_all n all_claims done) s.apart))

    pub adds-all : (n : ℕ) (offset : E) (old new : List E) → length all_claims ≤ n →
        length o.run.indices.now ≡ length old → IsSummed n offset old new →
        AddsAll o.run word old new
    adds-all n offset old new done queries s =
        let r = run_of o.run in
        let pairs = zip r.batches r.proof.inputs in
        let h = word.log_height in (
          offset,
          adds-same l over.fields.embed o.run.alpha points (origin over.fields.field)
              (at_height h (take n all_claims)) (all_claims_at blowup h pairs) l.one offset old new
              s.adds
              (λ j lt. ap (λ cs. at_height h cs j) (take_all n all_claims done)
              ∙ at_height-all blowup h j pairs
              (All-weaker
              (λ p. (length p.1.entries ≡ length o.run.indices.now)
              × All (HasRowsOf p.0.matrices) p.1.entries)
              (λ p. (j < length p.1.entries) × All (HasRowsOf p.0.matrices) p.1.entries)
              (λ p has. (omega (arith, lt, queries, has.0), has.1)) pairs o.opened.shape.rows)),
        )

    module _ {p : Point E ext × Bor (List E)} {at : ClaimedRows F} {n : ℕ} (here : IsRead p at n)
      where
        -- it is at the point of a query
        pub meets-read : at.log_height ≡ word.log_height →
            Meets over.fields.embed points (coordinates p.0) → IsApartFrom o.run word → ⊥
        meets-read same meets apart =
            subst Far here.is (far-from apart n (claimed p at n here.line) here.within) same meets.0
            meets.1 meets.2 (ap (lifted over.fields.embed) meets.3 ∙ meets.4 ∙ here.point)

        module _ (offset : E) (old sums : List E) (so_far : IsSummed n offset old sums) where
          -- its matrix is of another height
          pub summed-other : at.log_height ≢ word.log_height → IsSummed (n + 1) offset old sums
          summed-other other =
              let h = word.log_height in
              let c = claimed p at n here.line in
              let before = at_height h (take n all_claims) in
              record {
                counted = so_far.counted;
                apart = All-more Far all_claims n c here.within so_far.apart
                    (subst Far (sym here.is) (λ same. absurd (other same)));
                adds = adds-same l over.fields.embed o.run.alpha points (origin over.fields.field)
                    before (at_height h (take (n + 1) all_claims)) l.one offset old sums so_far.adds
                    (λ j lt. sym
                    (ap (λ b. before j ++ (if b then (c.0, row_at j c.1.1) ∷ [] else []))
                    (ne_eqb at.log_height h other) ∙ append-nil (before j))
                    ∙ at_height-more h all_claims n c here.within here.is j);
              }

          -- its quotients were added
          pub summed-more : (power after : E) (new : List E) → RingLaws l →
              at.log_height ≡ word.log_height →
              IsApart over.fields.embed points (coordinates p.0) →
              power ≡ nth_power l o.run.alpha (length p.1.now) →
              after ≡ l.mul (l.mul offset power) power → length word.points.now ≡ length old →
              length o.run.indices.now ≡ length old →
              new ≡ with_multiples l offset sums (claim_quotients l over.fields.embed o.run.alpha
              points (coordinates p.0) (rows_of (rows_at at).1.0 (rows_at at).1.1) p.1.now) →
              length new ≡ length sums → IsSummed (n + 1) after old new
          summed-more power after new laws same apart is_power is_after of_points of_queries is_new
              long =
              let h = word.log_height in
              let c = claimed p at n here.line in
              let before = at_height h (take n all_claims) in
              let one : ℕ → List (PointClaim E × List F) = λ j. (c.0, row_at j c.1.1) ∷ [] in
              let k = over.fields in
              let none = origin k.field in
              let step : Adds l k.embed o.run.alpha points none one offset
              (l.mul (l.mul offset power) power) sums new =
              adds-claim laws k.embed o.run.alpha points none c.0 (coordinates p.0)
              (rows_of c.1.1.0 c.1.1.1) offset power sums new here.point is_power
              (length-map word.points.now coordinates ∙ of_points ∙ sym so_far.counted)
              (length-map c.1.1.1 (λ (rows : List (List F)). slice_index_or rows c.1.1.0 [])
              ∙ here.fits.0 ∙ of_queries ∙ sym so_far.counted) is_new in
              let both : Adds l k.embed o.run.alpha points none (λ j. before j ++ one j) l.one after
              old new =
              subst
              (λ e. Adds l k.embed o.run.alpha points none (λ j. before j ++ one j) l.one e old new)
              (sym is_after)
              (adds-both l k.embed o.run.alpha points none before one l.one offset
              (l.mul (l.mul offset power) power) old sums new so_far.adds step) in
              record {
                counted = long ∙ so_far.counted;
                apart = All-more Far all_claims n c here.within so_far.apart
                    (subst Far (sym here.is) (λ same. subst (IsApart k.embed points) here.point
                    apart));
                adds = adds-same l k.embed o.run.alpha points none (λ j. before j ++ one j)
                    (at_height h (take (n + 1) all_claims)) l.one after old new both
                    (λ j lt. sym (ap (λ b. before j ++ (if b then one j else []))
                    (eq-eqb at.log_height h same))
                    ∙ at_height-more h all_claims n c here.within here.is j);
              }
