-- What is known of requests that can be opened, and of their matrices once their values are known.
use Rattle.std.specs.Prelude.{◌≡◌, ◌+◌, ◌^◌, ◌<◌, ◌≤◌, List, length, map, flat_map, All, Vec}
use Rattle.std.specs.Prelude.{slice_index_or, drop, take, vec_len, [], ◌++◌}
use Rattle.std.specs.declared.alloc.Global.{Global}
use Rattle.std.proofs.Common.{ℕ, refl, sym, ap, ◌∙◌, subst, arith, get_or, append-nil}
use Rattle.std.proofs.Common.{drop-drop}
use Rattle.std.proofs.lemmas.List.{length-map}
use Rattle.std.proofs.lemmas.Slice.Zip.{AllZip-long, length-zip}
use Rattle.circle_commit.specs.Mmcs.{greatest, opened_rows}
use Rattle.circle_commit.specs.Pcs.{Openings, openings}
use Rattle.circle_commit.specs.RowMajorMatrix.{height_of}
use Rattle.circle_commit.specs.declared.matrix.RowMajorMatrix.{RowMajorMatrix}
use Rattle.circle_commit.specs.declared.pcs.OpeningRequest.{OpeningRequest}
use Rattle.circle_domain.specs.Selectors.{IsFinite}
use Rattle.circle_field.specs.Field.{FieldOps}
use Rattle.circle_relation.specs.Accepts.{Fields}
use Rattle.circle_relation.specs.Statement.{all_matrices, log_max_height}
use Rattle.circle_relation.specs.Taken.{claims_taken, point_taken, widths_by}
use Rattle.circle_transcript.specs.Draw.{Claim}
use Rattle.circle_codewords.specs.Requests.{AreAnswers, AreHeights, IsFit, all_committed}
use Rattle.circle_codewords.specs.Requests.{IsOpenable, lists_of, log_of, points_of}
use Rattle.circle_codewords.specs.Words.{Committed, committed_of}
use Rattle.circle_codewords.specs.declared.matrix.MatrixAtPoints.{MatrixAtPoints}
use Rattle.circle_codewords.specs.declared.matrix.OpenedMatrix.{OpenedMatrix}
use Rattle.circle_codewords.proofs.AtPoints.{All-unmap}
use Rattle.circle_codewords.proofs.Zips.{zip-second}
use Rattle.circle_prover.specs.OfRequests.{AreAnsweredBy, AreMatricesWith, AreOpenableAt}
use Rattle.circle_prover.specs.OfRequests.{AreValued, asked_in, asked_of, claims_with, seen_with}
use Rattle.circle_prover.specs.Words.{AreTall, top_of}
use Rattle.circle_prover.specs.declared.openable.OpenableRequests.{OpenableRequests}
use Rattle.circle_prover.proofs.Answered.{all-some, batch-heights, fit-known, heights-back}
use Rattle.circle_prover.proofs.Answered.{heights-known}
use Rattle.circle_prover.proofs.Asked.{all-taken, all-widths, top-claimed}
use Rattle.circle_prover.proofs.Requested.{at-place, batch-valued, behind, fits, front, map-at}
use Rattle.circle_prover.proofs.Requested.{values-valued}
use Rattle.circle_prover.proofs.Seen.{top-seen}
use Rattle.circle_prover.proofs.Tops.{matrices-low, top-known}

-- matrices behind a place that is moved on
pub divided : {F E : Type 0} {over g : _} (ms : List (MatrixAtPoints F E over g)) (done n b : ℕ)
    (rest : List (MatrixAtPoints F E over g)) → b ≡ n → rest ≡ drop done ms →
    map asked_of (drop (done + b) ms) ≡ map asked_of (drop n rest)
divided ms done n b rest same is =
    ap (map asked_of) (ap (λ m. drop (done + m) ms) same ∙ sym (drop-drop n done ms)
    ∙ ap (drop n) (sym is))

module _ {F E I W IC ID IP IE WC WD WP WE : Type 0} {over inputs ic ip ie words wc wp we : _}
    (o : OpenableRequests F E I W IC ID IP IE WC WD WP WE over inputs ic ip ie words wc wp we)
  where
    -- the matrices of a request, by the names that the code has for them and for its points
    pub request-openable : (i : ℕ) (r : OpeningRequest ID E) (ms : List (RowMajorMatrix F))
        (points : List (Vec E Global)) → i < length o.requests.now →
        r ≡ get_or o.requests.now i r → ms ≡ inputs.matrices r.prover_data.now →
        points ≡ r.points.items → AreOpenableAt o ms (lists_of points)
    request-openable i r ms points lt is are given =
        subst (λ ps. AreOpenableAt o ms (lists_of ps)) (sym given)
        (subst (λ xs. AreOpenableAt o xs (lists_of r.points.items)) (sym are)
        (subst (IsFit inputs.matrices over.fields o.params.now.log_blowup over.fields.two_adicity)
        (sym is) (o.openable.fit i r lt)))

    -- there is a list of points for each of its matrices, and each coordinate belongs to a point
    request-lists : (i : ℕ) (r : OpeningRequest ID E) → i < length o.requests.now →
        r ≡ get_or o.requests.now i r →
        length (inputs.matrices r.prover_data.now) ≡ length (points_of inputs.matrices r)
    request-lists i r lt is =
        sym (AllZip-long (IsOpenable over.fields over.fields.two_adicity o.params.now.log_blowup)
        (inputs.matrices r.prover_data.now) (points_of inputs.matrices r)
        (request-openable i r _ _ lt is refl refl))

    pub request-finite : (i : ℕ) (r : OpeningRequest ID E) → i < length o.requests.now →
        r ≡ get_or o.requests.now i r →
        All (λ v. All (IsFinite over.fields.extension) v.items) r.points.items
    request-finite i r lt is =
        All-unmap (All (IsFinite over.fields.extension)) (λ v. v.items) r.points.items
        (zip-second (IsOpenable over.fields over.fields.two_adicity o.params.now.log_blowup)
        (All (IsFinite over.fields.extension)) (λ m points can. can.off.0)
        (inputs.matrices r.prover_data.now) (points_of inputs.matrices r)
        (request-openable i r _ _ lt is refl refl))

    -- values of its matrices at their points answer it
    pub request-answered : (i : ℕ) (r : OpeningRequest ID E) (values : List (List (List E))) →
        i < length o.requests.now → r ≡ get_or o.requests.now i r →
        AreValued o (asked_in inputs.matrices r) values →
        AreAnswers inputs.matrices over.fields o.params.now.log_blowup r values
    request-answered i r values lt is valued =
        batch-valued over.fields o.params.now.log_blowup (inputs.matrices r.prover_data.now)
        (points_of inputs.matrices r) values (request-lists i r lt is) valued

    -- and what answers it are such values
    pub request-valued : (batches : List (Vec (Vec (Vec E Global) Global) Global)) →
        AreAnsweredBy o (openings batches) → (i : ℕ) (r : OpeningRequest ID E)
        (b : Vec (Vec (Vec E Global) Global) Global) → i < length o.requests.now →
        i < length batches → r ≡ get_or o.requests.now i r → b ≡ get_or batches i b →
        AreValued o (asked_in inputs.matrices r) (opened_rows b.items)
    request-valued batches answered i r b lt lt' is is' =
        let rows : Vec (Vec (Vec E Global) Global) Global → List (List (List E)) =
        λ v. opened_rows v.items in
        let answers = at-place (AreAnswers inputs.matrices over.fields o.params.now.log_blowup)
        o.requests.now (openings batches) i r (rows b) answered lt is
        (map-at rows batches i b lt' is') in
        values-valued over.fields o.params.now.log_blowup (inputs.matrices r.prover_data.now)
        (points_of inputs.matrices r) (rows b) (request-lists i r lt is) answers.0 answers.1

    -- matrices that are those of the requests from one on are divided behind its own, of which
    -- there is one for each list of points
    module _ {g : _} (rest : List (MatrixAtPoints F E over g)) (i n : ℕ) (r : OpeningRequest ID E)
        (lt : i < length o.requests.now) (is : r ≡ get_or o.requests.now i r)
        (count : n ≡ vec_len r.points)
        (are : map asked_of rest ≡ flat_map (asked_in inputs.matrices) (drop i o.requests.now))
      where
        counted : n ≡ length (asked_in inputs.matrices r)
        counted =
            omega (
              arith,
              count,
              r.points.ok.0,
              length-zip (inputs.matrices r.prover_data.now) (points_of inputs.matrices r),
              request-lists i r lt is,
              length-map r.points.items (λ v. v.items),
            )

        whole : map asked_of rest
            ≡ flat_map (asked_in inputs.matrices) (drop i o.requests.now) ++ []
        whole = are ∙ sym (append-nil (flat_map (asked_in inputs.matrices) (drop i o.requests.now)))

        pub batch-fits : n ≤ length rest
        batch-fits = fits asked_of (asked_in inputs.matrices) rest o.requests.now i n r lt is
            counted [] whole

        pub batch-front : map asked_of (take n rest) ≡ asked_in inputs.matrices r
        batch-front = front asked_of (asked_in inputs.matrices) rest o.requests.now i n r lt is
            counted [] whole

        pub batch-left : map asked_of (drop n rest)
            ≡ flat_map (asked_in inputs.matrices) (drop (i + 1) o.requests.now)
        batch-left =
            behind asked_of (asked_in inputs.matrices) rest o.requests.now i n r lt is counted []
            whole
            ∙ append-nil (flat_map (asked_in inputs.matrices) (drop (i + 1) o.requests.now))

    module _ (values : Openings E) where
      -- each matrix leaves something to fold, and the group has a domain for it
      tall-with : All (λ m. o.params.now.log_blowup + o.params.now.log_final_poly_len + 2
          ≤ m.log_height) (seen_with o values)
      tall-with =
          heights-known over.fields o.params.now.log_blowup
          (λ h. o.params.now.log_blowup + o.params.now.log_final_poly_len + 2 ≤ h) inputs.matrices
          o.requests.now values o.openable.tall

      low-with : All (λ m. m.log_height < over.fields.two_adicity) (seen_with o values)
      low-with =
          heights-known over.fields o.params.now.log_blowup (λ h. h < over.fields.two_adicity)
          inputs.matrices o.requests.now values
          (fit-known inputs.matrices over.fields o.params.now.log_blowup over.fields.two_adicity
          (λ m. log_of (height_of m) < over.fields.two_adicity) (λ m points can. can.in_group)
          o.requests.now o.openable.fit)

      -- the greatest height that is claimed is theirs
      pub top-with : log_max_height o.params.now.log_blowup (all_matrices (claims_with o values))
          ≡ top_of (seen_with o values)
      top-with =
          top-claimed o.params.now.log_blowup
          (all_committed inputs.matrices over.fields o.params.now.log_blowup o.requests.now values)
          (λ i m lt. let tall = tall-with i m lt in omega (arith, tall))

      -- the matrices as they are listed: the greatest height
      pub top-listed : {g : _} (list : List (OpenedMatrix F E over g))
          → AreMatricesWith o values list →
          greatest (map (λ m. m.log_height) list) ≡ top_of (seen_with o values)
      top-listed list are = top-seen over.fields o.params.now.log_blowup list ∙ ap top_of are

      -- the claims on them as the transcript takes them in
      pub taken-listed : (l : FieldOps E) {g : _} (list : List (OpenedMatrix F E over g))
          (taken : List (Claim E)) → AreMatricesWith o values list →
          ((k : Fields F E) (blowup : ℕ) → taken ≡ flat_map (λ m. map (point_taken l) m.claims)
          (map (committed_of k blowup) list)) → taken ≡ claims_taken l (claims_with o values)
      taken-listed l list taken are is =
          is over.fields o.params.now.log_blowup
          ∙ ap (flat_map (λ (m : Committed F E). map (point_taken l) m.claims)) are
          ∙ sym (all-taken o.params.now.log_blowup l
          (all_committed inputs.matrices over.fields o.params.now.log_blowup o.requests.now values))

      module _ (answers : AreAnsweredBy o values) where
        -- there is one
        pub are-tall : AreTall o.params.now (seen_with o values)
        are-tall = (
          all-some over.fields o.params.now.log_blowup inputs.matrices o.requests.now values answers
              o.openable.some o.openable.matrices,
          tall-with,
        )

        pub top-high : o.params.now.log_blowup + o.params.now.log_final_poly_len + 2
            ≤ top_of (seen_with o values)
        top-high =
            top-known (seen_with o values)
            (λ h. o.params.now.log_blowup + o.params.now.log_final_poly_len + 2 ≤ h) are-tall.0
            are-tall.1

        pub top-low : top_of (seen_with o values) < over.fields.two_adicity
        top-low = top-known (seen_with o values) (λ h. h < over.fields.two_adicity) are-tall.0
            low-with

        -- of the matrices as they are listed: there is one, and each leaves something to fold
        pub listed-tall : {g : _} (list : List (OpenedMatrix F E over g))
            → AreMatricesWith o values list → (1 ≤ length list) × All (λ m. o.params.now.log_blowup
            + o.params.now.log_final_poly_len + 2 ≤ m.log_height) list
        listed-tall list are =
            let read = committed_of over.fields o.params.now.log_blowup in
            let IsTall : Committed F E → Type 0 =
            λ m. o.params.now.log_blowup + o.params.now.log_final_poly_len + 2 ≤ m.log_height in (
              omega (arith, are-tall.0, ap length are, length-map list read),
              All-unmap IsTall read list (subst (All IsTall) (sym are) are-tall.1),
            )

        -- the numbers of columns of what is claimed
        pub widths-with : widths_by (claims_with o values)
            ≡ map (λ b. map (λ m. map (λ w. length w) m) b) values
        widths-with = all-widths o.params.now.log_blowup inputs.matrices over.fields o.requests.now
            values answers

        -- the heights of each batch
        pub heights-with : All (λ r. AreHeights (top_of (seen_with o values))
            (inputs.matrices r.prover_data.now)) o.requests.now
        heights-with i r lt =
            let top = top_of (seen_with o values) in
            let powers =
            fit-known inputs.matrices over.fields o.params.now.log_blowup over.fields.two_adicity
            (λ m. height_of m ≡ 2 ^ log_of (height_of m)) (λ m points can. can.power) o.requests.now
            o.openable.fit in
            let low =
            heights-back over.fields o.params.now.log_blowup (λ h. h ≤ top) inputs.matrices
            o.requests.now values answers (matrices-low (seen_with o values)) in
            batch-heights top
            (inputs.matrices (slice_index_or o.requests.now i r).prover_data.now)
            (o.openable.matrices i r lt) (powers i r lt) (low i r lt)
