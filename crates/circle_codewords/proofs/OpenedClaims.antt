-- The claims on a matrix that is opened, place by place.
use Rattle.std.specs.Prelude.{◌≡◌, ℕ, ◌<◌, ◌≤◌, take, length, slice_index_or, Vec}
use Rattle.std.specs.declared.alloc.Global.{Global}
use Rattle.std.proofs.Common.{sym, ◌∙◌, ap, arith}
use Rattle.std.proofs.lemmas.List.{get_or-map, length-map, take_all}
use Rattle.circle_commit.proofs.Written.{length-pairwise, pairwise-read}
use Rattle.circle_commit.specs.RowMajorMatrix.{width_of}
use Rattle.circle_relation.specs.Accepts.{Fields}
use Rattle.circle_codewords.specs.Points.{coordinates_of}
use Rattle.circle_codewords.specs.Words.{claim_of, committed_of}
use Rattle.circle_codewords.specs.declared.matrix.OpenedMatrix.{OpenedMatrix}
use Rattle.circle_codewords.specs.declared.points.OpeningPoint.{OpeningPoint}

module _ {F E : Type 0} {over g : _} (m : OpenedMatrix F E over g) (i : ℕ) (vs : Vec E Global)
    (within : i < length m.points.now) (is : vs ≡ slice_index_or m.values.now i vs) where
  -- the values at a place are as many as the matrix has columns
  pub valued-at : length vs.items ≡ width_of m.rows.now
  valued-at = ap (λ v. length v.items) is ∙ m.widths i vs (omega (arith, within, m.valued))

module _ {F E : Type 0} {over g : _} (k : Fields F E) (blowup : ℕ) (m : OpenedMatrix F E over g)
  where
    counted : length m.values.now ≡ length (coordinates_of m.points.now)
    counted = m.valued ∙ sym (length-map m.points.now (λ p. p.coordinate))

    -- there is a claim for each point
    pub claims-count : length (committed_of k blowup m).claims ≡ length m.points.now
    claims-count =
        length-pairwise (λ t v. claim_of t v.items) (coordinates_of m.points.now) m.values.now
        (sym counted)
        ∙ length-map m.points.now (λ p. p.coordinate)

    pub claims-end : (i : ℕ) → length m.points.now ≤ i → take i (committed_of k blowup m).claims
        ≡ (committed_of k blowup m).claims
    claims-end i le = take_all i (committed_of k blowup m).claims (omega (arith, le, claims-count))

    -- the claim at a place
    pub claim-at : (i : ℕ) (p : OpeningPoint E g) (vs : Vec E Global) → i < length m.points.now →
        p ≡ slice_index_or m.points.now i p → vs ≡ slice_index_or m.values.now i vs →
        slice_index_or (committed_of k blowup m).claims i (claim_of p.coordinate vs.items)
        ≡ claim_of p.coordinate vs.items
    claim-at i p vs lt is is' =
        let within = length-map m.points.now (λ (q : OpeningPoint E g). q.coordinate) in
        pairwise-read (λ t v. claim_of t v.items) (coordinates_of m.points.now) m.values.now i
        p.coordinate vs (claim_of p.coordinate vs.items) (omega (arith, lt, within))
        (omega (arith, lt, m.valued))
        ∙ ap (λ t. claim_of t (slice_index_or m.values.now i vs).items)
        (get_or-map (λ q. q.coordinate) m.points.now i p p.coordinate lt
        ∙ ap (λ (q : OpeningPoint E g). q.coordinate) (sym is))
        ∙ ap (λ (v : Vec E Global). claim_of p.coordinate v.items) (sym is')
