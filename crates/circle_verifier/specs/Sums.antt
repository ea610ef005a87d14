-- Sums of quotients at the queries, claim after claim.
use Rattle.std.specs.Prelude.{ℕ, List, map, zip}
use Rattle.circle_field.specs.Circle.{Coordinates, origin}
use Rattle.circle_point.specs.Point.{coordinates}
use Rattle.circle_folding.specs.Queries.{query_point}
use Rattle.circle_relation.specs.Statement.{all_matrices}
use Rattle.circle_relation.specs.Sums.{AreApartAt, Adds, all_claims_at}
use Rattle.circle_relation.specs.Accepts.{top, at_queries, point_among}
use Rattle.circle_relation.specs.Accepts.{reduced_at, claims_of}
use Rattle.circle_verifier.specs.OfRun.{fields_of, run_of}
use Rattle.circle_verifier.specs.Rows.{Place, all_placed, rows_claimed}
use Rattle.circle_verifier.specs.declared.run.OpenedRun.{OpenedRun}
use Rattle.circle_verifier.specs.declared.reduced.Word.{Word}

module _ {F E I W IC ID IP IE WC WD WP WE : Type 0} {g ext over inputs ic ip ie words wc wp we : _}
    (o : OpenedRun F E I W IC ID IP IE WC WD WP WE g ext over inputs ic ip ie words wc wp we) where
  -- for each claim the height of its matrix, and where this one's rows stand
  abbrev pub claimed_rows : List (ℕ × Place F)
  claimed_rows =
      let r = run_of o in
      rows_claimed o.params.now.log_blowup (all_placed (zip r.batches r.proof.inputs))

  module _ (word : Word F E g) where
    -- none of a codeword's points is claimed of a matrix of its height
    abbrev pub IsApartFrom : Type 0
    IsApartFrom =
        let k = fields_of o in
        AreApartAt k.extension k.embed o.params.now.log_blowup word.log_height
        (map coordinates word.points.now) (all_matrices (run_of o).batches)

    -- its sums from old to new, by all claims on matrices of its height, from the first power on
    abbrev pub AddsAll : List E → List E → Type 0
    AddsAll old new =
        let k = fields_of o in
        let r = run_of o in
        (after : E) × Adds k.extension k.embed o.alpha (map coordinates word.points.now)
        (origin k.field)
        (all_claims_at o.params.now.log_blowup word.log_height (zip r.batches r.proof.inputs))
        k.extension.one after old new

  module _ (h : ℕ) where
    -- the codeword of height 2^h at the queries: their points, and the sums of the quotients of
    -- their rows
    abbrev pub word_at : ℕ × (List (Coordinates F) × List E)
    word_at =
        let k = fields_of o in
        let p = o.params.now in
        let r = run_of o in
        let point = λ (j q : ℕ). point_among k p r j q h in
        let sum = λ (j q : ℕ). reduced_at k p r (point j q) (claims_of k p r h j) in
        (h, (at_queries k p r point, at_queries k p r sum))

    -- none of its points is claimed of a matrix of that height
    abbrev pub IsApartIn : Type 0
    IsApartIn =
        let k = fields_of o in
        let point = query_point k.field k.gen h (top k o.params.now (run_of o)) in
        AreApartAt k.extension k.embed o.params.now.log_blowup h (map point o.indices.now)
        (all_matrices (run_of o).batches)
