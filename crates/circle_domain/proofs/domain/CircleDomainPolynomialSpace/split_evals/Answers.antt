use Rattle.std.proofs.Common.{◌≡◌, ℕ, ◌*◌, ◌/◌, ◌≤◌, ◌++◌, [], ◌∷◌, List, All, ◌∙◌, sym, ap, subst}
use Rattle.std.proofs.Common.{arith, map}
use Rattle.std.specs.List.{range_with_len}
use Rattle.std.proofs.lemmas.List.{map-append}
use Rattle.std.proofs.lemmas.List.Elements.{All-push}
use Rattle.std.proofs.lemmas.List.FromFn.{map-range_with_len_more}
use Rattle.std.proofs.lemmas.Nat.{pow_pos}
use Rattle.circle_commit.specs.Matrix.{mapped_rows}
use Rattle.circle_commit.specs.RowMajorMatrix.{rows, width_of, height_of, length-rows}
use Rattle.circle_commit.specs.declared.matrix.RowMajorMatrix.{RowMajorMatrix}
use Rattle.circle_domain.specs.Domain.{log_size, shift_of}
use Rattle.circle_domain.specs.Splitting.{place_of}
use Rattle.circle_domain.proofs.PartPlaces.{part_height}
use Rattle.circle_domain.proofs.PartRows.{whole_parts, rows_go, point_goes}
use Rattle.circle_domain.proofs.domain.CircleDomainPolynomialSpace.split_evals.Goals as goal

pub rows_of_part-requires-clause-whole : goal.rows_of_part-requires-clause-whole
rows_of_part-requires-clause-whole g c =
    let parts = whole_parts c.args.num_chunks (log_size c.args.self.now) c.requires.power
    c.requires.room in
    (parts.0, c.requires.size ∙ parts.1)

pub loop-part-preserved : goal.loop-part-preserved
loop-part-preserved g c =
    let evals = c.args.evals in
    let f =
    λ (j : ℕ). mapped_rows (place_of c.args.num_chunks j) (height_of evals / c.args.num_chunks)
    (rows evals) in
    let parts = c.loop-part.parts.items in
    let part = c.in_ok-rows_of_part.field-0 in
    let items : c.push.new.self.items ≡ parts ++ part ∷ [] = c.in_ok-push.ensures.items in
    let j = c.loop-part.part in
    record {
      matched = ap (map rows) items ∙ map-append rows parts (part ∷ [])
          ∙ ap (λ xs. xs ++ rows part ∷ []) c.loop-part.invariant.matched
          ∙ ap (λ row. map f (range_with_len 0 j) ++ row ∷ []) c.in_ok-rows_of_part.ensures.rows
          ∙ sym (map-range_with_len_more f 0 j j (omega arith));
      wide =
          subst
          (λ (xs : List (RowMajorMatrix g.row.F.Denot)). All (λ m. width_of m ≡ width_of evals) xs)
          (sym items)
          (All-push (λ (m : RowMajorMatrix g.row.F.Denot). width_of m ≡ width_of evals) parts part
          c.loop-part.invariant.wide c.in_ok-rows_of_part.ensures.width);
    }

pub returns-clause-rows : goal.returns-clause-rows
returns-clause-rows g c =
    let evals = c.args.evals in
    let count = c.args.num_chunks in
    let end : c.loop-part.part ≡ count =
    omega (arith, c.loop-part-test.false, c.loop-part.auto.part-end) in
    c.loop-part.invariant.matched
    ∙ ap (λ n. map (λ j. mapped_rows (place_of count j) (height_of evals / count) (rows evals))
    (range_with_len 0 n)) end
    ∙ ap
    (λ h. map (λ j. mapped_rows (place_of count j) (h / count) (rows evals))
    (range_with_len 0 count)) c.requires.size

pub returns-clause-goes : goal.returns-clause-goes
returns-clause-goes g c =
    let evals = c.args.evals in
    let count = c.args.num_chunks in
    let whole = whole_parts count (log_size c.args.self.now) c.requires.power c.requires.room in
    let m = whole.0 in
    let some : 1 ≤ count = omega (arith, c.requires.power.1, pow_pos c.requires.power.0) in
    let tall : height_of evals / count ≡ m * 2 =
    part_height count m (height_of evals) some (c.requires.size ∙ whole.1) in
    let end : c.loop-part.part ≡ count =
    omega (arith, c.loop-part-test.false, c.loop-part.auto.part-end) in
    let matched : map rows c.loop-part.parts.items ≡ map
    (λ j. mapped_rows (place_of count j) (m * 2) (rows evals)) (range_with_len 0 count) =
    c.loop-part.invariant.matched
    ∙ ap (λ n. map (λ j. mapped_rows (place_of count j) (height_of evals / count) (rows evals))
    (range_with_len 0 n)) end
    ∙ ap (λ h. map (λ j. mapped_rows (place_of count j) h (rows evals)) (range_with_len 0 count))
    tall in
    λ i lt. rows_go rows c.loop-part.parts.items (rows evals) count m some
    (length-rows evals ∙ c.requires.size ∙ whole.1) matched i (omega (arith, lt, whole.1))

pub returns-clause-points : goal.returns-clause-points
returns-clause-points g c = λ standard i m p s sizes here first.
    point_goes g.F.Operations.laws g.met.F.ComplexExtendable.generators_law c.args.num_chunks
    (log_size c.args.self.now) (shift_of c.args.self.now) c.requires.power c.requires.room
    standard i m p s sizes here first
