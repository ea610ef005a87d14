use Rattle.std.proofs.Common.{◌≡◌, ◌<◌, ◌++◌, ◌∷◌, [], ◌∙◌, ap, sym, subst, List, ℕ, map, take}
use Rattle.std.proofs.Common.{get_or}
use Rattle.std.proofs.lemmas.List.{take_all, map_push, map_more}
use Rattle.std.proofs.lemmas.List.Elements.{All-same}
use Rattle.sha2.specs.Sha256.{sha256}
use Rattle.circle_commit.specs.Matrix.{IsPowerOfTwo}
use Rattle.circle_commit.specs.RowMajorMatrix.{height_of}
use Rattle.circle_commit.specs.Mmcs.{dimensions_of, max_height, rows_at, rows_at_each, opened_rows}
use Rattle.circle_merkle.specs.Authentication.{Authenticates}
use Rattle.circle_merkle.specs.ProverData.{matrices_of, level_count, some_matrix, powers_of_two}
use Rattle.circle_merkle.proofs.Completeness.{authenticates-honest}
use Rattle.circle_merkle.proofs.mmcs.ShaMmcsMmcs.open_multi_batch.Goals as goal

pub rows_of-requires-clause-powers_of_two : goal.rows_of-requires-clause-powers_of_two
rows_of-requires-clause-powers_of_two g c =
    let d = c.args.prover_data.now in
    All-same (λ m. IsPowerOfTwo (height_of m)) c.matrices.result.now (matrices_of d)
    c.matrices.ensures (powers_of_two d)

pub returns-clause-proof : goal.returns-clause-proof
returns-clause-proof g c commitment isroot =
    let d = c.args.prover_data.now in
    let bytes = g.T.ElementBytes.bytes in
    let indices = c.args.indices.now in
    let matrices = matrices_of d in
    let opened : opened_rows c.loop-index.opened.items ≡ rows_at_each matrices indices =
    c.loop-index.invariant
    ∙ ap (rows_at_each matrices)
    (take_all c.loop-index.index-index indices c.loop-index-test.false) in
    let honest = authenticates-honest sha256 bytes matrices indices (level_count d)
    (sym d.greatest ∙ d.levels) c.requires.some c.requires.in_range (some_matrix d)
    (powers_of_two d) commitment isroot in
    subst (λ (rows : List (List (List g.row.T.Denot))). Authenticates sha256 bytes commitment
    (dimensions_of matrices) indices rows c.in_ok-siblings.field-0.items) (sym opened)
    (subst
    (λ (proof : List (List ℕ)). Authenticates sha256 bytes commitment (dimensions_of matrices)
    indices (rows_at_each matrices indices) proof) (sym c.in_ok-siblings.ensures) honest)

pub loop-index-init : goal.loop-index-init
loop-index-init g c = ap opened_rows c.in_ok-opened.ensures.items

pub loop-index-preserved : goal.loop-index-preserved
loop-index-preserved g c =
    let matrices = matrices_of c.args.prover_data.now in
    let indices = c.args.indices.now in
    let k = c.loop-index.index-index in
    let new = c.in_ok-rows_of.field-0 in
    ap opened_rows c.in_ok-push.ensures.items
    ∙ map_push (λ rows. map (λ row. row.items) rows.items) c.loop-index.opened.items new
    ∙ ap (λ before. before ++ map (λ row. row.items) new.items ∷ []) c.loop-index.invariant
    ∙ ap (λ rows. rows_at_each matrices (take k indices) ++ rows ∷ [])
    (c.in_ok-rows_of.ensures ∙ ap (λ ms. rows_at ms (get_or indices k 0)) c.matrices.ensures)
    ∙ sym (map_more (rows_at matrices) indices k 0 c.loop-index-test.true)

pub rows_of-requires-clause-greatest : goal.rows_of-requires-clause-greatest
rows_of-requires-clause-greatest g c = c.max_height-top.ensures
    ∙ ap max_height (sym c.matrices.ensures)

pub rows_of-requires-clause-in_range : goal.rows_of-requires-clause-in_range
rows_of-requires-clause-in_range g c =
    let k = c.loop-index.index-index in
    subst (λ n. get_or c.args.indices.now k 0 < n) (sym c.max_height-top.ensures)
    (c.requires.in_range k 0 c.loop-index-test.true)

pub siblings-requires : goal.siblings-requires
siblings-requires g c = c.requires.in_range

pub returns-clause-rows : goal.returns-clause-rows
returns-clause-rows g c = c.loop-index.invariant
    ∙ ap (rows_at_each (matrices_of c.args.prover_data.now))
    (take_all c.loop-index.index-index c.args.indices.now c.loop-index-test.false)
