use Rattle.std.proofs.Common.{◌≡◌, ◌+◌, ◌*◌, ◌++◌, ◌∙◌, ℕ, ap, map, arith}
use Rattle.std.specs.List.{range_with_len}
use Rattle.sha2.specs.Sha256.{sha256}
use Rattle.circle_merkle.specs.RowBytes.{matrix_bytes}
use Rattle.circle_merkle.specs.Tree.{rows_digest}
use Rattle.circle_merkle.proofs.Levels.{range-joined}
use Rattle.circle_merkle.proofs.tree.add_sixteen_rows.Goals as goal

pub loop-group-preserved : goal.loop-group-preserved
loop-group-preserved g c =
    let done = 16 * c.loop-group.group in
    let f =
    λ (i : ℕ). rows_digest sha256
    (matrix_bytes g.T.ElementBytes.bytes c.args.height i c.args.matrices.now) in
    let more : done + 16 ≡ 16 * (c.loop-group.group + 1) = omega arith in
    c.in_ok-extend_from_slice.ensures.items
    ∙ ap (λ xs. xs ++ c.in_ok-sixteen_rows.field-0) c.loop-group.invariant
    ∙ ap (λ xs. map f (range_with_len 0 done) ++ xs) c.in_ok-sixteen_rows.ensures
    ∙ range-joined f 0 done 16 done (omega arith)
    ∙ ap (λ n. map f (range_with_len 0 n)) more
