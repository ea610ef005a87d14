use Rattle.std.proofs.Common.{◌++◌, ◌∷◌, [], ◌∙◌, ℕ, ap, sym, map, arith}
use Rattle.std.specs.List.{range_with_len}
use Rattle.std.proofs.lemmas.List.FromFn.{map-range_with_len_more}
use Rattle.sha2.specs.Sha256.{sha256}
use Rattle.circle_merkle.specs.RowBytes.{matrix_bytes}
use Rattle.circle_merkle.specs.Tree.{rows_digest}
use Rattle.circle_merkle.proofs.tree.rows_level.Goals as goal

pub loop-i-preserved : goal.loop-i-preserved
loop-i-preserved g c =
    let i = c.loop-i.i in
    let f =
    λ (i : ℕ). rows_digest sha256
    (matrix_bytes g.T.ElementBytes.bytes c.args.height i c.args.matrices.now) in
    c.in_ok-push.ensures.items
    ∙ ap (λ before. before ++ c.rows_digest.result ∷ []) c.loop-i.invariant
    ∙ ap (λ x. map f (range_with_len 0 i) ++ x ∷ []) c.rows_digest.ensures
    ∙ sym (map-range_with_len_more f 0 i i (omega arith))
