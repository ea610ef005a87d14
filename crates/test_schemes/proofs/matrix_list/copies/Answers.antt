use Rattle.std.proofs.Common.{◌≡◌, ap, sym, ◌∙◌, length}
use Rattle.circle_commit.specs.RowMajorMatrix.{height_of, length-rows}
use Rattle.test_schemes.proofs.SameRows.{same-more}
use Rattle.test_schemes.proofs.matrix_list.copies.Goals as goal

pub loop-matrix-preserved : goal.loop-matrix-preserved
loop-matrix-preserved g c =
    let m = c.matrix-item.result in
    let copy = c.in_ok-try_clone.field-0 in
    let height : height_of copy ≡ height_of m = sym (length-rows copy)
    ∙ ap length c.in_ok-try_clone.ensures.rows ∙ length-rows m in
    same-more c.args.matrices.now c.loop-matrix.copies.items c.push.new.self.items
    c.loop-matrix.matrix-index m copy c.loop-matrix-test.true c.matrix-item.is
    c.in_ok-push.ensures.items c.in_ok-try_clone.ensures.width c.in_ok-try_clone.ensures.rows height
    c.loop-matrix.invariant
