use Rattle.std.proofs.Common.{◌++◌, ◌+◌, ◌∙◌, ◌<◌, [], refl, sym, subst, take, length, arith}
use Rattle.std.proofs.Common.{get_or}
use Rattle.std.proofs.lemmas.Option.{get_or_from_slice_get}
use Rattle.sha2.specs.Hashers.{Holds256}
use Rattle.circle_commit.specs.declared.matrix.Dimensions.{Dimensions}
use Rattle.circle_merkle.specs.Rows.{bytes_of_height}
use Rattle.circle_merkle.proofs.OpenedBytes.{opened-with, opened-without}
use Rattle.circle_merkle.proofs.hashing.absorb_rows.Goals as goal
use Rattle.circle_merkle.proofs.hashing.absorb_rows.Goals.{then-height, else-height}

pub loop-j-preserved : goal.loop-j-preserved
loop-j-preserved g c m held =
    let dims = g.R.RowOfEach.dimensions c.args.rows.now in
    let rows = g.R.RowOfEach.rows c.args.rows.now in
    let bytes = g.T.ElementBytes.bytes in
    let j = c.loop-j.j in
    let height = c.args.height in
    let nothing : Dimensions = record { width = 0; height = 0 } in
    let dim = get_or dims j nothing in
    let short : j < length dims = omega (arith, c.loop-j-test.true, c.count-j-end.ensures) in
    let long : j < length rows = omega (arith, short, g.met.R.RowOfEach.one_each c.args.rows.now) in
    let before = m ++ bytes_of_height bytes (take j dims) height (take j rows) in
    let after = m ++ bytes_of_height bytes (take (j + 1) dims) height (take (j + 1) rows) in
    elim c.if-height.branch [
      | then-height w ↦
          let row = w.row.result.now in
          let at = get_or_from_slice_get rows j row [] w.row.ensures in
          let e = opened-with bytes height dims rows j dim nothing row [] short long refl at m
          (sym (c.height.ensures nothing) ∙ w.if-height.true) in
          subst (λ h. Holds256 h after) (sym w.hasher-is)
          (subst (Holds256 w.absorb_row.new.hasher) (sym e)
          (w.absorb_row.ensures before (c.loop-j.invariant m held)))
      | else-height w ↦
          let e = opened-without bytes height dims rows j dim nothing (get_or rows j []) [] short
          long refl refl m (λ same. w.if-height.false (c.height.ensures nothing ∙ same)) in
          subst (λ h. Holds256 h after) (sym w.hasher-is)
          (subst (Holds256 c.loop-j.hasher) (sym e) (c.loop-j.invariant m held))
    ]
