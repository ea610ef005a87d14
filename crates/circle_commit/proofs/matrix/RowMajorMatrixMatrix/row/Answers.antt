use Rattle.std.proofs.Common.{◌≡◌, ◌-◌, ◌+◌, ◌*◌, ◌∙◌, ap, sym, Some, take, drop, arith}
use Rattle.circle_commit.specs.RowFacts.{rows_from-row}
use Rattle.circle_commit.specs.RowMajorMatrix.{height_of}
use Rattle.circle_commit.proofs.matrix.RowMajorMatrixMatrix.row.Goals as goal

pub returns : goal.returns
returns g c =
    let m = c.args.self.now in
    let start = c.args.r * m.width in
    let e : m.width ≡ start + m.width - start = omega arith in
    rows_from-row m.width (height_of m) c.args.r m.values.items c.requires
    ∙ ap (λ n. Some (take n (drop start m.values.items))) e
    ∙ ap (λ items. Some (take (start + m.width - start) (drop start items)))
    (sym c.deref.ensures.value)
