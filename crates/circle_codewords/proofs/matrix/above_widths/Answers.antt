use Rattle.std.proofs.Common.{◌≤◌, All, take, subst, arith, ⊎_elim}
use Rattle.std.proofs.lemmas.Nat.{pow_pos}
use Rattle.std.proofs.lemmas.List.{take_all}
use Rattle.std.proofs.lemmas.List.Elements.{All-more, All-weaker}
use Rattle.circle_commit.specs.RowMajorMatrix.{height_of, width_of}
use Rattle.circle_codewords.specs.declared.matrix.OpenedMatrix.{OpenedMatrix}
use Rattle.circle_codewords.proofs.Widths.{width-fits, max-of}
use Rattle.circle_codewords.proofs.matrix.above_widths.Goals as goal

pub loop-matrix-preserved : goal.loop-matrix-preserved
loop-matrix-preserved g c =
    let matrices = c.args.matrices.now in
    let i = c.loop-matrix.matrix-index in
    let m = c.matrix-item.result in
    let old = c.loop-matrix.greatest in
    let new = c.max-greatest.result in
    let Is : OpenedMatrix g.row.F.Denot g.row.EF.Denot _ g.EF.Operations → Type 0 =
    λ m. width_of m.rows.now ≤ new in
    let some : 1 ≤ height_of m.rows.now =
    omega (arith, m.openable.rows, pow_pos m.log_height) in
    let small = width-fits m.rows.now some in
    let greater = max-of old c.width.result new c.max-greatest.ensures in
    let own : width_of m.rows.now ≤ new = omega (arith, greater.1, c.width.ensures) in
    record {
      small = ⊎_elim (λ is. omega (arith, is, c.loop-matrix.invariant.small))
          (λ is. omega (arith, is, small, c.width.ensures)) greater.2;
      most = All-more Is matrices i m c.loop-matrix-test.true
          (All-weaker (λ m. width_of m.rows.now ≤ old) Is (λ x le. omega (arith, le, greater.0))
          (take i matrices) c.loop-matrix.invariant.most)
          (subst Is c.matrix-item.is own);
    }

pub returns : goal.returns
returns g c = λ k d lt.
    let matrices = c.args.matrices.now in
    let i = c.loop-matrix.matrix-index in
    let most = subst (All (λ m. width_of m.rows.now ≤ c.loop-matrix.greatest))
    (take_all i matrices c.loop-matrix-test.false) c.loop-matrix.invariant.most in
    omega (arith, most k d lt)
