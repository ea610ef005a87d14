use Rattle.std.proofs.Common.{◌<◌, All, sym, subst}
use Rattle.circle_commit.specs.RowMajorMatrix.{width_of}
use Rattle.circle_folding.proofs.PowerLists.{length-powers, are-powers}
use Rattle.circle_codewords.specs.declared.matrix.OpenedMatrix.{OpenedMatrix}
use Rattle.circle_codewords.proofs.matrix.BatchedMatrices.new.Goals as goal

pub invariant_of-result : goal.invariant_of-result
invariant_of-result g c =
    let l = g.EF.Operations.ops in
    let n = c.above_widths.result in
    let made = c.in_ok-powers.ensures in
    record {
      blowup = c.requires;
      are_powers = are-powers l c.args.alpha n c.in_ok-powers.powers.items made;
      enough = subst
          (λ n. All (λ (m : OpenedMatrix g.row.F.Denot g.row.EF.Denot _ _). width_of m.rows.now < n)
          c.args.matrices.now)
          (sym (length-powers l c.args.alpha n c.in_ok-powers.powers.items made))
          c.above_widths.ensures;
    }
