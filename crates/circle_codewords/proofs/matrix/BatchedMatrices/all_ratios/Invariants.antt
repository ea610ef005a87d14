use Rattle.std.proofs.Common.{◌≡◌, take, All}
use Rattle.circle_codewords.specs.OfMatrices.{HaveRatios}
use Rattle.circle_codewords.specs.Ratios.{points_of_height, AreRatiosOf}
use Rattle.circle_codewords.proofs.matrix.BatchedMatrices.all_ratios.Given as goal

abbrev pub invariant-loop-matrix : goal.invariant-loop-matrix
invariant-loop-matrix g l = record {
  right : All
      (AreRatiosOf g.EF.Operations.ops g.EF.ExtensionField.embed
      (points_of_height g.F.Operations.ops g.F.ComplexExtendable.generators l.log_height))
      l.all.items;
  known : All (λ m. m.log_height ≡ l.log_height → HaveRatios l.all.items m)
      (take l.matrix-index l.self.matrices.now);
}
