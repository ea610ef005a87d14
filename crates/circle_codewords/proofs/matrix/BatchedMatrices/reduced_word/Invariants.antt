use Rattle.std.proofs.Common.{◌≡◌, ◌^◌, length, map, take}
use Rattle.circle_field.specs.Circle.{origin}
use Rattle.circle_codewords.specs.OfMatrices.{fields_of}
use Rattle.circle_relation.specs.Sums.{Adds}
use Rattle.circle_codewords.specs.Ratios.{points_of_height}
use Rattle.circle_codewords.specs.Words.{committed_of, claims_at}
use Rattle.circle_codewords.proofs.matrix.BatchedMatrices.reduced_word.Given as goal

abbrev pub invariant-loop-matrix : goal.invariant-loop-matrix
invariant-loop-matrix g l =
    let fields = fields_of l.self in
    record {
      counted : length l.word.items ≡ 2 ^ l.log_height;
      adds : Adds g.EF.Operations.ops g.EF.ExtensionField.embed l.self.alpha
          (points_of_height g.F.Operations.ops g.F.ComplexExtendable.generators l.log_height)
          (origin g.F.Operations.ops)
          (claims_at l.log_height
          (take l.matrix-index (map (committed_of fields l.self.log_blowup) l.self.matrices.now)))
          g.EF.Operations.ops.one l.offset l.initial.word.items l.word.items;
    }
