use Rattle.std.proofs.Common.{take}
use Rattle.circle_field.specs.Circle.{origin}
use Rattle.circle_codewords.specs.OfMatrices.{fields_of}
use Rattle.circle_relation.specs.Sums.{Adds}
use Rattle.circle_codewords.specs.Ratios.{points_of_height}
use Rattle.circle_codewords.specs.Words.{committed_of}
use Rattle.circle_codewords.proofs.Claims.{claims_among}
use Rattle.circle_codewords.proofs.matrix.BatchedMatrices.add_matrix.Given as goal

abbrev pub invariant-loop-i : goal.invariant-loop-i
invariant-loop-i g l =
    let fields = fields_of l.self in
    let ms = committed_of fields l.self.log_blowup l.matrix in
    Adds fields.extension fields.embed l.self.alpha
    (points_of_height fields.field fields.gen l.matrix.log_height) (origin fields.field)
    (claims_among ms (take l.i ms.claims)) l.fn.offset l.after l.fn.sums l.sums
