use Rattle.std.proofs.Common.{◌≡◌, take}
use Rattle.circle_quotient.specs.Composition.{together}
use Rattle.circle_quotient.specs.Records.{selectors_of}
use Rattle.circle_quotient.proofs.composition.put_together.Given as goal

abbrev pub invariant-loop-constraint : goal.invariant-loop-constraint
invariant-loop-constraint g l = l.sum ≡ together g.E.Operations.ops
    (take l.constraint-index l.constraints) l.nodes (selectors_of l.selectors) l.alpha
