use Rattle.p3_circle.specs.Committing.{AreExtensions}
use Rattle.p3_circle.proofs.commit.extensions.Given as goal

-- the matrices so far are those of the rows so far
abbrev pub invariant-loop-domain : goal.invariant-loop-domain
invariant-loop-domain g l =
    AreExtensions g.F.Operations.ops g.F.ComplexExtendable.generators l.log_blowup l.yielded
    l.made.items
