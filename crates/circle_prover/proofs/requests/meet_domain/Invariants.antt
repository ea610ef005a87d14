use Rattle.std.proofs.Common.{◌≡◌, false, length, take}
use Rattle.std.specs.Prelude.{zip}
use Rattle.std.specs.List.{list_any}
use Rattle.circle_prover.specs.Requesting.{some_on_standard}
use Rattle.circle_prover.proofs.requests.meet_domain.Given as goal

-- none of the matrices so far is to be opened on its domain
abbrev pub invariant-loop-matrix : goal.invariant-loop-matrix
invariant-loop-matrix g l =
    list_any
    (λ asked. some_on_standard g.F.Operations.ops g.F.ComplexExtendable.generators
    g.EF.Operations.ops g.EF.ExtensionField.embed g.EF.PartialEq.eq asked.0 asked.1.items)
    (take (length l.yielded) (zip l.matrices l.points)) ≡ false
