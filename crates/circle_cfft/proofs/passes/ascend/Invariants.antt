use Rattle.std.proofs.Common.{◌≡◌, ◌+◌, ◌*◌, length}
use Rattle.circle_cfft.specs.Passes.{ascending}
use Rattle.circle_cfft.specs.Parts.{factors_of_part}
use Rattle.circle_cfft.proofs.passes.ascend.Given as goal

abbrev pub invariant-loop-pair : goal.invariant-loop-pair
invariant-loop-pair g l =
    let factors = factors_of_part l.width (length l.fn.values) l.part l.twiddles in
    l.values ≡ ascending g.B.Butterfly.lower g.B.Butterfly.upper l.width factors
    (l.odd + 2 * l.pair) l.fn.values
