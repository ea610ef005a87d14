use Rattle.std.proofs.Common.{◌≡◌, ◌*◌, ◌++◌, drop}
use Rattle.circle_cfft.specs.Twiddles.{first_of_second}
use Rattle.circle_cfft.proofs.twiddles.first_layer.Given as goal

abbrev pub invariant-loop-i : goal.invariant-loop-i
invariant-loop-i g l =
    let made_of = first_of_second g.F.Operations.ops (g.F.ComplexExtendable.generators 2).y in
    l.first.items ++ made_of (drop (2 * l.i) l.second) ≡ made_of l.second
