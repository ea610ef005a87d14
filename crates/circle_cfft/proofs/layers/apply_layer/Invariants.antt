use Rattle.std.proofs.Common.{◌≡◌, ◌+◌, ◌*◌, take, drop, ◌++◌}
use Rattle.circle_domain.specs.Layers.{layer}
use Rattle.circle_cfft.proofs.layers.apply_layer.Given as goal

abbrev pub invariant-loop-i : goal.invariant-loop-i
invariant-loop-i g l =
    let rest_of = layer g.B.Butterfly.lower g.B.Butterfly.upper l.half in
    let done = l.i * (l.half + l.half) in
    take done l.values ++ rest_of (drop l.i l.factors) (drop done l.values)
    ≡ rest_of l.factors l.fn.values
