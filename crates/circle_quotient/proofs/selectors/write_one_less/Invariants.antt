use Rattle.std.proofs.Common.{◌≡◌, ℕ, ◌<◌}
use Rattle.circle_field.specs.Field.{sub}
use Rattle.circle_air.specs.Values.{entry}
use Rattle.circle_quotient.proofs.selectors.write_one_less.Given as goal

abbrev pub invariant-loop-i : goal.invariant-loop-i
invariant-loop-i g l =
    let k = g.F.Operations.ops in
    (r : ℕ) → r < l.i → entry k l.less r
    ≡ sub k k.one (k.mul (entry k l.values r) l.scale)
