use Rattle.std.proofs.Common.{◌≡◌, map, take}
use Rattle.circle_field.specs.Field.{sub}
use Rattle.circle_domain.proofs.row_selectors.one_less_scaled.Given as goal

abbrev pub invariant-loop-value : goal.invariant-loop-value
invariant-loop-value g l =
    let k = g.F.Operations.ops in
    l.made.items ≡ map (λ v. sub k k.one (k.mul v l.scale)) (take l.value-index l.values)
