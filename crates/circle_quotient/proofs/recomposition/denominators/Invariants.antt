use Rattle.std.proofs.Common.{◌≡◌, map}
use Rattle.std.specs.List.{range_with_len}
use Rattle.std.specs.Prelude.{remove, slice_index_or}
use Rattle.circle_field.specs.Field.{sub}
use Rattle.circle_field.specs.Products.{product}
use Rattle.circle_quotient.proofs.recomposition.denominators.Given as goal

abbrev pub invariant-loop-j : goal.invariant-loop-j
invariant-loop-j g l =
    let k = g.F.Operations.ops in
    l.made.items ≡ map (λ j. product k
    (map (λ x. sub k (slice_index_or l.values j k.zero) x) (remove l.values j)))
    (range_with_len 0 l.j)
