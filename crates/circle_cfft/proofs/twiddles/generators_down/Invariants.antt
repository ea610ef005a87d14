use Rattle.std.proofs.Common.{◌≡◌, ◌-◌, map}
use Rattle.std.specs.List.{range_with_len}
use Rattle.circle_point.specs.Point.{coordinates}
use Rattle.circle_cfft.proofs.twiddles.generators_down.Given as goal

abbrev pub invariant-loop : goal.invariant-loop
invariant-loop g l =
    let gen = g.F.ComplexExtendable.generators in
    record {
      made : map coordinates l.points.items
          ≡ map (λ i. gen (l.log_n - 1 - i)) (range_with_len 0 (l.counter - 3));
      next : coordinates l.point ≡ gen (l.log_n - 1 - (l.counter - 3));
    }
