use Rattle.std.proofs.Common.{◌≡◌, ◌+◌, ◌-◌, ◌^◌, ◌∷◌, ◌++◌, length, map, take}
use Rattle.circle_cfft.specs.Twiddles.{first_of_second, halving_parts}
use Rattle.circle_cfft.proofs.twiddles.split_layers.Given as goal

abbrev pub invariant-loop-layer : goal.invariant-loop-layer
invariant-loop-layer g l =
    let first = first_of_second g.F.Operations.ops (g.F.ComplexExtendable.generators 2).y
    (take (2 ^ (l.log_n - 2)) l.higher) in
    record {
      long : length l.rest + 1 ≡ 2 ^ (l.log_n - l.layer);
      parts : map (λ w. w.items) l.layers.items ++ halving_parts (l.log_n - l.layer) l.rest ≡ first
          ∷ halving_parts (l.log_n - 1) l.higher;
    }
