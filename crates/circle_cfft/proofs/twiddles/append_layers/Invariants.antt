use Rattle.std.proofs.Common.{◌≡◌, ℕ, ◌+◌, ◌^◌, length, take}
use Rattle.circle_cfft.specs.Twiddles.{layers_from}
use Rattle.circle_cfft.proofs.twiddles.append_layers.Given as goal

abbrev pub invariant-loop-i : goal.invariant-loop-i
invariant-loop-i g l =
    record {
      long : length l.factors.items ≡ length l.fn.factors.items + l.i;
      layers : (m : ℕ) → length l.fn.factors.items ≡ 2 ^ m → l.factors.items
          ≡ take (2 ^ m + l.i) (layers_from g.F.Operations.ops (m + 1) l.fn.factors.items);
    }
