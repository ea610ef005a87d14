use Rattle.std.proofs.Common.{◌≡◌}
use Rattle.circle_commit.specs.DotProduct.{pairwise}
use Rattle.circle_commit.proofs.Written.{written}
use Rattle.circle_cfft.proofs.layers.combine_four.Given as goal

abbrev pub invariant-loop-i : goal.invariant-loop-i
invariant-loop-i g l =
    let low = g.B.Butterfly.lower in
    let high = g.B.Butterfly.upper in
    let a = l.fn.a in
    let b = l.fn.b in
    let c = l.fn.c in
    let d = l.fn.d in
    let front = pairwise (low l.first.0) a c in
    let back = pairwise (low l.first.1) b d in
    let front' = pairwise (high l.first.0) a c in
    let back' = pairwise (high l.first.1) b d in
    let fin = g.S.Finish.finished l.finish in
    record {
      a : l.a ≡ written l.i (pairwise (λ x y. fin (low l.second.0 x y)) front back) a;
      b : l.b ≡ written l.i (pairwise (λ x y. fin (high l.second.0 x y)) front back) b;
      c : l.c ≡ written l.i (pairwise (λ x y. fin (low l.second.1.0 x y)) front' back') c;
      d : l.d ≡ written l.i (pairwise (λ x y. fin (high l.second.1.0 x y)) front' back') d;
    }
