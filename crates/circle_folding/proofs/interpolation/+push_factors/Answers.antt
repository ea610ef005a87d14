use Rattle.std.proofs.Common.{◌≡◌, ◌≤◌, ◌<◌, ◌^◌, ◌∙◌, sym, ap, arith, suc, length, ◌++◌}
use Rattle.std.proofs.Common.{append-nil, take, drop}
use Rattle.std.proofs.Math.Nat.{pow-suc}
use Rattle.std.proofs.lemmas.Nat.{pow_pos}
use Rattle.std.proofs.lemmas.Result.{on_ok_weaker}
use Rattle.circle_point.specs.Basis.{iterated_x}
use Rattle.circle_domain.proofs.Powers.{pow_injective}
use Rattle.circle_folding.specs.Interpolation.{block_factors}
use Rattle.circle_folding.proofs.Halves.{half-power}
use Rattle.circle_folding.proofs.Parts.{joined-factors}
use Rattle.circle_folding.proofs.interpolation.+push_factors.Goals as goal

pub returns-then-half-eq0 : goal.returns-then-half-eq0
returns-then-half-eq0 g t c m e =
    let none : m ≡ 0 = pow_injective m 0 (omega (arith, e, c.if-half-eq0.true, pow_pos m)) in
    sym (append-nil c.args.factors.now.items)
    ∙ ap (λ n. c.args.factors.now.items ++ block_factors g.F.Operations.ops n c.args.xs.now)
    (sym none)

pub push_factors-requires : goal.push_factors-requires
push_factors-requires g t c =
    let half = half-power (length c.args.xs.now) c.requires.0 c.requires.1 c.if-half-eq0.false in
    let smaller : length c.split_at.result.0.now < length c.args.xs.now =
    omega (arith, c.split_at.ensures.front_len, half.3, c.if-half-eq0.false) in
    λ κs outlives. (
      omega (arith, smaller, c.decreases),
      (outlives, (half.0, c.split_at.ensures.front_len ∙ half.2)),
    )

pub push_factors-requires-2 : goal.push_factors-requires-2
push_factors-requires-2 g t c =
    let half = half-power (length c.args.xs.now) c.requires.0 c.requires.1 c.if-half-eq0.false in
    let smaller : length c.split_at.result.1.now < length c.args.xs.now =
    omega (arith, c.split_at.ensures.back_len, half.3, c.if-half-eq0.false) in
    λ κs outlives. (
      omega (arith, smaller, c.decreases),
      (outlives, (half.0, omega (arith, c.split_at.ensures.back_len, half.3, half.2))),
    )

pub log2_strict-requires : goal.log2_strict-requires
log2_strict-requires g t c =
    let half = half-power (length c.args.xs.now) c.requires.0 c.requires.1 c.if-half-eq0.false in
    (half.0, half.2)

pub returns : goal.returns
returns g t c =
    let k = g.F.Operations.ops in
    let half = half-power (length c.args.xs.now) c.requires.0 c.requires.1 c.if-half-eq0.false in
    let r = half.0 in
    let log : c.log2_strict.result ≡ r = c.log2_strict.ensures.only r half.2 in
    let first : length c.split_at.result.0.now ≡ 2 ^ r = c.split_at.ensures.front_len ∙ half.2 in
    let second : length c.split_at.result.1.now ≡ 2 ^ r =
    omega (arith, c.split_at.ensures.back_len, half.3, half.2) in
    let some : 1 ≤ length c.args.xs.now = omega (arith, half.3, half.2, pow_pos r) in
    on_ok_weaker c.push_factors-2.result (λ all m e.
    let more : m ≡ suc r =
    pow_injective m (suc r) (omega (arith, e, half.3, half.2, pow-suc 2 r)) in
    joined-factors k m r c.args.xs.now c.split_at.result.0.now c.split_at.result.1.now
    c.args.factors.now.items c.push.new.self.items c.push_factors.new.factors.items
    c.push_factors-2.new.factors.items c.index-xs-0.result c.iterated_x.result
    more c.index-xs-0.is some
    (c.iterated_x.ensures ∙ ap (λ n. iterated_x k n c.index-xs-0.result) log)
    (c.split_at.ensures.front ∙ ap (λ n. take n c.args.xs.now) half.2)
    (c.split_at.ensures.back ∙ ap (λ n. drop n c.args.xs.now) half.2)
    (c.in_ok-push.ensures.items) (c.in_ok-push_factors.ensures r first) (all r second))
    c.push_factors-2.ensures
