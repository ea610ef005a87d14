use Rattle.std.proofs.Common.{◌≡◌, ◌+◌, ◌-◌, ◌^◌, ◌∙◌, length, ap, arith}
use Rattle.std.proofs.lemmas.Nat.{pow_pos}
use Rattle.circle_domain.specs.Domain.{shift_of, log_size}
use Rattle.circle_domain.proofs.Twiddles.{length-layer_factors}
use Rattle.circle_cfft.specs.Twiddles.{layers_from}
use Rattle.circle_cfft.proofs.twiddles.higher_factors.Goals as goal

pub append_layers-requires : goal.append_layers-requires
append_layers-requires g c =
    let n = log_size c.args.domain in
    omega (
      arith,
      ap length c.in_ok-factors.ensures,
      length-layer_factors g.F.Operations.ops g.F.ComplexExtendable.generators n 1
          (shift_of c.args.domain),
      pow_pos (n - (1 + 1)),
    )

pub returns : goal.returns
returns g c =
    let k = g.F.Operations.ops in
    let n = log_size c.args.domain in
    let second = c.in_ok-factors.factors.items in
    let m = n - 2 in
    let f : n - (1 + 1) ≡ m = omega arith in
    let e : m + 1 ≡ n - 1 = omega (arith, c.requires.eights) in
    let long : length second ≡ 2 ^ m = ap length c.in_ok-factors.ensures
    ∙ length-layer_factors k g.F.ComplexExtendable.generators n 1 (shift_of c.args.domain)
    ∙ ap (λ i. 2 ^ i) f in
    c.in_ok-append_layers.ensures m long ∙ ap (λ i. layers_from k i second) e
    ∙ ap (layers_from k (n - 1)) c.in_ok-factors.ensures
