use Rattle.std.proofs.Common.{◌≡◌, ◌≤◌, ◌+◌, ◌-◌, ◌^◌, ◌∷◌, ◌∙◌, length, take, sym, ap, arith}
use Rattle.std.proofs.lemmas.Result.{IfOk-weaker}
use Rattle.circle_domain.specs.Domain.{shift_of, log_size}
use Rattle.circle_domain.specs.Layers.{layer_factors}
use Rattle.circle_cfft.specs.Twiddles.{first_of_second, halving_parts, layers_from}
use Rattle.circle_cfft.proofs.TwiddleParts.{all_layers, length-higher}
use Rattle.circle_cfft.proofs.twiddles.forward_twiddles.Goals as goal

pub split_layers-requires-clause-count : goal.split_layers-requires-clause-count
split_layers-requires-clause-count g c =
    let n = log_size c.args.domain in
    let some : 3 ≤ n = omega (arith, c.if-log_n-lt3.false, c.log_n.ensures) in
    ap (λ xs. length xs + 1) (c.deref.ensures.value ∙ c.in_ok-factors.ensures)
    ∙ length-higher g.F.Operations.ops g.F.ComplexExtendable.generators n (shift_of c.args.domain)
    some ∙ ap (λ i. 2 ^ (i - 1)) (sym c.log_n-2.ensures)

pub returns : goal.returns
returns g c =
    let k = g.F.Operations.ops in
    let n = log_size c.args.domain in
    let y = (g.F.ComplexExtendable.generators 2).y in
    let higher = c.deref.result.now in
    let some : 3 ≤ n = omega (arith, c.if-log_n-lt3.false, c.log_n.ensures) in
    let are : higher ≡ layers_from k (n - 1)
    (layer_factors k g.F.ComplexExtendable.generators n (shift_of c.args.domain) 1) =
    c.deref.ensures.value ∙ c.in_ok-factors.ensures in
    IfOk-weaker c.split_layers.result _ _
    (λ layers e. e
    ∙ ap (λ i. first_of_second k y (take (2 ^ (i - 2)) higher) ∷ halving_parts (i - 1) higher)
    c.log_n-2.ensures
    ∙ all_layers g.F.Operations.laws g.met.F.ComplexExtendable.generators_law
    g.met.F.ComplexExtendable.at_least_two n (shift_of c.args.domain) some higher are)
    c.split_layers.ensures
