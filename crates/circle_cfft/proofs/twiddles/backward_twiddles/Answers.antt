use Rattle.std.proofs.Common.{◌≡◌, ◌≢◌, ◌≤◌, ◌+◌, ◌-◌, ◌^◌, ◌∷◌, ◌∙◌, length, map, take, sym, ap}
use Rattle.std.proofs.Common.{arith}
use Rattle.std.proofs.lemmas.List.{length-map}
use Rattle.std.proofs.lemmas.List.Elements.{All-from_recursion}
use Rattle.std.proofs.lemmas.Nat.{pow_pos}
use Rattle.std.proofs.lemmas.Result.{IfOk-weaker}
use Rattle.circle_domain.specs.Domain.{shift_of, log_size}
use Rattle.circle_domain.specs.Layers.{layer_factors}
use Rattle.circle_cfft.specs.Twiddles.{first_of_second, halving_parts, layers_from}
use Rattle.circle_cfft.proofs.TwiddleParts.{all-nonzero, all_inverses, length-higher, count-higher}
use Rattle.circle_cfft.proofs.TwiddleParts.{linked-higher}
use Rattle.circle_cfft.proofs.twiddles.backward_twiddles.Goals as goal

pub higher_inverses-requires-clause-some : goal.higher_inverses-requires-clause-some
higher_inverses-requires-clause-some g c =
    let n = log_size c.args.domain in
    let some : 3 ≤ n = omega (arith, c.if-log_n-lt3.false, c.log_n.ensures) in
    omega (
      arith,
      pow_pos (n - 3),
      count-higher g.F.Operations.laws g.met.F.ComplexExtendable.generators_law
          g.met.F.ComplexExtendable.at_least_two n (shift_of c.args.domain) some c.deref.result.now
          (c.deref.ensures.value ∙ c.in_ok-factors.ensures),
    )

pub higher_inverses-requires-clause-fours : goal.higher_inverses-requires-clause-fours
higher_inverses-requires-clause-fours g c =
    let n = log_size c.args.domain in
    let some : 3 ≤ n = omega (arith, c.if-log_n-lt3.false, c.log_n.ensures) in
    omega (
      arith,
      count-higher g.F.Operations.laws g.met.F.ComplexExtendable.generators_law
          g.met.F.ComplexExtendable.at_least_two n (shift_of c.args.domain) some c.deref.result.now
          (c.deref.ensures.value ∙ c.in_ok-factors.ensures),
    )

pub higher_inverses-requires-clause-linked : goal.higher_inverses-requires-clause-linked
higher_inverses-requires-clause-linked g c =
    let n = log_size c.args.domain in
    let some : 3 ≤ n = omega (arith, c.if-log_n-lt3.false, c.log_n.ensures) in
    linked-higher g.F.Operations.laws g.met.F.ComplexExtendable.generators_law
    g.met.F.ComplexExtendable.at_least_two n (shift_of c.args.domain) some c.deref.result.now
    (c.deref.ensures.value ∙ c.in_ok-factors.ensures) c.requires.in_group
    c.args.domain.shift.on_circle

pub higher_inverses-requires-clause-nonzero : goal.higher_inverses-requires-clause-nonzero
higher_inverses-requires-clause-nonzero g c =
    let n = log_size c.args.domain in
    let some : 3 ≤ n = omega (arith, c.if-log_n-lt3.false, c.log_n.ensures) in
    All-from_recursion (λ t. t ≢ g.F.Operations.ops.zero) c.deref.result.now
    (all-nonzero g.F.Operations.laws g.met.F.ComplexExtendable.generators_law
    g.met.F.ComplexExtendable.at_least_two n (shift_of c.args.domain) some c.deref.result.now
    (c.deref.ensures.value ∙ c.in_ok-factors.ensures) c.requires.in_group
    c.args.domain.shift.on_circle c.requires.genuine.1)

pub split_layers-requires-clause-count : goal.split_layers-requires-clause-count
split_layers-requires-clause-count g c =
    let k = g.F.Operations.ops in
    let n = log_size c.args.domain in
    let some : 3 ≤ n = omega (arith, c.if-log_n-lt3.false, c.log_n.ensures) in
    let higher = c.deref.result.now in
    ap (λ xs. length xs + 1) (c.deref-2.ensures.value ∙ c.in_ok-inverses.ensures)
    ∙ ap (λ i. i + 1) (length-map higher k.inv)
    ∙ ap (λ xs. length xs + 1) (c.deref.ensures.value ∙ c.in_ok-factors.ensures)
    ∙ length-higher k g.F.ComplexExtendable.generators n (shift_of c.args.domain) some
    ∙ ap (λ i. 2 ^ (i - 1)) (sym c.log_n-2.ensures)

pub returns : goal.returns
returns g c =
    let k = g.F.Operations.ops in
    let n = log_size c.args.domain in
    let y = (g.F.ComplexExtendable.generators 2).y in
    let higher = c.deref.result.now in
    let inverses = c.deref-2.result.now in
    let some : 3 ≤ n = omega (arith, c.if-log_n-lt3.false, c.log_n.ensures) in
    let are : higher ≡ layers_from k (n - 1)
    (layer_factors k g.F.ComplexExtendable.generators n (shift_of c.args.domain) 1) =
    c.deref.ensures.value ∙ c.in_ok-factors.ensures in
    let inverted : inverses ≡ map k.inv higher = c.deref-2.ensures.value
    ∙ c.in_ok-inverses.ensures in
    IfOk-weaker c.split_layers.result _ _
    (λ layers e. e
    ∙ ap (λ i. first_of_second k y (take (2 ^ (i - 2)) inverses)
    ∷ halving_parts (i - 1) inverses) c.log_n-2.ensures
    ∙ all_inverses g.F.Operations.laws g.met.F.ComplexExtendable.generators_law
    g.met.F.ComplexExtendable.at_least_two n (shift_of c.args.domain) some higher inverses are
    inverted
    c.requires.in_group c.args.domain.shift.on_circle c.requires.genuine.1)
    c.split_layers.ensures
