use Rattle.std.proofs.Common.{◌≤◌, ◌-◌, ◌+◌, ◌^◌, ◌∙◌, refl, sym, ap, subst, arith, ℕ, List}
use Rattle.std.specs.List.{Any}
use Rattle.circle_field.specs.Circle.{Coordinates}
use Rattle.circle_point.specs.Point.{coordinates}
use Rattle.circle_domain.specs.Clear.{IsClearOf}
use Rattle.circle_domain.specs.Domain.{shift_of}
use Rattle.circle_domain.specs.Lagrange.{AreLagrangeWeights}
use Rattle.circle_domain.specs.Order.{IsGenuine, natural_order, cfft_order}
use Rattle.circle_codewords.specs.OfMatrices.{IsFor}
use Rattle.circle_codewords.specs.declared.matrix.PointWeights.{PointWeights}
use Rattle.std.proofs.lemmas.List.Quantifiers.{Any-push}
use Rattle.circle_codewords.proofs.Known.{any-kept, of-some}
use Rattle.circle_codewords.proofs.Prefix.{first-genuine, first-clear}
use Rattle.circle_codewords.proofs.values.add_weights.Goals as goal

pub returns-then-is_some-clause-known : goal.returns-then-is_some-clause-known
returns-then-is_some-clause-known g c =
    let Known : List (PointWeights g.row.F.Denot g.row.EF.Denot _) → Type 0 =
    Any (IsFor c.args.log_blowup c.args.log_height c.args.point.coordinate) in
    subst Known c.deref.ensures.value
    (of-some c.weights_at.result (Known c.deref.result.now)
    (sym c.is_some.ensures ∙ c.if-is_some.true) c.weights_at.ensures.known)

pub lagrange_weights-requires-clause-genuine : goal.lagrange_weights-requires-clause-genuine
lagrange_weights-requires-clause-genuine g c =
    let k = g.F.Operations.ops in
    let h = c.args.log_height in
    let n = h - c.args.log_blowup in
    let less = c.requires.blowup in
    subst (λ m. IsGenuine k m (shift_of c.first_domain-domain.result))
    (sym c.first_domain-domain.ensures.size)
    (subst (IsGenuine k n) (sym c.first_domain-domain.ensures.shift)
    (first-genuine g.F.Operations.laws g.met.F.ComplexExtendable.generators_law n h
    (omega (arith, less)) (omega arith) c.requires.in_group))

pub lagrange_weights-requires-clause-clear : goal.lagrange_weights-requires-clause-clear
lagrange_weights-requires-clause-clear g c =
    let k = g.F.Operations.ops in
    let l = g.EF.Operations.ops in
    let embed = g.EF.ExtensionField.embed in
    let gen = g.F.ComplexExtendable.generators in
    let gens = g.met.F.ComplexExtendable.generators_law in
    let h = c.args.log_height in
    let n = h - c.args.log_blowup in
    let less = c.requires.blowup in
    let within : h + 1 ≤ g.F.ComplexExtendable.CIRCLE_TWO_ADICITY = let top = c.requires.in_group in
    omega (arith, top) in
    let at = c.args.point.point in
    subst (λ m. IsClearOf l embed (natural_order k gen m (shift_of c.first_domain-domain.result))
    (coordinates at)) (sym c.first_domain-domain.ensures.size)
    (subst (λ s. IsClearOf l embed (natural_order k gen n s) (coordinates at))
    (sym c.first_domain-domain.ensures.shift)
    (first-clear g.F.Operations.laws g.EF.Operations.laws g.met.EF.ExtensionField.embedding gens n h
    (gen (h + 1)) (coordinates at) (omega (arith, less)) (omega arith) (omega (arith, within))
    (gens.on_circle (h + 1) within) at.on_circle
    (subst (IsClearOf l embed (natural_order k gen h (gen (h + 1)))) (sym c.args.point.at)
    c.requires.off)))

pub invariant_of-push : goal.invariant_of-push
invariant_of-push g c =
    let k = g.F.Operations.ops in
    let gen = g.F.ComplexExtendable.generators in
    let h = c.args.log_height in
    let weights = c.in_ok-weights.weights in
    let Sum : ℕ → Coordinates g.row.F.Denot → Coordinates g.row.EF.Denot → Type 0 =
    λ m s q. AreLagrangeWeights g.EF.Operations.ops g.EF.ExtensionField.embed k m
    (cfft_order k gen m s) q weights.shares.items weights.scale in
    record {
      count = c.in_ok-weights.ensures.count
          ∙ ap (λ m. 2 ^ m) c.first_domain-domain.ensures.size;
      right =
          subst (Sum (h - c.args.log_blowup) (gen (h + 1))) c.args.point.at
          (subst (λ s. Sum (h - c.args.log_blowup) s (coordinates c.args.point.point))
          c.first_domain-domain.ensures.shift
          (subst (λ m. Sum m (shift_of c.first_domain-domain.result)
          (coordinates c.args.point.point))
          c.first_domain-domain.ensures.size c.in_ok-weights.ensures.sum));
    }

pub returns-clause-known : goal.returns-clause-known
returns-clause-known g c =
    let Is = IsFor c.args.log_blowup c.args.log_height c.args.point.coordinate in
    subst (Any Is) (sym c.in_ok-push.ensures.items)
    (Any-push Is c.args.all.now.items _ (refl, refl, refl))

pub returns-clause-kept : goal.returns-clause-kept
returns-clause-kept g c = λ t known.
    let Is = IsFor c.args.log_blowup c.args.log_height t in
    subst (Any Is) (sym c.in_ok-push.ensures.items) (any-kept Is c.args.all.now.items _ known)
