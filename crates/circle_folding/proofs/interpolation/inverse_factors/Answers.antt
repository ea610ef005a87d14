use Rattle.std.proofs.Common.{◌≡◌, ◌≢◌, ◌+◌, ◌-◌, ◌++◌, map, length, All, ◌∙◌, sym, ap, subst}
use Rattle.std.proofs.Common.{arith}
use Rattle.std.proofs.lemmas.List.{length-map}
use Rattle.std.proofs.lemmas.Result.{IfOk-weaker}
use Rattle.circle_point.specs.Point.{coordinates}
use Rattle.circle_domain.specs.Domain.{log_size, shift_of}
use Rattle.circle_domain.specs.Order.{coset}
use Rattle.circle_domain.proofs.Twiddles.{length-coset}
use Rattle.circle_folding.specs.Interpolation.{block_factors}
use Rattle.circle_folding.proofs.Factors.{block_factors-coset, point_factors}
use Rattle.circle_folding.proofs.Standard.{standard-nonzero, coset-abscissas}
use Rattle.circle_folding.proofs.interpolation.inverse_factors.Goals as goal

pub push_factors-requires : goal.push_factors-requires
push_factors-requires g c =
    let k = g.F.Operations.ops in
    let gen = g.F.ComplexExtendable.generators in
    let m = c.args.log_points in
    let size : log_size c.standard.result - 1 ≡ m = omega (arith, c.standard.ensures.size) in
    let order : m + 1 + 1 ≡ m + 2 = omega arith in
    let xs_are = coset-abscissas k gen coordinates c.in_ok-points.points.items c.in_ok-xs.xs.items
    (log_size c.standard.result - 1) m (shift_of c.standard.result) (gen (m + 2))
    (c.in_ok-xs.ensures ∙ ap (map (λ p. (coordinates p).x)) c.deref.ensures.value)
    c.in_ok-points.ensures size (c.standard.ensures.shift ∙ ap gen order) in (
      m,
      ap length (c.deref-2.ensures.value ∙ xs_are)
          ∙ length-map (coset k gen m (gen (m + 2))) (λ p. p.x)
          ∙ length-coset k gen m (gen (m + 2)),
    )

pub batch_multiplicative_inverse-requires : goal.batch_multiplicative_inverse-requires
batch_multiplicative_inverse-requires g c =
    let k = g.F.Operations.ops in
    let gen = g.F.ComplexExtendable.generators in
    let m = c.args.log_points in
    let size : log_size c.standard.result - 1 ≡ m = omega (arith, c.standard.ensures.size) in
    let order : m + 1 + 1 ≡ m + 2 = omega arith in
    let xs_are = coset-abscissas k gen coordinates c.in_ok-points.points.items c.in_ok-xs.xs.items
    (log_size c.standard.result - 1) m (shift_of c.standard.result) (gen (m + 2))
    (c.in_ok-xs.ensures ∙ ap (map (λ p. (coordinates p).x)) c.deref.ensures.value)
    c.in_ok-points.ensures size (c.standard.ensures.shift ∙ ap gen order) in
    let long = ap length (c.deref-2.ensures.value ∙ xs_are)
    ∙ length-map (coset k gen m (gen (m + 2))) (λ p. p.x)
    ∙ length-coset k gen m (gen (m + 2)) in
    let factors_are : c.deref-3.result.now ≡ point_factors k gen m (gen (m + 2)) =
    c.deref-3.ensures.value ∙ c.in_ok-push_factors.ensures m long
    ∙ ap (λ fs. fs ++ block_factors k m c.deref-2.result.now) c.in_ok-factors.ensures.items
    ∙ ap (block_factors k m) (c.deref-2.ensures.value ∙ xs_are)
    ∙ block_factors-coset k gen m (gen (m + 2)) in
    subst (All (λ t. t ≢ k.zero)) (sym factors_are)
    (standard-nonzero g.F.Operations.laws g.met.F.ComplexExtendable.generators_law m c.requires)

pub returns : goal.returns
returns g c =
    let k = g.F.Operations.ops in
    let gen = g.F.ComplexExtendable.generators in
    let m = c.args.log_points in
    let size : log_size c.standard.result - 1 ≡ m = omega (arith, c.standard.ensures.size) in
    let order : m + 1 + 1 ≡ m + 2 = omega arith in
    let xs_are = coset-abscissas k gen coordinates c.in_ok-points.points.items c.in_ok-xs.xs.items
    (log_size c.standard.result - 1) m (shift_of c.standard.result) (gen (m + 2))
    (c.in_ok-xs.ensures ∙ ap (map (λ p. (coordinates p).x)) c.deref.ensures.value)
    c.in_ok-points.ensures size (c.standard.ensures.shift ∙ ap gen order) in
    let long = ap length (c.deref-2.ensures.value ∙ xs_are)
    ∙ length-map (coset k gen m (gen (m + 2))) (λ p. p.x)
    ∙ length-coset k gen m (gen (m + 2)) in
    let factors_are : c.deref-3.result.now ≡ block_factors k m
    (map (λ p. p.x) (coset k gen m (gen (m + 2)))) =
    c.deref-3.ensures.value ∙ c.in_ok-push_factors.ensures m long
    ∙ ap (λ fs. fs ++ block_factors k m c.deref-2.result.now) c.in_ok-factors.ensures.items
    ∙ ap (block_factors k m) (c.deref-2.ensures.value ∙ xs_are) in
    IfOk-weaker c.batch_multiplicative_inverse.result _ _
    (λ inverses e. e ∙ ap (map k.inv) factors_are) c.batch_multiplicative_inverse.ensures
