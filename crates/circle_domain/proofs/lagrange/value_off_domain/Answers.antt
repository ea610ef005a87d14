use Rattle.std.proofs.Common.{◌∙◌, sym, ap, arith, map, ◌^◌, length}
use Rattle.circle_point.specs.Basis.{value}
use Rattle.circle_domain.specs.Domain.{log_size, shift_of}
use Rattle.circle_commit.specs.DotProduct.{dot}
use Rattle.circle_domain.specs.Ordering.{reordered}
use Rattle.circle_domain.specs.Values.{Interpolates}
use Rattle.circle_domain.proofs.NaturalValues.{natural-told, reordered-points}
use Rattle.circle_domain.proofs.lagrange.value_off_domain.Goals as goal

pub lagrange_weights-requires-clause-genuine : goal.lagrange_weights-requires-clause-genuine
lagrange_weights-requires-clause-genuine g c = c.requires.genuine

pub lagrange_weights-requires-clause-in_group : goal.lagrange_weights-requires-clause-in_group
lagrange_weights-requires-clause-in_group g c = c.requires.in_group

pub lagrange_weights-requires-clause-clear : goal.lagrange_weights-requires-clause-clear
lagrange_weights-requires-clause-clear g c = c.requires.clear

pub reordered_dot_product-requires-clause-shares : goal.reordered_dot_product-requires-clause-shares
reordered_dot_product-requires-clause-shares g c =
    ap length c.deref.ensures.value ∙ c.in_ok-weights.ensures.count
    ∙ ap (λ n. 2 ^ n) (sym c.log_n.ensures)

pub reordered_dot_product-requires-clause-size : goal.reordered_dot_product-requires-clause-size
reordered_dot_product-requires-clause-size g c =
    c.requires.size ∙ ap (λ n. 2 ^ n) (sym c.log_n.ensures)

pub reordered_dot_product-requires-clause-small : goal.reordered_dot_product-requires-clause-small
reordered_dot_product-requires-clause-small g c =
    omega (arith, c.log_n.ensures, c.requires.in_group, g.met.F.ComplexExtendable.at_most_62)

pub returns-clause-only : goal.returns-clause-only
returns-clause-only g c =
    let k = g.F.Operations.ops in
    let l = g.EF.Operations.ops in
    let m = g.EF.ExtensionField.embed in
    let z = k.zero in
    let n = log_size c.args.domain in
    let s = shift_of c.args.domain in
    let weights = c.in_ok-weights.weights in
    λ coeffs has.
    g.met.EF.Field.mul_law _ _ _ c.mul.ensures
    ∙ ap (λ v. l.mul v weights.scale)
    (c.reordered_dot_product.ensures
    ∙ ap (λ ws. dot l ws (map m (reordered z c.log_n.result c.args.evals.now)))
    c.deref.ensures.value
    ∙ ap (λ j. dot l weights.shares.items (map m (reordered z j c.args.evals.now))) c.log_n.ensures
    ∙ ap (λ vs. dot l weights.shares.items (map m (reordered z n vs))) (sym has.values)
    ∙ ap (λ vs. dot l weights.shares.items (map m vs))
    (reordered-points g.F.Operations.laws.ring g.met.F.ComplexExtendable.generators_law z
    (value k coeffs) n s c.requires.genuine.0 (let fits = c.requires.in_group in
    omega (arith, fits))))
    ∙ c.in_ok-weights.ensures.sum coeffs has.count

pub returns-clause-value : goal.returns-clause-value
returns-clause-value g c =
    let n = log_size c.args.domain in
    let s = shift_of c.args.domain in
    let told = natural-told g.F.Operations.laws g.met.F.ComplexExtendable.generators_law n s
    (let fits = c.requires.in_group in omega (arith, fits)) c.args.domain.shift.on_circle
    c.requires.genuine
    c.args.evals.now c.requires.size in
    let has : Interpolates g.F.Operations.ops g.F.ComplexExtendable.generators n s told.0
    c.args.evals.now = record { count = told.1; values = told.2 } in
    (told.0, has, returns-clause-only g c told.0 has)
