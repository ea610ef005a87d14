use Rattle.std.proofs.Common.{◌≡◌, ◌≢◌, ◌∙◌, sym, ap, subst, get_or, length, IfSome, arith, ◌<◌}
use Rattle.std.proofs.Common.{◌^◌}
use Rattle.circle_field.proofs.Inverses.{some_unless}
use Rattle.circle_domain.specs.Domain.{log_size, shift_of}
use Rattle.circle_point.specs.Point.{coordinates}
use Rattle.circle_folding.specs.Fold.{fold_x_twiddles}
use Rattle.circle_folding.proofs.Folds.{by-entries}
use Rattle.circle_folding.proofs.Twiddles.{x_twiddle-of, fold_x_twiddles-nonzero}
use Rattle.circle_folding.proofs.Twiddles.{length-fold_x_twiddles}
use Rattle.circle_folding.proofs.folding.fold_x_row.Goals as goal

pub standard-domain-requires : goal.standard-domain-requires
standard-domain-requires g c = omega (arith, c.requires.in_group, c.requires.arity)

pub cfft_permute_index-requires-clause-small : goal.cfft_permute_index-requires-clause-small
cfft_permute_index-requires-clause-small g c =
    omega (arith, c.requires.in_group, c.requires.arity, g.met.F.ComplexExtendable.at_most_62)

pub nth_point-requires-clause-positive : goal.nth_point-requires-clause-positive
nth_point-requires-clause-positive g c = omega (arith, c.standard-domain.ensures.size)

pub nth_point-requires-clause-in_group : goal.nth_point-requires-clause-in_group
nth_point-requires-clause-in_group g c =
    omega (arith, c.standard-domain.ensures.size, c.requires.in_group, c.requires.arity)

pub nth_point-requires-clause-in_range : goal.nth_point-requires-clause-in_range
nth_point-requires-clause-in_range g c =
    subst (λ n. c.cfft_permute_index.result < 2 ^ n) (sym c.standard-domain.ensures.size)
    c.cfft_permute_index.ensures.below

pub unwrap-requires : goal.unwrap-requires
unwrap-requires g c =
    let k = g.F.Operations.ops in
    let gen = g.F.ComplexExtendable.generators in
    let laws = g.F.Operations.laws in
    let gens = g.met.F.ComplexExtendable.generators_law in
    let r = c.args.log_folded_height in
    let t : c.x-twiddle.result ≡ get_or (fold_x_twiddles k gen r) c.args.index k.zero =
    c.x-twiddle.ensures
    ∙ x_twiddle-of laws gens r c.args.log_arity (log_size c.standard-domain.result) c.args.index
    c.cfft_permute_index.result (shift_of c.standard-domain.result)
    (coordinates c.nth_point.result)
    c.requires.index c.requires.in_group g.met.F.ComplexExtendable.at_most_62 c.requires.arity
    c.standard-domain.ensures.size c.standard-domain.ensures.shift
    c.cfft_permute_index.ensures.value c.nth_point.ensures in
    some_unless c.try_inverse.result
    (λ none. fold_x_twiddles-nonzero laws gens r c.requires.in_group c.args.index k.zero
    (omega (arith, c.requires.index, length-fold_x_twiddles k gen r))
    (sym t ∙ c.try_inverse.ensures.none.0 none))

pub returns : goal.returns
returns g c =
    let k = g.F.Operations.ops in
    let l = g.EF.Operations.ops in
    let m = g.EF.ExtensionField.embed in
    let gen = g.F.ComplexExtendable.generators in
    let laws = g.F.Operations.laws in
    let gens = g.met.F.ComplexExtendable.generators_law in
    let r = c.args.log_folded_height in
    let u = get_or (fold_x_twiddles k gen r) c.args.index k.zero in
    let t : c.x-twiddle.result ≡ u =
    c.x-twiddle.ensures
    ∙ x_twiddle-of laws gens r c.args.log_arity (log_size c.standard-domain.result) c.args.index
    c.cfft_permute_index.result (shift_of c.standard-domain.result)
    (coordinates c.nth_point.result)
    c.requires.index c.requires.in_group g.met.F.ComplexExtendable.at_most_62 c.requires.arity
    c.standard-domain.ensures.size c.standard-domain.ensures.shift
    c.cfft_permute_index.ensures.value c.nth_point.ensures in
    let nonzero : u ≢ k.zero = fold_x_twiddles-nonzero laws gens r c.requires.in_group c.args.index
    k.zero (omega (arith, c.requires.index, length-fold_x_twiddles k gen r)) in
    let two : length c.args.evals ≡ 2 = c.well_formed.1.1.1.1.0.1.0.1 in
    c.fold_row_with_inv_twiddle.ensures u nonzero
    (subst (λ o. IfSome o (λ i. i ≡ k.inv c.x-twiddle.result)) c.unwrap.ensures
    c.try_inverse.ensures.inverse ∙ ap k.inv t)
    ∙ sym (by-entries l c.args.beta (m u) c.args.evals c.index-evals-0.result c.index-evals-1.result
    two)
