use Rattle.std.proofs.Common.{◌^◌, ◌≤◌, ◌∙◌, List, ap, subst, arith, length}
use Rattle.circle_commit.specs.Matrix.{IsPowerOfTwo}
use Rattle.circle_commit.specs.PeriodicLdeTable.{columns_of}
use Rattle.circle_air.specs.Air.{air_of}
use Rattle.circle_air.specs.Valid.{valid}
use Rattle.circle_quotient.specs.Terms.{ArePeriodicColumns, falling_powers}
use Rattle.circle_quotient.proofs.PartSizes.{all-of-map}
use Rattle.circle_quotient.proofs.Sizes.{is_power_of_two-exponent}
use Rattle.circle_quotient.proofs.quotient.quotient_terms.Goals as goal

pub quotient_selectors-requires-clause-positive :
    goal.quotient_selectors-requires-clause-positive
quotient_selectors-requires-clause-positive g c = c.args.trace.now.positive

pub quotient_selectors-requires-clause-some_chunks :
    goal.quotient_selectors-requires-clause-some_chunks
quotient_selectors-requires-clause-some_chunks g c = c.args.trace.now.some_chunks

pub extended_periodic_columns-requires-clause-positive :
    goal.extended_periodic_columns-requires-clause-positive
extended_periodic_columns-requires-clause-positive g c = c.args.trace.now.positive

pub extended_periodic_columns-requires-clause-powers :
    goal.extended_periodic_columns-requires-clause-powers
extended_periodic_columns-requires-clause-powers g c =
    let air = c.args.air.now in
    let p = air_of air in
    all-of-map (λ column. column.items) (λ (xs : List g.row.F.Denot). IsPowerOfTwo (length xs))
    c.periodic_columns-columns.result.now p.periodic_columns c.periodic_columns-columns.ensures
    (λ i d lt. is_power_of_two-exponent _ ((valid p air.valid).periods i d lt))

pub extended_periodic_columns-requires-clause-periods :
    goal.extended_periodic_columns-requires-clause-periods
extended_periodic_columns-requires-clause-periods g c =
    let p = air_of c.args.air.now in
    all-of-map (λ column. column.items)
    (λ (xs : List g.row.F.Denot). length xs ≤ 2 ^ c.args.trace.now.log_n)
    c.periodic_columns-columns.result.now p.periodic_columns c.periodic_columns-columns.ensures
    c.requires.periods

pub returns : goal.returns
returns g c =
    let k = g.F.Operations.ops in
    let gen = g.F.ComplexExtendable.generators in
    let n = c.args.trace.now.log_n in
    let kk = c.args.trace.now.log_num_chunks in
    let selectors = c.in_ok-selectors.ensures in record {
      first = selectors.first;
      last = selectors.last;
      transition = selectors.transition;
      inverses = selectors.inverses;
      periodic = subst
          (λ cs. ArePeriodicColumns k gen n kk cs (columns_of c.in_ok-periodic.periodic.items))
          c.periodic_columns-columns.ensures c.in_ok-periodic.ensures;
      weights = c.in_ok-weights.ensures
          ∙ ap (λ cs. falling_powers g.EF.Operations.ops c.args.alpha (length cs))
          c.constraints-constraints.ensures;
      constraints = c.constraints-constraints.ensures;
    }
