use Rattle.std.proofs.Common.{◌≡◌, ◌+◌, ◌^◌, ◌∙◌, arith, map}
use Rattle.std.specs.List.{range_with_len}
use Rattle.circle_air.specs.Air.{air_of}
use Rattle.circle_air.specs.Valid.{valid}
use Rattle.circle_quotient.specs.Blocks.{quotient_of_place}
use Rattle.circle_quotient.specs.Quotient.{AreQuotientsOf, AreQuotientsOfColumns}
use Rattle.circle_quotient.proofs.PartSizes.{if_ok}
use Rattle.circle_quotient.proofs.QuotientPlaces.{quotients-made, terms-fit}
use Rattle.circle_quotient.proofs.QuotientRows.{quotients-of_columns}
use Rattle.circle_quotient.proofs.Sizes.{is_power_of_two-exponent}
use Rattle.circle_quotient.proofs.quotient.quotient_values.Goals as goal

pub quotients_by_blocks-requires-clause-small : goal.quotients_by_blocks-requires-clause-small
quotients_by_blocks-requires-clause-small g c =
    omega (arith, c.requires.in_group, g.met.F.ComplexExtendable.at_most_62)

pub quotients_by_blocks-requires-clause-terms : goal.quotients_by_blocks-requires-clause-terms
quotients_by_blocks-requires-clause-terms g c =
    let trace = c.args.trace.now in
    terms-fit trace.log_n trace.log_num_chunks trace.positive (air_of c.args.air.now) c.args.alpha
    c.in_ok-terms.terms c.in_ok-terms.ensures

pub returns-clause-rows : goal.returns-clause-rows
returns-clause-rows g c =
    let k = g.F.Operations.ops in
    let l = g.EF.Operations.ops in
    let m = g.EF.ExtensionField.embed in
    let gen = g.F.ComplexExtendable.generators in
    let air = c.args.air.now in
    let p = air_of air in
    let trace = c.args.trace.now in
    let n = trace.log_n in
    let kk = trace.log_num_chunks in
    let rows = g.M.Matrix.rows trace.rows.now in
    let public = trace.public_values.now in
    let t = c.in_ok-terms.terms in
    if_ok
    (λ made. made.items ≡ map (quotient_of_place k l m p rows kk public t)
    (range_with_len 0 (2 ^ (n + kk))))
    (λ made. AreQuotientsOf k gen l m n kk p rows public c.args.alpha made.items)
    (λ made is. quotients-made g.F.Operations.laws g.EF.Operations.laws
    g.met.EF.ExtensionField.embedding g.met.F.ComplexExtendable.generators_law g.F.PartialEq.eq
    g.met.F.Field.eq_law n kk trace.positive trace.some_chunks c.requires.in_group p rows public
    c.args.alpha t (g.met.M.Matrix.height_law trace.rows.now ∙ trace.height)
    (λ i d lt. is_power_of_two-exponent _ ((valid p air.valid).periods i d lt))
    c.in_ok-terms.ensures made.items is)
    c.quotients_by_blocks.result c.quotients_by_blocks.ensures

pub returns-clause-columns : goal.returns-clause-columns
returns-clause-columns g c =
    let k = g.F.Operations.ops in
    let l = g.EF.Operations.ops in
    let m = g.EF.ExtensionField.embed in
    let gen = g.F.ComplexExtendable.generators in
    let p = air_of c.args.air.now in
    let trace = c.args.trace.now in
    let n = trace.log_n in
    let kk = trace.log_num_chunks in
    let rows = g.M.Matrix.rows trace.rows.now in
    let public = trace.public_values.now in
    if_ok
    (λ made. AreQuotientsOf k gen l m n kk p rows public c.args.alpha made.items)
    (λ made. AreQuotientsOfColumns k gen l m n kk p rows public c.args.alpha made.items)
    (λ made are. quotients-of_columns g.F.Operations.laws g.met.EF.ExtensionField.embedding
    g.met.F.ComplexExtendable.generators_law n kk trace.positive c.requires.in_group p rows public
    c.args.alpha made.items are)
    c.quotients_by_blocks.result (returns-clause-rows g c)
