use Rattle.std.proofs.Common.{◌≡◌, ◌<◌, ◌∙◌, List, sym, ap, subst, arith, length}
use Rattle.std.specs.Prelude.{Option}
use Rattle.std.specs.Borrow.{Bor}
use Rattle.std.specs.Option.{option_copied}
use Rattle.circle_air.specs.Values.{entry}
use Rattle.circle_quotient.specs.Lanes.{HaveLanes, factor_at}
use Rattle.circle_quotient.proofs.LaneLists.{added-sum, added-room}
use Rattle.circle_quotient.proofs.sums.add_selected.Goals as goal

pub returns-in-Some-clause-lanes : goal.returns-in-Some-clause-lanes
returns-in-Some-clause-lanes g c =
    let new = c.write_products.new.products in
    let degree = g.EF.ExtensionField.DEGREE in
    let same : length new ≡ length c.args.elements.now =
    c.write_products.auto.products ∙ c.requires.products in
    subst (λ n. HaveLanes degree n c.add_weighted.new.coefficients) same
    (added-room g.met.EF.ExtensionField.are_coefficients new c.args.coefficients.now
    c.add_weighted.new.coefficients c.args.weight c.add_weighted.auto.coefficients
    (subst (λ n. HaveLanes degree n c.args.coefficients.now) (sym same) c.requires.sums)
    c.add_weighted.ensures)

pub returns-in-Some-clause-sums : goal.returns-in-Some-clause-sums
returns-in-Some-clause-sums g c = λ r a lt here.
    let k = g.F.Operations.ops in
    let l = g.EF.Operations.ops in
    let m = g.EF.ExtensionField.embed in
    let elements = c.args.elements.now in
    let new = c.write_products.new.products in
    let same : length new ≡ length elements =
    c.write_products.auto.products ∙ c.requires.products in
    let below : r < length new = omega (arith, lt, same) in
    added-sum g.met.EF.ExtensionField.are_coefficients new c.args.coefficients.now
    c.add_weighted.new.coefficients a c.args.weight r below
    (subst (λ n. HaveLanes g.EF.ExtensionField.DEGREE n c.args.coefficients.now) (sym same)
    c.requires.sums) c.add_weighted.ensures here
    ∙ ap (λ t. g.EF.ExtensionField.coefficients (l.add a (l.mul (m t) c.args.weight)))
    (c.write_products.ensures r below
    ∙ ap (λ (o : Option (Bor (List g.row.F.Denot))). k.mul (factor_at k (option_copied o) r)
    (entry k elements r)) (sym c.in-Some.is))

pub returns-in-None-clause-lanes : goal.returns-in-None-clause-lanes
returns-in-None-clause-lanes g c =
    added-room g.met.EF.ExtensionField.are_coefficients c.args.elements.now
    c.args.coefficients.now c.add_weighted-in-None.new.coefficients c.args.weight
    c.add_weighted-in-None.auto.coefficients c.requires.sums c.add_weighted-in-None.ensures

pub returns-in-None-clause-sums : goal.returns-in-None-clause-sums
returns-in-None-clause-sums g c = λ r a lt here.
    let k = g.F.Operations.ops in
    let l = g.EF.Operations.ops in
    let m = g.EF.ExtensionField.embed in
    let elements = c.args.elements.now in
    added-sum g.met.EF.ExtensionField.are_coefficients elements c.args.coefficients.now
    c.add_weighted-in-None.new.coefficients a c.args.weight r lt c.requires.sums
    c.add_weighted-in-None.ensures
    here
    ∙ ap (λ t. g.EF.ExtensionField.coefficients (l.add a (l.mul (m t) c.args.weight)))
    (sym (g.F.Operations.laws.ring.one_mul (entry k elements r))
    ∙ ap (λ (o : Option (Bor (List g.row.F.Denot))). k.mul (factor_at k (option_copied o) r)
    (entry k elements r)) (sym c.in-None.is))
