use Rattle.std.proofs.Common.{◌≡◌, ◌<◌, ◌∙◌, sym, ap, subst, arith, length, get_or}
use Rattle.std.proofs.lemmas.List.{with_items_is}
use Rattle.circle_air.specs.Air.{air_of}
use Rattle.circle_air.specs.Ranges.{IsInRange}
use Rattle.circle_air.specs.Valid.{valid}
use Rattle.circle_air.specs.Values.{values}
use Rattle.circle_quotient.specs.Composition.{together}
use Rattle.circle_quotient.specs.Records.{selectors_of, window_of}
use Rattle.circle_quotient.proofs.Together.{lane-one}
use Rattle.circle_quotient.proofs.composition.composition.Goals as goal

pub write_values-requires-clause-range : goal.write_values-requires-clause-range
write_values-requires-clause-range g c = λ i below node is.
    let w = c.args.window.now in
    let air = c.args.air.now in
    let p = air_of air in
    let public = length w.public_values.now in
    let there : i < length p.nodes = subst (λ xs. i < length xs) c.nodes-2.ensures below in
    let here : get_or p.nodes i node ≡ node =
    sym (is ∙ ap (λ xs. get_or xs i node) c.nodes-2.ensures) in
    subst (λ n. IsInRange n (length w.periodic.now) public i node) (sym c.requires.width)
    (subst (λ n. IsInRange p.width n public i node) (sym c.requires.periodic)
    (subst (λ n. IsInRange p.width (length p.periodic_columns) n i node) (sym c.requires.public)
    (subst (λ n. IsInRange p.width (length p.periodic_columns) p.num_public_values i n) here
    ((valid p air.valid).nodes i node there))))

pub put_together-requires : goal.put_together-requires
put_together-requires g c = λ i d below.
    let air = c.args.air.now in
    let p = air_of air in
    let there : i < length p.constraints =
    subst (λ xs. i < length xs) c.constraints.ensures below in
    let earlier : (get_or c.constraints.result.now i d).node < length p.nodes =
    subst (λ xs. (get_or xs i d).node < length p.nodes) (sym c.constraints.ensures)
    ((valid p air.valid).constraint_nodes i d there) in
    omega (
      arith,
      earlier,
      c.deref.ensures.len,
      c.in_ok-nodes.ensures.len,
      ap length c.nodes.ensures,
    )

pub returns : goal.returns
returns g c =
    let l = g.EF.Operations.ops in
    let p = air_of c.args.air.now in
    let s = selectors_of c.args.selectors.now in
    let written = c.write_values.new.values in
    c.put_together.ensures
    ∙ ap (λ cs. together l cs c.deref.result.now s c.args.alpha) c.constraints.ensures
    ∙ ap (λ ns. together l p.constraints ns s c.args.alpha)
    (c.deref.ensures.value
    ∙ with_items_is c.in_ok-nodes.nodes written
    (c.write_values.auto.values ∙ c.as_mut_slice.ensures.len)
    ∙ sym (lane-one l written)
    ∙ c.write_values.ensures.values 0 (omega arith)
    ∙ ap (λ nodes. values l g.EF.ExtensionField.embed nodes (window_of c.args.window.now))
    c.nodes-2.ensures)
