use Rattle.std.proofs.Common.{◌≡◌, ◌+◌, ◌%◌, ◌<◌, ◌∙◌, sym, ap, subst, arith, List, length, get_or}
use Rattle.std.proofs.Math.Nat.{mod-lt}
use Rattle.std.proofs.lemmas.List.{get_or-map, get_or_default, length-map}
use Rattle.circle_air.specs.Air.{air_of}
use Rattle.circle_air.specs.Valid.{valid}
use Rattle.circle_air.specs.Values.{entry}
use Rattle.circle_air.proofs.trace.TraceWindowsWindows.write_periodic.Goals as goal

pub write_cycle-requires : goal.write_cycle-requires
write_cycle-requires g c =
    let p = air_of c.args.self.now.air.now in
    let column = c.args.column in
    let cols = c.periodic_columns.result.now in
    let v = c.index-periodic_columns-column.result in
    let below : column < length cols =
    omega (
      arith,
      c.requires,
      ap length c.periodic_columns.ensures,
      length-map cols (λ x. x.items),
    ) in
    let here : get_or p.periodic_columns column v.items ≡ v.items =
    ap (λ xs. get_or xs column v.items) (sym c.periodic_columns.ensures)
    ∙ get_or-map (λ x. x.items) cols column v v.items below
    ∙ ap (λ x. x.items) (sym c.index-periodic_columns-column.is) in
    let positive : 0 < length v.items =
    subst (λ xs. 0 < length xs) here
    ((valid p c.args.self.now.air.now.valid).periods_positive column v.items c.requires) in
    let long : 0 < length c.deref.result.now =
    subst (λ xs. 0 < length xs) (sym c.deref.ensures.value) positive in
    long

pub returns-clause-entries : goal.returns-clause-entries
returns-clause-entries g c r d lane =
    let k = g.F.Operations.ops in
    let w = c.args.self.now in
    let p = air_of w.air.now in
    let column = c.args.column in
    let cols = c.periodic_columns.result.now in
    let v = c.index-periodic_columns-column.result in
    let xs = c.deref.result.now in
    let below : column < length cols =
    omega (
      arith,
      c.requires,
      ap length c.periodic_columns.ensures,
      length-map cols (λ x. x.items),
    ) in
    let here : get_or p.periodic_columns column v.items ≡ v.items =
    ap (λ xs. get_or xs column v.items) (sym c.periodic_columns.ensures)
    ∙ get_or-map (λ x. x.items) cols column v v.items below
    ∙ ap (λ x. x.items) (sym c.index-periodic_columns-column.is) in
    let positive : 0 < length v.items =
    subst (λ xs. 0 < length xs) here
    ((valid p w.air.now.valid).periods_positive column v.items c.requires) in
    let is : xs ≡ v.items = c.deref.ensures.value in
    let at : List g.row.F.Denot → g.row.F.Denot = λ ys. entry k ys ((w.start + r) % length ys) in
    let long : 0 < length xs = subst (λ ys. 0 < length ys) (sym is) positive in
    c.write_cycle.ensures r d lane
    ∙ get_or_default xs ((w.start + r) % length xs) d k.zero (mod-lt (w.start + r) long)
    ∙ ap at is ∙ sym (get_or-map at p.periodic_columns column v.items d c.requires ∙ ap at here)
