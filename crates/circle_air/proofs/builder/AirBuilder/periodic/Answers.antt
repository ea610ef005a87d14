use Rattle.std.proofs.Common.{◌≡◌, [], ◌∷◌, ◌++◌, length, arith, ◌∙◌, ap}
use Rattle.circle_air.proofs.Built.{entries_of, given_up}
use Rattle.circle_air.specs.Parts.{Parts}
use Rattle.circle_air.proofs.builder.AirBuilder.periodic.Goals as goal

pub returns-in-Err-append-clause-appended : goal.returns-in-Err-append-clause-appended
returns-in-Err-append-clause-appended g c power =
    let before = c.args.self.now.parts.periodic_columns in
    let after = c.append.new.self.parts.periodic_columns.items in
    let same = c.in-Err-append.ensures in
    let seen : entries_of after ≡ entries_of (before.items ++ c.args.column ∷ []) =
    ap (λ (p : Parts g.row.F.Denot). p.periodic_columns) same.0
    ∙ ap entries_of c.in-Ok.ensures.items in
    let count : length before.items ≡ c.len-index.result =
    omega (arith, c.len-index.ensures, before.ok.0) in
    let kept : entries_of c.truncate.new.self.items ≡ entries_of before.items =
    given_up before.items after c.truncate.new.self.items c.args.column c.len-index.result count
    seen c.truncate.ensures.items in (
      ap (λ (p : Parts g.row.F.Denot). record p {
        periodic_columns = entries_of c.truncate.new.self.items;
      }) same.0
          ∙ ap (λ xs. record {
            width = c.args.self.now.parts.width;
            num_public_values = c.args.self.now.parts.num_public_values;
            periodic_columns = xs;
            nodes = c.args.self.now.parts.nodes.items;
            constraints = c.args.self.now.parts.constraints.items;
          }) kept,
      same.1,
    )
