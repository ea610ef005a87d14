use Rattle.std.proofs.Common.{◌∙◌, sym, ap}
use Rattle.circle_field.specs.Circle.{Coordinates, plus, lifted}
use Rattle.circle_field.proofs.Inverses.{some_unless}
use Rattle.circle_point.specs.Point.{coordinates}
use Rattle.circle_point.proofs.Selectors.{not_infinite}
use Rattle.circle_point.proofs.point.Point.v_tilde_p.Goals as goal

pub unwrap-requires : goal.unwrap-requires
unwrap-requires g c =
    let k = g.EF.Operations.ops in
    let d = coordinates c.sub.result in
    let other = lifted g.EF.ExtensionField.embed (coordinates c.args.self) in
    some_unless c.to_projective_line.result (λ none.
    not_infinite g.EF.Operations.laws d c.sub.result.on_circle
    (λ e. c.requires
    (sym c.sub.ensures.undoes ∙ ap (λ (q : Coordinates g.row.EF.Denot). plus k q other) e))
    (c.to_projective_line.ensures.none.0 none))
