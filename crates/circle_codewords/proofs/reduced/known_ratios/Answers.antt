use Rattle.std.proofs.Common.{◌≡◌, ◌∙◌, ap, subst}
use Rattle.std.specs.List.{Any}
use Rattle.std.specs.Prelude.{IfSome}
use Rattle.circle_field.proofs.Inverses.{some_unless}
use Rattle.circle_codewords.specs.declared.ratios.PointRatios.{PointRatios}
use Rattle.circle_codewords.proofs.Known.{right-of}
use Rattle.circle_codewords.proofs.reduced.known_ratios.Goals as goal

pub unwrap-requires : goal.unwrap-requires
unwrap-requires g c =
    some_unless c.ratios_at.result (λ none.
    let known = c.requires in
    c.ratios_at.ensures.none none known.0 known.1 known.2
    (ap (λ (r : PointRatios g.row.EF.Denot). r.point) known.3 ∙ known.4))

pub returns : goal.returns
returns g c = λ points right.
    let t = c.args.point in
    right-of g.EF.Operations.ops g.EF.ExtensionField.embed points c.args.all.now t
    c.unwrap.result.now right
    (subst
    (λ o. IfSome o (λ f. Any (λ r. (r.point ≡ t) × (r.ratios.items ≡ f.now)) c.args.all.now))
    c.unwrap.ensures c.ratios_at.ensures.some)
