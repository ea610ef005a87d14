use Rattle.std.proofs.Common.{◌≡◌, ◌∙◌, sym, ap}
use Rattle.std.proofs.lemmas.Bool.{false≢true}
use Rattle.circle_field.specs.Circle.{Coordinates, plus, lifted}
use Rattle.circle_field.proofs.Inverses.{some_unless}
use Rattle.circle_point.specs.Basis.{vanishing}
use Rattle.circle_point.specs.Point.{coordinates}
use Rattle.circle_point.specs.Projective.{from_line}
use Rattle.circle_domain.specs.Selectors.{next_from}
use Rattle.circle_domain.proofs.Walking.{half_turn-by_x}
use Rattle.circle_quotient.proofs.fit.is_fit.Goals as goal

pub returns-clause-some : goal.returns-clause-some
returns-clause-some g c =
    let l = g.EF.Operations.ops in
    let embed = g.EF.ExtensionField.embed in
    let gen = g.F.ComplexExtendable.generators in
    let p = coordinates c.add.result in
    let same : p ≡ next_from l embed gen c.args.log_n c.args.zeta =
    c.add.ensures.sum
    ∙ ap
    (λ (q : Coordinates g.row.EF.Denot). plus l q
    (lifted embed (coordinates c.generator.result)))
    c.in_ok-point.ensures.point
    ∙ ap (λ (q : Coordinates g.row.F.Denot). plus l (from_line l c.args.zeta) (lifted embed q))
    c.generator.ensures in
    let there =
    c.v_n.ensures.polynomial ∙ ap (vanishing l c.args.log_n) c.in_ok-point.ensures.point in (
      λ some. record {
        finite = λ z. false≢true (sym (c.in_ok-point.ensures.none.1 z));
        off_domain = λ z. false≢true (sym c.if-is_zero.false ∙ c.is_zero.ensures.1 (there ∙ z));
        has_next = λ turn. false≢true
            (sym (c.to_projective_line.ensures.none.1
            (ap (λ (q : Coordinates g.row.EF.Denot). q.x) (same ∙ turn))) ∙ some);
      },
      λ fit. some_unless c.to_projective_line.result
          (λ none. fit.has_next
          (sym same ∙ half_turn-by_x g.EF.Operations.laws g.EF.PartialEq.eq g.met.EF.Field.eq_law
          p c.add.result.on_circle (c.to_projective_line.ensures.none.0 none))),
    )
