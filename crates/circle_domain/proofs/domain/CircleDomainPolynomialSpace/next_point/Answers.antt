use Rattle.std.proofs.Common.{◌≡◌, Some, ◌∙◌, sym, ap, subst, refl, inl, inr, ⊎_elim, IsNone}
use Rattle.std.proofs.lemmas.Bool.{false≢true}
use Rattle.circle_field.specs.Circle.{Coordinates, plus, lifted}
use Rattle.circle_point.specs.Point.{coordinates}
use Rattle.circle_point.specs.Projective.{from_line, to_line}
use Rattle.circle_domain.specs.Domain.{log_size, shift_of}
use Rattle.circle_domain.specs.Selectors.{next_from}
use Rattle.circle_domain.proofs.NextPoints.{some_of, walk-finite, walk-next, walk-next-finite}
use Rattle.circle_domain.proofs.Walking.{half_turn-by_x}
use Rattle.circle_domain.proofs.domain.CircleDomainPolynomialSpace.next_point.Goals as goal

pub returns-in_err-point-clause-walk : goal.returns-in_err-point-clause-walk
returns-in_err-point-clause-walk g c = λ standard i p q here next e.
    absurd (walk-finite g.F.Operations.laws g.Ext.Operations.laws g.met.Ext.ExtensionField.embedding
    g.met.F.ComplexExtendable.generators_law
    (log_size c.args.self.now) c.requires.positive (shift_of c.args.self.now) standard i p here
    c.args.point e (c.in_err-point.ensures.none.0 refl))

pub returns-clause-none : goal.returns-clause-none
returns-clause-none g c =
    let l = g.Ext.Operations.ops in
    let embed = g.Ext.ExtensionField.embed in
    let gen = g.F.ComplexExtendable.generators in
    let n = log_size c.args.self.now in
    let p = coordinates c.add.result in
    let same : p ≡ next_from l embed gen n c.args.point =
    c.add.ensures.sum
    ∙ ap
    (λ (q : Coordinates g.row.Ext.Denot). plus l q
    (lifted embed (coordinates c.generator.result))) c.in_ok-point.ensures.point
    ∙ ap (λ (q : Coordinates g.row.F.Denot). plus l (from_line l c.args.point) (lifted embed q))
    c.generator.ensures in (
      λ none. inr
          (inr
          (sym same ∙ half_turn-by_x g.Ext.Operations.laws g.Ext.PartialEq.eq g.met.Ext.Field.eq_law
          p c.add.result.on_circle (c.to_projective_line.ensures.none.0 none))),
      ⊎_elim (λ off. absurd (off (c.is_standard.ensures.0 c.if-not-is_standard.false)))
          (⊎_elim
          (λ infinite. absurd
          (infinite (λ z. false≢true (sym (c.in_ok-point.ensures.none.1 z)))))
          (λ turn. c.to_projective_line.ensures.none.1
          (ap (λ (q : Coordinates g.row.Ext.Denot). q.x) (same ∙ turn)))),
    )

pub returns-clause-walk : goal.returns-clause-walk
returns-clause-walk g c = λ standard i p q here next e.
    let l = g.Ext.Operations.ops in
    let embed = g.Ext.ExtensionField.embed in
    let gen = g.F.ComplexExtendable.generators in
    let n = log_size c.args.self.now in
    let s = shift_of c.args.self.now in
    let same : coordinates c.add.result ≡ lifted embed q =
    c.add.ensures.sum
    ∙ ap
    (λ (q : Coordinates g.row.Ext.Denot). plus l q
    (lifted embed (coordinates c.generator.result))) c.in_ok-point.ensures.point
    ∙ ap (λ (q : Coordinates g.row.F.Denot). plus l (from_line l c.args.point) (lifted embed q))
    c.generator.ensures
    ∙ walk-next g.F.Operations.laws g.Ext.Operations.laws g.met.Ext.ExtensionField.embedding
    g.met.F.ComplexExtendable.generators_law
    n c.requires.positive s standard i p here c.args.point e q next in
    let finite =
    walk-next-finite g.F.Operations.laws g.Ext.Operations.laws
    g.met.Ext.ExtensionField.embedding g.met.F.ComplexExtendable.generators_law
    n c.requires.positive s standard i p here c.args.point e q next in
    some_of c.to_projective_line.result (to_line l (coordinates c.add.result))
    (λ none. finite (sym (ap (λ (r : Coordinates g.row.Ext.Denot). r.x) same)
    ∙ c.to_projective_line.ensures.none.0 none))
    c.to_projective_line.ensures.value
    ∙ ap (λ (r : Coordinates g.row.Ext.Denot). Some (to_line l r)) same

pub returns-in_err-point-clause-none : goal.returns-in_err-point-clause-none
returns-in_err-point-clause-none g c = (
  λ none. inr (inl (λ finite. finite (c.in_err-point.ensures.none.0 refl))),
  λ _. subst IsNone (sym c.from_residual.ensures) refl,
)

pub returns-then-not-is_standard-clause-none : goal.returns-then-not-is_standard-clause-none
returns-then-not-is_standard-clause-none g c = (
  λ none. inl
      (λ standard. false≢true (sym c.if-not-is_standard.true ∙ c.is_standard.ensures.1 standard)),
  λ _. refl,
)

pub returns-then-not-is_standard-clause-walk : goal.returns-then-not-is_standard-clause-walk
returns-then-not-is_standard-clause-walk g c = λ standard.
    absurd (false≢true (sym c.if-not-is_standard.true ∙ c.is_standard.ensures.1 standard))
