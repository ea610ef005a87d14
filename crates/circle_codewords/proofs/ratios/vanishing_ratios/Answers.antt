use Rattle.std.proofs.Common.{◌≡◌, ◌≢◌, ◌∙◌, sym, ap, subst, length, map, All}
use Rattle.std.proofs.lemmas.List.{length-map}
use Rattle.circle_field.proofs.Inverses.{take-whole}
use Rattle.circle_point.specs.Point.{coordinates}
use Rattle.circle_commit.specs.DotProduct.{pairwise}
use Rattle.circle_codewords.proofs.DomainPoints.{points-on}
use Rattle.circle_codewords.proofs.Quotients.{reals-nonzero, ratios-made}
use Rattle.circle_codewords.proofs.ratios.vanishing_ratios.Goals as goal

pub batch_multiplicative_inverse-requires : goal.batch_multiplicative_inverse-requires
batch_multiplicative_inverse-requires g c =
    let NonZero : g.row.EF.Denot → Type 0 = λ d. d ≢ g.EF.Operations.ops.zero in
    let points = c.args.points.now in
    subst (All NonZero) (sym (c.deref.ensures.value ∙ c.in_ok-real.ensures.real))
    (reals-nonzero g.EF.Operations.laws g.EF.PartialEq.eq g.met.EF.Field.eq_law
    g.EF.ExtensionField.embed (map coordinates points) (coordinates c.args.zeta)
    (points-on g.met.EF.ExtensionField.embedding (λ p. p.on_circle) points) c.args.zeta.on_circle
    c.requires.apart)

pub multiply_each-requires : goal.multiply_each-requires
multiply_each-requires g c =
    let points = map coordinates c.args.points.now in
    let inv = g.EF.Operations.ops.inv in
    let real = c.deref.ensures.value ∙ c.in_ok-real.ensures.real in
    ap length (c.deref_mut.ensures.value ∙ c.in_ok-real.ensures.imaginary) ∙ length-map points _
    ∙ sym (ap length (c.deref-2.ensures.value ∙ c.in_ok-inverses.ensures)
    ∙ length-map c.deref.result.now inv ∙ ap length real ∙ length-map points _)

pub returns : goal.returns
returns g c =
    let l = g.EF.Operations.ops in
    let old = c.in_ok-real.ratios in
    let kept : length c.multiply_each.new.entries ≡ length old.items = c.multiply_each.auto.entries
    ∙ ap length c.deref_mut.ensures.value in
    take-whole old.len c.multiply_each.new.entries old.items old.ok.0 kept
    ∙ c.multiply_each.ensures
    ∙ ap (λ xs. pairwise l.mul xs c.deref-2.result.now)
    (c.deref_mut.ensures.value ∙ c.in_ok-real.ensures.imaginary)
    ∙ ap (pairwise l.mul _) (c.deref-2.ensures.value ∙ c.in_ok-inverses.ensures
    ∙ ap (map l.inv) (c.deref.ensures.value ∙ c.in_ok-real.ensures.real))
    ∙ ratios-made l g.EF.ExtensionField.embed (coordinates c.args.zeta)
    (map coordinates c.args.points.now)
