use Rattle.std.proofs.Common.{◌+◌, ◌^◌, ◌∙◌, ap, sym, subst}
use Rattle.circle_commit.specs.RowMajorMatrix.{width_of}
use Rattle.circle_domain.specs.Domain.{log_size}
use Rattle.p3_circle.specs.Committing.{IsExtension}
use Rattle.p3_circle.proofs.Extended.{extended}
use Rattle.p3_circle.proofs.commit.extension.Goals as goal

pub returns : goal.returns
returns g c =
    let d = c.args.domain in
    let target = c.standard-target.result in
    let gen = g.F.ComplexExtendable.generators in
    let e = c.from_natural_order-given.result in
    let made = c.in_ok-extrapolate.field-0 in
    subst (IsExtension g.F.Operations.ops gen c.args.log_blowup d c.args.evaluations)
    (sym c.to_cfft_order.ensures)
    (extended g.F.Operations.laws g.met.F.ComplexExtendable.generators_law d e.domain
    target c.args.log_blowup c.args.evaluations made.values (width_of e.values.inner) _
    c.requires.extendable.1 d.shift.on_circle c.requires.extendable.0 c.requires.rows
    c.from_natural_order-given.ensures.domain
    (c.standard-target.ensures.size ∙ ap (λ n. n + c.args.log_blowup) c.log_n.ensures)
    (c.standard-target.ensures.shift ∙ ap (λ n. gen (n + 1)) (sym c.standard-target.ensures.size))
    c.from_natural_order-given.ensures.width c.from_natural_order-given.ensures.rows
    c.in_ok-extrapolate.ensures.width
    (made.row_for_each_point ∙ ap (λ x. 2 ^ log_size x) c.in_ok-extrapolate.ensures.domain)
    c.in_ok-extrapolate.ensures.values)
