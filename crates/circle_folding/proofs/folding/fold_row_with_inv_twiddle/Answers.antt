use Rattle.std.proofs.Common.{◌≡◌, ◌∙◌, ap}
use Rattle.circle_field.specs.Field.{sub, two}
use Rattle.circle_domain.proofs.Lifted.{lifted-inverse}
use Rattle.circle_folding.proofs.Folds.{fold-halved}
use Rattle.circle_folding.proofs.folding.fold_row_with_inv_twiddle.Goals as goal

pub returns : goal.returns
returns g c = λ t nonzero inverse.
    let l = g.EF.Operations.ops in
    let m = g.EF.ExtensionField.embed in
    let low = c.args.low in
    let high = c.args.high in
    let beta = c.args.beta in
    let i = m c.args.inv_twiddle in
    let difference : c.mul.result ≡ l.mul beta (l.mul i (sub l low high)) =
    g.met.EF.Field.mul_law _ _ _ c.mul.ensures
    ∙ ap (l.mul beta)
    (c.times_base.ensures ∙ ap (l.mul i) (g.met.EF.Field.sub_law _ _ _ c.sub.ensures)) in
    let all : c.add-2.result ≡ l.add (l.add low high) (l.mul beta (l.mul i (sub l low high))) =
    g.met.EF.Field.add_law _ _ _ c.add-2.ensures
    ∙ ap (λ s. l.add s c.mul.result) (g.met.EF.Field.add_law _ _ _ c.add.ensures)
    ∙ ap (l.add (l.add low high)) difference in
    c.halve.ensures ∙ ap (λ s. l.mul s (l.inv (two l))) all
    ∙ fold-halved g.EF.Operations.laws low high beta (m t) i
    (ap (λ v. l.mul (m v) (m t)) inverse ∙ lifted-inverse g.met.EF.ExtensionField.embedding
    g.F.Operations.laws t nonzero)
