use Rattle.std.proofs.Common.{◌≡◌, ◌-◌, ◌∙◌, sym, ap, map}
use Rattle.std.proofs.lemmas.Result.{IfOk-weaker}
use Rattle.circle_field.specs.Circle.{Coordinates}
use Rattle.circle_point.specs.Point.{coordinates}
use Rattle.circle_domain.specs.Domain.{log_size, shift_of}
use Rattle.circle_domain.specs.Order.{coset}
use Rattle.circle_domain.proofs.Twiddles.{map-map}
use Rattle.circle_domain.proofs.factors.y_twiddles.Goals as goal

pub returns : goal.returns
returns g c =
    let points = c.in_ok-first_points.field-0.items in
    let y = λ (p : Coordinates g.row.F.Denot). p.y in
    let ys : map (λ p. (coordinates p).y) c.deref.result.now ≡ map y
    (coset g.F.Operations.ops g.F.ComplexExtendable.generators (log_size c.args.domain - 1)
    (shift_of c.args.domain)) =
    ap (map (λ p. (coordinates p).y)) c.deref.ensures.value ∙ sym (map-map y coordinates points)
    ∙ ap (map y) c.in_ok-first_points.ensures in
    IfOk-weaker c.ordinates.result _ _ (λ made e. e ∙ ys) c.ordinates.ensures
