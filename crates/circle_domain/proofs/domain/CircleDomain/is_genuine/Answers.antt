use Rattle.std.proofs.Common.{◌≡◌, ◌^◌, ◌∙◌, sym, ap}
use Rattle.circle_field.specs.Circle.{origin, times}
use Rattle.circle_domain.specs.Domain.{log_size, shift_of}
use Rattle.circle_point.specs.Point.{coordinates}
use Rattle.circle_point.proofs.Points.{different_coordinates}
use Rattle.circle_domain.proofs.domain.CircleDomain.is_genuine.Goals as goal

pub returns-then-self-ge1 : goal.returns-then-self-ge1
returns-then-self-ge1 g c =
    let k = g.F.Operations.ops in
    let here : coordinates c.repeated_double.result ≡ times k (2 ^ log_size c.args.self.now)
    (shift_of c.args.self.now) = c.repeated_double.ensures in
    let zero : coordinates c.ZERO.result ≡ origin k = ap coordinates c.ZERO.ensures in
    let test =
    different_coordinates g.F.PartialEq.eq g.met.F.Field.eq_law
    (coordinates c.repeated_double.result) (coordinates c.ZERO.result) in (
      λ h. (c.if-self-ge1.true, λ e. test.0 (sym c.ne.ensures ∙ h) (here ∙ e ∙ sym zero)),
      λ h. c.ne.ensures ∙ test.1 (λ e. h.1 (sym here ∙ e ∙ zero)),
    )
