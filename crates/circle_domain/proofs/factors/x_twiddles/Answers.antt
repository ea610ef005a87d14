use Rattle.std.proofs.Common.{◌≡◌, ◌-◌, ◌^◌, ◌%◌, ◌∙◌, sym, ap, length, arith}
use Rattle.std.proofs.lemmas.List.{length-map}
use Rattle.circle_point.specs.Point.{coordinates}
use Rattle.circle_domain.specs.Domain.{log_size, shift_of}
use Rattle.circle_domain.proofs.Twiddles.{length-coset, even-pow}
use Rattle.circle_domain.proofs.factors.x_twiddles.Goals as goal

pub every_second_abscissa-requires : goal.every_second_abscissa-requires
every_second_abscissa-requires g c =
    let n = log_size c.args.domain in
    let points = c.in_ok-first_points.field-0.items in
    let long : length points ≡ 2 ^ (n - 1) =
    sym (length-map points coordinates) ∙ ap length c.in_ok-first_points.ensures
    ∙ length-coset g.F.Operations.ops g.F.ComplexExtendable.generators (n - 1)
    (shift_of c.args.domain) in
    ap (λ xs. length xs % 2) c.deref.ensures.value ∙ ap (λ m. m % 2) long
    ∙ even-pow (n - 1) (omega (arith, c.requires.two_pairs))
