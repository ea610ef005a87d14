use Rattle.std.proofs.Common.{◌∙◌, refl, sym, ap, arith, map}
use Rattle.std.proofs.lemmas.List.{take_all}
use Rattle.circle_domain.proofs.Twiddles.{map-map}
use Rattle.circle_field.specs.Circle.{Coordinates}
use Rattle.circle_point.specs.Point.{coordinates}
use Rattle.circle_point.specs.declared.point.Point.{Point}
use Rattle.circle_folding.specs.Quotient.{real_part, imaginary_part}
use Rattle.circle_domain.proofs.Pointwise.{map_pushed}
use Rattle.circle_codewords.proofs.ratios.vanishing_parts.Goals as goal

pub loop-point-preserved : goal.loop-point-preserved
loop-point-preserved g c =
    let l = g.EF.Operations.ops in
    let m = g.EF.ExtensionField.embed in
    let z = coordinates c.args.zeta in
    let i = c.loop-point.point-index in
    let p = c.point-item.result in
    record {
      real = map_pushed (λ p. real_part l m (coordinates p) z) c.args.points.now i p
          c.loop-point.real.items c.push_parts.new.real.items _
          c.loop-point-test.true c.point-item.is c.in_ok-push_parts.ensures.real
          c.loop-point.invariant.real refl;
      imaginary = map_pushed (λ p. imaginary_part l m (coordinates p) z) c.args.points.now i p
          c.loop-point.imaginary.items c.push_parts.new.imaginary.items _
          c.loop-point-test.true c.point-item.is c.in_ok-push_parts.ensures.imaginary
          c.loop-point.invariant.imaginary refl;
    }

pub returns-clause-real : goal.returns-clause-real
returns-clause-real g c =
    let f : Coordinates g.row.F.Denot → g.row.EF.Denot =
    λ x. real_part g.EF.Operations.ops g.EF.ExtensionField.embed x (coordinates c.args.zeta) in
    c.loop-point.invariant.real
    ∙ ap (map (λ (p : Point g.row.F.Denot g.F.Operations). f (coordinates p)))
    (take_all c.loop-point.point-index c.args.points.now
    (omega (arith, c.loop-point-test.false)))
    ∙ sym (map-map f coordinates c.args.points.now)

pub returns-clause-imaginary : goal.returns-clause-imaginary
returns-clause-imaginary g c =
    let f : Coordinates g.row.F.Denot → g.row.EF.Denot =
    λ x. imaginary_part g.EF.Operations.ops g.EF.ExtensionField.embed x
    (coordinates c.args.zeta) in
    c.loop-point.invariant.imaginary
    ∙ ap (map (λ (p : Point g.row.F.Denot g.F.Operations). f (coordinates p)))
    (take_all c.loop-point.point-index c.args.points.now
    (omega (arith, c.loop-point-test.false)))
    ∙ sym (map-map f coordinates c.args.points.now)
