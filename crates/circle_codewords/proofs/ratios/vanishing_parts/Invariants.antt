use Rattle.std.proofs.Common.{◌≡◌, map, take}
use Rattle.circle_point.specs.Point.{coordinates}
use Rattle.circle_folding.specs.Quotient.{real_part, imaginary_part}
use Rattle.circle_codewords.proofs.ratios.vanishing_parts.Given as goal

abbrev pub invariant-loop-point : goal.invariant-loop-point
invariant-loop-point g l =
    let z = coordinates l.zeta in
    record {
      real : l.real.items
          ≡ map (λ p. real_part g.EF.Operations.ops g.EF.ExtensionField.embed (coordinates p) z)
          (take l.point-index l.points);
      imaginary : l.imaginary.items
          ≡ map (λ p. imaginary_part g.EF.Operations.ops g.EF.ExtensionField.embed (coordinates p)
          z) (take l.point-index l.points);
    }
