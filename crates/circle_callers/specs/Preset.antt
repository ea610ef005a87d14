-- The scheme of `circle_presets`.
use Rattle.circle_field.specs.declared.cubic.Cubic.{Cubic}
use Rattle.circle_field.specs.declared.mersenne31.Mersenne31.{Mersenne31}
use Rattle.circle_merkle.specs.declared.mmcs.ShaMmcs.{ShaMmcs}
use Rattle.p3_circle.specs.declared.pcs.CirclePcs.{CirclePcs}

abbrev pub Scheme : Type 0
Scheme = CirclePcs Mersenne31 (ShaMmcs Mersenne31) (ShaMmcs Cubic)
