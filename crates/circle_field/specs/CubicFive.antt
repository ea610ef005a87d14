-- The cube of X in the cubic extension of Mersenne31.
use Rattle.circle_field.specs.declared.mersenne31.Mersenne31.{Mersenne31}
use Rattle.circle_field.specs.Mersenne31.{element}

-- 5, which is no cube
abbrev pub five : Mersenne31
five = element 5
