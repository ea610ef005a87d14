-- The two entries that a butterfly makes, in both directions, and how many were counted.
use Rattle.std.specs.Prelude.{ℕ}
use Rattle.circle_field.specs.Field.{FieldOps, sub}
use Rattle.circle_cfft.specs.declared.butterflies.Butterflies.{Butterflies}

module _ {F : Type 0} (k : FieldOps F) where
  -- from coefficients to values: a + b t and a - b t
  abbrev pub plus_multiple : F → F → F → F
  plus_multiple t a b = k.add a (k.mul b t)

  abbrev pub minus_multiple : F → F → F → F
  minus_multiple t a b = sub k a (k.mul b t)

  -- from values to twice the coefficients, by the inverse factor: a + b and (a - b) t
  abbrev pub total : F → F → F → F
  total t a b = k.add a b

  abbrev pub scaled_difference : F → F → F → F
  scaled_difference t a b = k.mul (sub k a b) t

abbrev pub count_of : Butterflies → ℕ
count_of b = b.count
