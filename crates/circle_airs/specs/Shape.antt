-- AIRs of as many columns and public values.
use Rattle.std.specs.Prelude.{◌≡◌}
use Rattle.circle_air.specs.Parts.{Parts}

-- the numbers of columns and of public values stay
pub record KeepsShape {F : Type 0} (old new : Parts F) : Type 0 where
  pub width : new.width ≡ old.width
  pub public : new.num_public_values ≡ old.num_public_values
