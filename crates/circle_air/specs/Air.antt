-- What an AIR is to contracts.
use Rattle.circle_air.specs.declared.air.Air.{Air}
use Rattle.circle_air.specs.Parts.{Parts, parts_of}

abbrev pub air_of : {F : Type 0} → Air F → Parts F
air_of air = parts_of air.parts
