-- What the permutation of a matrix's rows is to contracts.
use Rattle.std.specs.Prelude.{ℕ}
use Rattle.circle_domain.specs.declared.ordering.CfftPerm.{CfftPerm}

-- the binary logarithm of the number of rows
abbrev pub log_height_of : CfftPerm → ℕ
log_height_of map = map.log_height
