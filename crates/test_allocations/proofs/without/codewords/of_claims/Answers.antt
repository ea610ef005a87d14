use Rattle.std.proofs.Common.{rules}
use Rattle.test_allocations.proofs.without.codewords.of_claims.Goals as goal

pub x_value-requires : goal.x_value-requires
x_value-requires c = (1, search rules)
