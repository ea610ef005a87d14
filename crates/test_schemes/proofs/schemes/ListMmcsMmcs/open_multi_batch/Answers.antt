use Rattle.test_schemes.specs.MatrixList.{matrices_of}
use Rattle.test_schemes.proofs.SameRows.{shows-opened}
use Rattle.test_schemes.proofs.schemes.ListMmcsMmcs.open_multi_batch.Goals as goal

pub returns-clause-proof : goal.returns-clause-proof
returns-clause-proof g c commitment same =
    shows-opened (matrices_of c.args.prover_data.now) (matrices_of commitment) c.args.indices.now _
    c.requires.some c.requires.in_range c.in_ok-rows_at_each.ensures same
