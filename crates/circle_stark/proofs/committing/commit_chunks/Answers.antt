use Rattle.std.proofs.Common.{arith, refl}
use Rattle.std.specs.Prelude.{Err}
use Rattle.std.proofs.lemmas.Nat.{pow_pos}
use Rattle.p3_circle.specs.Committing.{commit_tests}
use Rattle.p3_circle.specs.SchemeLaws.HonestTests.{batch-passes}
use Rattle.circle_stark.proofs.ChunkSizes.{have-rows}
use Rattle.circle_stark.proofs.Committable.{chunk-count, chunks-committable, only-memory}
use Rattle.circle_stark.proofs.committing.commit_chunks.Goals as goal

pub commit-requires : goal.commit-requires
commit-requires g c =
    have-rows c.args.log_n c.args.log_chunks c.in_ok-chunks.chunks.items
    c.in_ok-chunks.ensures.sizes _ c.in_ok-chunks.ensures.rows

pub out_of_memory-requires : goal.out_of_memory-requires
out_of_memory-requires g c =
    let p = c.args.pcs.now.fri_params in
    let n = c.args.log_n in
    let kk = c.args.log_chunks in
    let k = g.Val.Operations.ops in
    let laws = g.Val.Operations.laws in
    let gens = g.met.Val.ComplexExtendable.generators_law in
    let two = g.Val.ComplexExtendable.CIRCLE_TWO_ADICITY in
    let eq = g.Val.PartialEq.eq in
    let batch = c.in_ok-chunks.chunks.items in
    let count = chunk-count laws gens p n c.requires.foldable c.requires.extended kk
    c.requires.in_group batch c.in_ok-chunks.ensures.shifts in
    only-memory (commit_tests two p eq k batch) (Err c.in-Err.error) c.in-Err.error
    (batch-passes k eq g.met.Val.Field.eq_law two p batch (omega (arith, count, pow_pos kk))
    (chunks-committable laws gens p n c.requires.foldable c.requires.extended kk c.requires.in_group
    batch c.in_ok-chunks.ensures.shifts c.in_ok-chunks.ensures.sizes))
    refl c.in-Err.ensures.refused
