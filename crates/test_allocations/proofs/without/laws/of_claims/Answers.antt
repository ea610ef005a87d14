use Rattle.std.specs.Prelude.{◌≢◌}
use Rattle.std.proofs.Common.{◌≡◌, ◌^◌, length, rules}
use Rattle.circle_commit.specs.RowMajorMatrix.{height_of}
use Rattle.circle_domain.specs.Domain.{log_size, shift_of}
use Rattle.circle_point.specs.Point.{coordinates}
use Rattle.test_allocations.proofs.OffStandard.{off-standard, two-distinct}
use Rattle.test_allocations.proofs.without.laws.of_claims.Goals as goal

pub quotient_binds-requires-clause-off : goal.quotient_binds-requires-clause-off
quotient_binds-requires-clause-off g c =
    let h = c.args.log_height in
    let d = c.in-Some.domain in
    let word = c.values.result.now in
    let size : length word ≡ 2 ^ h = search rules in
    off-standard g.F.Operations.ops g.EF.Operations.laws g.EF.ExtensionField.embed
    g.F.ComplexExtendable.generators h (log_size d) (length word) (shift_of d)
    (coordinates c.args.zeta) c.in-Some.ensures.size c.in-Some.ensures.shift size
    c.args.zeta.on_circle (c.is_clear_of.ensures.0 (search rules))

pub claim_binds-requires-clause-off : goal.claim_binds-requires-clause-off
claim_binds-requires-clause-off g c =
    let h = c.args.log_height in
    let d = c.in-Some.domain in
    let tall = height_of c.args.column.now in
    let size : tall ≡ 2 ^ h = search rules in
    off-standard g.F.Operations.ops g.EF.Operations.laws g.EF.ExtensionField.embed
    g.F.ComplexExtendable.generators h (log_size d) tall (shift_of d)
    (coordinates c.args.zeta) c.in-Some.ensures.size c.in-Some.ensures.shift size
    c.args.zeta.on_circle (c.is_clear_of.ensures.0 (search rules))

pub claim_binds-requires-clause-distinct : goal.claim_binds-requires-clause-distinct
claim_binds-requires-clause-distinct g c =
    let one = c.index-alphas-0 in
    let other = c.index-alphas-1 in
    let two : length c.args.alphas.now ≡ 2 = search rules in
    let differ : one.result ≢ other.result = search rules in
    two-distinct c.args.alphas.now one.result other.result two one.is other.is differ
