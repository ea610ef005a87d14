use Rattle.std.proofs.Common.{◌≡◌, map}
use Rattle.circle_commit.specs.DotProduct.{pairwise}
use Rattle.circle_commit.specs.Pcs.{openings}
use Rattle.circle_commit.specs.Claims.{batch_told as all_told, batch_claimed as sized_claims}
use Rattle.circle_codewords.proofs.Opened.{if_ok}
use Rattle.circle_commands.specs.Proved.{batch_claimed}
use Rattle.circle_commands.specs.Verified.{batches_told}
use Rattle.circle_commands.proofs.Claimed.{batches-claimed}
use Rattle.circle_commands.proofs.prove.claims.Goals as goal

pub returns : goal.returns
returns c =
    let committed = c.args.committed.now in
    let known = c.in_ok-known_batches.field-0.items in
    let values = openings c.args.values.items in
    if_ok c.claims_of.result (λ v. map all_told v.items ≡ pairwise sized_claims known values)
    (λ v. batches_told v.items ≡ pairwise batch_claimed committed values)
    (λ v made. batches-claimed committed known values v.items c.in_ok-known_batches.ensures made)
    c.claims_of.ensures
