use Rattle.std.proofs.Common.{◌<◌, ◌^◌, subst}
use Rattle.circle_air.specs.Air.{air_of}
use Rattle.circle_air.specs.Valid.{valid}
use Rattle.circle_air.proofs.Readings.{readable, same_parts}
use Rattle.circle_air.proofs.laws.equal_texts.Goals as goal

pub returns : goal.returns
returns g c same =
    let l = c.args.left.now in
    let r = c.args.right.now in
    same_parts g.T.ElementBytes.bytes g.T.ElementBytes.BYTES g.met.T.ElementBytes.count
    g.met.T.ElementBytes.told_apart (air_of l) (air_of r) (valid _ l.valid) (valid _ r.valid)
    (readable l.parts (subst (λ n. n < 2 ^ 64) c.width.ensures c.width.type_inv)
    (subst (λ n. n < 2 ^ 64) c.num_public_values.ensures c.num_public_values.type_inv))
    (readable r.parts (subst (λ n. n < 2 ^ 64) c.width-2.ensures c.width-2.type_inv)
    (subst (λ n. n < 2 ^ 64) c.num_public_values-2.ensures c.num_public_values-2.type_inv)) same
