use Rattle.std.proofs.Common.{◌≡◌, arith, length}
use Rattle.circle_cfft.proofs.PairLayers.{descend-block}
use Rattle.circle_cfft.proofs.layers.descend_quarters.Goals as goal

pub returns : goal.returns
returns g c =
    let low = g.B.Butterfly.lower in
    let high = g.B.Butterfly.upper in
    let quarter = c.args.quarter in
    let t = c.args.upper in
    let u = c.args.lower.0 in
    let v = c.args.lower.1 in
    let pa = c.split_at_mut-a.result.0.now in
    let pb = c.split_at_mut-a.result.1.now in
    let pc = c.split_at_mut-c.result.0.now in
    let pd = c.split_at_mut-c.result.1.now in
    let ea : length pa ≡ quarter = c.split_at_mut-a.ensures.front_len in
    let eb : length pb ≡ quarter =
    omega (arith, c.split_at_mut-a.ensures.back_len, c.split_at_mut-low.ensures.front_len) in
    let ec : length pc ≡ quarter = c.split_at_mut-c.ensures.front_len in
    let ed : length pd ≡ quarter =
    omega (
      arith,
      c.split_at_mut-c.ensures.back_len,
      c.split_at_mut-low.ensures.back_len,
      c.requires,
    ) in
    descend-block low high quarter t u v c.args.block.now c.split_at_mut-low.result.0.now
    c.split_at_mut-low.result.1.now pa pb pc pd _ _ _ _ ea eb ec ed
    c.split_at_mut-low.ensures.value c.split_at_mut-a.ensures.value c.split_at_mut-c.ensures.value
    c.combine_four.ensures.a c.combine_four.ensures.b c.combine_four.ensures.c
    c.combine_four.ensures.d
