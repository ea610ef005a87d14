use Rattle.std.proofs.Common.{rules, ◌≡◌, ◌+◌, ◌*◌, ◌≤◌, sym, ◌∙◌, arith, length, take, drop, ◌-◌}
use Rattle.std.proofs.Common.{refl, length-drop}
use Rattle.std.proofs.lemmas.List.{length-take-le}
use Rattle.std.proofs.Math.Nat.{mul-le-mul_right}
use Rattle.circle_domain.specs.Layers.{layer}
use Rattle.circle_domain.proofs.Layered.{layer-more, block-end}
use Rattle.circle_cfft.proofs.layers.apply_layer.Goals as goal

pub overflow_mul-start : goal.overflow_mul-start
overflow_mul-start g c =
    let i = c.loop-i.i in
    let len = c.args.half + c.args.half in
    let below : (i + 1) * len ≤ length c.args.factors.now * len =
    let le : i + 1 ≤ length c.args.factors.now = omega (arith, c.loop-i-test.true) in
    mul-le-mul_right len le in
    omega (arith, below, c.requires, c.loop-i.auto.values)

pub overflow_add-block : goal.overflow_add-block
overflow_add-block g c =
    let i = c.loop-i.i in
    let len = c.args.half + c.args.half in
    let below : (i + 1) * len ≤ length c.args.factors.now * len =
    let le : i + 1 ≤ length c.args.factors.now = omega (arith, c.loop-i-test.true) in
    mul-le-mul_right len le in
    omega (arith, below, c.requires, c.loop-i.auto.values)

pub overflow_add-block-in-loop-i : goal.overflow_add-block-in-loop-i
overflow_add-block-in-loop-i g c =
    let i = c.loop-i.i in
    let len = c.args.half + c.args.half in
    let below : (i + 1) * len ≤ length c.args.factors.now * len =
    let le : i + 1 ≤ length c.args.factors.now = omega (arith, c.loop-i-test.true) in
    mul-le-mul_right len le in
    omega (arith, below, c.requires, c.loop-i.auto.values)

pub slice_bounds-block-end : goal.slice_bounds-block-end
slice_bounds-block-end g c =
    let i = c.loop-i.i in
    let len = c.args.half + c.args.half in
    let below : (i + 1) * len ≤ length c.args.factors.now * len =
    let le : i + 1 ≤ length c.args.factors.now = omega (arith, c.loop-i-test.true) in
    mul-le-mul_right len le in
    omega (arith, below, c.requires, c.loop-i.auto.values)

pub offset_bounds-values-start : goal.offset_bounds-values-start
offset_bounds-values-start g c =
    let i = c.loop-i.i in
    let len = c.args.half + c.args.half in
    let start : i * len ≤ length c.loop-i.values =
    let below : (i + 1) * len ≤ length c.args.factors.now * len =
    let le : i + 1 ≤ length c.args.factors.now = omega (arith, c.loop-i-test.true) in
    mul-le-mul_right len le in
    omega (arith, below, c.requires, c.loop-i.auto.values) in
    search rules

pub loop-i-preserved : goal.loop-i-preserved
loop-i-preserved g c =
    let i = c.loop-i.i in
    let len = c.args.half + c.args.half in
    let below : (i + 1) * len ≤ length c.args.factors.now * len =
    let le : i + 1 ≤ length c.args.factors.now = omega (arith, c.loop-i-test.true) in
    mul-le-mul_right len le in
    let start = i * len in
    let taken = start + c.args.half + c.args.half - start in
    let fits : start + taken ≤ length c.loop-i.values =
    omega (arith, below, c.requires, c.loop-i.auto.values) in
    let rest : length (drop start c.loop-i.values) ≡ length c.loop-i.values - start =
    length-drop start c.loop-i.values in
    let long : length (take taken (drop start c.loop-i.values)) ≡ taken =
    length-take-le taken (drop start c.loop-i.values) (omega (arith, rest, fits)) in
    layer-more g.B.Butterfly.lower g.B.Butterfly.upper c.args.half c.args.factors.now
    c.loop-i.values c.apply_block.new.block c.index-factors-i.result i _ _
    c.loop-i-test.true c.index-factors-i.is refl (omega arith) fits
    (c.apply_block.auto.block ∙ long) c.apply_block.ensures ∙ c.loop-i.invariant

pub returns : goal.returns
returns g c =
    let end : c.loop-i.i ≡ length c.args.factors.now =
    omega (arith, c.loop-i-test.false, c.loop-i.auto.i-end) in
    sym
    (block-end (layer g.B.Butterfly.lower g.B.Butterfly.upper c.args.half)
    (c.args.half + c.args.half) c.args.factors.now c.loop-i.values c.loop-i.i
    (c.loop-i.auto.values ∙ c.requires) end refl)
    ∙ c.loop-i.invariant
