use Rattle.std.proofs.Common.{rules, ◌≡◌, ◌≤◌, ◌<◌, ◌+◌, ◌-◌, ◌*◌, ◌/◌, ◌^◌, ◌++◌, sym, ◌∙◌, ap}
use Rattle.std.proofs.Common.{arith, length, take, drop, subst, length-drop}
use Rattle.std.proofs.lemmas.List.{length-take-le}
use Rattle.circle_cfft.specs.Passes.{descending}
use Rattle.circle_cfft.specs.Parts.{factors_of_part, AreLayersOfPart}
use Rattle.circle_cfft.proofs.BlockParts.{part-more, part-end}
use Rattle.circle_cfft.proofs.BlockWhole.{size, size-fits, parts-exact, part-fits, part-layers}
use Rattle.circle_cfft.proofs.BlockWhole.{descend_from, descend_from-first, descend_from-more}
use Rattle.circle_cfft.proofs.BlockWhole.{descend_from-none}
use Rattle.circle_cfft.proofs.passes.descend_parts.Goals as goal

pub half_of-size-requires-clause-fits : goal.half_of-size-requires-clause-fits
half_of-size-requires-clause-fits g c =
    let some_layer : 0 < length c.args.twiddles.now =
    grind (arith, c.is_empty.ensures, c.if-is_empty.false) in
    let fit : 2 ^ length c.args.twiddles.now * c.args.width ≤ length c.args.entries.now =
    size-fits c.args.width (length c.args.entries.now) c.args.twiddles.now c.requires.wide
    c.requires.layers some_layer c.requires.some in
    search rules

pub loop-part-init : goal.loop-part-init
loop-part-init g c =
    let none : 0 * size c.args.width c.args.twiddles.now ≡ 0 = omega arith in
    ap (λ n. take n c.args.entries.now ++ descend_from c.args.width c.args.twiddles.now
    g.B.Butterfly.lower g.B.Butterfly.upper 0 (drop n c.args.entries.now)) none

pub offset_bounds-entries-start : goal.offset_bounds-entries-start
offset_bounds-entries-start g c =
    let width = c.args.width in
    let twiddles = c.args.twiddles.now in
    let count = length c.args.entries.now in
    let i = c.loop-part.part in
    let some_layer : 0 < length twiddles = grind (arith, c.is_empty.ensures, c.if-is_empty.false) in
    let here : i < count / size width twiddles =
    omega (arith, c.loop-part-test.true, ap (λ s. count / s) c.half_of-size.ensures) in
    let fit : i * size width twiddles + size width twiddles ≤ count =
    part-fits width count twiddles c.requires.wide c.requires.layers some_layer i here in
    let start : i * c.half_of-size.result ≡ i * size width twiddles =
    ap (λ s. i * s) c.half_of-size.ensures in
    let within : i * c.half_of-size.result ≤ length c.loop-part.entries =
    omega (arith, fit, start, c.loop-part.auto.entries) in
    search rules

pub overflow_mul-start : goal.overflow_mul-start
overflow_mul-start g c =
    let width = c.args.width in
    let twiddles = c.args.twiddles.now in
    let count = length c.args.entries.now in
    let i = c.loop-part.part in
    let some_layer : 0 < length twiddles = grind (arith, c.is_empty.ensures, c.if-is_empty.false) in
    let here : i < count / size width twiddles =
    omega (arith, c.loop-part-test.true, ap (λ s. count / s) c.half_of-size.ensures) in
    let fit : i * size width twiddles + size width twiddles ≤ count =
    part-fits width count twiddles c.requires.wide c.requires.layers some_layer i here in
    let start : i * c.half_of-size.result ≡ i * size width twiddles =
    ap (λ s. i * s) c.half_of-size.ensures in
    omega (arith, fit, start, c.half_of-size.ensures, c.loop-part.auto.entries)

pub overflow_add-start : goal.overflow_add-start
overflow_add-start g c =
    let width = c.args.width in
    let twiddles = c.args.twiddles.now in
    let count = length c.args.entries.now in
    let i = c.loop-part.part in
    let some_layer : 0 < length twiddles = grind (arith, c.is_empty.ensures, c.if-is_empty.false) in
    let here : i < count / size width twiddles =
    omega (arith, c.loop-part-test.true, ap (λ s. count / s) c.half_of-size.ensures) in
    let fit : i * size width twiddles + size width twiddles ≤ count =
    part-fits width count twiddles c.requires.wide c.requires.layers some_layer i here in
    let start : i * c.half_of-size.result ≡ i * size width twiddles =
    ap (λ s. i * s) c.half_of-size.ensures in
    omega (arith, fit, start, c.half_of-size.ensures, c.loop-part.auto.entries)

pub slice_bounds-descend-end : goal.slice_bounds-descend-end
slice_bounds-descend-end g c =
    let width = c.args.width in
    let twiddles = c.args.twiddles.now in
    let count = length c.args.entries.now in
    let i = c.loop-part.part in
    let some_layer : 0 < length twiddles = grind (arith, c.is_empty.ensures, c.if-is_empty.false) in
    let here : i < count / size width twiddles =
    omega (arith, c.loop-part-test.true, ap (λ s. count / s) c.half_of-size.ensures) in
    let fit : i * size width twiddles + size width twiddles ≤ count =
    part-fits width count twiddles c.requires.wide c.requires.layers some_layer i here in
    let start : i * c.half_of-size.result ≡ i * size width twiddles =
    ap (λ s. i * s) c.half_of-size.ensures in
    omega (arith, fit, start, c.half_of-size.ensures, c.loop-part.auto.entries)

pub descend-requires-clause-layers : goal.descend-requires-clause-layers
descend-requires-clause-layers g c =
    let width = c.args.width in
    let twiddles = c.args.twiddles.now in
    let count = length c.args.entries.now in
    let i = c.loop-part.part in
    let some_layer : 0 < length twiddles = grind (arith, c.is_empty.ensures, c.if-is_empty.false) in
    let here : i < count / size width twiddles =
    omega (arith, c.loop-part-test.true, ap (λ s. count / s) c.half_of-size.ensures) in
    let fit : i * size width twiddles + size width twiddles ≤ count =
    part-fits width count twiddles c.requires.wide c.requires.layers some_layer i here in
    let start = i * c.half_of-size.result in
    let len = start + c.half_of-size.result - start in
    let e_start : start ≡ i * size width twiddles = ap (λ s. i * s) c.half_of-size.ensures in
    let left : length (drop start c.loop-part.entries) ≡ length c.loop-part.entries - start =
    length-drop start c.loop-part.entries in
    let long : length (take len (drop start c.loop-part.entries)) ≡ size width twiddles =
    length-take-le len (drop start c.loop-part.entries)
    (omega (arith, left, fit, e_start, c.half_of-size.ensures, c.loop-part.auto.entries))
    ∙ omega (arith, c.half_of-size.ensures) in
    subst (λ n. AreLayersOfPart width n i twiddles) (sym long)
    (part-layers width count twiddles c.requires.wide c.requires.layers some_layer i here)

pub loop-part-preserved : goal.loop-part-preserved
loop-part-preserved g c =
    let low = g.B.Butterfly.lower in
    let high = g.B.Butterfly.upper in
    let width = c.args.width in
    let twiddles = c.args.twiddles.now in
    let count = length c.args.entries.now in
    let entries = c.loop-part.entries in
    let i = c.loop-part.part in
    let some_layer : 0 < length twiddles = grind (arith, c.is_empty.ensures, c.if-is_empty.false) in
    let here : i < count / size width twiddles =
    omega (arith, c.loop-part-test.true, ap (λ s. count / s) c.half_of-size.ensures) in
    let fit : i * size width twiddles + size width twiddles ≤ count =
    part-fits width count twiddles c.requires.wide c.requires.layers some_layer i here in
    let start = i * c.half_of-size.result in
    let len = start + c.half_of-size.result - start in
    let e_start : start ≡ i * size width twiddles = ap (λ s. i * s) c.half_of-size.ensures in
    let e_len : len ≡ size width twiddles = omega (arith, c.half_of-size.ensures) in
    let left : length (drop start entries) ≡ length entries - start = length-drop start entries in
    let enough : size width twiddles ≤ length (drop start entries) =
    omega (arith, left, fit, e_start, c.loop-part.auto.entries) in
    let long : length (take len (drop start entries)) ≡ len =
    length-take-le len (drop start entries) (omega (arith, e_len, enough)) in
    let made : c.descend.new.values ≡ descending low high width
    (factors_of_part width (size width twiddles) i twiddles) (length twiddles)
    (take len (drop start entries)) =
    c.descend.ensures
    ∙ ap (λ n. descending low high width (factors_of_part width n i twiddles) (length twiddles)
    (take len (drop start entries))) (long ∙ e_len) in
    part-more (descend_from width twiddles low high) (size width twiddles) entries
    c.descend.new.values i start len e_start e_len
    (omega (arith, fit, e_start, e_len, c.loop-part.auto.entries)) (c.descend.auto.values ∙ long)
    (descend_from-more width count twiddles c.requires.wide c.requires.layers some_layer low high i
    (drop start entries) here enough
    ∙ ap (λ n. descending low high width (factors_of_part width (size width twiddles) i twiddles)
    (length twiddles) (take n (drop start entries))
    ++ descend_from width twiddles low high (i + 1) (drop n (drop start entries))) (sym e_len)
    ∙ ap (λ b. b ++ descend_from width twiddles low high (i + 1) (drop len (drop start entries)))
    (sym made))
    ∙ c.loop-part.invariant

pub returns : goal.returns
returns g c =
    let low = g.B.Butterfly.lower in
    let high = g.B.Butterfly.upper in
    let width = c.args.width in
    let twiddles = c.args.twiddles.now in
    let count = length c.args.entries.now in
    let i = c.loop-part.part in
    let some_layer : 0 < length twiddles = grind (arith, c.is_empty.ensures, c.if-is_empty.false) in
    let end : i ≡ count / size width twiddles =
    omega (
      arith,
      c.loop-part-test.false,
      c.loop-part.auto.part-end,
      ap (λ s. count / s) c.half_of-size.ensures,
    ) in
    sym (part-end (descend_from width twiddles low high) (size width twiddles) c.loop-part.entries i
    (c.loop-part.auto.entries
    ∙ sym (parts-exact width count twiddles c.requires.wide c.requires.layers some_layer)
    ∙ ap (λ n. n * size width twiddles) (sym end))
    (descend_from-none width count twiddles c.requires.wide c.requires.layers some_layer low high i
    end))
    ∙ c.loop-part.invariant ∙ descend_from-first width count twiddles c.requires.wide
    c.requires.layers some_layer low high c.args.entries.now
