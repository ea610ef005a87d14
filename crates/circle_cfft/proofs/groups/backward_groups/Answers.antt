use Rattle.std.proofs.Common.{rules, ◌≡◌, ◌≤◌, ◌<◌, ◌+◌, ◌-◌, ◌*◌, ◌^◌, ◌%◌, ◌∙◌, length, map, sym}
use Rattle.std.proofs.Common.{ap, refl, arith, take, drop}
use Rattle.circle_cfft.specs.Butterflies.{count_of, total, scaled_difference}
use Rattle.circle_cfft.specs.Groups.{in_order}
use Rattle.circle_cfft.specs.Passes.{factors_at, ascending}
use Rattle.circle_cfft.proofs.GroupOrders.{Layered, few-layers, length-part, entries-halves}
use Rattle.circle_cfft.proofs.GroupOrders.{layers-part, pass-ascending, pass-room, pass-count}
use Rattle.circle_cfft.proofs.groups.backward_groups.Goals as goal

pub loop-low-init : goal.loop-low-init
loop-low-init g c = record { below = search rules; values = refl; count = λ half e. omega arith }

pub overflow_sub-inverses : goal.overflow_sub-inverses
overflow_sub-inverses g c = omega (arith, c.loop-low.invariant.below)

pub overflow_shl-low : goal.overflow_shl-low
overflow_shl-low g c =
    let tw = c.args.inverses.now in
    let low = c.loop-low.low in
    let layers = low + c.args.group - low in
    let all : Layered tw c.args.width (length c.args.entries.now) =
    record { wide = c.requires.wide; some = c.requires.some; are = c.requires.layers } in
    let some : 1 ≤ layers = omega (arith, c.loop-low.invariant.below, c.requires.group) in
    let within : low + layers ≤ length tw =
    omega (arith, c.loop-low.invariant.below, c.loop-low-test.true) in
    let small : length c.args.entries.now < 2 ^ 64 = omega arith in
    few-layers all low c.loop-low.invariant.below small

pub apply_pass-requires-clause-layers : goal.apply_pass-requires-clause-layers
apply_pass-requires-clause-layers g c = λ l inside.
    let tw = c.args.inverses.now in
    let low = c.loop-low.low in
    let layers = low + c.args.group - low in
    let all : Layered tw c.args.width (length c.args.entries.now) =
    record { wide = c.requires.wide; some = c.requires.some; are = c.requires.layers } in
    let some : 1 ≤ layers = omega (arith, c.loop-low.invariant.below, c.requires.group) in
    let within : low + layers ≤ length tw =
    omega (arith, c.loop-low.invariant.below, c.loop-low-test.true) in
    let small : length c.args.entries.now < 2 ^ 64 = omega arith in
    layers-part all low layers some within small l inside ∙ sym c.loop-low.auto.entries

pub apply_pass-requires-clause-room : goal.apply_pass-requires-clause-room
apply_pass-requires-clause-room g c =
    let tw = c.args.inverses.now in
    let low = c.loop-low.low in
    let layers = low + c.args.group - low in
    let all : Layered tw c.args.width (length c.args.entries.now) =
    record { wide = c.requires.wide; some = c.requires.some; are = c.requires.layers } in
    let some : 1 ≤ layers = omega (arith, c.loop-low.invariant.below, c.requires.group) in
    let within : low + layers ≤ length tw =
    omega (arith, c.loop-low.invariant.below, c.loop-low-test.true) in
    let small : length c.args.entries.now < 2 ^ 64 = omega arith in
    let half = length (factors_at tw 0) in
    let halves = entries-halves all (omega (arith, some, within)) in
    let left : length tw ≡ (length tw - low) + low = omega (arith, c.loop-low.invariant.below) in
    let both : (length tw - low + low) * half ≡ (length tw - low) * half + low * half =
    omega arith in
    pass-room all low layers some within
    small (count_of c.args.butterflies.now) (count_of c.loop-low.butterflies) (length tw - low)
    low (length c.loop-low.entries) c.loop-low.auto.entries
    left (omega (arith, within)) c.requires.room
    (omega (arith, c.loop-low.invariant.count half halves, both, ap (λ n. n * half) left))

pub loop-low-smaller : goal.loop-low-smaller
loop-low-smaller g c = omega (arith, c.loop-low-test.true, c.requires.group)

pub loop-low-preserved : goal.loop-low-preserved
loop-low-preserved g c =
    let tw = c.args.inverses.now in
    let low = c.loop-low.low in
    let layers = low + c.args.group - low in
    let all : Layered tw c.args.width (length c.args.entries.now) =
    record { wide = c.requires.wide; some = c.requires.some; are = c.requires.layers } in
    let some : 1 ≤ layers = omega (arith, c.loop-low.invariant.below, c.requires.group) in
    let within : low + layers ≤ length tw =
    omega (arith, c.loop-low.invariant.below, c.loop-low-test.true) in
    let small : length c.args.entries.now < 2 ^ 64 = omega arith in
    let lower = total g.F.Operations.ops in
    let upper = scaled_difference g.F.Operations.ops in
    let fs = factors_at tw in
    let part = take layers (drop low tw) in
    let old = c.args.entries.now in
    let made =
    ap (in_order lower upper (λ s. s) (1 * 2 ^ low % 18446744073709551616 * c.args.width)
    (factors_at part) (length part)) c.loop-low.invariant.values
    ∙ pass-ascending all low layers some within small lower upper old in
    let whole : low + layers ≡ low + c.args.group = omega arith in
    record {
      below = omega (arith, c.loop-low.invariant.below, c.loop-low-test.true);
      values = c.apply_pass.ensures.values ∙ made
          ∙ ap (λ m. ascending lower upper c.args.width fs m old) whole;
      count = λ half e.
          omega (
            arith,
            c.apply_pass.ensures.count half (c.loop-low.auto.entries ∙ e),
            pass-count all low layers some within small half,
            ap (λ m. m * half) whole,
            c.loop-low.invariant.count half e,
          );
    }

pub offset_bounds-inverses-low-2 : goal.offset_bounds-inverses-low-2
offset_bounds-inverses-low-2 g c =
    let inside : c.loop-low.low ≤ length c.args.inverses.now =
    omega (arith, c.loop-low.invariant.below) in
    search rules

pub slice_bounds-layers-count-2 : goal.slice_bounds-layers-count-2
slice_bounds-layers-count-2 g c = omega (arith, c.loop-low.invariant.below)

pub slice_bounds-layers-start-2 : goal.slice_bounds-layers-start-2
slice_bounds-layers-start-2 g c =
    let inside : c.loop-low.low ≤ length c.args.inverses.now =
    omega (arith, c.loop-low.invariant.below) in
    search rules

pub overflow_shl-low-2 : goal.overflow_shl-low-2
overflow_shl-low-2 g c =
    let tw = c.args.inverses.now in
    let low = c.loop-low.low in
    let layers = length tw - low in
    let all : Layered tw c.args.width (length c.args.entries.now) =
    record { wide = c.requires.wide; some = c.requires.some; are = c.requires.layers } in
    let some : 1 ≤ layers = omega (arith, c.loop-low.invariant.below, c.requires.group) in
    let within : low + layers ≤ length tw = omega (arith, c.loop-low.invariant.below) in
    let small : length c.args.entries.now < 2 ^ 64 = omega arith in
    few-layers all low c.loop-low.invariant.below small

pub apply_pass-requires-2-clause-some_layer : goal.apply_pass-requires-2-clause-some_layer
apply_pass-requires-2-clause-some_layer g c =
    let tw = c.args.inverses.now in
    let low = c.loop-low.low in
    let layers = length tw - low in
    let all : Layered tw c.args.width (length c.args.entries.now) =
    record { wide = c.requires.wide; some = c.requires.some; are = c.requires.layers } in
    let some : 1 ≤ layers = omega (arith, c.loop-low.invariant.below, c.requires.group) in
    let within : low + layers ≤ length tw = omega (arith, c.loop-low.invariant.below) in
    let small : length c.args.entries.now < 2 ^ 64 = omega arith in
    omega (arith, length-part tw low layers within, some)

pub apply_pass-requires-2-clause-layers : goal.apply_pass-requires-2-clause-layers
apply_pass-requires-2-clause-layers g c = λ l inside.
    let tw = c.args.inverses.now in
    let low = c.loop-low.low in
    let layers = length tw - low in
    let all : Layered tw c.args.width (length c.args.entries.now) =
    record { wide = c.requires.wide; some = c.requires.some; are = c.requires.layers } in
    let some : 1 ≤ layers = omega (arith, c.loop-low.invariant.below, c.requires.group) in
    let within : low + layers ≤ length tw = omega (arith, c.loop-low.invariant.below) in
    let small : length c.args.entries.now < 2 ^ 64 = omega arith in
    layers-part all low layers some within small l inside ∙ sym c.loop-low.auto.entries

pub apply_pass-requires-2-clause-room : goal.apply_pass-requires-2-clause-room
apply_pass-requires-2-clause-room g c =
    let tw = c.args.inverses.now in
    let low = c.loop-low.low in
    let layers = length tw - low in
    let all : Layered tw c.args.width (length c.args.entries.now) =
    record { wide = c.requires.wide; some = c.requires.some; are = c.requires.layers } in
    let some : 1 ≤ layers = omega (arith, c.loop-low.invariant.below, c.requires.group) in
    let within : low + layers ≤ length tw = omega (arith, c.loop-low.invariant.below) in
    let small : length c.args.entries.now < 2 ^ 64 = omega arith in
    let half = length (factors_at tw 0) in
    let halves = entries-halves all (omega (arith, some, within)) in
    let left : length tw ≡ (length tw - low) + low = omega (arith, c.loop-low.invariant.below) in
    let both : (length tw - low + low) * half ≡ (length tw - low) * half + low * half =
    omega arith in
    pass-room all low layers some within
    small (count_of c.args.butterflies.now) (count_of c.loop-low.butterflies) (length tw - low)
    low (length c.loop-low.entries) c.loop-low.auto.entries
    left (omega (arith, within)) c.requires.room
    (omega (arith, c.loop-low.invariant.count half halves, both, ap (λ n. n * half) left))

pub returns-clause-values : goal.returns-clause-values
returns-clause-values g c =
    let tw = c.args.inverses.now in
    let low = c.loop-low.low in
    let layers = length tw - low in
    let all : Layered tw c.args.width (length c.args.entries.now) =
    record { wide = c.requires.wide; some = c.requires.some; are = c.requires.layers } in
    let some : 1 ≤ layers = omega (arith, c.loop-low.invariant.below, c.requires.group) in
    let within : low + layers ≤ length tw = omega (arith, c.loop-low.invariant.below) in
    let small : length c.args.entries.now < 2 ^ 64 = omega arith in
    let lower = total g.F.Operations.ops in
    let upper = scaled_difference g.F.Operations.ops in
    let fs = factors_at tw in
    let part = take layers (drop low tw) in
    let old = c.args.entries.now in
    let made =
    ap (in_order lower upper (λ s. s) (1 * 2 ^ low % 18446744073709551616 * c.args.width)
    (factors_at part) (length part)) c.loop-low.invariant.values
    ∙ pass-ascending all low layers some within small lower upper old in
    let whole : low + layers ≡ length tw = omega (arith, c.loop-low.invariant.below) in
    c.apply_pass-2.ensures.values ∙ ap (map (λ a. g.F.Operations.ops.mul a c.args.scale))
    (made ∙ ap (λ m. ascending lower upper c.args.width fs m old) whole)

pub returns-clause-count : goal.returns-clause-count
returns-clause-count g c = λ half e.
    let tw = c.args.inverses.now in
    let low = c.loop-low.low in
    let layers = length tw - low in
    let all : Layered tw c.args.width (length c.args.entries.now) =
    record { wide = c.requires.wide; some = c.requires.some; are = c.requires.layers } in
    let some : 1 ≤ layers = omega (arith, c.loop-low.invariant.below, c.requires.group) in
    let within : low + layers ≤ length tw = omega (arith, c.loop-low.invariant.below) in
    let small : length c.args.entries.now < 2 ^ 64 = omega arith in
    let whole : low + layers ≡ length tw = omega (arith, c.loop-low.invariant.below) in
    omega (
      arith,
      c.apply_pass-2.ensures.count half (c.loop-low.auto.entries ∙ e),
      pass-count all low layers some within small half,
      ap (λ m. m * half) whole,
      c.loop-low.invariant.count half e,
    )
