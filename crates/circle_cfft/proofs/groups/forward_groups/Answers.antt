use Rattle.std.proofs.Common.{rules, ◌≡◌, ◌≤◌, ◌<◌, ◌+◌, ◌-◌, ◌*◌, ◌^◌, ◌∙◌, length, sym, ap, refl}
use Rattle.std.proofs.Common.{arith}
use Rattle.circle_cfft.specs.Butterflies.{count_of, plus_multiple, minus_multiple}
use Rattle.circle_cfft.specs.Passes.{factors_at, descending}
use Rattle.circle_cfft.proofs.GroupOrders.{Layered, few-layers, length-part, entries-halves}
use Rattle.circle_cfft.proofs.GroupOrders.{layers-part, pass-descending, pass-room, pass-count}
use Rattle.circle_cfft.proofs.groups.forward_groups.Goals as goal

pub loop-low-init : goal.loop-low-init
loop-low-init g c = record { below = omega arith; values = refl; count = λ half e. refl }

pub offset_bounds-twiddles-low : goal.offset_bounds-twiddles-low
offset_bounds-twiddles-low g c =
    let inside : c.saturating_sub-low.result ≤ length c.args.twiddles.now =
    omega (arith, c.saturating_sub-low.ensures, c.loop-low.invariant.below) in
    search rules

pub slice_bounds-layers-end : goal.slice_bounds-layers-end
slice_bounds-layers-end g c =
    let ordered : c.saturating_sub-low.result ≤ c.loop-low.low =
    omega (arith, c.saturating_sub-low.ensures) in
    let inside : c.loop-low.low ≤ length c.args.twiddles.now = c.loop-low.invariant.below in
    search rules

pub overflow_shl-low : goal.overflow_shl-low
overflow_shl-low g c =
    let tw = c.args.twiddles.now in
    let high = c.loop-low.low in
    let low = c.saturating_sub-low.result in
    let all : Layered tw c.args.width (length c.args.entries.now) =
    record { wide = c.requires.wide; some = c.requires.some; are = c.requires.layers } in
    let some : 1 ≤ high - low =
    omega (arith, c.saturating_sub-low.ensures, c.loop-low-test.true, c.requires.group) in
    let within : low + (high - low) ≤ length tw = omega (arith, some, c.loop-low.invariant.below) in
    let small : length c.args.entries.now < 2 ^ 64 = omega arith in
    few-layers all low (omega (arith, some, within)) small

pub apply_pass-requires-clause-some_layer : goal.apply_pass-requires-clause-some_layer
apply_pass-requires-clause-some_layer g c =
    let tw = c.args.twiddles.now in
    let high = c.loop-low.low in
    let low = c.saturating_sub-low.result in
    let all : Layered tw c.args.width (length c.args.entries.now) =
    record { wide = c.requires.wide; some = c.requires.some; are = c.requires.layers } in
    let some : 1 ≤ high - low =
    omega (arith, c.saturating_sub-low.ensures, c.loop-low-test.true, c.requires.group) in
    let within : low + (high - low) ≤ length tw = omega (arith, some, c.loop-low.invariant.below) in
    let small : length c.args.entries.now < 2 ^ 64 = omega arith in
    omega (arith, length-part tw low (high - low) within, some)

pub apply_pass-requires-clause-layers : goal.apply_pass-requires-clause-layers
apply_pass-requires-clause-layers g c = λ l inside.
    let tw = c.args.twiddles.now in
    let high = c.loop-low.low in
    let low = c.saturating_sub-low.result in
    let all : Layered tw c.args.width (length c.args.entries.now) =
    record { wide = c.requires.wide; some = c.requires.some; are = c.requires.layers } in
    let some : 1 ≤ high - low =
    omega (arith, c.saturating_sub-low.ensures, c.loop-low-test.true, c.requires.group) in
    let within : low + (high - low) ≤ length tw = omega (arith, some, c.loop-low.invariant.below) in
    let small : length c.args.entries.now < 2 ^ 64 = omega arith in
    layers-part all low (high - low) some within small l inside ∙ sym c.loop-low.auto.entries

pub apply_pass-requires-clause-room : goal.apply_pass-requires-clause-room
apply_pass-requires-clause-room g c =
    let tw = c.args.twiddles.now in
    let high = c.loop-low.low in
    let low = c.saturating_sub-low.result in
    let all : Layered tw c.args.width (length c.args.entries.now) =
    record { wide = c.requires.wide; some = c.requires.some; are = c.requires.layers } in
    let some : 1 ≤ high - low =
    omega (arith, c.saturating_sub-low.ensures, c.loop-low-test.true, c.requires.group) in
    let within : low + (high - low) ≤ length tw = omega (arith, some, c.loop-low.invariant.below) in
    let small : length c.args.entries.now < 2 ^ 64 = omega arith in
    let halves = entries-halves all (omega (arith, some, within)) in
    pass-room all low (high - low) some within
    small (count_of c.args.butterflies.now) (count_of c.loop-low.butterflies) high
    (length tw - high) (length c.loop-low.entries) c.loop-low.auto.entries
    (omega (arith, c.loop-low.invariant.below)) (omega arith) c.requires.room
    (c.loop-low.invariant.count (length (factors_at tw 0)) halves)

pub loop-low-smaller : goal.loop-low-smaller
loop-low-smaller g c =
    omega (arith, c.saturating_sub-low.ensures, c.loop-low-test.true, c.requires.group)

pub loop-low-preserved : goal.loop-low-preserved
loop-low-preserved g c =
    let tw = c.args.twiddles.now in
    let high = c.loop-low.low in
    let low = c.saturating_sub-low.result in
    let all : Layered tw c.args.width (length c.args.entries.now) =
    record { wide = c.requires.wide; some = c.requires.some; are = c.requires.layers } in
    let some : 1 ≤ high - low =
    omega (arith, c.saturating_sub-low.ensures, c.loop-low-test.true, c.requires.group) in
    let within : low + (high - low) ≤ length tw = omega (arith, some, c.loop-low.invariant.below) in
    let small : length c.args.entries.now < 2 ^ 64 = omega arith in
    let lower = plus_multiple g.F.Operations.ops in
    let upper = minus_multiple g.F.Operations.ops in
    let now = c.loop-low.entries in
    let whole : low + (high - low) ≡ high = omega (arith, some) in
    record {
      below = omega (arith, some, within);
      values =
          ap (descending lower upper c.args.width (factors_at tw) low) c.apply_pass.ensures.values
          ∙ pass-descending all low (high - low) some within small lower upper now
          ∙ ap (λ m. descending lower upper c.args.width (factors_at tw) m now) whole
          ∙ c.loop-low.invariant.values;
      count = λ half e.
          omega (
            arith,
            c.apply_pass.ensures.count half (c.loop-low.auto.entries ∙ e),
            pass-count all low (high - low) some within small half,
            ap (λ m. m * half) whole,
            c.loop-low.invariant.count half e,
          );
    }

pub returns-clause-values : goal.returns-clause-values
returns-clause-values g c =
    let k = g.F.Operations.ops in
    let end : c.loop-low.low ≡ 0 = omega (arith, c.loop-low-test.false) in
    ap
    (λ m. descending (plus_multiple k) (minus_multiple k) c.args.width
    (factors_at c.args.twiddles.now) m c.loop-low.entries) (sym end)
    ∙ c.loop-low.invariant.values

pub returns-clause-count : goal.returns-clause-count
returns-clause-count g c = λ half e.
    let end : c.loop-low.low ≡ 0 = omega (arith, c.loop-low-test.false) in
    let none : c.loop-low.low * half ≡ 0 = ap (λ m. m * half) end ∙ omega arith in
    omega (arith, none, c.loop-low.invariant.count half e)
