use Rattle.std.proofs.Common.{◌≡◌, ◌≤◌, ◌+◌, ◌-◌, ◌*◌, ◌^◌, ◌%◌, ◌++◌, [], ◌∷◌, ◌∙◌, length, map}
use Rattle.std.proofs.Common.{take, drop, sym, ap, arith, suc, append_assoc, append-nil}
use Rattle.std.proofs.Math.Nat.{pow-suc}
use Rattle.std.proofs.lemmas.List.{map-append}
use Rattle.circle_domain.proofs.Powers.{pow_within}
use Rattle.circle_domain.proofs.Twiddles.{even-pow}
use Rattle.circle_cfft.specs.Twiddles.{halving_parts}
use Rattle.circle_cfft.proofs.TwiddleRows.{shifted, half-within, length-first_part}
use Rattle.circle_cfft.proofs.twiddles.split_layers.Goals as goal

pub slice_bounds-first_layer-end : goal.slice_bounds-first_layer-end
slice_bounds-first_layer-end g c =
    shifted (c.args.log_n - 2) (omega (arith, c.requires.small))
    ∙ sym (length-first_part c.args.log_n c.args.higher.now c.requires.eights c.requires.small
    c.requires.count)

pub first_layer-requires-clause-pairs : goal.first_layer-requires-clause-pairs
first_layer-requires-clause-pairs g c =
    ap (λ n. n % 2)
    (length-first_part c.args.log_n c.args.higher.now c.requires.eights c.requires.small
    c.requires.count)
    ∙ even-pow (c.args.log_n - 2) (omega (arith, c.requires.eights))

pub first_layer-requires-clause-small : goal.first_layer-requires-clause-small
first_layer-requires-clause-small g c =
    let m = c.args.log_n - 2 in
    let low : m ≤ 62 = omega (arith, c.requires.small) in
    omega (
      arith,
      length-first_part c.args.log_n c.args.higher.now c.requires.eights c.requires.small
          c.requires.count,
      pow_within m 62 low,
    )

pub split_at-requires : goal.split_at-requires
split_at-requires g c =
    let j = c.args.log_n - 1 - c.loop-layer.layer in
    let e : c.args.log_n - c.loop-layer.layer ≡ suc j = omega (arith, c.loop-layer-test.true) in
    omega (
      arith,
      shifted j (omega (arith, c.requires.small)),
      half-within
          j (length c.loop-layer.rest.now) (c.loop-layer.invariant.long ∙ ap (λ i. 2 ^ i) e),
    )

pub loop-layer-preserved : goal.loop-layer-preserved
loop-layer-preserved g c =
    let n = c.args.log_n in
    let rest = c.loop-layer.rest.now in
    let after = c.split_at.result.1.now in
    let made = c.loop-layer.layers.items in
    let v = c.in_ok-from_slice.field-0 in
    let j = n - 1 - c.loop-layer.layer in
    let e : n - c.loop-layer.layer ≡ suc j = omega (arith, c.loop-layer-test.true) in
    let f : n - (c.loop-layer.layer + 1) ≡ j = omega arith in
    let size : 1 * 2 ^ j % 18446744073709551616 ≡ 2 ^ j =
    shifted j (omega (arith, c.requires.small)) in
    let count : length rest + 1 ≡ 2 ^ suc j = c.loop-layer.invariant.long ∙ ap (λ i. 2 ^ i) e in
    let part : v.items ≡ take (2 ^ j) rest = c.in_ok-from_slice.ensures.items
    ∙ c.split_at.ensures.front ∙ ap (λ i. take i rest) size in
    let others : after ≡ drop (2 ^ j) rest = c.split_at.ensures.back ∙ ap (λ i. drop i rest) size in
    record {
      long = let short : length after + 1 ≡ 2 ^ j =
          omega (arith, count, size, c.split_at.ensures.back_len, pow-suc 2 j) in
          short ∙ ap (λ i. 2 ^ i) (sym f);
      parts =
          ap (λ xs. map (λ w. w.items) xs ++ halving_parts (n - (c.loop-layer.layer + 1)) after)
          c.in_ok-push-2.ensures.items
          ∙ ap (λ xs. xs ++ halving_parts (n - (c.loop-layer.layer + 1)) after)
          (map-append (λ w. w.items) made (v ∷ []))
          ∙ append_assoc (map (λ w. w.items) made) (v.items ∷ [])
          (halving_parts (n - (c.loop-layer.layer + 1)) after)
          ∙ ap (λ i. map (λ w. w.items) made ++ (v.items ∷ halving_parts i after)) f
          ∙ ap (λ xs. map (λ w. w.items) made ++ (xs ∷ halving_parts j after)) part
          ∙ ap (λ xs. map (λ w. w.items) made ++ (take (2 ^ j) rest ∷ halving_parts j xs)) others
          ∙ ap (λ i. map (λ w. w.items) made ++ halving_parts i rest) (sym e)
          ∙ c.loop-layer.invariant.parts;
    }

pub returns : goal.returns
returns g c =
    let made = map (λ w. w.items) c.loop-layer.layers.items in
    let end : c.args.log_n - c.loop-layer.layer ≡ 0 = omega (arith, c.loop-layer-test.false) in
    sym (append-nil made) ∙ ap (λ i. made ++ halving_parts i c.loop-layer.rest.now) (sym end)
    ∙ c.loop-layer.invariant.parts
