use Rattle.std.proofs.Common.{◌≡◌, ◌-◌, ◌<◌, ◌^◌, ◌∙◌, sym, ap, arith, suc, length, take, drop}
use Rattle.std.proofs.Common.{length-drop}
use Rattle.std.proofs.Math.Nat.{pow-suc}
use Rattle.std.proofs.lemmas.Nat.{pow_pos}
use Rattle.circle_domain.proofs.Powers.{pow_injective}
use Rattle.circle_folding.specs.Interpolation.{multiples}
use Rattle.circle_folding.proofs.Halves.{half-power}
use Rattle.circle_folding.proofs.Lengths.{length-multiples}
use Rattle.circle_folding.proofs.Parts.{joined-multiples, rest-whole}
use Rattle.circle_folding.proofs.interpolation.+to_multiples.Goals as goal

pub returns-then-half-eq0 : goal.returns-then-half-eq0
returns-then-half-eq0 g t c m e =
    let none : m ≡ 0 = pow_injective m 0 (omega (arith, e, c.if-half-eq0.true, pow_pos m)) in
    ap (λ n. multiples g.EF.Operations.ops g.EF.ExtensionField.embed n c.args.inverses.now
    c.args.values.now) (sym none)

pub to_multiples-requires : goal.to_multiples-requires
to_multiples-requires g t c =
    let half = half-power (length c.args.values.now) c.requires.0 c.requires.1
    c.if-half-eq0.false in
    let smaller : length c.split_at_mut-low.result.0.now < length c.args.values.now =
    omega (arith, c.split_at_mut-low.ensures.front_len, half.3, c.if-half-eq0.false) in
    λ κs outlives. (
      omega (arith, smaller, c.decreases),
      (
        outlives.0,
        (
          outlives.1,
          (
            half.0,
            c.split_at_mut-low.ensures.front_len ∙ half.2,
            omega (arith, c.split_at.ensures.front_len, half.2, pow_pos half.0),
          ),
        ),
      ),
    )

pub to_multiples-requires-2 : goal.to_multiples-requires-2
to_multiples-requires-2 g t c =
    let half = half-power (length c.args.values.now) c.requires.0 c.requires.1
    c.if-half-eq0.false in
    let smaller : length c.split_at_mut-low.result.1.now < length c.args.values.now =
    omega (arith, c.split_at_mut-low.ensures.back_len, half.3, c.if-half-eq0.false) in
    λ κs outlives. (
      omega (arith, smaller, c.decreases),
      (
        outlives.0,
        (
          outlives.1,
          (
            half.0,
            omega (arith, c.split_at_mut-low.ensures.back_len, half.3, half.2),
            omega (
              arith,
              c.split_at.ensures.back_len,
              ap length (rest-whole c.args.inverses.now),
              length-drop 1 c.args.inverses.now,
              c.requires.2,
              c.requires.1,
              half.3,
              half.2,
              pow_pos half.0,
            ),
          ),
        ),
      ),
    )

pub combine-requires : goal.combine-requires
combine-requires g t c =
    let half = half-power (length c.args.values.now) c.requires.0 c.requires.1
    c.if-half-eq0.false in
    let l = g.EF.Operations.ops in
    let embed = g.EF.ExtensionField.embed in
    let first : length c.split_at_mut-low.result.0.now ≡ 2 ^ half.0 =
    c.split_at_mut-low.ensures.front_len ∙ half.2 in
    let second : length c.split_at_mut-low.result.1.now ≡ 2 ^ half.0 =
    omega (arith, c.split_at_mut-low.ensures.back_len, half.3, half.2) in
    ap length (c.to_multiples.ensures half.0 first)
    ∙ length-multiples l embed half.0 c.split_at.result.0.now c.split_at_mut-low.result.0.now
    first
    ∙ sym (ap length (c.to_multiples-2.ensures half.0 second)
    ∙ length-multiples l embed half.0 c.split_at.result.1.now c.split_at_mut-low.result.1.now
    second)

pub returns : goal.returns
returns g t c m e =
    let half = half-power (length c.args.values.now) c.requires.0 c.requires.1
    c.if-half-eq0.false in
    let l = g.EF.Operations.ops in
    let embed = g.EF.ExtensionField.embed in
    let r = half.0 in
    let is = c.args.inverses.now in
    let more : m ≡ suc r =
    pow_injective m (suc r) (omega (arith, e, half.3, half.2, pow-suc 2 r)) in
    let first : length c.split_at_mut-low.result.0.now ≡ 2 ^ r =
    c.split_at_mut-low.ensures.front_len ∙ half.2 in
    let second : length c.split_at_mut-low.result.1.now ≡ 2 ^ r =
    omega (arith, c.split_at_mut-low.ensures.back_len, half.3, half.2) in
    joined-multiples l embed m r c.args.inverses.now c.split_at.result.0.now c.split_at.result.1.now
    c.args.values.now c.split_at_mut-low.result.0.now c.split_at_mut-low.result.1.now
    c.to_multiples.new.values c.to_multiples-2.new.values c.combine.new.lows c.combine.new.highs
    c.index-inverses-0.result
    more (omega (arith, c.requires.2, c.requires.1, half.3, half.2, pow_pos r))
    c.index-inverses-0.is
    (c.split_at.ensures.front ∙ ap (λ n. take (n - 1) (take (length is - 1) (drop 1 is))) half.2
    ∙ ap (take (2 ^ r - 1)) (rest-whole is))
    (c.split_at.ensures.back ∙ ap (λ n. drop (n - 1) (take (length is - 1) (drop 1 is))) half.2
    ∙ ap (drop (2 ^ r - 1)) (rest-whole is))
    (c.split_at_mut-low.ensures.front ∙ ap (λ n. take n c.args.values.now) half.2)
    (c.split_at_mut-low.ensures.back ∙ ap (λ n. drop n c.args.values.now) half.2)
    (c.to_multiples.ensures r first) (c.to_multiples-2.ensures r second) c.combine.ensures.low
    c.combine.ensures.high
