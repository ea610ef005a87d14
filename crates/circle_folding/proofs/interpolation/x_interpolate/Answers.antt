use Rattle.std.proofs.Common.{◌≡◌, ◌+◌, ◌*◌, ◌%◌, ◌≤◌, ◌^◌, All, length, map, take, drop, ◌∙◌, refl}
use Rattle.std.proofs.Common.{sym, ap, subst, arith}
use Rattle.std.proofs.lemmas.Bool.{false≢true}
use Rattle.std.proofs.lemmas.List.Elements.{All-from_recursion, recursion_from_All}
use Rattle.circle_field.specs.Field.{nth_power, two}
use Rattle.circle_domain.specs.Order.{coset}
use Rattle.circle_folding.specs.Interpolation.{multiples, block_factors}
use Rattle.circle_domain.proofs.Powers.{pow_injective, pow_within}
use Rattle.circle_folding.proofs.Lengths.{length-multiples}
use Rattle.circle_folding.proofs.Standard.{shifted-one, found-values, others-zero, only-ones}
use Rattle.circle_folding.proofs.Standard.{half-power-inverse}
use Rattle.circle_folding.proofs.interpolation.x_interpolate.Goals as goal

pub log2_strict-log_points-requires : goal.log2_strict-log_points-requires
log2_strict-log_points-requires g c = (c.requires.0, c.requires.1)

pub overflow_shl-log_len : goal.overflow_shl-log_len
overflow_shl-log_len g c =
    omega (arith, c.requires.2, c.requires.3, g.met.F.ComplexExtendable.at_most_62)

pub all_multiples-requires : goal.all_multiples-requires
all_multiples-requires g c =
    let m = c.requires.0 in
    let log : c.log2_strict-log_points.result ≡ m =
    c.log2_strict-log_points.ensures.only m (omega (arith, c.requires.1)) in
    record {
      length = c.requires.1 ∙ ap (λ n. 2 ^ n) (sym log);
      in_group =
          omega (arith, log, c.requires.3);
    }

pub split_at-requires : goal.split_at-requires
split_at-requires g c =
    let m = c.requires.0 in
    let log : c.log2_strict-log_points.result ≡ m =
    c.log2_strict-log_points.ensures.only m (omega (arith, c.requires.1)) in
    let long : length c.deref.result.now ≡ 2 ^ m =
    ap length (c.deref.ensures.value ∙ c.in_ok-multiples.ensures)
    ∙ length-multiples g.EF.Operations.ops g.EF.ExtensionField.embed c.log2_strict-log_points.result
    _ c.args.word.now (c.requires.1 ∙ ap (λ n. 2 ^ n) (sym log)) ∙ ap (λ n. 2 ^ n) log in
    omega (
      arith,
      long,
      shifted-one c.args.log_len m g.F.ComplexExtendable.CIRCLE_TWO_ADICITY
          c.requires.2 c.requires.3 g.met.F.ComplexExtendable.at_most_62,
      pow_within
          c.args.log_len m c.requires.2,
    )

pub returns-then-not-are_zero-clause-none : goal.returns-then-not-are_zero-clause-none
returns-then-not-are_zero-clause-none g c m long span =
    let k = g.F.Operations.ops in
    let l = g.EF.Operations.ops in
    let embed = g.EF.ExtensionField.embed in
    let gen = g.F.ComplexExtendable.generators in
    let word = c.args.word.now in
    let made = c.deref.result.now in
    let b = c.args.log_len in
    let log : c.log2_strict-log_points.result ≡ m =
    c.log2_strict-log_points.ensures.only m (omega (arith, long)) in
    let same : c.requires.0 ≡ m = pow_injective c.requires.0 m (sym c.requires.1 ∙ long) in
    let fits : m + 2 ≤ g.F.ComplexExtendable.CIRCLE_TWO_ADICITY =
    omega (arith, same, c.requires.3) in
    let few : b ≤ m = omega (arith, same, c.requires.2) in
    let shift : 1 * 2 ^ b % 2 ^ 64 ≡ 2 ^ b =
    shifted-one b m g.F.ComplexExtendable.CIRCLE_TWO_ADICITY few fits
    g.met.F.ComplexExtendable.at_most_62 in
    let is_made : made ≡ multiples l embed m
    (map k.inv (block_factors k m (map (λ p. p.x) (coset k gen m (gen (m + 2)))))) word =
    c.deref.ensures.value ∙ c.in_ok-multiples.ensures
    ∙ ap
    (λ n. multiples l embed n
    (map k.inv (block_factors k n (map (λ p. p.x) (coset k gen n (gen (n + 2)))))) word) log in
    let zeros =
    others-zero g.F.Operations.laws g.EF.Operations.laws g.met.EF.ExtensionField.embedding
    g.met.F.ComplexExtendable.generators_law m fits word made long is_made b few span.0
    span.1 in
    let all : All (λ z. z ≡ l.zero) c.split_at.result.1.now =
    subst (All (λ z. z ≡ l.zero)) (sym (c.split_at.ensures.back ∙ ap (λ n. drop n made) shift))
    (All-from_recursion (λ z. z ≡ l.zero) (drop (2 ^ b) made) zeros) in
    false≢true (c.if-not-are_zero.ensures.1 all)

pub returns-clause-values : goal.returns-clause-values
returns-clause-values g c m long =
    let k = g.F.Operations.ops in
    let l = g.EF.Operations.ops in
    let embed = g.EF.ExtensionField.embed in
    let gen = g.F.ComplexExtendable.generators in
    let word = c.args.word.now in
    let made = c.deref.result.now in
    let b = c.args.log_len in
    let log : c.log2_strict-log_points.result ≡ m =
    c.log2_strict-log_points.ensures.only m (omega (arith, long)) in
    let same : c.requires.0 ≡ m = pow_injective c.requires.0 m (sym c.requires.1 ∙ long) in
    let fits : m + 2 ≤ g.F.ComplexExtendable.CIRCLE_TWO_ADICITY =
    omega (arith, same, c.requires.3) in
    let few : b ≤ m = omega (arith, same, c.requires.2) in
    let shift : 1 * 2 ^ b % 2 ^ 64 ≡ 2 ^ b =
    shifted-one b m g.F.ComplexExtendable.CIRCLE_TWO_ADICITY few fits
    g.met.F.ComplexExtendable.at_most_62 in
    let is_made : made ≡ multiples l embed m
    (map k.inv (block_factors k m (map (λ p. p.x) (coset k gen m (gen (m + 2)))))) word =
    c.deref.ensures.value ∙ c.in_ok-multiples.ensures
    ∙ ap
    (λ n. multiples l embed n
    (map k.inv (block_factors k n (map (λ p. p.x) (coset k gen n (gen (n + 2)))))) word) log in
    let factor : c.div_2exp_u64-factor.result ≡ k.mul k.one (nth_power k (k.inv (two k)) m) =
    c.div_2exp_u64-factor.ensures
    ∙ ap (λ v. k.mul v (nth_power k (k.inv (two k)) c.log2_strict-log_points.result))
    (c.ONE.ensures ∙ g.met.F.Field.one_law)
    ∙ ap (λ n. k.mul k.one (nth_power k (k.inv (two k)) n)) log in
    let unit =
    half-power-inverse g.F.Operations.laws g.EF.Operations.laws
    g.met.EF.ExtensionField.embedding g.met.F.ComplexExtendable.generators_law m
    c.div_2exp_u64-factor.result factor in
    let scaled : c.in_ok-scaled.field-0.items ≡ map (l.mul (embed c.div_2exp_u64-factor.result))
    (take (2 ^ b) made) =
    c.in_ok-scaled.ensures ∙ ap (map (l.mul (embed c.div_2exp_u64-factor.result)))
    (c.split_at.ensures.front ∙ ap (λ n. take n made) shift) in
    let all : All (λ z. z ≡ l.zero) c.split_at.result.1.now = c.if-not-are_zero.ensures.0 refl in
    let zeros =
    recursion_from_All (λ z. z ≡ l.zero) (drop (2 ^ b) made)
    (subst (All (λ z. z ≡ l.zero)) (c.split_at.ensures.back ∙ ap (λ n. drop n made) shift)
    all) in
    found-values g.F.Operations.laws g.EF.Operations.laws g.met.EF.ExtensionField.embedding
    g.met.F.ComplexExtendable.generators_law m fits word made long is_made b few
    (embed c.div_2exp_u64-factor.result) c.in_ok-scaled.field-0.items unit zeros scaled

pub returns-clause-only : goal.returns-clause-only
returns-clause-only g c m d long has =
    let k = g.F.Operations.ops in
    let l = g.EF.Operations.ops in
    let embed = g.EF.ExtensionField.embed in
    let gen = g.F.ComplexExtendable.generators in
    let word = c.args.word.now in
    let made = c.deref.result.now in
    let b = c.args.log_len in
    let log : c.log2_strict-log_points.result ≡ m =
    c.log2_strict-log_points.ensures.only m (omega (arith, long)) in
    let same : c.requires.0 ≡ m = pow_injective c.requires.0 m (sym c.requires.1 ∙ long) in
    let fits : m + 2 ≤ g.F.ComplexExtendable.CIRCLE_TWO_ADICITY =
    omega (arith, same, c.requires.3) in
    let few : b ≤ m = omega (arith, same, c.requires.2) in
    let shift : 1 * 2 ^ b % 2 ^ 64 ≡ 2 ^ b =
    shifted-one b m g.F.ComplexExtendable.CIRCLE_TWO_ADICITY few fits
    g.met.F.ComplexExtendable.at_most_62 in
    let is_made : made ≡ multiples l embed m
    (map k.inv (block_factors k m (map (λ p. p.x) (coset k gen m (gen (m + 2)))))) word =
    c.deref.ensures.value ∙ c.in_ok-multiples.ensures
    ∙ ap
    (λ n. multiples l embed n
    (map k.inv (block_factors k n (map (λ p. p.x) (coset k gen n (gen (n + 2)))))) word) log in
    let factor : c.div_2exp_u64-factor.result ≡ k.mul k.one (nth_power k (k.inv (two k)) m) =
    c.div_2exp_u64-factor.ensures
    ∙ ap (λ v. k.mul v (nth_power k (k.inv (two k)) c.log2_strict-log_points.result))
    (c.ONE.ensures ∙ g.met.F.Field.one_law)
    ∙ ap (λ n. k.mul k.one (nth_power k (k.inv (two k)) n)) log in
    let unit =
    half-power-inverse g.F.Operations.laws g.EF.Operations.laws
    g.met.EF.ExtensionField.embedding g.met.F.ComplexExtendable.generators_law m
    c.div_2exp_u64-factor.result factor in
    let scaled : c.in_ok-scaled.field-0.items ≡ map (l.mul (embed c.div_2exp_u64-factor.result))
    (take (2 ^ b) made) =
    c.in_ok-scaled.ensures ∙ ap (map (l.mul (embed c.div_2exp_u64-factor.result)))
    (c.split_at.ensures.front ∙ ap (λ n. take n made) shift) in
    only-ones g.F.Operations.laws g.EF.Operations.laws g.met.EF.ExtensionField.embedding
    g.met.F.ComplexExtendable.generators_law m fits word made long is_made b few
    d has (embed c.div_2exp_u64-factor.result) unit ∙ sym scaled
