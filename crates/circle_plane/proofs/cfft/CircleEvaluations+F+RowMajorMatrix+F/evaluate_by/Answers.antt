use Rattle.std.proofs.Common.{◌≡◌, ℕ, ◌-◌, ◌+◌, ◌*◌, ◌/◌, ◌%◌, ◌^◌, ◌<◌, ◌≤◌, ◌++◌, ◌∙◌, sym}
use Rattle.std.proofs.Common.{ap, refl, subst, take, drop, length, arith, rules}
use Rattle.std.proofs.Math.Nat.{mul-le-mul_right}
use Rattle.std.proofs.lemmas.Nat.{pow_pos}
use Rattle.circle_field.proofs.Inverses.{take-whole}
use Rattle.circle_commit.specs.Matrix.{rows_from}
use Rattle.circle_commit.specs.RowFacts.{length-rows_from}
use Rattle.circle_commit.specs.RowMajorMatrix.{rows, width_of, height_of, values_of, length-rows}
use Rattle.circle_commit.specs.RowMajorMatrix.{length-values}
use Rattle.circle_domain.specs.Domain.{log_size, shift_of}
use Rattle.circle_domain.specs.Layers.{copies, layer_factors}
use Rattle.circle_domain.proofs.Powers.{pow_injective, pow_order}
use Rattle.circle_domain.proofs.Stored.{whole, height}
use Rattle.circle_domain.proofs.Twiddles.{length-layer_factors}
use Rattle.circle_cfft.specs.Butterflies.{plus_multiple, minus_multiple}
use Rattle.circle_cfft.specs.Passes.{factors_at, descending, to_values}
use Rattle.circle_plane.specs.Coefficients.{Evaluates}
use Rattle.circle_plane.proofs.AllLayers.{copied-long, layer-entries}
use Rattle.circle_plane.proofs.Transformed.{evaluated}
use Rattle.circle_plane.proofs.cfft.CircleEvaluations+F+RowMajorMatrix+F.evaluate_by.Goals as goal

pub lowest_twiddles-requires-clause-within : goal.lowest_twiddles-requires-clause-within
lowest_twiddles-requires-clause-within g c =
    let power = c.log2_strict-log_height.ensures.power ∙ c.height.ensures in
    pow_order c.log2_strict-log_height.result (log_size c.args.domain)
    (omega (arith, power, c.requires.at_most_size))

pub copied_entries-requires-clause-at_most_size : goal.copied_entries-requires-clause-at_most_size
copied_entries-requires-clause-at_most_size g c =
    subst (λ i. height_of c.args.coeffs ≤ 2 ^ i) (sym c.log_n.ensures) c.requires.at_most_size

pub forward-requires-clause-some : goal.forward-requires-clause-some
forward-requires-clause-some g c =
    let width = width_of c.args.coeffs in
    let long = ap length c.deref_mut.ensures.value ∙ c.in_ok-entries.ensures.length in
    let some : 1 * width ≤ 2 ^ c.log_n.result * width = mul-le-mul_right width
    (pow_pos c.log_n.result) in
    omega (arith, long, some, c.args.coeffs.width_positive)

pub forward-requires-clause-layers : goal.forward-requires-clause-layers
forward-requires-clause-layers g c l lt =
    let k = g.F.Operations.ops in
    let gen = g.F.ComplexExtendable.generators in
    let n = log_size c.args.domain in
    let s = shift_of c.args.domain in
    let width = width_of c.args.coeffs in
    let h = c.log2_strict-log_height.result in
    let below : l < h =
    omega (arith, lt, ap length c.deref.ensures.value, c.in_ok-twiddles.ensures.count) in
    let power = c.log2_strict-log_height.ensures.power ∙ c.height.ensures in
    let within : h ≤ n = pow_order h n (omega (arith, power, c.requires.at_most_size)) in
    let ts = factors_at c.deref.result.now l in
    let read : ts ≡ layer_factors k gen n s l = ap (λ ws. factors_at ws l) c.deref.ensures.value
    ∙ c.in_ok-twiddles.ensures.factors l below in
    ap (λ w. length ts * (2 ^ l * w + 2 ^ l * w)) c.width-width.ensures
    ∙ layer-entries k gen n s width l ts (omega (arith, below, within))
    (ap length read ∙ length-layer_factors k gen n l s)
    ∙ ap (λ i. 2 ^ i * width) (sym c.log_n.ensures)
    ∙ sym (ap length c.deref_mut.ensures.value ∙ c.in_ok-entries.ensures.length)

pub forward-requires-clause-room : goal.forward-requires-clause-room
forward-requires-clause-room g c =
    let layers = length c.deref.result.now in
    let entries = length c.deref_mut.result.now in
    let power = c.log2_strict-log_height.ensures.power ∙ c.height.ensures in
    let within = pow_order c.log2_strict-log_height.result (log_size c.args.domain)
    (omega (arith, power, c.requires.at_most_size)) in
    let counted = ap length c.deref.ensures.value ∙ c.in_ok-twiddles.ensures.count in
    let few : layers ≤ 62 =
    omega (arith, counted, within, c.requires.in_group, g.met.F.ComplexExtendable.at_most_62) in
    let long = ap length c.deref_mut.ensures.value ∙ sym c.in_ok-entries.entries.ok.0 in
    let small : entries < 2 ^ 64 = omega (arith, long, c.in_ok-entries.entries.small) in
    c.requires.room (layers * entries) (omega (arith, mul-le-mul_right entries few, small))

pub new-requires-clause-whole : goal.new-requires-clause-whole
new-requires-clause-whole g c =
    let width = width_of c.args.coeffs in
    let old = c.in_ok-entries.entries in
    ap (λ w. old.len % w) c.width-width.ensures
    ∙ whole old.len (2 ^ c.log_n.result) width (old.ok.0 ∙ c.in_ok-entries.ensures.length)
    c.args.coeffs.width_positive

pub from_cfft_order-requires-clause-size : goal.from_cfft_order-requires-clause-size
from_cfft_order-requires-clause-size g c =
    let width = width_of c.args.coeffs in
    let old = c.in_ok-entries.entries in
    let new = c.forward.new.entries in
    sym (length-rows c.new.result) ∙ ap length c.new.ensures.content
    ∙ length-rows_from c.width-width.result (old.len / c.width-width.result)
    (take old.len (new ++ drop (length new) old.items))
    ∙ ap (λ w. old.len / w) c.width-width.ensures
    ∙ height old.len (2 ^ c.log_n.result) width (old.ok.0 ∙ c.in_ok-entries.ensures.length)
    c.args.coeffs.width_positive
    ∙ ap (λ i. 2 ^ i) c.log_n.ensures

pub returns : goal.returns
returns g c =
    let k = g.F.Operations.ops in
    let gen = g.F.ComplexExtendable.generators in
    let n = log_size c.args.domain in
    let s = shift_of c.args.domain in
    let coeffs = c.args.coeffs in
    let width = width_of coeffs in
    let h = c.log2_strict-log_height.result in
    let positive = coeffs.width_positive in
    let tall : height_of coeffs ≡ 2 ^ h =
    sym (c.log2_strict-log_height.ensures.power ∙ c.height.ensures) in
    let le : h ≤ n = pow_order h n (omega (arith, tall, c.requires.at_most_size)) in
    let stored = values_of coeffs in
    let stored_long : length stored ≡ 2 ^ h * width = length-values coeffs
    ∙ ap (λ t. t * width) tall in
    let copied = copies (2 ^ (n - h)) stored in
    let made : c.in_ok-entries.entries.items ≡ copied = c.in_ok-entries.ensures.copies h tall
    ∙ ap (λ i. copies (2 ^ (i - h)) stored) c.log_n.ensures in
    let old = c.in_ok-entries.entries in
    let long : length copied ≡ 2 ^ n * width = copied-long n h width stored le stored_long in
    let total : old.len ≡ 2 ^ n * width = old.ok.0 ∙ ap length made ∙ long in
    let wide : c.width-width.result ≡ width = c.width-width.ensures in
    let seen = c.deref.result.now in
    let count : length seen ≡ h = ap length c.deref.ensures.value ∙ c.in_ok-twiddles.ensures.count
    in
    let read : (l : ℕ) → l < h → factors_at seen l ≡ layer_factors k gen n s l =
    λ l below. ap (λ ws. factors_at ws l) c.deref.ensures.value
    ∙ c.in_ok-twiddles.ensures.factors l below in
    let new = c.forward.new.entries in
    let done = descending (plus_multiple k) (minus_multiple k) width (factors_at seen) h copied in
    let new_is : new ≡ done =
    c.forward.ensures.values ∙ ap (λ w. to_values k w seen c.deref_mut.result.now) wide
    ∙ ap (λ i. descending (plus_multiple k) (minus_multiple k) width (factors_at seen) i
    c.deref_mut.result.now) count
    ∙ ap (descending (plus_multiple k) (minus_multiple k) width (factors_at seen) h)
    (c.deref_mut.ensures.value ∙ made) in
    let kept : length new ≡ length old.items = c.forward.auto.entries
    ∙ ap length c.deref_mut.ensures.value in
    let all : take old.len (new ++ drop (length new) old.items) ≡ new =
    take-whole old.len new old.items old.ok.0 kept in
    let r = c.new.result in
    let content : rows r ≡ rows_from width (2 ^ n) done =
    c.new.ensures.content
    ∙ ap (λ w. rows_from w (old.len / w) (take old.len (new ++ drop (length new) old.items)))
    wide
    ∙ ap (λ t. rows_from width t (take old.len (new ++ drop (length new) old.items)))
    (height old.len (2 ^ n) width total positive)
    ∙ ap (rows_from width (2 ^ n)) (all ∙ new_is) in
    let done_long : length done ≡ 2 ^ n * width = ap length (sym new_is) ∙ kept ∙ ap length made
    ∙ long in
    let made_is = evaluated g.F.Operations.laws g.met.F.ComplexExtendable.generators_law
    c.args.domain
    c.requires.in_group g.met.F.ComplexExtendable.at_most_62 c.args.domain.shift.on_circle width
    positive h stored done (rows r)
    (factors_at seen) c.requires.positive le stored_long long read refl done_long content in
    let entries : length c.deref_mut.result.now ≡ 2 ^ n * width =
    ap length (c.deref_mut.ensures.value ∙ made) ∙ long in
    let Counts = g.L.Layers.counts c.args.layers.now c.forward.new.self in
    record {
      domain = search rules;
      width = search rules;
      values =
          subst (λ m. Evaluates k gen c.args.domain width (rows coeffs) (rows m))
          (sym c.from_cfft_order.ensures.values)
          (subst (λ t. Evaluates k gen c.args.domain width (rows_from width t stored) (rows r))
          (sym tall) made_is);
      count = λ m power.
          subst (λ w. Counts w (2 ^ n * width) m) wide
          (subst (λ e. Counts c.width-width.result e m) entries
          (subst (λ i. Counts c.width-width.result (length c.deref_mut.result.now) i)
          (count ∙ pow_injective h m (sym tall ∙ power)) c.forward.ensures.count));
    }
