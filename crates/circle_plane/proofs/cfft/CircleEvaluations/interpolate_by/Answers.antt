use Rattle.std.proofs.Common.{◌≡◌, ℕ, ◌+◌, ◌*◌, ◌/◌, ◌^◌, ◌<◌, ◌≤◌, ◌%◌, ◌++◌, ◌∙◌, sym, ap}
use Rattle.std.proofs.Common.{subst, map, take, drop, length, arith, All}
use Rattle.std.proofs.Math.Nat.{mul-le-mul_right}
use Rattle.std.proofs.lemmas.List.{length-map}
use Rattle.std.proofs.lemmas.Nat.{pow_pos}
use Rattle.circle_field.specs.Field.{two, nth_power}
use Rattle.circle_field.proofs.Inverses.{take-whole}
use Rattle.circle_commit.specs.Matrix.{rows_from}
use Rattle.circle_commit.specs.RowMajorMatrix.{rows, width_of, rows-width}
use Rattle.circle_domain.specs.Domain.{log_size, shift_of}
use Rattle.circle_domain.specs.Layers.{layer_factors}
use Rattle.circle_domain.proofs.TwoPowers.{inverse_power}
use Rattle.circle_domain.proofs.Stored.{whole, height}
use Rattle.circle_domain.proofs.Twiddles.{length-layer_factors, made-count}
use Rattle.circle_cfft.specs.Butterflies.{total, scaled_difference}
use Rattle.circle_cfft.specs.Passes.{factors_at, ascending, to_coefficients}
use Rattle.circle_plane.proofs.AllLayers.{factors-made, layer-entries}
use Rattle.circle_plane.proofs.Transformed.{interpolated}
use Rattle.circle_plane.proofs.cfft.CircleEvaluations.interpolate_by.Goals as goal

pub backward-requires-clause-layers : goal.backward-requires-clause-layers
backward-requires-clause-layers g c l lt =
    let k = g.F.Operations.ops in
    let gen = g.F.ComplexExtendable.generators in
    let n = log_size c.args.self.domain in
    let s = shift_of c.args.self.domain in
    let values = c.args.self.values in
    let width = g.M.MatrixShape.width values in
    let items = c.in_ok-inverses.inverses.items in
    let f = λ (i : ℕ). map k.inv (layer_factors k gen n s i) in
    let all = made-count (λ w. w.items) f items n c.in_ok-inverses.ensures in
    let below : l < n = omega (arith, lt, ap length c.deref.ensures.value, all) in
    let ts = factors_at c.deref.result.now l in
    let read : ts ≡ f l = ap (λ ws. factors_at ws l) c.deref.ensures.value
    ∙ factors-made f items n l c.in_ok-inverses.ensures below in
    let count = ap length read ∙ length-map (layer_factors k gen n s l) k.inv
    ∙ length-layer_factors k gen n l s in
    ap (λ w. length ts * (2 ^ l * w + 2 ^ l * w)) c.width-width.ensures
    ∙ layer-entries k gen n s width l ts below count
    ∙ ap (λ h. h * width) (sym c.args.self.row_for_each_point)
    ∙ sym (ap length c.deref_mut.ensures.value ∙ c.in_ok-entries.ensures.length)

pub backward-requires-clause-some : goal.backward-requires-clause-some
backward-requires-clause-some g c =
    let n = log_size c.args.self.domain in
    let values = c.args.self.values in
    let width = g.M.MatrixShape.width values in
    let long : length c.deref_mut.result.now ≡ 2 ^ n * width =
    ap length c.deref_mut.ensures.value ∙ c.in_ok-entries.ensures.length
    ∙ ap (λ h. h * width) c.args.self.row_for_each_point in
    let some : 1 * width ≤ 2 ^ n * width = mul-le-mul_right width (pow_pos n) in
    omega (arith, long, some, g.met.M.Matrix.width_positive values)

pub backward-requires-clause-room : goal.backward-requires-clause-room
backward-requires-clause-room g c =
    let n = log_size c.args.self.domain in
    let layers = length c.deref.result.now in
    let entries = length c.deref_mut.result.now in
    let f =
    λ (i : ℕ). map g.F.Operations.ops.inv
    (layer_factors g.F.Operations.ops g.F.ComplexExtendable.generators n
    (shift_of c.args.self.domain) i) in
    let counted = ap length c.deref.ensures.value
    ∙ made-count (λ w. w.items) f c.in_ok-inverses.inverses.items n c.in_ok-inverses.ensures in
    let few : layers ≤ 62 =
    omega (arith, counted, c.requires.in_group, g.met.F.ComplexExtendable.at_most_62) in
    let long = ap length c.deref_mut.ensures.value ∙ sym c.in_ok-entries.entries.ok.0 in
    let small : entries < 2 ^ 64 = omega (arith, long, c.in_ok-entries.entries.small) in
    c.requires.room (layers * entries) (omega (arith, mul-le-mul_right entries few, small))

pub new-requires-clause-whole : goal.new-requires-clause-whole
new-requires-clause-whole g c =
    let values = c.args.self.values in
    let old = c.in_ok-entries.entries in
    ap (λ w. old.len % w) c.width-width.ensures
    ∙ whole old.len (g.M.MatrixShape.height values) (g.M.MatrixShape.width values)
    (old.ok.0 ∙ c.in_ok-entries.ensures.length) (g.met.M.Matrix.width_positive values)

pub returns : goal.returns
returns g c =
    let k = g.F.Operations.ops in
    let gen = g.F.ComplexExtendable.generators in
    let n = log_size c.args.self.domain in
    let s = shift_of c.args.self.domain in
    let values = c.args.self.values in
    let width = g.M.MatrixShape.width values in
    let old = c.in_ok-entries.entries in
    let items = c.in_ok-inverses.inverses.items in
    let f = λ (i : ℕ). map k.inv (layer_factors k gen n s i) in
    let laws = g.F.Operations.laws in
    let gens = g.met.F.ComplexExtendable.generators_law in
    let on_circle = c.args.self.domain.shift.on_circle in
    let positive = g.met.M.Matrix.width_positive values in
    let tall = c.args.self.row_for_each_point in
    let entries_long : length old.items ≡ 2 ^ n * width = c.in_ok-entries.ensures.length
    ∙ ap (λ h. h * width) tall in
    let same : rows_from width (2 ^ n) old.items ≡ g.M.Matrix.rows values =
    ap (λ h. rows_from width h old.items) (sym tall) ∙ c.in_ok-entries.ensures.rows in
    let wide : c.width-width.result ≡ width = c.width-width.ensures in
    let total_len : old.len ≡ 2 ^ n * width = old.ok.0 ∙ entries_long in
    let new = c.backward.new.entries in
    let r = c.new.result in
    let factor = c.div_2exp_u64-scale.result in
    let seen = c.deref.result.now in
    let count : length seen ≡ n = ap length c.deref.ensures.value
    ∙ made-count (λ w. w.items) f items n c.in_ok-inverses.ensures in
    let read : (l : ℕ) → l < n → factors_at seen l ≡ f l =
    λ l below. ap (λ ws. factors_at ws l) c.deref.ensures.value
    ∙ factors-made f items n l c.in_ok-inverses.ensures below in
    let done = ascending (total k) (scaled_difference k) width (factors_at seen) n old.items in
    let made : new ≡ map (λ a. k.mul a factor) done =
    c.backward.ensures.values
    ∙ ap (λ w. map (λ a. k.mul a factor) (to_coefficients k w seen c.deref_mut.result.now)) wide
    ∙ ap
    (λ i. map (λ a. k.mul a factor)
    (ascending (total k) (scaled_difference k) width (factors_at seen) i
    c.deref_mut.result.now)) count
    ∙ ap
    (λ xs. map (λ a. k.mul a factor)
    (ascending (total k) (scaled_difference k) width (factors_at seen) n xs))
    c.deref_mut.ensures.value in
    let whole_new : take old.len (new ++ drop (length new) old.items) ≡ new =
    take-whole old.len new old.items old.ok.0 (c.backward.auto.entries
    ∙ ap length c.deref_mut.ensures.value) in
    let content : rows r ≡ rows_from width (2 ^ n) (map (λ a. k.mul a factor) done) =
    c.new.ensures.content
    ∙ ap (λ w. rows_from w (old.len / w) (take old.len (new ++ drop (length new) old.items)))
    wide
    ∙ ap (λ h. rows_from width h (take old.len (new ++ drop (length new) old.items)))
    (height old.len (2 ^ n) width total_len positive)
    ∙ ap (rows_from width (2 ^ n)) (whole_new ∙ made) in
    let inverse : k.mul factor (nth_power k (two k) n) ≡ k.one =
    ap (λ x. k.mul x (nth_power k (two k) n))
    (c.div_2exp_u64-scale.ensures ∙ ap (λ o. k.mul o (nth_power k (k.inv (two k)) c.log_n.result))
    (c.ONE.ensures ∙ g.met.F.Field.one_law)
    ∙ laws.ring.one_mul (nth_power k (k.inv (two k)) c.log_n.result)
    ∙ ap (nth_power k (k.inv (two k))) c.log_n.ensures) ∙ inverse_power laws n in
    let shape : width_of r ≡ width = c.new.ensures.shape ∙ wide in
    let own_wide : All (λ row. length row ≡ width) (rows r) =
    subst (λ w. All (λ row. length row ≡ w) (rows r)) shape (rows-width r) in
    let entries : length c.deref_mut.result.now ≡ 2 ^ n * width =
    ap length c.deref_mut.ensures.value ∙ entries_long in
    let Counts = g.L.Layers.counts c.args.layers.now c.backward.new.self in
    record {
      width = shape;
      values = interpolated laws gens c.args.self.domain c.requires.in_group
          g.met.F.ComplexExtendable.at_most_62 on_circle width positive old.items
          (g.M.Matrix.rows values) (rows r) (factors_at seen) factor c.requires.genuine entries_long
          same (g.met.M.Matrix.width_law values) read inverse own_wide content;
      count =
          subst (λ w. Counts w (2 ^ n * width) n) wide
          (subst (λ e. Counts c.width-width.result e n) entries
          (subst (λ i. Counts c.width-width.result (length c.deref_mut.result.now) i) count
          c.backward.ensures.count));
    }
