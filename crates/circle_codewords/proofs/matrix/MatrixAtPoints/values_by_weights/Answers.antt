use Rattle.std.proofs.Common.{◌≡◌, ◌≤◌, ◌-◌, ◌+◌, ◌*◌, ◌%◌, ◌^◌, ◌∙◌, ℕ, sym, ap, subst, arith}
use Rattle.std.proofs.Common.{length, map, take, List}
use Rattle.std.specs.Borrow.{Bor}
use Rattle.std.proofs.lemmas.List.{length-map, length-take-le}
use Rattle.std.proofs.lemmas.Slice.Zip.{AllZip-long}
use Rattle.circle_field.specs.Circle.{Coordinates}
use Rattle.circle_commit.specs.RowMajorMatrix.{rows, length-rows}
use Rattle.circle_commit.specs.RowMajorMatrixView.{rows as view_rows}
use Rattle.circle_commit.specs.RowMajorMatrixView.{length-rows as length-view_rows}
use Rattle.circle_domain.specs.Domain.{log_size, shift_of}
use Rattle.circle_domain.specs.Lagrange.{AreLagrangeWeights}
use Rattle.circle_domain.specs.Order.{IsGenuine, cfft_order}
use Rattle.circle_domain.proofs.Powers.{pow_within}
use Rattle.circle_plane.specs.Coefficients.{AreValuesBy}
use Rattle.circle_point.specs.Projective.{from_line}
use Rattle.circle_codewords.specs.OfMatrices.{AreWeightsFor, fields_at}
use Rattle.circle_codewords.specs.Points.{coordinates_of}
use Rattle.circle_codewords.specs.Values.{OpensTo}
use Rattle.circle_codewords.specs.declared.points.OpeningPoint.{OpeningPoint}
use Rattle.circle_codewords.proofs.Opened.{if_ok, counted, opens}
use Rattle.circle_codewords.proofs.AtPoints.{AllZip-onto}
use Rattle.circle_codewords.proofs.Prefix.{first-genuine}
use Rattle.circle_codewords.proofs.Zips.{zip-read, zip-second, zip-through}
use Rattle.circle_domain.specs.declared.lagrange.LagrangeWeights.{LagrangeWeights}
use Rattle.circle_codewords.proofs.matrix.MatrixAtPoints.values_by_weights.Goals as goal

pub split_rows-requires : goal.split_rows-requires
split_rows-requires g c =
    let h = c.args.self.now.log_height in
    let n = h - c.args.log_blowup in
    let top = c.args.self.now.openable.in_group in
    let small = counted n (omega (arith, top, g.met.F.ComplexExtendable.at_most_62)) in
    let low : 2 ^ n ≤ 2 ^ h = pow_within n h (omega arith) in
    omega (arith, small, low, c.args.self.now.openable.rows)

pub from_cfft_order-requires-clause-size : goal.from_cfft_order-requires-clause-size
from_cfft_order-requires-clause-size g c =
    let h = c.args.self.now.log_height in
    let n = h - c.args.log_blowup in
    let top = c.args.self.now.openable.in_group in
    let small = counted n (omega (arith, top, g.met.F.ComplexExtendable.at_most_62)) in
    let low : 2 ^ n ≤ 2 ^ h = pow_within n h (omega arith) in
    let all = rows c.args.self.now.rows.now in
    sym (length-view_rows c.split_rows.result.0) ∙ ap length c.split_rows.ensures.first
    ∙ length-take-le (1 * 2 ^ n % 18446744073709551616) all
    (omega (
      arith,
      small,
      low,
      c.args.self.now.openable.rows,
      length-rows
          c.args.self.now.rows.now,
    )) ∙ small
    ∙ ap (λ m. 2 ^ m) (sym c.first_domain-domain.ensures.size)

pub
    evaluate_by_each_weights-requires-clause-genuine :
    goal.evaluate_by_each_weights-requires-clause-genuine
evaluate_by_each_weights-requires-clause-genuine g c =
    let k = g.F.Operations.ops in
    let h = c.args.self.now.log_height in
    let n = h - c.args.log_blowup in
    let less = c.requires.blowup in
    subst (λ d. IsGenuine k (log_size d) (shift_of d)) (sym c.from_cfft_order.ensures.domain)
    (subst (λ m. IsGenuine k m (shift_of c.first_domain-domain.result))
    (sym c.first_domain-domain.ensures.size)
    (subst (IsGenuine k n) (sym c.first_domain-domain.ensures.shift)
    (first-genuine g.F.Operations.laws g.met.F.ComplexExtendable.generators_law n h
    (omega (arith, less)) (omega arith) c.args.self.now.openable.in_group)))

pub evaluate_by_each_weights-requires-clause-count :
    goal.evaluate_by_each_weights-requires-clause-count
evaluate_by_each_weights-requires-clause-count g c =
    let m = c.args.self.now in
    let size : log_size c.from_cfft_order.result.domain ≡ m.log_height - c.args.log_blowup =
    ap log_size c.from_cfft_order.ensures.domain ∙ c.first_domain-domain.ensures.size in
    zip-second (AreWeightsFor m c.args.log_blowup)
    (λ w. length w.now.shares.items ≡ 2 ^ log_size c.from_cfft_order.result.domain)
    (λ p w are. are.count ∙ ap (λ n. 2 ^ n) (sym size)) m.points.now c.args.weights.now
    c.requires.right

pub returns-clause-count : goal.returns-clause-count
returns-clause-count g c =
    let d = c.from_cfft_order.result.domain in
    let given = c.from_cfft_order.result.values in
    if_ok c.evaluate_by_each_weights.result _ _ (λ made all.
    sym (length-map made.items (λ v. v.items))
    ∙ AllZip-long (λ w. AreValuesBy g.F.Operations.ops g.F.ComplexExtendable.generators
    g.EF.Operations.ops g.EF.ExtensionField.embed d given.width (view_rows given) w.now)
    c.args.weights.now (map (λ v. v.items) made.items) all
    ∙ AllZip-long (AreWeightsFor c.args.self.now c.args.log_blowup) c.args.self.now.points.now
    c.args.weights.now c.requires.right)
    c.evaluate_by_each_weights.ensures.values

pub returns-clause-values : goal.returns-clause-values
returns-clause-values g c =
    let k = fields_at c.args.self.now in
    let h = c.args.self.now.log_height in
    let n = h - c.args.log_blowup in
    let top = c.args.self.now.openable.in_group in
    let small = counted n (omega (arith, top, g.met.F.ComplexExtendable.at_most_62)) in
    let m = c.args.self.now.rows.now in
    let points = c.args.self.now.points.now in
    let coordinate = λ (p : OpeningPoint g.row.EF.Denot _). p.coordinate in
    let d = c.from_cfft_order.result.domain in
    let size : log_size d ≡ n = ap log_size c.from_cfft_order.ensures.domain
    ∙ c.first_domain-domain.ensures.size in
    let shift : shift_of d ≡ k.gen (h + 1) = ap shift_of c.from_cfft_order.ensures.domain
    ∙ c.first_domain-domain.ensures.shift in
    let given = c.from_cfft_order.result.values in
    let By = λ (w : Bor (LagrangeWeights g.row.EF.Denot)) (found : List g.row.EF.Denot). AreValuesBy
    k.field k.gen k.extension k.embed d given.width (view_rows given) w.now found in
    let Opened = OpensTo k c.args.log_blowup h m in
    if_ok c.evaluate_by_each_weights.result _ _ (λ made all i t lt.
    let values = map (λ v. v.items) made.items in
    zip-read Opened (coordinates_of points) values i t _
    (AllZip-onto Opened coordinate points values
    (zip-through (AreWeightsFor c.args.self.now c.args.log_blowup) By
    (λ p. Opened (coordinate p)) (λ p w found are by.
    let q = from_line k.extension (coordinate p) in
    let Sum : ℕ → Coordinates g.row.F.Denot → Type 0 =
    λ a s. AreLagrangeWeights k.extension k.embed k.field a (cfft_order k.field k.gen a s) q
    w.now.shares.items w.now.scale in
    let weighed : Sum (log_size d) (shift_of d) =
    subst (λ a. Sum a (shift_of d)) (sym size) (subst (Sum n) (sym shift) are.sum) in
    let at = by q weighed in
    opens k c.args.log_blowup h m (coordinate p) found (log_size d) (shift_of d) _ _ at.coeffs size
    shift (ap (λ v. v.width) c.from_cfft_order.ensures.values ∙ c.split_rows.ensures.widths.0)
    (ap view_rows c.from_cfft_order.ensures.values ∙ c.split_rows.ensures.first
    ∙ ap (λ a. take a (rows m)) small) at.told at.at_point)
    points c.args.weights.now values c.requires.right all)) lt)
    c.evaluate_by_each_weights.ensures.values
