use Rattle.std.proofs.Common.{◌≡◌, ◌∙◌, List, sym, ap, subst, arith, length, map}
use Rattle.std.specs.Borrow.{Bor}
use Rattle.std.specs.List.{AllZip, range_with_len}
use Rattle.std.proofs.lemmas.List.{length-map, with_items_is}
use Rattle.circle_commit.specs.Matrix.{column}
use Rattle.circle_commit.specs.DotProduct.{dot, pairwise}
use Rattle.circle_commit.proofs.ColumnSums.{pairwise-own}
use Rattle.circle_domain.specs.Domain.{log_size, shift_of}
use Rattle.circle_domain.specs.declared.lagrange.LagrangeWeights.{LagrangeWeights}
use Rattle.circle_domain.proofs.Coefficients.{rows-told}
use Rattle.circle_domain.proofs.OffDomain.{columns-values}
use Rattle.circle_plane.specs.Coefficients.{AreValuesBy}
use Rattle.circle_plane.proofs.Weighed.{all_zip-own, all-across, map-across}
use Rattle.circle_plane.proofs.cfft.CircleEvaluations.evaluate_by_each_weights.Goals as goal

pub columnwise_dot_products-requires : goal.columnwise_dot_products-requires
columnwise_dot_products-requires g c =
    let height = g.M.MatrixShape.height c.args.self.now.values in
    let seen = λ (s : Bor (List g.row.EF.Denot)). s.now in
    let shares = λ (w : Bor (LagrangeWeights g.row.EF.Denot)). w.now.shares.items in
    let Tall = λ (s : List g.row.EF.Denot). length s ≡ height in
    all-across Tall seen shares c.deref.result.now c.args.weights.now
    (ap (map seen) c.deref.ensures.value ∙ c.in_ok-shares.ensures)
    (λ k d lt. c.requires.count k d lt ∙ sym c.args.self.now.row_for_each_point)

pub scale_each-requires : goal.scale_each-requires
scale_each-requires g c =
    let k = g.F.Operations.ops in
    let rows = g.M.Matrix.rows c.args.self.now.values in
    let seen = λ (s : Bor (List g.row.EF.Denot)). s.now in
    let shares = λ (w : Bor (LagrangeWeights g.row.EF.Denot)). w.now.shares.items in
    let sums =
    λ (ws : List g.row.EF.Denot). map
    (λ j. dot g.EF.Operations.ops ws (map g.EF.ExtensionField.embed (column k.zero rows j)))
    (range_with_len 0 (g.M.MatrixShape.width c.args.self.now.values)) in
    let weights = c.args.weights.now in
    let old = c.in_ok-values.values.items in
    ap length c.deref_mut.ensures.value ∙ sym (length-map old (λ v. v.items))
    ∙ ap length (c.in_ok-values.ensures ∙ map-across sums seen shares c.deref.result.now weights
    (ap (map seen) c.deref.ensures.value ∙ c.in_ok-shares.ensures))
    ∙ length-map weights (λ w. sums (shares w))

pub returns : goal.returns
returns g c =
    let k = g.F.Operations.ops in
    let l = g.EF.Operations.ops in
    let m = g.EF.ExtensionField.embed in
    let d = c.args.self.now.domain in
    let values = c.args.self.now.values in
    let n = log_size d in
    let s = shift_of d in
    let width = g.M.MatrixShape.width values in
    let rows = g.M.Matrix.rows values in
    let positive = g.met.M.Matrix.width_positive values in
    let weights = c.args.weights.now in
    let old = c.in_ok-values.values in
    let new = c.scale_each.new.values in
    let seen = λ (s : Bor (List g.row.EF.Denot)). s.now in
    let shares = λ (w : Bor (LagrangeWeights g.row.EF.Denot)). w.now.shares.items in
    let sums = λ (ws : List g.row.EF.Denot). map (λ j. dot l ws (map m (column k.zero rows j)))
    (range_with_len 0 width) in
    let scaled = λ (found : List g.row.EF.Denot) (w : Bor (LagrangeWeights g.row.EF.Denot)). map
    (λ a. l.mul a w.now.scale) found in
    let made : map (λ v. v.items) old.items ≡ map (λ w. sums (shares w)) weights =
    c.in_ok-values.ensures ∙ map-across sums seen shares c.deref.result.now weights
    (ap (map seen) c.deref.ensures.value ∙ c.in_ok-shares.ensures) in
    let all =
    ap (map (λ v. v.items))
    (with_items_is old new (c.scale_each.auto.values ∙ c.deref_mut.ensures.len))
    ∙ c.scale_each.ensures
    ∙ ap (λ vs. pairwise scaled vs weights) (ap (map (λ v. v.items)) c.deref_mut.ensures.value
    ∙ made) ∙ pairwise-own scaled (λ w. sums (shares w)) weights in
    let told = rows-told g.F.Operations.laws g.met.F.ComplexExtendable.generators_law n s
    (let fits = c.requires.in_group in omega (arith, fits)) d.shift.on_circle c.requires.genuine
    width rows positive (g.met.M.Matrix.height_law values ∙ c.args.self.now.row_for_each_point)
    (g.met.M.Matrix.width_law values) in
    let By = λ (w : Bor (LagrangeWeights g.row.EF.Denot)) (found : List g.row.EF.Denot). AreValuesBy
    k g.F.ComplexExtendable.generators l m d width rows w.now found in
    record {
      values = subst (AllZip By weights) (sym all)
          (all_zip-own By (λ w. scaled (sums (shares w)) w) (λ w p weighed. record {
            coeffs = told.0;
            told = told.1;
            at_point = columns-values k l m g.F.ComplexExtendable.generators n s p (shares w)
                w.now.scale weighed width told.0 rows positive told.1;
          }) weights);
    }
