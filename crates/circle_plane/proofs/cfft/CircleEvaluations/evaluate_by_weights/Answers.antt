use Rattle.std.proofs.Common.{◌≡◌, ◌∙◌, ap, arith, length, map}
use Rattle.std.specs.List.{range_with_len}
use Rattle.circle_field.proofs.Inverses.{take-whole}
use Rattle.circle_commit.specs.Matrix.{column}
use Rattle.circle_domain.specs.Domain.{log_size, shift_of}
use Rattle.circle_commit.specs.DotProduct.{dot}
use Rattle.circle_domain.proofs.Coefficients.{rows-told}
use Rattle.circle_domain.proofs.OffDomain.{columns-values}
use Rattle.circle_plane.proofs.cfft.CircleEvaluations.evaluate_by_weights.Goals as goal

pub returns-clause-only : goal.returns-clause-only
returns-clause-only g c =
    let k = g.F.Operations.ops in
    let l = g.EF.Operations.ops in
    let m = g.EF.ExtensionField.embed in
    let values = c.args.self.now.values in
    let n = log_size c.args.self.now.domain in
    let s = shift_of c.args.self.now.domain in
    let width = g.M.MatrixShape.width values in
    let rows = g.M.Matrix.rows values in
    let weights = c.args.weights.now in
    let old = c.in_ok-values.values in
    let new = c.scale.new.entries in
    let kept : length new ≡ length old.items = c.scale.auto.entries
    ∙ ap length c.deref_mut.ensures.value in
    let made : old.items ≡ map (λ j. dot l weights.shares.items (map m (column k.zero rows j)))
    (range_with_len 0 width) =
    c.in_ok-values.ensures
    ∙ ap (λ ws. map (λ j. dot l ws (map m (column k.zero rows j))) (range_with_len 0 width))
    c.deref.ensures.value in
    λ q told coeffs has.
    take-whole old.len new old.items old.ok.0 kept
    ∙ c.scale.ensures ∙ ap (map (λ a. l.mul a weights.scale)) (c.deref_mut.ensures.value ∙ made)
    ∙ columns-values k l m g.F.ComplexExtendable.generators n s q weights.shares.items weights.scale
    told
    width coeffs rows (g.met.M.Matrix.width_positive values) has

pub returns-clause-values : goal.returns-clause-values
returns-clause-values g c = λ q weighed.
    let values = c.args.self.now.values in
    let n = log_size c.args.self.now.domain in
    let s = shift_of c.args.self.now.domain in
    let told = rows-told g.F.Operations.laws g.met.F.ComplexExtendable.generators_law n s
    (let fits = c.requires.in_group in omega (arith, fits))
    c.args.self.now.domain.shift.on_circle c.requires.genuine
    (g.M.MatrixShape.width values) (g.M.Matrix.rows values) (g.met.M.Matrix.width_positive values)
    (g.met.M.Matrix.height_law values ∙ c.args.self.now.row_for_each_point)
    (g.met.M.Matrix.width_law values) in
    record {
      coeffs = told.0;
      told = told.1;
      at_point =
          returns-clause-only g c q weighed told.0 told.1;
    }
