use Rattle.std.proofs.Common.{◌≡◌, ◌+◌, ◌∙◌, sym, ap, subst, arith, map, take, List, All}
use Rattle.std.proofs.lemmas.List.{take_all}
use Rattle.std.proofs.lemmas.List.Elements.{All-more, All-weaker}
use Rattle.circle_folding.specs.Queries.{IsApart}
use Rattle.circle_point.specs.Point.{coordinates}
use Rattle.circle_codewords.specs.OfMatrices.{HaveRatios, fields_of}
use Rattle.circle_codewords.specs.Points.{coordinates_of}
use Rattle.circle_codewords.specs.Ratios.{points_of_height, AreRatiosOf, HasRatios}
use Rattle.circle_codewords.specs.Values.{IsOffDomain}
use Rattle.circle_codewords.specs.declared.matrix.OpenedMatrix.{OpenedMatrix}
use Rattle.circle_codewords.specs.declared.points.OpeningPoint.{OpeningPoint}
use Rattle.circle_codewords.specs.declared.ratios.PointRatios.{PointRatios}
use Rattle.circle_codewords.proofs.AtPoints.{off-points}
use Rattle.circle_codewords.proofs.matrix.BatchedMatrices.all_ratios.Goals as goal
use Rattle.circle_codewords.proofs.matrix.BatchedMatrices.all_ratios.Goals.{then-matrix-log_height+in_ok-add_ratios}
use Rattle.circle_codewords.proofs.matrix.BatchedMatrices.all_ratios.Goals.{else-matrix-log_height}

pub add_ratios-requires-clause-apart : goal.add_ratios-requires-clause-apart
add_ratios-requires-clause-apart g c =
    let m = g.EF.ExtensionField.embed in
    let h = c.args.log_height in
    let one = c.matrix-item.result in
    let top = c.requires.in_group in
    let listed : map coordinates c.deref.result.now ≡ points_of_height g.F.Operations.ops
    g.F.ComplexExtendable.generators h =
    ap (map coordinates) c.deref.ensures.value ∙ c.in_ok-domain.ensures in
    let off =
    subst (λ n. All (IsOffDomain (fields_of c.args.self.now) n) (coordinates_of one.points.now))
    c.if-matrix-log_height.true one.openable.off.1 in
    subst (λ ps. All (λ (p : OpeningPoint g.row.EF.Denot _). IsApart m ps (coordinates p.point))
    one.points.now) (sym listed)
    (off-points g.F.Operations.ops m g.F.ComplexExtendable.generators h one.points.now
    g.F.Operations.laws g.met.EF.ExtensionField.embedding
    g.met.F.ComplexExtendable.generators_law c.requires.positive (omega (arith, top)) off)

pub add_ratios-requires-clause-right : goal.add_ratios-requires-clause-right
add_ratios-requires-clause-right g c =
    let listed : map coordinates c.deref.result.now ≡ points_of_height g.F.Operations.ops
    g.F.ComplexExtendable.generators c.args.log_height =
    ap (map coordinates) c.deref.ensures.value ∙ c.in_ok-domain.ensures in
    subst
    (λ ps. All (AreRatiosOf g.EF.Operations.ops g.EF.ExtensionField.embed ps)
    c.loop-matrix.all.items) (sym listed) c.loop-matrix.invariant.right

pub loop-matrix-preserved : goal.loop-matrix-preserved
loop-matrix-preserved g c =
    let l = g.EF.Operations.ops in
    let m = g.EF.ExtensionField.embed in
    let h = c.args.log_height in
    let points = points_of_height g.F.Operations.ops g.F.ComplexExtendable.generators h in
    let matrices = c.args.self.now.matrices.now in
    let i = c.loop-matrix.matrix-index in
    let one = c.matrix-item.result in
    let Known : List (PointRatios g.row.EF.Denot) → OpenedMatrix g.row.F.Denot g.row.EF.Denot _ _ →
    Type 0 = λ all o. o.log_height ≡ h → HaveRatios all o in
    let Made : List (PointRatios g.row.EF.Denot) → Type 0 = λ all. All (AreRatiosOf l m points) all
    × All (Known all) (take (i + 1) matrices) in
    let made : Made c.if-matrix-log_height.all.items =
    elim c.if-matrix-log_height.branch [
      | then-matrix-log_height+in_ok-add_ratios w ↦
          let old = c.loop-matrix.all.items in
          let new = w.add_ratios.new.all.items in
          let listed : map coordinates w.deref.result.now ≡ points =
          ap (map coordinates) w.deref.ensures.value ∙ c.in_ok-domain.ensures in
          subst Made (ap (λ v. v.items) (sym w.all-is)) (
            subst (λ ps. All (AreRatiosOf l m ps) new) listed w.in_ok-add_ratios.ensures.right,
            All-more (Known new) matrices i one c.loop-matrix-test.true
                (All-weaker (Known old) (Known new)
                (λ o known same. All-weaker (λ p. HasRatios old p.coordinate)
                (λ p. HasRatios new p.coordinate)
                (λ p. w.in_ok-add_ratios.ensures.kept p.coordinate) o.points.now (known same))
                (take i matrices) c.loop-matrix.invariant.known)
                (subst (Known new) c.matrix-item.is (λ same. w.in_ok-add_ratios.ensures.known)),
          )
      | else-matrix-log_height w ↦
          subst Made (ap (λ v. v.items) (sym w.all-is)) (
            c.loop-matrix.invariant.right,
            All-more (Known c.loop-matrix.all.items) matrices i one c.loop-matrix-test.true
                c.loop-matrix.invariant.known
                (subst (Known c.loop-matrix.all.items) c.matrix-item.is
                (λ same. absurd (w.if-matrix-log_height.false same))),
          )
    ] in
    record { right = made.0; known = made.1 }

pub returns-clause-known : goal.returns-clause-known
returns-clause-known g c =
    let Known : OpenedMatrix g.row.F.Denot g.row.EF.Denot _ _ → Type 0 =
    λ o. o.log_height ≡ c.args.log_height → HaveRatios c.loop-matrix.all.items o in
    subst (All Known)
    (take_all c.loop-matrix.matrix-index c.args.self.now.matrices.now
    (omega (arith, c.loop-matrix-test.false))) c.loop-matrix.invariant.known
