use Rattle.std.proofs.Common.{sym, subst, arith, map, take, All}
use Rattle.std.proofs.lemmas.List.{take_all}
use Rattle.std.proofs.lemmas.List.Elements.{All-more, All-weaker}
use Rattle.circle_folding.specs.Queries.{IsApart}
use Rattle.circle_point.specs.Point.{coordinates}
use Rattle.circle_codewords.specs.Ratios.{HasRatios}
use Rattle.circle_codewords.specs.declared.points.OpeningPoint.{OpeningPoint}
use Rattle.circle_codewords.proofs.reduced.add_ratios.Goals as goal

pub loop-point-init : goal.loop-point-init
loop-point-init g c =
    record {
      right = c.requires.right;
      known = λ i t lt. absurd (omega (arith, lt));
      kept =
          λ t known. known;
    }

pub add_ratio-requires-clause-apart : goal.add_ratio-requires-clause-apart
add_ratio-requires-clause-apart g c =
    subst
    (λ (p : OpeningPoint g.row.EF.Denot _). IsApart g.EF.ExtensionField.embed
    (map coordinates c.args.domain.now) (coordinates p.point)) (sym c.point-item.is)
    (c.requires.apart c.loop-point.point-index c.point-item.result c.loop-point-test.true)

pub loop-point-preserved : goal.loop-point-preserved
loop-point-preserved g c =
    let points = c.args.points.now in
    let i = c.loop-point.point-index in
    let Known : OpeningPoint g.row.EF.Denot _ → Type 0 =
    λ p. HasRatios c.add_ratio.new.all.items p.coordinate in
    record {
      right = c.in_ok-add_ratio.ensures.right;
      known = All-more Known points i c.point-item.result c.loop-point-test.true
          (All-weaker (λ p. HasRatios c.loop-point.all.items p.coordinate) Known
          (λ p known. c.in_ok-add_ratio.ensures.kept p.coordinate known) (take i points)
          c.loop-point.invariant.known)
          (subst Known c.point-item.is c.in_ok-add_ratio.ensures.known);
      kept = λ t known. c.in_ok-add_ratio.ensures.kept t (c.loop-point.invariant.kept t known);
    }

pub returns-clause-known : goal.returns-clause-known
returns-clause-known g c =
    subst
    (All (λ (p : OpeningPoint g.row.EF.Denot _). HasRatios c.loop-point.all.items p.coordinate))
    (take_all c.loop-point.point-index c.args.points.now
    (omega (arith, c.loop-point-test.false))) c.loop-point.invariant.known
