use Rattle.std.proofs.Common.{◌≡◌, ◌+◌, ◌++◌, ◌∙◌, refl, sym, ap, subst, slice_index_or}
use Rattle.std.specs.Prelude.{IfSome}
use Rattle.std.proofs.lemmas.List.{take_all}
use Rattle.circle_domain.specs.Selectors.{IsFinite}
use Rattle.circle_field.proofs.Inverses.{some_unless}
use Rattle.circle_codewords.specs.Points.{coordinates_of}
use Rattle.circle_codewords.specs.declared.points.OpeningPoint.{OpeningPoint}
use Rattle.circle_prover.proofs.Requested.{push-after}
use Rattle.circle_prover.proofs.points.push_points.Goals as goal

pub unwrap-requires : goal.unwrap-requires
unwrap-requires g c =
    some_unless c.new.result (λ none.
    subst (IsFinite g.EF.Operations.ops) (sym c.coordinate-item.is)
    (c.requires c.loop-coordinate.coordinate-index c.coordinate-item.result
    c.loop-coordinate-test.true) (c.new.ensures.none.0 none))

pub loop-coordinate-preserved : goal.loop-coordinate-preserved
loop-coordinate-preserved g c =
    let i = c.loop-coordinate.coordinate-index in
    let t = c.coordinate-item.result in
    let at : c.unwrap.result.coordinate ≡ t =
    subst (λ o. IfSome o (λ (p : OpeningPoint g.row.EF.Denot _). p.coordinate ≡ t))
    c.unwrap.ensures c.new.ensures.coordinate in
    push-after (λ (p : OpeningPoint g.row.EF.Denot _). p.coordinate)
    (coordinates_of c.args.list.now.items) c.args.coordinates.now i (i + 1)
    c.loop-coordinate.list.items c.push.new.self.items c.unwrap.result refl
    c.loop-coordinate-test.true
    (at ∙ c.coordinate-item.is ∙ ap (slice_index_or c.args.coordinates.now i) (sym at))
    c.in_ok-push.ensures.items c.loop-coordinate.invariant

pub returns : goal.returns
returns g c =
    c.loop-coordinate.invariant
    ∙ ap (λ ts. coordinates_of c.args.list.now.items ++ ts)
    (take_all c.loop-coordinate.coordinate-index c.args.coordinates.now
    c.loop-coordinate-test.false)
