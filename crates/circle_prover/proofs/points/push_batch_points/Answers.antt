use Rattle.std.proofs.Common.{◌+◌, ◌++◌, ◌∙◌, All, flat_map, refl, sym, ap, subst}
use Rattle.std.proofs.lemmas.List.{take_all}
use Rattle.circle_domain.specs.Selectors.{IsFinite}
use Rattle.circle_codewords.specs.Points.{coordinates_of}
use Rattle.circle_prover.proofs.Requested.{flat-after}
use Rattle.circle_prover.proofs.points.push_batch_points.Goals as goal

pub push_points-requires : goal.push_points-requires
push_points-requires g c =
    subst (All (IsFinite g.EF.Operations.ops)) (sym c.deref.ensures.value)
    (subst (λ v. All (IsFinite g.EF.Operations.ops) v.items) (sym c.matrix-item.is)
    (c.requires c.loop-matrix.matrix-index c.matrix-item.result c.loop-matrix-test.true))

pub loop-matrix-preserved : goal.loop-matrix-preserved
loop-matrix-preserved g c =
    let i = c.loop-matrix.matrix-index in
    let v = c.matrix-item.result in
    flat-after (λ v. v.items) c.args.coordinates.now i v c.loop-matrix-test.true c.matrix-item.is
    (i + 1) (coordinates_of c.args.list.now.items) (coordinates_of c.loop-matrix.list.items)
    (coordinates_of c.push_points.new.list.items) refl
    (c.in_ok-push_points.ensures
    ∙ ap (λ ts. coordinates_of c.loop-matrix.list.items ++ ts) c.deref.ensures.value)
    c.loop-matrix.invariant

pub returns : goal.returns
returns g c =
    c.loop-matrix.invariant
    ∙ ap (λ vs. coordinates_of c.args.list.now.items ++ flat_map (λ v. v.items) vs)
    (take_all c.loop-matrix.matrix-index c.args.coordinates.now c.loop-matrix-test.false)
