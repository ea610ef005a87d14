use Rattle.std.proofs.Common.{◌∙◌, map, refl, ap}
use Rattle.circle_commit.proofs.Lists.{mapped-more}
use Rattle.circle_round_trip.proofs.any_scheme.copies_of_rows.Goals as goal

pub loop-matrix-preserved : goal.loop-matrix-preserved
loop-matrix-preserved g c =
    mapped-more (λ rows. map (λ v. v.items) rows.items) (λ rows. map (λ v. v.items) rows.items)
    c.args.matrices.now c.loop-matrix.matrix-index _ c.matrix-item.result
    c.loop-matrix.copies.items c.push.new.self.items c.in_ok-copies_of.field-0
    refl c.loop-matrix-test.true c.matrix-item.is c.in_ok-push.ensures.items
    (c.in_ok-copies_of.ensures ∙ ap (λ vs. map (λ v. v.items) vs) c.deref.ensures.value)
    c.loop-matrix.invariant
