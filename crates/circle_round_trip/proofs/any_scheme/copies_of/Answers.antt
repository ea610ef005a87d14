use Rattle.std.proofs.Common.{◌∙◌, refl}
use Rattle.circle_commit.proofs.Lists.{mapped-more}
use Rattle.circle_round_trip.proofs.any_scheme.copies_of.Goals as goal

pub loop-vector-preserved : goal.loop-vector-preserved
loop-vector-preserved g c =
    mapped-more (λ v. v.items) (λ v. v.items) c.args.vectors.now c.loop-vector.vector-index _
    c.vector-item.result c.loop-vector.copies.items c.push.new.self.items
    c.in_ok-from_slice.field-0
    refl c.loop-vector-test.true c.vector-item.is c.in_ok-push.ensures.items
    (c.in_ok-from_slice.ensures.items ∙ c.deref.ensures.value) c.loop-vector.invariant
