use Rattle.std.proofs.Common.{◌∙◌, length, map, refl, ap, zip}
use Rattle.std.proofs.lemmas.Iterator.{YieldsList-from_zip}
use Rattle.std.proofs.lemmas.Iterator.Adapters.{YieldsList-from_vec}
use Rattle.std.proofs.lemmas.Iterator.Consumers.{YieldsList-end, YieldsList-turn}
use Rattle.std.proofs.lemmas.List.{length_push}
use Rattle.circle_commit.specs.Claims.{point_told}
use Rattle.std.specs.Iterator.Adapters.{zip_first, zip_second}
use Rattle.std.specs.Vec.Iter.{into_iter_items, into_iter_len}
use Rattle.circle_commit.proofs.Lists.{mapped-more, zip-mapped, taken-all}
use Rattle.circle_commit.proofs.claims.point_claims.Goals as goal

pub loop-point-preserved : goal.loop-point-preserved
loop-point-preserved g c =
    let all = zip c.args.points.items c.args.values.items in
    let zipped = c.into_iter-point-iterator.ensures.into_iter_gives in
    let both = c.zip-point-items.ensures in
    let first = ap zip_first zipped ∙ both.first in
    let second = ap zip_second zipped in
    let of_points =
    YieldsList-from_vec c.args.points.items
    (ap into_iter_items first ∙ c.into_iter.ensures.rest)
    (ap into_iter_len first ∙ c.into_iter.ensures.len ∙ c.args.points.ok.0) in
    let of_values =
    YieldsList-from_vec c.args.values.items (ap into_iter_items second ∙ both.second.0)
    (ap into_iter_len second ∙ both.second.1 ∙ c.args.values.ok.0) in
    let road = YieldsList-from_zip of_points of_values in
    let done = c.loop-point.yielded in
    let turn = YieldsList-turn road done _ c.loop-point.yielded_by _ c.next.new.self
    (c.in-Some.point, c.in-Some.values) c.in-Some.is c.next.ensures.steps in
    mapped-more (λ p. (p.0, p.1.items)) point_told all (length done) _ (
      c.in-Some.point,
      c.in-Some.values,
    ) c.loop-point.claims.items c.push.new.self.items _
    (length_push done (c.in-Some.point, c.in-Some.values)) turn.0 turn.1 c.in_ok-push.ensures.items
    refl c.loop-point.invariant

pub returns : goal.returns
returns g c =
    let all = zip c.args.points.items c.args.values.items in
    let zipped = c.into_iter-point-iterator.ensures.into_iter_gives in
    let both = c.zip-point-items.ensures in
    let first = ap zip_first zipped ∙ both.first in
    let second = ap zip_second zipped in
    let of_points =
    YieldsList-from_vec c.args.points.items
    (ap into_iter_items first ∙ c.into_iter.ensures.rest)
    (ap into_iter_len first ∙ c.into_iter.ensures.len ∙ c.args.points.ok.0) in
    let of_values =
    YieldsList-from_vec c.args.values.items (ap into_iter_items second ∙ both.second.0)
    (ap into_iter_len second ∙ both.second.1 ∙ c.args.values.ok.0) in
    let road = YieldsList-from_zip of_points of_values in
    let last = YieldsList-end road c.loop-point.yielded _ c.loop-point.yielded_by _ c.next.new.self
    c.in-None.is c.next.ensures.steps in
    c.loop-point.invariant
    ∙ ap (map (λ p. (p.0, p.1.items))) (taken-all (length c.loop-point.yielded) all last.1)
    ∙ zip-mapped (λ v. v.items) c.args.points.items c.args.values.items
