use Rattle.std.specs.Prelude.{Vec}
use Rattle.std.specs.declared.alloc.Global.{Global}
use Rattle.std.proofs.Common.{◌∙◌, length, map, refl, ap, zip}
use Rattle.std.proofs.lemmas.Iterator.{YieldsList-from_zip}
use Rattle.std.proofs.lemmas.Iterator.Adapters.{YieldsList-from_vec}
use Rattle.std.proofs.lemmas.Iterator.Consumers.{YieldsList-end, YieldsList-turn}
use Rattle.std.proofs.lemmas.List.{length_push}
use Rattle.std.specs.Iterator.Adapters.{zip_first, zip_second}
use Rattle.std.specs.Vec.Iter.{into_iter_items, into_iter_len}
use Rattle.circle_commit.specs.Claims.{matrix_claimed, matrix_told}
use Rattle.circle_commit.proofs.Lists.{mapped-more, pairwise-of-zip, taken-all}
use Rattle.circle_commit.proofs.claims.matrix_claims.Goals as goal

pub loop-domain-preserved : goal.loop-domain-preserved
loop-domain-preserved g c =
    let all = zip (zip c.args.domains.items c.args.points.items) c.args.values.items in
    let zipped = c.into_iter-domain-iterator.ensures.into_iter_gives in
    let outer = c.zip-domain-items.ensures in
    let inner = c.zip.ensures in
    let first = ap zip_first zipped ∙ outer.first in
    let second = ap zip_second zipped in
    let of_domains =
    YieldsList-from_vec c.args.domains.items (ap (λ s. into_iter_items (zip_first s)) first
    ∙ ap into_iter_items inner.first ∙ c.into_iter.ensures.rest)
    (ap (λ s. into_iter_len (zip_first s)) first ∙ ap into_iter_len inner.first
    ∙ c.into_iter.ensures.len ∙ c.args.domains.ok.0) in
    let of_points =
    YieldsList-from_vec c.args.points.items (ap (λ s. into_iter_items (zip_second s)) first
    ∙ inner.second.0) (ap (λ s. into_iter_len (zip_second s)) first ∙ inner.second.1
    ∙ c.args.points.ok.0) in
    let of_values =
    YieldsList-from_vec c.args.values.items (ap into_iter_items second ∙ outer.second.0)
    (ap into_iter_len second ∙ outer.second.1 ∙ c.args.values.ok.0) in
    let road = YieldsList-from_zip (YieldsList-from_zip of_domains of_points) of_values in
    let done = c.loop-domain.yielded in
    let this : (g.row.D.Denot × Vec g.row.E.Denot Global) × Vec (Vec g.row.E.Denot Global) Global =
    ((c.in-Some.domain, c.in-Some.points), c.in-Some.values) in
    let turn = YieldsList-turn road done _ c.loop-domain.yielded_by _ c.next.new.self this
    c.in-Some.is c.next.ensures.steps in
    mapped-more (λ t. matrix_claimed (t.0.0, t.0.1.items) (map (λ v. v.items) t.1.items))
    matrix_told all (length done) _ this c.loop-domain.claims.items c.push.new.self.items _
    (length_push done this) turn.0 turn.1 c.in_ok-push.ensures.items
    (ap (λ ps. (c.in-Some.domain, ps)) c.in_ok-point_claims.ensures) c.loop-domain.invariant

pub returns : goal.returns
returns g c =
    let all = zip (zip c.args.domains.items c.args.points.items) c.args.values.items in
    let zipped = c.into_iter-domain-iterator.ensures.into_iter_gives in
    let outer = c.zip-domain-items.ensures in
    let inner = c.zip.ensures in
    let first = ap zip_first zipped ∙ outer.first in
    let second = ap zip_second zipped in
    let of_domains =
    YieldsList-from_vec c.args.domains.items (ap (λ s. into_iter_items (zip_first s)) first
    ∙ ap into_iter_items inner.first ∙ c.into_iter.ensures.rest)
    (ap (λ s. into_iter_len (zip_first s)) first ∙ ap into_iter_len inner.first
    ∙ c.into_iter.ensures.len ∙ c.args.domains.ok.0) in
    let of_points =
    YieldsList-from_vec c.args.points.items (ap (λ s. into_iter_items (zip_second s)) first
    ∙ inner.second.0) (ap (λ s. into_iter_len (zip_second s)) first ∙ inner.second.1
    ∙ c.args.points.ok.0) in
    let of_values =
    YieldsList-from_vec c.args.values.items (ap into_iter_items second ∙ outer.second.0)
    (ap into_iter_len second ∙ outer.second.1 ∙ c.args.values.ok.0) in
    let road = YieldsList-from_zip (YieldsList-from_zip of_domains of_points) of_values in
    let last = YieldsList-end road c.loop-domain.yielded _ c.loop-domain.yielded_by _
    c.next.new.self c.in-None.is c.next.ensures.steps in
    c.loop-domain.invariant
    ∙ ap (map (λ t. matrix_claimed (t.0.0, t.0.1.items) (map (λ v. v.items) t.1.items)))
    (taken-all (length c.loop-domain.yielded) all last.1)
    ∙ pairwise-of-zip matrix_claimed (λ v. v.items) (λ rows. map (λ v. v.items) rows.items)
    c.args.domains.items c.args.points.items c.args.values.items
