use Rattle.std.proofs.Common.{◌≡◌, ◌++◌, [], ◌∷◌, ◌∙◌, sym, ap, length, map, take, zip}
use Rattle.std.proofs.lemmas.Iterator.{YieldsList-from_zip}
use Rattle.std.proofs.lemmas.Iterator.Adapters.{YieldsList-from_vec}
use Rattle.std.proofs.lemmas.Iterator.Consumers.{YieldsList-end, YieldsList-turn}
use Rattle.std.proofs.lemmas.List.{length_push, take_more}
use Rattle.std.proofs.lemmas.Slice.Zip.{firsts-zip, seconds-zip}
use Rattle.std.specs.Iterator.Adapters.{zip_first, zip_second}
use Rattle.std.specs.Vec.Iter.{into_iter_items, into_iter_len}
use Rattle.circle_commit.proofs.Lists.{taken-all}
use Rattle.circle_quotient.proofs.chunks.with_domains.Goals as goal

pub loop-domain-preserved : goal.loop-domain-preserved
loop-domain-preserved g c =
    let all = zip c.args.domains.items c.args.parts.items in
    let zipped = c.into_iter-domain-iterator.ensures.into_iter_gives in
    let both = c.zip-domain-items.ensures in
    let first = ap zip_first zipped ∙ both.first in
    let second = ap zip_second zipped in
    let of_domains =
    YieldsList-from_vec c.args.domains.items
    (ap into_iter_items first ∙ c.into_iter.ensures.rest)
    (ap into_iter_len first ∙ c.into_iter.ensures.len ∙ c.args.domains.ok.0) in
    let of_parts =
    YieldsList-from_vec c.args.parts.items (ap into_iter_items second ∙ both.second.0)
    (ap into_iter_len second ∙ both.second.1 ∙ c.args.parts.ok.0) in
    let road = YieldsList-from_zip of_domains of_parts in
    let done = c.loop-domain.yielded in
    let this : g.row.D.Denot × g.row.M.Denot = (c.in-Some.domain, c.in-Some.part) in
    let turn = YieldsList-turn road done _ c.loop-domain.yielded_by _ c.next.new.self this
    c.in-Some.is c.next.ensures.steps in
    c.in_ok-push.ensures.items ∙ ap (λ pairs. pairs ++ this ∷ []) c.loop-domain.invariant
    ∙ ap (λ (pair : g.row.D.Denot × g.row.M.Denot). take (length done) all ++ pair ∷ []) turn.1
    ∙ sym (take_more all (length done) this turn.0)
    ∙ ap (λ n. take n all) (sym (length_push done this))

pub returns-clause-domains : goal.returns-clause-domains
returns-clause-domains g c =
    let all = zip c.args.domains.items c.args.parts.items in
    let zipped = c.into_iter-domain-iterator.ensures.into_iter_gives in
    let both = c.zip-domain-items.ensures in
    let first = ap zip_first zipped ∙ both.first in
    let second = ap zip_second zipped in
    let of_domains =
    YieldsList-from_vec c.args.domains.items
    (ap into_iter_items first ∙ c.into_iter.ensures.rest)
    (ap into_iter_len first ∙ c.into_iter.ensures.len ∙ c.args.domains.ok.0) in
    let of_parts =
    YieldsList-from_vec c.args.parts.items (ap into_iter_items second ∙ both.second.0)
    (ap into_iter_len second ∙ both.second.1 ∙ c.args.parts.ok.0) in
    let road = YieldsList-from_zip of_domains of_parts in
    let done = c.loop-domain.yielded in
    let last = YieldsList-end road done _ c.loop-domain.yielded_by _ c.next.new.self
    c.in-None.is c.next.ensures.steps in
    let made : c.loop-domain.both.items ≡ all =
    c.loop-domain.invariant ∙ taken-all (length done) all last.1 in
    let even : length c.args.parts.items ≡ length c.args.domains.items =
    sym c.args.parts.ok.0 ∙ sym c.requires ∙ c.args.domains.ok.0 in
    ap (map (λ (pair : g.row.D.Denot × g.row.M.Denot). pair.0)) made
    ∙ firsts-zip c.args.domains.items c.args.parts.items even

pub returns-clause-parts : goal.returns-clause-parts
returns-clause-parts g c =
    let all = zip c.args.domains.items c.args.parts.items in
    let zipped = c.into_iter-domain-iterator.ensures.into_iter_gives in
    let both = c.zip-domain-items.ensures in
    let first = ap zip_first zipped ∙ both.first in
    let second = ap zip_second zipped in
    let of_domains =
    YieldsList-from_vec c.args.domains.items
    (ap into_iter_items first ∙ c.into_iter.ensures.rest)
    (ap into_iter_len first ∙ c.into_iter.ensures.len ∙ c.args.domains.ok.0) in
    let of_parts =
    YieldsList-from_vec c.args.parts.items (ap into_iter_items second ∙ both.second.0)
    (ap into_iter_len second ∙ both.second.1 ∙ c.args.parts.ok.0) in
    let road = YieldsList-from_zip of_domains of_parts in
    let done = c.loop-domain.yielded in
    let last = YieldsList-end road done _ c.loop-domain.yielded_by _ c.next.new.self
    c.in-None.is c.next.ensures.steps in
    let made : c.loop-domain.both.items ≡ all =
    c.loop-domain.invariant ∙ taken-all (length done) all last.1 in
    let even : length c.args.parts.items ≡ length c.args.domains.items =
    sym c.args.parts.ok.0 ∙ sym c.requires ∙ c.args.domains.ok.0 in
    ap (map (λ (pair : g.row.D.Denot × g.row.M.Denot). pair.1)) made
    ∙ seconds-zip c.args.domains.items c.args.parts.items even
