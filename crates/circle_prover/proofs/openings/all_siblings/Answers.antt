use Rattle.std.proofs.Common.{◌∙◌, ℕ, List, Vec, Global, [], ◌∷◌, ap, length, map}
use Rattle.std.proofs.lemmas.List.{length_push, map-append}
use Rattle.std.proofs.lemmas.Slice.Zip.{zip_turn, zip_end}
use Rattle.circle_codewords.specs.Openings.{siblings_at}
use Rattle.circle_prover.proofs.Sided.{pair-pushed, pair-all}
use Rattle.circle_relation.proofs.Pairs.{pair-sources}
use Rattle.circle_prover.proofs.openings.all_siblings.Goals as goal

pub loop-index-preserved : goal.loop-index-preserved
loop-index-preserved g c =
    let E : Type 0 = g.row.EF.Denot in
    let indices = c.args.indices.now in
    let rows = c.args.rows.now in
    let from = pair-sources c.into_iter-index-iterator.ensures.into_iter_gives
    c.zip-index-items.ensures.first c.iter.ensures.rest c.zip-index-items.ensures.second.0 in
    let turn = zip_turn indices rows c.loop-index.yielded _ _ c.next.new.self _ from.0 from.1
    c.loop-index.yielded_by _ c.in-Some.is c.next.ensures.steps in
    let q = c.in-Some.index.now in
    let opened = c.in-Some.opened.now in
    let made = c.in_ok-siblings_of.field-0 in
    let old = c.loop-index.siblings.items in
    let f : ℕ → List (List E) → List E =
    siblings_at g.EF.Operations.ops.zero c.args.log_max_height c.args.heights.now in
    let items : List (Vec E Global) → List (List E) = map (λ v. v.items) in
    let view : Vec (Vec E Global) Global → List (List E) = λ r. items r.items in
    pair-pushed f view indices rows c.requires.queries (length c.loop-index.yielded) _ q opened
    made.items (items old) (items c.push.new.self.items) turn.0 (turn.2 q) (turn.3 opened)
    (ap items c.in_ok-push.ensures.items ∙ map-append (λ v. v.items) old (made ∷ []))
    c.loop-index.invariant
    (c.in_ok-siblings_of.ensures ∙ ap (λ rs. f q (items rs)) c.deref.ensures.value)
    (length_push c.loop-index.yielded (c.in-Some.index, c.in-Some.opened))

pub returns : goal.returns
returns g c =
    let E : Type 0 = g.row.EF.Denot in
    let indices = c.args.indices.now in
    let rows = c.args.rows.now in
    let from = pair-sources c.into_iter-index-iterator.ensures.into_iter_gives
    c.zip-index-items.ensures.first c.iter.ensures.rest c.zip-index-items.ensures.second.0 in
    let last = zip_end indices rows c.loop-index.yielded _ _ c.next.new.self _ from.0 from.1
    c.loop-index.yielded_by c.in-None.is c.next.ensures.steps in
    let f : ℕ → List (List E) → List E =
    siblings_at g.EF.Operations.ops.zero c.args.log_max_height c.args.heights.now in
    let view : Vec (Vec E Global) Global → List (List E) = λ r. map (λ v. v.items) r.items in
    c.loop-index.invariant ∙ pair-all f view indices rows c.requires.queries
    (length c.loop-index.yielded) last
