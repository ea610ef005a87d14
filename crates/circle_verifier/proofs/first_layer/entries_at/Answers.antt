use Rattle.std.proofs.Common.{◌≡◌, ◌<◌, ◌++◌, [], ◌∷◌, ◌∙◌, sym, ap, subst, length, map, take}
use Rattle.std.proofs.Common.{slice_index_or}
use Rattle.std.proofs.lemmas.List.{take_all, map_more, get_or_default}
use Rattle.circle_verifier.proofs.first_layer.entries_at.Goals as goal

pub loop-list-preserved : goal.loop-list-preserved
loop-list-preserved g c = λ d.
    let T = g.row.T.Denot in
    let lists = c.args.lists.now in
    let place = c.args.place in
    let i = c.loop-list.list-index in
    let list = c.list-item.result in
    let x = c.index.result.now in
    let within : place < length list.items =
    subst (λ l. place < length l.items) (sym c.list-item.is)
    (c.requires i list c.loop-list-test.true) in
    let read : x ≡ slice_index_or (slice_index_or lists i list).items place d =
    c.index.ensures ∙ get_or_default list.items place x d within
    ∙ ap (λ l. slice_index_or l.items place d) c.list-item.is in
    c.in_ok-push.ensures.items ∙ ap (λ xs. xs ++ x ∷ []) (c.loop-list.invariant d)
    ∙ ap (λ y. map (λ l. slice_index_or l.items place d) (take i lists) ++ y ∷ []) read
    ∙ sym (map_more (λ l. slice_index_or l.items place d) lists i list c.loop-list-test.true)

pub returns : goal.returns
returns g c = λ d.
    c.loop-list.invariant d ∙ ap (map (λ l. slice_index_or l.items c.args.place d))
    (take_all c.loop-list.list-index c.args.lists.now c.loop-list-test.false)
