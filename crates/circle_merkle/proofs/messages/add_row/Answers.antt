use Rattle.std.proofs.Common.{◌++◌, ◌∙◌, append-nil, sym, ap}
use Rattle.std.specs.List.{flat_map}
use Rattle.std.proofs.lemmas.List.{take_all}
use Rattle.circle_merkle.proofs.OpenedBytes.{entry-more}
use Rattle.circle_merkle.proofs.messages.add_row.Goals as goal

pub loop-entry-init : goal.loop-entry-init
loop-entry-init g c = sym (append-nil c.args.messages.now.items)

pub loop-entry-preserved : goal.loop-entry-preserved
loop-entry-preserved g c =
    let bytes = g.T.ElementBytes.bytes in
    let added = c.as_slice.result.now in
    c.in_ok-extend_from_slice.ensures.items
    ∙ ap (λ xs. xs ++ added) c.loop-entry.invariant
    ∙ entry-more bytes c.args.messages.now.items c.args.row.now c.loop-entry.entry-index
    c.entry-item.result added c.loop-entry-test.true c.entry-item.is
    (c.as_slice.ensures ∙ c.to_bytes.ensures)

pub returns : goal.returns
returns g c = c.loop-entry.invariant
    ∙ ap (λ xs. c.args.messages.now.items ++ flat_map g.T.ElementBytes.bytes xs)
    (take_all c.loop-entry.entry-index c.args.row.now c.loop-entry-test.false)
