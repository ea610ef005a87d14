use Rattle.std.proofs.Common.{◌++◌, append-nil, sym, subst, take}
use Rattle.std.specs.List.{flat_map}
use Rattle.std.proofs.lemmas.List.{take_all}
use Rattle.sha2.specs.Hashers.{Holds256}
use Rattle.circle_merkle.proofs.OpenedBytes.{entry-more}
use Rattle.circle_merkle.proofs.hashing.absorb_row.Goals as goal

pub loop-entry-init : goal.loop-entry-init
loop-entry-init g c m held = subst (Holds256 c.args.hasher.now) (sym (append-nil m)) held

pub loop-entry-preserved : goal.loop-entry-preserved
loop-entry-preserved g c m held =
    let bytes = g.T.ElementBytes.bytes in
    let row = c.args.row.now in
    let i = c.loop-entry.entry-index in
    let more =
    entry-more bytes m row i c.entry-item.result (g.T.Bytes.AsSlice.items c.to_bytes.result)
    c.loop-entry-test.true c.entry-item.is c.to_bytes.ensures in
    subst (Holds256 c.update.new.self) more
    (c.update.ensures (m ++ flat_map bytes (take i row)) (c.loop-entry.invariant m held))

pub returns : goal.returns
returns g c m held =
    subst (λ xs. Holds256 c.loop-entry.hasher (m ++ flat_map g.T.ElementBytes.bytes xs))
    (take_all c.loop-entry.entry-index c.args.row.now c.loop-entry-test.false)
    (c.loop-entry.invariant m held)
