use Rattle.std.proofs.Common.{◌≡◌, ◌≤◌, ◌∙◌, [], sym, ap, length, map, arith}
use Rattle.std.specs.Prelude.{slice_index_or}
use Rattle.std.proofs.Math.ListN.{get_or-eq_default}
use Rattle.std.proofs.lemmas.Bool.{ltb-false}
use Rattle.std.proofs.lemmas.List.{length-map}
use Rattle.sha2.specs.Sha256.{sha256}
use Rattle.circle_commit.specs.Mmcs.{opened_rows}
use Rattle.circle_merkle.specs.Rows.{bytes_of_height, size_of}
use Rattle.circle_merkle.specs.Tree.{rows_digest}
use Rattle.circle_merkle.proofs.OpenedBytes.{bytes-none}
use Rattle.circle_merkle.proofs.root.Opening.rows_digest.Goals as goal

pub returns-in-None : goal.returns-in-None
returns-in-None g c =
    let o = c.args.self.now in
    let dims = o.dimensions.now in
    let opened = opened_rows o.opened.now in
    let bytes = g.T.ElementBytes.bytes in
    let size = size_of dims c.args.level in
    let long : length o.opened.now ≤ c.args.place =
    ltb-false c.args.place (length o.opened.now) (sym c.in-None.ensures.lookup.0) in
    let past : length opened ≤ c.args.place =
    omega (arith, long, length-map o.opened.now (λ rows. map (λ row. row.items) rows.items)) in
    let none : bytes_of_height bytes dims size (slice_index_or opened c.args.place []) ≡ [] =
    ap (bytes_of_height bytes dims size) (get_or-eq_default opened [] past)
    ∙ bytes-none bytes size dims in
    c.rows_digest-in-None.ensures ∙ sym (ap (rows_digest sha256) none)
