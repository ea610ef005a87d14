use Rattle.std.proofs.Common.{◌+◌, ◌++◌, ◌∙◌, sym, ap, map, arith}
use Rattle.std.proofs.lemmas.List.{append-nil, drop_all, get_or-map, length-map}
use Rattle.circle_commit.specs.Mmcs.{opened_rows}
use Rattle.circle_relation.specs.StatementOf.{point_claim, matrix_claim, matrix_claims}
use Rattle.circle_verifier.specs.Rows.{placed, rows_claimed, rows_at}
use Rattle.circle_verifier.specs.declared.reduced.ClaimedRows.{ClaimedRows}
use Rattle.circle_verifier.proofs.ReducedRows.{rows-more}
use Rattle.circle_verifier.proofs.reduced.push_rows.Goals as goal

pub loop-i-preserved : goal.loop-i-preserved
loop-i-preserved g c =
    let ms = c.args.matrices.now in
    let i = c.loop-i.i in
    let m = c.index-matrices-i.result in
    let blowup = c.args.log_blowup in
    let entries = opened_rows c.args.opened.now in
    let old = c.loop-i.rows in
    let at : ClaimedRows g.row.Val.Denot =
    record { log_height = c.log_n.result + blowup; opened = c.args.opened; matrix = i } in
    rows-more rows_at blowup entries (matrix_claims ms) i (matrix_claim m) old.items
    c.resize.new.self.items at old.len (c.len.result + c.len-in-loop-i.result)
    (map rows_at c.args.rows.now.items ++ rows_claimed blowup (placed entries 0 (matrix_claims ms)))
    (omega (arith, c.loop-i-test.true, length-map ms matrix_claim))
    (get_or-map matrix_claim ms i m (matrix_claim m) c.loop-i-test.true
    ∙ ap matrix_claim (sym c.index-matrices-i.is)) old.ok.0
    (omega (
      arith,
      c.len.ensures,
      c.len-in-loop-i.ensures,
      m.points.ok.0,
      length-map m.points.items point_claim,
    ))
    c.in_ok-resize.ensures.items (ap (λ n. (n + blowup, (i, entries))) c.log_n.ensures)
    c.loop-i.invariant

pub returns : goal.returns
returns g c =
    let ms = matrix_claims c.args.matrices.now in
    let entries = opened_rows c.args.opened.now in
    let rows = map rows_at c.loop-i.rows.items in
    sym (append-nil rows)
    ∙ ap (λ ns. rows ++ rows_claimed c.args.log_blowup (placed entries c.loop-i.i ns))
    (sym (drop_all c.loop-i.i ms
    (omega (arith, c.loop-i-test.false, length-map c.args.matrices.now matrix_claim))))
    ∙ c.loop-i.invariant
