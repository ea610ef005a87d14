use Rattle.std.proofs.Common.{◌≡◌, ◌+◌, ◌%◌, ◌∙◌, sym, ap, [], length, get_or}
use Rattle.circle_air.proofs.Cycles.{next_row}
use Rattle.circle_air.proofs.trace.TraceWindowsWindows.write_next.Goals as goal

pub returns-clause-entries : goal.returns-clause-entries
returns-clause-entries g c r d below =
    let w = c.args.self.now in
    let rows = g.M.Matrix.rows w.rows.now in
    let high : c.height.result ≡ length rows = c.height.ensures
    ∙ sym (g.met.M.Matrix.height_law w.rows.now) in
    c.write_column.ensures r d below
    ∙ ap (λ n. get_or (get_or rows n []) c.args.column d)
    (next_row w.start r (length rows) c.following-first.result
    (c.following-first.ensures.next ∙ ap (λ n. (w.start + 1) % n) high))
