use Rattle.std.proofs.Common.{◌≡◌, ◌/◌, ◌%◌, length, vec_len, ◌∙◌, ap, sym}
use Rattle.std.proofs.Math.Nat.{mul-mod_left, mul-div_cancel}
use Rattle.circle_commit.specs.Matrix.{rows_from}
use Rattle.circle_commit.specs.RowMajorMatrix.{length-rows}
use Rattle.circle_commands.proofs.Rows.{IsJoined, is_joined, length-lists}
use Rattle.circle_commands.proofs.values.matrix.Goals as goal

-- the entries are all rows end to end
entries_joined : (c : goal.After-loop-row) →
    IsJoined c.loop-row.entries c.args.rows.now c.len-width.result
entries_joined c = is_joined c.loop-row.entries c.args.rows.now c.index-rows-0.result
    c.len-width.result c.loop-row.row-index
    c.requires.some c.requires.rectangular c.index-rows-0.is c.len-width.ensures
    c.loop-row-test.false c.loop-row.invariant

pub new-requires-clause-whole : goal.new-requires-clause-whole
new-requires-clause-whole c =
    let j = entries_joined c in
    ap (λ n. n % c.len-width.result) j.len
    ∙ mul-mod_left (length c.args.rows.now) c.len-width.result

pub returns-clause-content : goal.returns-clause-content
returns-clause-content c =
    let j = entries_joined c.before in
    let height : vec_len c.loop-row.entries / c.len-width.result ≡ length c.args.rows.now =
    ap (λ n. n / c.len-width.result) j.len ∙ mul-div_cancel (length c.args.rows.now) j.positive in
    c.new.ensures.content ∙ ap (λ n. rows_from c.len-width.result n c.loop-row.entries.items) height
    ∙ j.cut

pub returns-clause-height : goal.returns-clause-height
returns-clause-height c = sym (length-rows c.new.result) ∙ ap length (returns-clause-content c)
    ∙ length-lists c.args.rows.now
