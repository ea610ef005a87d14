use Rattle.std.proofs.Common.{◌≡◌, ◌*◌, ◌%◌, ◌/◌, ◌^◌, length, vec_len, ◌∙◌, ap, sym, arith}
use Rattle.std.proofs.Math.Nat.{mul-mod_left, mul-div_cancel}
use Rattle.circle_commit.specs.RowFacts.{length-rows_from}
use Rattle.circle_commit.specs.RowMajorMatrix.{length-rows}
use Rattle.circle_bench.proofs.transforms.Size.matrix.Goals as goal

pub new-requires-clause-whole : goal.new-requires-clause-whole
new-requires-clause-whole c =
    let count : vec_len c.loop.values ≡ c.rows.result * c.args.self.width =
    omega (arith, c.loop.invariant, c.loop.auto.counter-end, c.loop-test.false) in
    ap (λ n. n % c.args.self.width) count ∙ mul-mod_left c.rows.result c.args.self.width

pub returns : goal.returns
returns c =
    let count : vec_len c.loop.values ≡ c.rows.result * c.args.self.width =
    omega (arith, c.loop.invariant, c.loop.auto.counter-end, c.loop-test.false) in
    let height : vec_len c.loop.values / c.args.self.width ≡ 2 ^ c.args.self.log_rows =
    ap (λ n. n / c.args.self.width) count ∙ mul-div_cancel c.rows.result c.args.self.some_columns
    ∙ c.rows.ensures in
    sym (length-rows c.new.result) ∙ ap length c.new.ensures.content
    ∙ length-rows_from c.args.self.width (vec_len c.loop.values / c.args.self.width)
    c.loop.values.items ∙ height
