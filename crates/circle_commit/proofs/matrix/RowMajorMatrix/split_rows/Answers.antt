use Rattle.std.proofs.Common.{◌≡◌, ℕ, ◌-◌, ◌+◌, ◌*◌, ◌/◌, ◌%◌, ◌∙◌, ap, sym, take, drop, length}
use Rattle.std.proofs.Common.{arith}
use Rattle.std.proofs.Math.Nat.{mul-div_cancel, mul-mod_left}
use Rattle.circle_commit.specs.Matrix.{rows_from}
use Rattle.circle_commit.specs.RowFacts.{rows_from-take, rows_from-drop}
use Rattle.circle_commit.specs.RowMajorMatrix.{height_of, length-values}
use Rattle.circle_commit.proofs.matrix.RowMajorMatrix.split_rows.Goals as goal

-- the entries after the first n rows are those of the other rows
others-count : (height n others width entries rest : ℕ) → n + others ≡ height →
    entries ≡ height * width → rest + n * width ≡ entries → rest ≡ others * width
others-count height n others width entries rest e whole split =
    let parts : height * width ≡ n * width + others * width = ap (λ k. k * width) (sym e)
    ∙ omega arith in
    omega arith

pub new-requires-clause-whole : goal.new-requires-clause-whole
new-requires-clause-whole g c =
    let m = c.args.self.now in
    ap (λ n. n % m.width) c.split_at.ensures.front_len ∙ mul-mod_left c.args.n m.width

pub new-requires-2-clause-whole : goal.new-requires-2-clause-whole
new-requires-2-clause-whole g c =
    let m = c.args.self.now in
    let others = height_of m - c.args.n in
    let same : c.args.n + others ≡ height_of m = omega arith in
    let entries = c.split_at.result.1.now in
    let count : length entries ≡ others * m.width =
    others-count (height_of m) c.args.n others m.width (length m.values.items) (length entries)
    same (length-values m) (omega (arith, m.values.ok.0)) in
    ap (λ n. n % m.width) count ∙ mul-mod_left others m.width

pub returns-clause-first : goal.returns-clause-first
returns-clause-first g c =
    let m = c.args.self.now in
    let first = c.split_at.result.0.now in
    let count : length first / m.width ≡ c.args.n =
    ap (λ n. n / m.width) c.split_at.ensures.front_len
    ∙ mul-div_cancel c.args.n m.width_positive in
    c.new.ensures.content
    ∙ ap (λ n. rows_from m.width n first) count
    ∙ ap (rows_from m.width c.args.n)
    (c.split_at.ensures.front ∙ ap (take (c.args.n * m.width)) c.deref.ensures.value)
    ∙ rows_from-take m.width (height_of m) c.args.n m.values.items c.requires

pub returns-clause-others : goal.returns-clause-others
returns-clause-others g c =
    let m = c.args.self.now in
    let others = height_of m - c.args.n in
    let same : c.args.n + others ≡ height_of m = omega arith in
    let entries = c.split_at.result.1.now in
    let count : length entries ≡ others * m.width =
    others-count (height_of m) c.args.n others m.width (length m.values.items) (length entries)
    same (length-values m) (omega (arith, m.values.ok.0)) in
    c.new-2.ensures.content
    ∙ ap (λ n. rows_from m.width n entries)
    (ap (λ n. n / m.width) count ∙ mul-div_cancel others m.width_positive)
    ∙ ap (rows_from m.width others)
    (c.split_at.ensures.back ∙ ap (drop (c.args.n * m.width)) c.deref.ensures.value)
    ∙ rows_from-drop m.width (height_of m) c.args.n others m.values.items same
