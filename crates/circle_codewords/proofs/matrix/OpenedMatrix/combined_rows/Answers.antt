use Rattle.std.proofs.Common.{◌≡◌, ◌≤◌, ◌-◌, ◌*◌, ◌%◌, ◌^◌, ◌∙◌, sym, ap, arith, length, take}
use Rattle.std.proofs.lemmas.List.{length-map, length-take-le}
use Rattle.std.proofs.lemmas.List.Elements.{All-take}
use Rattle.circle_commit.specs.RowMajorMatrix.{rows, width_of, length-rows, rows-width}
use Rattle.circle_commit.specs.RowMajorMatrixView.{rows as view_rows}
use Rattle.circle_domain.proofs.Powers.{pow_within}
use Rattle.circle_codewords.specs.OfMatrices.{fields_in}
use Rattle.circle_codewords.specs.Lifts.{lift_width, combined, extended_word}
use Rattle.circle_codewords.proofs.Lifts.{extended-combined, read-wide}
use Rattle.circle_codewords.proofs.Opened.{if_ok, counted}
use Rattle.circle_codewords.proofs.matrix.OpenedMatrix.combined_rows.Goals as goal

pub split_rows-requires : goal.split_rows-requires
split_rows-requires g c =
    let h = c.args.self.now.log_height in
    let n = h - c.args.log_blowup in
    let top = c.args.self.now.openable.in_group in
    let small = counted n (omega (arith, top, g.met.F.ComplexExtendable.at_most_62)) in
    let low : 2 ^ n ≤ 2 ^ h = pow_within n h (omega arith) in
    omega (arith, small, low, c.args.self.now.openable.rows)

pub extended-requires-clause-count : goal.extended-requires-clause-count
extended-requires-clause-count g c =
    let h = c.args.self.now.log_height in
    let n = h - c.args.log_blowup in
    let m = c.args.self.now.rows.now in
    let top = c.args.self.now.openable.in_group in
    let small = counted n (omega (arith, top, g.met.F.ComplexExtendable.at_most_62)) in
    let low : 2 ^ n ≤ 2 ^ h = pow_within n h (omega arith) in
    ap length (c.deref.ensures.value ∙ c.in_ok-combination.ensures)
    ∙ length-map (view_rows c.split_rows.result.0) _ ∙ ap length c.split_rows.ensures.first
    ∙ length-take-le (1 * 2 ^ n % 18446744073709551616) (rows m)
    (omega (arith, small, low, c.args.self.now.openable.rows, length-rows m)) ∙ small

pub returns : goal.returns
returns g c =
    let k = fields_in c.args.self.now in
    let h = c.args.self.now.log_height in
    let B = c.args.log_blowup in
    let n = h - B in
    let m = c.args.self.now.rows.now in
    let powers = c.args.powers.now in
    let top = c.args.self.now.openable.in_group in
    let small = counted n (omega (arith, top, g.met.F.ComplexExtendable.at_most_62)) in
    let first = take (2 ^ n) (rows m) in
    let seen : view_rows c.split_rows.result.0 ≡ first = c.split_rows.ensures.first
    ∙ ap (λ a. take a (rows m)) small in
    let made : c.deref.result.now ≡ combined k powers first = c.deref.ensures.value
    ∙ c.in_ok-combination.ensures ∙ ap (combined k powers) seen in
    let widths = All-take (λ row. length row ≡ width_of m) (2 ^ n) (rows m) (rows-width m) in
    let least : lift_width ≤ width_of m =
    omega (arith, c.if-width-lt-LIFT_WIDTH.false, c.width.ensures) in
    if_ok c.extended.result _ _ (λ word is.
    is ∙ ap (extended_word k B h) made
    ∙ extended-combined k B h (width_of m) g.EF.Operations.laws g.met.EF.ExtensionField.embedding
    powers first widths
    ∙ ap (combined k powers) (sym (read-wide k B h (width_of m) (rows m) least)))
    c.extended.ensures
