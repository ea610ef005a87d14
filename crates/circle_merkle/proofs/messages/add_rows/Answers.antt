use Rattle.std.proofs.Common.{◌≡◌, ◌-◌, ◌++◌, ◌∷◌, [], ◌∙◌, ap, length, length-append, arith}
use Rattle.std.proofs.lemmas.Result.{IfOk-weaker}
use Rattle.sha2.specs.Sha256.{padded_message, padding}
use Rattle.circle_merkle.specs.Rows.{bytes_of_height}
use Rattle.circle_merkle.proofs.Padded.{bytes-added}
use Rattle.circle_merkle.proofs.messages.add_rows.Goals as goal

pub returns : goal.returns
returns g c =
    let old = c.args.messages.now.items in
    let bytes = bytes_of_height g.T.ElementBytes.bytes (g.R.RowOfEach.dimensions c.args.rows.now)
    c.args.height (g.R.RowOfEach.rows c.args.rows.now) in
    let new = c.add_padding.new.messages.items in
    let n = c.len.result - c.len-start.result in
    let parts : c.add_entries.new.messages.items ≡ (old ++ 0 ∷ []) ++ bytes =
    c.in_ok-add_entries.ensures ∙ ap (λ xs. xs ++ bytes) c.in_ok-push.ensures.items in
    let long = ap length parts ∙ length-append (old ++ 0 ∷ []) bytes in
    let count : n ≡ length (0 ∷ bytes) =
    omega (
      arith,
      long,
      length-append old (0 ∷ []),
      c.len.ensures,
      c.len-start.ensures,
      c.add_entries.new.messages.ok.0,
      c.args.messages.now.ok.0,
    ) in
    IfOk-weaker c.add_padding.result (λ _. new ≡ c.add_entries.new.messages.items ++ padding n)
    (λ _. new ≡ old ++ padded_message (0 ∷ bytes))
    (λ _ e. e ∙ ap (λ xs. xs ++ padding n) parts ∙ bytes-added old bytes 0 n count)
    c.add_padding.ensures
