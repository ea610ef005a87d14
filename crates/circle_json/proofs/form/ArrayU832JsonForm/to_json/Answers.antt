use Rattle.std.proofs.Common.{◌≡◌, ◌<◌, ◌∙◌, ap, length, rules, ℕ, get_or}
use Rattle.hex.specs.Hex.{encode_lower}
use Rattle.hex.proofs.HexLemmas.{decode_sized-encode_lower}
use Rattle.circle_json.specs.Values.{digest_of, digest_of_digits}
use Rattle.serde_json.specs.Data.{string}
use Rattle.circle_json.proofs.form.ArrayU832JsonForm.to_json.Goals as goal

pub returns-clause-reads : goal.returns-clause-reads
returns-clause-reads c =
    let told = c.told-self in
    let fits = c.fits-self in
    let len : length c.args.self.now ≡ 32 = search rules in
    let bytes : (i : ℕ) → get_or c.args.self.now i 0 < 256 = search rules in
    ap digest_of
    (c.from.ensures ∙ ap string (c.in_ok-encode.ensures ∙ ap encode_lower c.as_slice.ensures))
    ∙ ap digest_of_digits (decode_sized-encode_lower c.args.self.now 32 len bytes)
