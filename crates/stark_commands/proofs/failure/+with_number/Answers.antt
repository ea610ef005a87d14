use Rattle.std.proofs.Common.{◌≡◌, ◌/◌, ◌<◌, ◌≤◌, ◌^◌, ◌∙◌, ◌++◌, List, ℕ, ap, arith, length, subst}
use Rattle.std.proofs.Common.{sym}
use Rattle.std.proofs.Common.{length-append, ◌+◌, ◌%◌, [], ◌∷◌}
use Rattle.std.proofs.lemmas.Fmt.{decimal_digit}
use Rattle.std.specs.Fmt.{decimal}
use Rattle.std.specs.Fmt.InlineText.{inline_text}
use Rattle.stark_commands.proofs.Told.{digits_more}
use Rattle.stark_commands.proofs.failure.+with_number.Goals as goal

pub with-requires : goal.with-requires
with-requires t c =
    let one : decimal c.args.number ≡ c.digit.result.now =
    decimal_digit c.args.number (omega arith) ∙ sym c.digit.ensures in
    subst (λ (ds : List ℕ). length (inline_text c.args.text ++ ds) ≤ 128) one c.requires

pub returns-then-number-lt10 : goal.returns-then-number-lt10
returns-then-number-lt10 t c =
    c.with.ensures
    ∙ ap (λ (ds : List ℕ). inline_text c.args.text ++ ds)
    (c.digit.ensures ∙ sym (decimal_digit c.args.number (omega arith)))

pub with_number-requires : goal.with_number-requires
with_number-requires t c =
    let large : 10 ≤ c.args.number = omega arith in
    let fits : c.args.number < 2 ^ 64 = omega arith in
    let more = ap length (digits_more (inline_text c.args.text) c.args.number large fits) in
    let room : length (inline_text c.args.text ++ decimal c.args.number) ≤ 128 = c.requires in (
      omega arith,
      omega (
        arith,
        more,
        room,
        length-append (inline_text c.args.text ++ decimal (c.args.number / 10))
            ((48 + c.args.number % 10) ∷ []),
      ),
    )

pub with-requires-2 : goal.with-requires-2
with-requires-2 t c =
    let large : 10 ≤ c.args.number = omega arith in
    let fits : c.args.number < 2 ^ 64 = omega arith in
    let whole : inline_text c.with_number.result ++ c.digit-2.result.now
    ≡ inline_text c.args.text ++ decimal c.args.number =
    ap (λ (s : List ℕ). s ++ c.digit-2.result.now) c.with_number.ensures
    ∙ ap (λ (d : List ℕ). (inline_text c.args.text ++ decimal (c.args.number / 10)) ++ d)
    c.digit-2.ensures
    ∙ sym (digits_more (inline_text c.args.text) c.args.number large fits) in
    subst (λ (l : List ℕ). length l ≤ 128) (sym whole) c.requires

pub returns : goal.returns
returns t c =
    let large : 10 ≤ c.args.number = omega arith in
    let fits : c.args.number < 2 ^ 64 = omega arith in
    c.with-2.ensures ∙ ap (λ (s : List ℕ). s ++ c.digit-2.result.now) c.with_number.ensures
    ∙ ap (λ (d : List ℕ). (inline_text c.args.text ++ decimal (c.args.number / 10)) ++ d)
    c.digit-2.ensures
    ∙ sym (digits_more (inline_text c.args.text) c.args.number large fits)
