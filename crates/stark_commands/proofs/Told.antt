-- Digits of numbers in the line of a refusal, and texts that are no input.
use Rattle.std.proofs.Common.{◌≡◌, ℕ, ◌+◌, ◌/◌, ◌%◌, ◌^◌, ◌<◌, ◌≤◌, List, [], ◌∷◌, ◌++◌, length}
use Rattle.std.proofs.Common.{ap, arith, sym, ◌∙◌, append_assoc, length-append}
use Rattle.circle_commands.specs.Answer.{IsNotRead, IsNotText}
use Rattle.circle_commands.specs.declared.failure.Failure.{Failure}
use Rattle.circle_commands.specs.declared.failure.Failure.TheVariants.{Usage, Input, Json, Unfit}
use Rattle.circle_commands.specs.declared.failure.Failure.TheVariants.{Refused, Memory}
use Rattle.circle_json.specs.Form.{Form}
use Rattle.std.specs.Fmt.{decimal}
use Rattle.std.specs.Prelude.{codes}
use Rattle.std.proofs.lemmas.Fmt.{decimal_step, length-decimal-le}

-- a text with the digits of a tenth, and the last digit after it
pub digits_more : (text : List ℕ) (n : ℕ) → 10 ≤ n → n < 2 ^ 64 →
    text ++ decimal n ≡ (text ++ decimal (n / 10)) ++ (48 + n % 10) ∷ []
digits_more text n large fits =
    ap (λ ds. text ++ ds) (decimal_step n large fits)
    ∙ sym (append_assoc text (decimal (n / 10)) ((48 + n % 10) ∷ []))

-- a number has at most 20 digits
pub few_digits : (n : ℕ) → n < 2 ^ 64 → length (decimal n) ≤ 20
few_digits n fits = length-decimal-le 20 n (omega arith) (omega arith) fits

module _ (start t : List ℕ) where
  -- the parts of the line, and how long it is behind each
  pub first_part : start ≡ [] → t ≡ start ++ codes "{\"constraint\":" → length t ≤ 14
  first_part none is = let e = ap length (is ∙ ap (λ s. s ++ codes "{\"constraint\":") none) in
      omega (arith, e)

  pub number_part : (n most : ℕ) → n < 2 ^ 64 → t ≡ start ++ decimal n → length start ≤ most →
      length t ≤ most + 20
  number_part n most fits is few =
      omega (arith, ap length is, length-append start (decimal n), few_digits n fits, few)

  pub name_part : t ≡ start ++ codes ",\"refused\":\"Unsatisfied\",\"row\":" → length start ≤ 34 →
      length t ≤ 65
  name_part is few =
      omega (
        arith,
        ap length is,
        length-append start (codes ",\"refused\":\"Unsatisfied\",\"row\":"),
        few,
      )

  pub brace_part : t ≡ start ++ codes "}" → length start ≤ 85 → length t < 128
  brace_part is few = omega (arith, ap length is, length-append start (codes "}"), few)

-- all parts before the brace
pub parts_before_brace : {none begun first named both : List ℕ} (constraint row : ℕ) →
    constraint < 2 ^ 64 → row < 2 ^ 64 → none ≡ [] → begun ≡ none ++ codes "{\"constraint\":" →
    first ≡ begun ++ decimal constraint →
    named ≡ first ++ codes ",\"refused\":\"Unsatisfied\",\"row\":" →
    both ≡ named ++ decimal row → length both ≤ 85
parts_before_brace constraint row fits small none begun first named both =
    number_part _ _ row 65 small both
    (name_part _ _ named (number_part _ _ constraint 14 fits first (first_part _ _ none begun)))

-- a part more, where there is room for it
pub with_room : (start more : List ℕ) (m n : ℕ) → length start ≤ m → length more ≤ n →
    m + n ≤ 128 → length (start ++ more) ≤ 128
with_room start more m n few short room = omega (arith, length-append start more, few, short, room)

-- what is no text is no input
pub not_text_read : {Given : Type 0} (form : Form Given) (text : List ℕ) (failure : Failure) →
    IsNotText text failure → IsNotRead form text failure
not_text_read form text Usage h = h
not_text_read form text Input h = h
not_text_read form text Json h = h
not_text_read form text (Unfit error) h = absurd h
not_text_read form text (Refused reason) h = h
not_text_read form text Memory h = h
