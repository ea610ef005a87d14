-- Which of the heights joins a codeword.
use Rattle.std.specs.Prelude.{◌≡◌, ℕ, ◌<◌, ◌==◌, ◌||◌, false, List, [], ◌∷◌, length, slice_index_or}
use Rattle.std.specs.List.{list_any}
use Rattle.std.proofs.Common.{suc, refl, ◌∙◌, ap, arith}
use Rattle.std.proofs.lemmas.Bool.{ne_eqb}

-- a height that is none of them
pub is_none : (h : ℕ) (hs : List ℕ) → ((j : ℕ) → j < length hs → slice_index_or hs j 0 ≡ h → ⊥) →
    list_any (λ n. n == h) hs ≡ false
is_none h [] f = refl
is_none h (x ∷ hs) f = ap (λ b. b || list_any (λ n. n == h) hs) (ne_eqb x h (f 0 (omega arith)))
    ∙ is_none h hs (λ j lt. f (suc j) (omega (arith, lt)))
