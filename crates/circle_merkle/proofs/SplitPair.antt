-- The siblings that are missing, where the first known position and its sibling are split off.
use Rattle.std.specs.Prelude.{◌≡◌, ℕ, ◌<◌, List, ◌∷◌, ◌++◌, Option, Some, None, option_to_list, All}
use Rattle.std.proofs.Common.{ap, ◌∙◌, subst}
use Rattle.std.proofs.lemmas.List.Elements.{All-head, All-tail}
use Rattle.circle_merkle.specs.Walk.{siblings_of}

module _ (rest others after : List ℕ) (p : ℕ) (missing : Option ℕ) (whole : rest ≡ p ∷ others)
    (split : siblings_of (p ∷ others) ≡ option_to_list missing ++ siblings_of after) where
  pub siblings-lone : (s : ℕ) → missing ≡ Some s → siblings_of rest ≡ s ∷ siblings_of after
  siblings-lone s e = ap siblings_of whole ∙ split ∙ ap (λ m. option_to_list m ++ siblings_of after)
      e

  pub siblings-both : missing ≡ None → siblings_of rest ≡ siblings_of after
  siblings-both e = ap siblings_of whole ∙ split ∙ ap (λ m. option_to_list m ++ siblings_of after) e

  module _ (n : ℕ) (within : All (λ i. i < n) (siblings_of rest)) where
    pub lone-within : (s : ℕ) → missing ≡ Some s → s < n
    lone-within s e =
        All-head (λ i. i < n) s (siblings_of after)
        (subst (All (λ i. i < n)) (siblings-lone s e) within)

    pub after-within : (s : ℕ) → missing ≡ Some s → All (λ i. i < n) (siblings_of after)
    after-within s e =
        All-tail (λ i. i < n) s (siblings_of after)
        (subst (All (λ i. i < n)) (siblings-lone s e) within)
