-- Steps one after another.
use Rattle.std.proofs.Common.{◌≡◌, ℕ, zero, suc, ◌+◌, List, [], ◌∷◌, ◌++◌, refl, sym, ap, ◌∙◌}
use Rattle.std.proofs.Common.{append_assoc, add-one, map}
use Rattle.std.proofs.lemmas.List.{append-nil, map-append}
use Rattle.circle_challenger.specs.Step.{Step}
use Rattle.circle_challenger.specs.Interaction.{step_of}
use Rattle.circle_challenger.specs.declared.interaction.Interaction.{Interaction}
use Rattle.circle_transcript.specs.Shape.{round_steps, rounds_steps}

module _ (degree bits : ℕ) where
  rounds-suc : (n : ℕ) → rounds_steps degree bits (suc n) ≡ rounds_steps degree bits n
      ++ round_steps degree bits
  unfolding rounds_steps
  rounds-suc zero = append-nil (round_steps degree bits)
  rounds-suc (suc n) =
      ap (λ xs. round_steps degree bits ++ xs) (rounds-suc n)
      ∙ sym
      (append_assoc (round_steps degree bits) (rounds_steps degree bits n)
      (round_steps degree bits))

  -- one round more
  pub rounds-push : (n : ℕ) → rounds_steps degree bits (n + 1) ≡ rounds_steps degree bits n
      ++ round_steps degree bits
  rounds-push n = rw add-one (rounds-suc n)

  -- no rounds
  pub rounds-zero : rounds_steps degree bits 0 ≡ []
  unfolding rounds_steps
  rounds-zero = refl

-- one more step
pub pushed : (xs ys : List Interaction) (x : Interaction) (s : Step) → ys ≡ xs ++ x ∷ [] →
    step_of x ≡ s → map step_of ys ≡ map step_of xs ++ s ∷ []
pushed xs ys x s more same =
    ap (map step_of) more ∙ map-append step_of xs (x ∷ []) ∙ ap (λ v. map step_of xs ++ v ∷ []) same

-- a value and another one, one after another
pub twice : {A : Type 0} (a b c : List A) (x y : A) → b ≡ a ++ x ∷ [] → c ≡ b ++ y ∷ [] →
    c ≡ a ++ x ∷ y ∷ []
twice a b c x y first last = last ∙ ap (λ v. v ++ y ∷ []) first ∙ append_assoc a (x ∷ []) (y ∷ [])

-- values and another one
pub then_one : {A : Type 0} (a b c p : List A) (y : A) → b ≡ a ++ p → c ≡ b ++ y ∷ [] →
    c ≡ a ++ (p ++ y ∷ [])
then_one a b c p y first last = last ∙ ap (λ v. v ++ y ∷ []) first ∙ append_assoc a p (y ∷ [])

-- a step, more steps and another step, one after another
pub guarded : {A : Type 0} (a b c d p : List A) (x y : A) → b ≡ a ++ x ∷ [] → c ≡ b ++ p →
    d ≡ c ++ y ∷ [] → d ≡ a ++ (x ∷ (p ++ y ∷ []))
guarded a b c d p x y first more last =
    last ∙ ap (λ v. v ++ y ∷ []) (more ∙ ap (λ v. v ++ p) first)
    ∙ append_assoc (a ++ x ∷ []) p (y ∷ []) ∙ append_assoc a (x ∷ []) (p ++ y ∷ [])

-- five lists after none, one after another
pub five_after : {A : Type 0} (a b c d e f p q r s t : List A) → a ≡ [] → b ≡ a ++ p → c ≡ b ++ q →
    d ≡ c ++ r → e ≡ d ++ s → f ≡ e ++ t → f ≡ (p ++ q) ++ (r ++ (s ++ t))
five_after a b c d e f p q r s t none first second third fourth fifth =
    fifth ∙ ap (λ v. v ++ t) fourth ∙ append_assoc d s t
    ∙ ap (λ v. v ++ (s ++ t)) third ∙ append_assoc c r (s ++ t)
    ∙ ap (λ v. v ++ (r ++ (s ++ t))) (second ∙ ap (λ v. v ++ q) (first ∙ ap (λ v. v ++ p) none))

-- steps of one degree as those of an equal one
pub at_degree : {A : Type 0} (f : ℕ → List A) (a b : List A) (m n : ℕ) → b ≡ a ++ f m → m ≡ n →
    b ≡ a ++ f n
at_degree f a b m n more same = more ∙ ap (λ k. a ++ f k) same
