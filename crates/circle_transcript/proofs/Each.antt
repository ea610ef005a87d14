-- What is appended for each value of a list.
use Rattle.std.specs.Prelude.{Vec}
use Rattle.std.proofs.Common.{◌≡◌, ℕ, ◌+◌, List, [], ◌∷◌, ◌++◌, take, map, flat_map, sym, ap, ◌∙◌}
use Rattle.std.proofs.Common.{append_assoc}
use Rattle.std.proofs.lemmas.List.{append-nil, map-append}
use Rattle.std.proofs.lemmas.Grind.{flat_map-append}
use Rattle.circle_transcript.specs.Shape.{widths_in}
use Rattle.circle_transcript.specs.ShapeOf.{matrices_of, batches_of}

-- what a function gives of the values so far, and what it gives of one more
pub one_more : {A B : Type 0} (g : List A → List B) (y : List B) (xs : List A) (i : ℕ) (x : A)
    (front before after : List B) →
    take (i + 1) xs ≡ take i xs ++ x ∷ [] → g (take i xs ++ x ∷ []) ≡ g (take i xs) ++ y →
    before ≡ front ++ g (take i xs) → after ≡ before ++ y → after ≡ front ++ g (take (i + 1) xs)
one_more g y xs i x front before after read last so_far more =
    more ∙ ap (λ v. v ++ y) so_far ∙ append_assoc front (g (take i xs)) y
    ∙ ap (λ v. front ++ v) (sym (ap g read ∙ last))

module _ {A B : Type 0} (f : A → List B) where
  pub each-push : (xs : List A) (x : A) → flat_map f (xs ++ x ∷ []) ≡ flat_map f xs ++ f x
  each-push xs x = flat_map-append f xs (x ∷ []) ∙ ap (λ v. flat_map f xs ++ v) (append-nil (f x))

  pub mapped-push : {C : Type 0} (h : C → A) (xs : List C) (x : C) →
      flat_map f (map h (xs ++ x ∷ [])) ≡ flat_map f (map h xs) ++ f (h x)
  mapped-push h xs x = ap (flat_map f) (map-append h xs (x ∷ [])) ∙ each-push (map h xs) (h x)

module _ {B R : Type 0} (f : ℕ → List B) where
  -- for each number of each matrix
  pub matrices-push : (ms : List (Vec ℕ R)) (m : Vec ℕ R) →
      flat_map f (flat_map (λ m. m) (matrices_of (ms ++ m ∷ [])))
      ≡ flat_map f (flat_map (λ m. m) (matrices_of ms)) ++ flat_map f m.items
  matrices-push ms m =
      ap (flat_map f) (mapped-push (λ m. m) (λ (v : Vec ℕ R). v.items) ms m)
      ∙ flat_map-append f (flat_map (λ m. m) (matrices_of ms)) m.items

  -- for each number of each batch
  pub batches-push : (bs : List (Vec (Vec ℕ R) R)) (b : Vec (Vec ℕ R) R) →
      flat_map f (widths_in (batches_of (bs ++ b ∷ []))) ≡ flat_map f (widths_in (batches_of bs))
      ++ flat_map f (flat_map (λ m. m) (matrices_of b.items))
  batches-push bs b =
      ap (λ v. flat_map f (flat_map (λ m. m) v))
      (mapped-push (λ b. b) (λ (v : Vec (Vec ℕ R) R). matrices_of v.items) bs b)
      ∙ ap (flat_map f)
      (flat_map-append (λ m. m) (flat_map (λ b. b) (batches_of bs)) (matrices_of b.items))
      ∙ flat_map-append f (widths_in (batches_of bs)) (flat_map (λ m. m) (matrices_of b.items))
