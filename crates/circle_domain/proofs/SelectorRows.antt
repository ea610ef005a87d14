-- Facts and values at each of the points that are stored.
use Rattle.std.specs.Prelude.{◌≡◌, List, [], ◌∷◌, map, All}
use Rattle.std.proofs.Common.{zero, suc, ◌∙◌, ap, refl, arith}
use Rattle.circle_commit.specs.DotProduct.{pairwise}

module _ {P C X : Type 0} (view : P → C) where
  -- what follows of each item's view holds of what is made of each item
  pub all-mapped : (Q : C → Type 0) (h : P → X) (R : X → Type 0) (xs : List P) →
      ((x : P) → Q (view x) → R (h x)) → All Q (map view xs) → All R (map h xs)
  all-mapped Q h R [] f a i d below = absurd (omega arith)
  all-mapped Q h R (x ∷ xs) f a zero d below = f x (a zero (view x) (omega arith))
  all-mapped Q h R (x ∷ xs) f a (suc i) d below =
      all-mapped Q h R xs f (λ j e b. a (suc j) e (omega (arith, b))) i d (omega (arith, below))

  -- values of the items' views, made with the items into values of the views
  pub selector-rows : {Y : Type 0} (f : X → P → Y) (v : P → X) (w : C → Y) (xs : List P) →
      ((x : P) → f (v x) x ≡ w (view x)) →
      pairwise f (map v xs) xs ≡ map w (map view xs)
  selector-rows f v w [] e = refl
  selector-rows f v w (x ∷ xs) e = ap (λ y. y ∷ pairwise f (map v xs) xs) (e x)
      ∙ ap (λ ys. w (view x) ∷ ys) (selector-rows f v w xs e)
