-- Two lists taken place by place, the sum of their products, and those of the columns of a matrix.
use Rattle.std.specs.Prelude.{ℕ, List, [], ◌∷◌, map}
use Rattle.std.specs.List.{range_with_len}
use Rattle.circle_field.specs.Field.{FieldOps}
use Rattle.circle_commit.specs.Matrix.{column}

-- f of the entries at each place
abbrev pub pairwise : {A B C : Type 0} → (A → B → C) → List A → List B → List C
pairwise f [] ys = []
pairwise f (x ∷ xs) [] = []
pairwise f (x ∷ xs) (y ∷ ys) = f x y ∷ pairwise f xs ys

module _ {F : Type 0} (k : FieldOps F) where
  -- the sum of the products of the entries at each place
  abbrev pub dot : List F → List F → F
  dot [] ys = k.zero
  dot (x ∷ xs) [] = k.zero
  dot (x ∷ xs) (y ∷ ys) = k.add (k.mul x y) (dot xs ys)

  -- each entry times a factor
  abbrev pub scaled : F → List F → List F
  scaled factor xs = map (λ a. k.mul a factor) xs

  -- each sum with the entry at its place, times the weight
  abbrev pub with_multiple : {B : Type 0} → (B → F) → F → List F → List B → List F
  with_multiple embed weight sums xs = pairwise (λ a x. k.add a (k.mul (embed x) weight)) sums xs

  -- for each column the sum of its entries, each times the weight of its row
  abbrev pub column_sums : {B : Type 0} → B → (B → F) → List (List B) → ℕ → List F → List F
  column_sums zero embed rows width weights =
      map (λ j. dot weights (map embed (column zero rows j))) (range_with_len 0 width)
