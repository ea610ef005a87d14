-- Loops that make one item for each item of a list.
use Rattle.std.specs.Prelude.{◌≡◌, ℕ, ◌+◌, ◌<◌, List, [], ◌∷◌, ◌++◌, length, map, take}
use Rattle.std.specs.Prelude.{slice_index_or, zip}
use Rattle.std.proofs.Common.{refl, sym, ◌∙◌, ap, arith}
use Rattle.std.proofs.lemmas.List.{map-append, map-id, map_more, take_all}
use Rattle.circle_commit.specs.DotProduct.{pairwise}

-- one more item that is pushed: by h the made items are what by g the items of a list are
pub mapped-more : {A B D : Type 0} (g : A → D) (h : B → D) (xs : List A) (i n : ℕ) (x : A)
    (old new : List B) (w : B) → n ≡ i + 1 →
    i < length xs → x ≡ slice_index_or xs i x → new ≡ old ++ w ∷ [] → h w ≡ g x →
    map h old ≡ map g (take i xs) → map h new ≡ map g (take n xs)
mapped-more g h xs i n x old new w next lt is pushed made so_far =
    ap (map h) pushed ∙ map-append h old (w ∷ []) ∙ ap (λ l. l ++ h w ∷ []) so_far
    ∙ ap (λ v. map g (take i xs) ++ v ∷ []) (made ∙ ap g is)
    ∙ sym (map_more g xs i x lt) ∙ ap (λ m. map g (take m xs)) (sym next)

-- so where they are the items themselves
pub taken-more : {A B : Type 0} (h : B → A) (xs : List A) (i n : ℕ) (x : A) (old new : List B)
    (w : B) → n ≡ i + 1 →
    i < length xs → x ≡ slice_index_or xs i x → new ≡ old ++ w ∷ [] → h w ≡ x →
    map h old ≡ take i xs → map h new ≡ take n xs
taken-more h xs i n x old new w next lt is pushed made so_far =
    mapped-more (λ a. a) h xs i n x old new w next lt is pushed made
    (so_far ∙ sym (map-id (take i xs))) ∙ map-id (take n xs)

-- what two lists are put side by side, once one of them is read
pub zip-mapped : {A B C : Type 0} (h : B → C) (xs : List A) (ys : List B) →
    map (λ p. (p.0, h p.1)) (zip xs ys) ≡ zip xs (map h ys)
zip-mapped h [] ys = refl
zip-mapped h (x ∷ xs) [] = refl
zip-mapped h (x ∷ xs) (y ∷ ys) = ap (λ l. (x, h y) ∷ l) (zip-mapped h xs ys)

-- so of a function of both, which reads the second
pub pairwise-mapped : {A B C D : Type 0} (f : A → C → D) (h : B → C) (xs : List A) (ys : List B) →
    map (λ p. f p.0 (h p.1)) (zip xs ys) ≡ pairwise f xs (map h ys)
pairwise-mapped f h [] ys = refl
pairwise-mapped f h (x ∷ xs) [] = refl
pairwise-mapped f h (x ∷ xs) (y ∷ ys) = ap (λ l. f x (h y) ∷ l) (pairwise-mapped f h xs ys)

-- and of three lists, of which the second and the third are read
pub pairwise-of-zip : {A B C D G : Type 0} (f : A × C → G → D) (h : B → C) {X : Type 0} (k : X → G)
    (xs : List A) (ys : List B) (zs : List X) →
    map (λ p. f (p.0.0, h p.0.1) (k p.1)) (zip (zip xs ys) zs)
    ≡ pairwise f (zip xs (map h ys)) (map k zs)
pairwise-of-zip f h k [] ys zs = refl
pairwise-of-zip f h k (x ∷ xs) [] zs = refl
pairwise-of-zip f h k (x ∷ xs) (y ∷ ys) [] = refl
pairwise-of-zip f h k (x ∷ xs) (y ∷ ys) (z ∷ zs) =
    ap (λ l. f (x, h y) (k z) ∷ l) (pairwise-of-zip f h k xs ys zs)

-- as many items as there are
pub taken-all : {A : Type 0} (n : ℕ) (xs : List A) → n ≡ length xs → take n xs ≡ xs
taken-all n xs all = take_all n xs (omega (arith, all))
