-- What a call on a block does, from what the calls on its halves do.
use Rattle.std.specs.Prelude.{◌≡◌, ℕ, ◌-◌, ◌^◌, ◌≤◌, List, [], ◌∷◌, ◌++◌, length, take, drop}
use Rattle.std.specs.Prelude.{slice_index_or}
use Rattle.std.proofs.Common.{suc, sym, ◌∙◌, ap, arith, append_assoc, length-drop}
use Rattle.std.proofs.lemmas.List.{take_all}
use Rattle.circle_field.specs.Field.{FieldOps, sub}
use Rattle.circle_point.specs.Basis.{iterated_x}
use Rattle.circle_commit.specs.DotProduct.{pairwise}
use Rattle.circle_folding.specs.Interpolation.{block_factors, multiples}

-- all but the first entry
pub rest-whole : {T : Type 0} (xs : List T) → take (length xs - 1) (drop 1 xs) ≡ drop 1 xs
rest-whole xs = take_all (length xs - 1) (drop 1 xs) (omega (arith, length-drop 1 xs))

module _ {F E : Type 0} (l : FieldOps E) (embed : F → E) where
  pub joined-multiples : (n m : ℕ) (is first second : List F) (ws lo hi a b u v : List E) (i : F) →
      n ≡ suc m → 1 ≤ length is →
      i ≡ slice_index_or is 0 i → first ≡ take (2 ^ m - 1) (drop 1 is) →
      second ≡ drop (2 ^ m - 1) (drop 1 is) →
      lo ≡ take (2 ^ m) ws → hi ≡ drop (2 ^ m) ws → a ≡ multiples l embed m first lo →
      b ≡ multiples l embed m second hi →
      u ≡ pairwise l.add a b → v ≡ pairwise (λ x y. l.mul (embed i) (sub l x y)) a b →
      u ++ v ≡ multiples l embed n is ws
  joined-multiples n m [] first second ws lo hi a b u v i more some head ef es el eh ea eb eu ev =
      absurd (omega (arith, some))
  joined-multiples n m (j ∷ js) first second ws lo hi a b u v i more some head ef es el eh ea eb eu
      ev =
      let step = λ (t : F) (xs ys : List E). pairwise l.add xs ys
      ++ pairwise (λ x y. l.mul (embed t) (sub l x y)) xs ys in
      let whole_a : a ≡ multiples l embed m (take (2 ^ m - 1) js) (take (2 ^ m) ws) =
      ea ∙ ap (λ f. multiples l embed m f lo) ef
      ∙ ap (multiples l embed m (take (2 ^ m - 1) js)) el in
      let whole_b : b ≡ multiples l embed m (drop (2 ^ m - 1) js) (drop (2 ^ m) ws) =
      eb ∙ ap (λ f. multiples l embed m f hi) es
      ∙ ap (multiples l embed m (drop (2 ^ m - 1) js)) eh in
      ap (λ x. x ++ v) eu ∙ ap (λ x. pairwise l.add a b ++ x) ev
      ∙ ap (λ t. step t a b) head ∙ ap (λ x. step j x b) whole_a
      ∙ ap (step j (multiples l embed m (take (2 ^ m - 1) js) (take (2 ^ m) ws))) whole_b
      ∙ ap (λ r. multiples l embed r (j ∷ js) ws) (sym more)

module _ {F : Type 0} (k : FieldOps F) where
  -- a list of length 2^n
  pub joined-factors : (n m : ℕ) (xs lo hi old pushed first both : List F) (x t : F) → n ≡ suc m →
      x ≡ slice_index_or xs 0 x → 1 ≤ length xs →
      t ≡ iterated_x k m x → lo ≡ take (2 ^ m) xs → hi ≡ drop (2 ^ m) xs → pushed ≡ old ++ t ∷ [] →
      first ≡ pushed ++ block_factors k m lo →
      both ≡ first ++ block_factors k m hi → both ≡ old ++ block_factors k n xs
  joined-factors n m [] lo hi old pushed first both x t more head some factor el eh ep ef eb =
      absurd (omega (arith, some))
  joined-factors n m (y ∷ ys) lo hi old pushed first both x t more head some factor el eh ep ef eb =
      let is_t : t ≡ iterated_x k m y = factor ∙ ap (iterated_x k m) head in
      let a = block_factors k m (take (2 ^ m) (y ∷ ys)) in
      let b = block_factors k m (drop (2 ^ m) (y ∷ ys)) in
      eb ∙ ap (λ z. z ++ block_factors k m hi) (ef ∙ ap (λ z. z ++ block_factors k m lo) ep
      ∙ ap (λ z. (old ++ t ∷ []) ++ block_factors k m z) el)
      ∙ ap (λ z. ((old ++ t ∷ []) ++ a) ++ block_factors k m z) eh
      ∙ append_assoc (old ++ t ∷ []) a b ∙ append_assoc old (t ∷ []) (a ++ b)
      ∙ ap (λ z. old ++ z ∷ (a ++ b)) is_t ∙ ap (λ r. old ++ block_factors k r (y ∷ ys)) (sym more)
