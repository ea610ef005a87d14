-- Entries that are made anew one part after another.
use Rattle.std.specs.Prelude.{◌≡◌, ℕ, ◌+◌, ◌*◌, ◌≤◌, List, [], ◌++◌, length, take, drop}
use Rattle.std.proofs.Common.{sym, ◌∙◌, ap, arith, append_assoc, append-nil, add-one}
use Rattle.std.proofs.Math.Nat.{suc-mul}
use Rattle.std.proofs.lemmas.List.{drop-drop, drop_all, take_all}
use Rattle.std.proofs.lemmas.Slice.{take-put_mid, drop-put_mid}
use borrow.Rule.Slice.PartMut.{put_mid}

-- parts of n entries; what is to be made of those from part i on
module _ {A : Type 0} (rest : ℕ → List A → List A) (n : ℕ) where
  -- a part that was made anew in its place
  pub part-more : (xs ys : List A) (i start len : ℕ) → start ≡ i * n → len ≡ n →
      start + len ≤ length xs → length ys ≡ len →
      rest i (drop start xs) ≡ ys ++ rest (i + 1) (drop len (drop start xs)) →
      take ((i + 1) * n) (put_mid start len xs ys)
      ++ rest (i + 1) (drop ((i + 1) * n) (put_mid start len xs ys)) ≡ take (i * n) xs
      ++ rest i (drop (i * n) xs)
  part-more xs ys i start len e_start e_len fits long made =
      let put = put_mid start len xs ys in
      let next : (i + 1) * n ≡ start + len = ap (λ m. m * n) (add-one i) ∙ suc-mul i n
      ∙ omega (arith, e_start, e_len) in
      ap (λ m. take m put ++ rest (i + 1) (drop m put)) next
      ∙ ap (λ a. a ++ rest (i + 1) (drop (start + len) put))
      (take-put_mid start len xs ys (start + len) (omega (arith, long)) (omega (arith, fits)))
      ∙ ap (λ b. (take start xs ++ ys) ++ rest (i + 1) b)
      (drop-put_mid start len xs ys (start + len) (omega arith) (omega (arith, fits)) long
      ∙ sym (drop-drop len start xs))
      ∙ append_assoc (take start xs) ys (rest (i + 1) (drop len (drop start xs)))
      ∙ ap (λ b. take start xs ++ b) (sym made)
      ∙ ap (λ m. take m xs ++ rest i (drop m xs)) e_start

  -- no part is left
  pub part-end : (xs : List A) (i : ℕ) → length xs ≡ i * n → rest i [] ≡ [] → take (i * n) xs
      ++ rest i (drop (i * n) xs) ≡ xs
  part-end xs i long none =
      ap (λ us. take (i * n) xs ++ rest i us) (drop_all (i * n) xs (omega (arith, long)))
      ∙ ap (λ us. take (i * n) xs ++ us) none ∙ append-nil (take (i * n) xs)
      ∙ take_all (i * n) xs (omega (arith, long))
