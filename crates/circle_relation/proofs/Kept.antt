-- The numbers below a bound that pass a test.
use Rattle.std.proofs.Common.{◌≡◌, ℕ, ◌+◌, Bool, true, false, cond, List, [], ◌∷◌, ◌++◌, refl, sym}
use Rattle.std.proofs.Common.{ap, ◌∙◌, arith}
use Rattle.std.specs.Prelude.{map}
use Rattle.std.specs.List.{filter, range_with_len}
use Rattle.std.proofs.lemmas.List.{append-nil}
use Rattle.std.proofs.lemmas.List.FromFn.{filter_of_map_range_with_len_more}

map-same : (xs : List ℕ) → map (λ m. m) xs ≡ xs
map-same [] = refl
map-same (x ∷ xs) = ap (λ ys. x ∷ ys) (map-same xs)

-- one more number, tested
module _ (p : ℕ → Bool) (n : ℕ) where
  more-range : filter p (range_with_len 0 (n + 1)) ≡ filter p (range_with_len 0 n)
      ++ cond (p n) (n ∷ []) []
  more-range =
      ap (filter p) (sym (map-same (range_with_len 0 (n + 1))))
      ∙ filter_of_map_range_with_len_more p (λ m. m) 0 n n (omega arith)
      ∙ ap (λ xs. filter p xs ++ cond (p n) (n ∷ []) []) (map-same (range_with_len 0 n))

  pub more-kept : (before after : List ℕ) → before ≡ filter p (range_with_len 0 n) →
      after ≡ before ++ n ∷ [] → p n ≡ true → after ≡ filter p (range_with_len 0 (n + 1))
  more-kept before after kept pushed passes =
      pushed ∙ ap (λ xs. xs ++ n ∷ []) kept
      ∙ ap (λ b. filter p (range_with_len 0 n) ++ cond b (n ∷ []) []) (sym passes)
      ∙ sym more-range

  pub more-left : (before : List ℕ) → before ≡ filter p (range_with_len 0 n) → p n ≡ false →
      before ≡ filter p (range_with_len 0 (n + 1))
  more-left before kept fails =
      kept ∙ sym (append-nil (filter p (range_with_len 0 n)))
      ∙ ap (λ b. filter p (range_with_len 0 n) ++ cond b (n ∷ []) []) (sym fails)
      ∙ sym more-range
