-- The heights of matrices as codewords see them: those that the matrices have.
use Rattle.std.specs.Prelude.{◌≡◌, ℕ, Bool, ◌||◌, ◌==◌, List, [], ◌∷◌, map}
use Rattle.std.specs.List.{filter, list_any, range_with_len}
use Rattle.std.proofs.Common.{suc, refl, sym, ◌∙◌, ap}
use Rattle.circle_domain.proofs.Twiddles.{map-map}
use Rattle.std.proofs.lemmas.List.Elements.{filter_agree}
use Rattle.circle_commit.specs.Mmcs.{greatest}
use Rattle.circle_relation.specs.Accepts.{Fields}
use Rattle.circle_codewords.specs.Words.{Committed, committed_of}
use Rattle.circle_codewords.specs.declared.matrix.OpenedMatrix.{OpenedMatrix}
use Rattle.circle_prover.specs.Words.{heights_of, top_of}

-- a test of what elements are taken to
any-map : {X Y : Type 0} (p : Y → Bool) (f : X → Y) (xs : List X) → list_any (λ x. p (f x)) xs
    ≡ list_any p (map f xs)
any-map p f [] = refl
any-map p f (x ∷ xs) = ap (λ b. p (f x) || b) (any-map p f xs)

module _ {F E : Type 0} {over g : _} (k : Fields F E) (blowup : ℕ)
    (ms : List (OpenedMatrix F E over g)) where
  -- the greatest of them
  pub top-seen : greatest (map (λ m. m.log_height) ms) ≡ top_of (map (committed_of k blowup) ms)
  top-seen =
      ap greatest (sym (map-map (λ (c : Committed F E). c.log_height) (committed_of k blowup) ms))

  -- all of them
  pub heights-seen : filter (λ h. list_any (λ m. m.log_height == h) ms)
      (range_with_len 0 (suc (greatest (map (λ m. m.log_height) ms))))
      ≡ heights_of (map (committed_of k blowup) ms)
  heights-seen =
      let seen = map (committed_of k blowup) ms in
      ap (λ n. filter (λ h. list_any (λ m. m.log_height == h) ms) (range_with_len 0 (suc n)))
      top-seen
      ∙ filter_agree (λ h. list_any (λ m. m.log_height == h) ms)
      (λ h. list_any (λ (c : Committed F E). c.log_height == h) seen)
      (λ h. any-map (λ (c : Committed F E). c.log_height == h) (committed_of k blowup) ms)
      (range_with_len 0 (suc (top_of seen)))
