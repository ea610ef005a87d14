-- The heights of a run's claims are those of the committed matrices.
use Rattle.std.specs.Prelude.{◌≡◌, ℕ, ◌+◌, ◌-◌, ◌≤◌, ◌==◌, ◌||◌, List, [], ◌∷◌, map}
use Rattle.std.specs.List.{AllByRecursion, filter, list_any, range_with_len}
use Rattle.std.proofs.Common.{suc, refl, ◌∙◌, ap, arith}
use Rattle.std.proofs.lemmas.List.Elements.{filter_agree, recursion_from_All}
use Rattle.circle_commit.specs.Mmcs.{greatest}
use Rattle.circle_commit.specs.declared.params.FriParameters.{FriParameters}
use Rattle.circle_relation.specs.Accepts.{Fields, Run, claimed_heights, is_claimed, top}
use Rattle.circle_relation.specs.Statement.{MatrixClaim, log_height, log_max_height}
use Rattle.circle_codewords.specs.Words.{Committed}
use Rattle.circle_codewords.specs.Requests.{claimed}
use Rattle.circle_prover.specs.Words.{heights_of, top_of}
use Rattle.circle_completeness.specs.Over.{IsRunOver}

module _ {F E : Type 0} (blowup final : ℕ) where
  -- matrices that leave something to fold are claimed with their heights
  pub heights-claimed : (ms : List (Committed F E)) →
      AllByRecursion (λ m. blowup + final + 2 ≤ m.log_height) ms →
      map (log_height blowup) (map (claimed blowup) ms) ≡ map (λ m. m.log_height) ms
  heights-claimed [] tall = refl
  heights-claimed (m ∷ ms) tall =
      let here : m.log_height - blowup + blowup ≡ m.log_height = omega (arith, tall.0) in
      ap (λ n. n ∷ map (log_height blowup) (map (claimed blowup) ms)) here
      ∙ ap (λ ns. m.log_height ∷ ns) (heights-claimed ms tall.1)

  -- so one of a height is claimed where there is one
  pub any-claimed : (h : ℕ) (ms : List (Committed F E)) →
      AllByRecursion (λ m. blowup + final + 2 ≤ m.log_height) ms →
      list_any (λ m. log_height blowup m == h) (map (claimed blowup) ms)
      ≡ list_any (λ m. m.log_height == h) ms
  any-claimed h [] tall = refl
  any-claimed h (m ∷ ms) tall =
      let here : m.log_height - blowup + blowup ≡ m.log_height = omega (arith, tall.0) in
      ap
      (λ n. (n == h) || list_any (λ (c : MatrixClaim E). log_height blowup c == h)
      (map (claimed blowup) ms)) here
      ∙ ap (λ b. (m.log_height == h) || b) (any-claimed h ms tall.1)

module _ {F E M IC IP WC WP : Type 0} (k : Fields F E) (p : FriParameters M)
    (ms : List (Committed F E)) (r : Run F E WC IC IP WP) {bits : ℕ}
    (over : IsRunOver k p ms r bits) where
  tall-each : AllByRecursion (λ (m : Committed F E). p.log_blowup + p.log_final_poly_len
      + 2 ≤ m.log_height) ms
  tall-each =
      recursion_from_All (λ (m : Committed F E). p.log_blowup + p.log_final_poly_len
      + 2 ≤ m.log_height) ms over.tall

  -- the greatest height is the same
  pub top-same : top k p r ≡ top_of ms
  top-same = ap (log_max_height p.log_blowup) over.claims
      ∙ ap greatest (heights-claimed p.log_blowup p.log_final_poly_len ms tall-each)

  -- and so is what is claimed at each height
  pub claimed-same : (h : ℕ) → is_claimed k p r h ≡ list_any (λ m. m.log_height == h) ms
  claimed-same h = ap (list_any (λ (m : MatrixClaim E). log_height p.log_blowup m == h)) over.claims
      ∙ any-claimed p.log_blowup p.log_final_poly_len h ms tall-each

  -- and so are all heights
  pub heights-same : claimed_heights k p r ≡ heights_of ms
  heights-same =
      ap (λ n. filter (is_claimed k p r) (range_with_len 0 (suc n))) top-same
      ∙ filter_agree (is_claimed k p r)
      (λ h. list_any (λ (m : Committed F E). m.log_height == h) ms) claimed-same
      (range_with_len 0 (suc (top_of ms)))
