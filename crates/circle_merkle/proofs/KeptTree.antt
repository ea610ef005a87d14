-- The levels that are kept of a tree.
use Rattle.std.specs.Prelude.{◌≡◌, ℕ, ◌+◌, ◌-◌, ◌^◌, ◌<◌, List, [], ◌++◌, length, map, All, Vec}
use Rattle.std.specs.Prelude.{◌∷◌}
use Rattle.std.specs.List.{range_with_len, remove}
use Rattle.std.specs.declared.alloc.Global.{Global}
use Rattle.std.proofs.Common.{suc, sym, ap, ◌∙◌, arith, get_or, add-one}
use Rattle.std.proofs.lemmas.List.{length-map, get_or-map}
use Rattle.std.proofs.lemmas.List.FromFn.{length-map-range_with_len, get_or-map-range_with_len}
use Rattle.circle_commit.specs.declared.matrix.RowMajorMatrix.{RowMajorMatrix}
use Rattle.circle_merkle.specs.Tree.{digest, is_taken, taken, proof_of}
use Rattle.circle_merkle.specs.Rows.{matrix_rows}
use Rattle.circle_merkle.specs.Authentication.{tree_levels, upper_levels}
use Rattle.circle_merkle.proofs.Maps.{items-at, items-count, range-within}
use Rattle.circle_merkle.proofs.Honest.{proof-more}

module _ (hash : List ℕ → List ℕ) {T : Type 0} (bytes : T → List ℕ)
    (matrices : List (RowMajorMatrix T)) (count : ℕ) where
  abbrev at : ℕ → ℕ → List ℕ
  at = digest hash (matrix_rows bytes matrices)

  abbrev due : ℕ → List (List ℕ)
  due level = map (at level) (range_with_len 0 (2 ^ (count - level)))

  module _ (levels : List (Vec (List ℕ) Global)) (tree : map (λ level. level.items) levels
      ≡ tree_levels hash bytes matrices count) where
    pub whole-length : length levels ≡ count + 1
    whole-length = items-count due (count + 1) levels tree

    -- the topmost level has the root alone
    pub whole-root : (v : Vec (List ℕ) Global) → v ≡ get_or levels count v → v.items ≡ at count 0
        ∷ []
    whole-root v e =
        let one : 2 ^ (count - count) ≡ 1 =
        (let z : count - count ≡ 0 = omega arith in ap (λ k. 2 ^ k) z) in
        items-at due (count + 1) count levels v tree (omega arith) e
        ∙ ap (λ n. map (at count) (range_with_len 0 n)) one

  rest : List (List (List ℕ)) → List (List (List ℕ))
  rest [] = []
  rest (level ∷ levels) = levels

  -- without the lowest level
  pub upper-tree : (levels : List (Vec (List ℕ) Global)) → map (λ level. level.items) levels
      ≡ tree_levels hash bytes matrices count →
      map (λ level. level.items) (remove levels 0) ≡ upper_levels hash bytes matrices count
  unfolding rest
  upper-tree [] tree =
      (let none : 0 ≡ count + 1 = whole-length [] tree in absurd (omega (arith, none)))
  upper-tree (level ∷ levels) tree =
      ap rest (tree ∙ ap (λ n. map due (range_with_len 0 n)) (add-one count))

  -- the digests of a level that is kept
  pub kept-digest : (levels : List (Vec (List ℕ) Global)) → map (λ level. level.items) levels
      ≡ upper_levels hash bytes matrices count →
      (above : ℕ) → above < count → (v : Vec (List ℕ) Global) → v ≡ get_or levels above v →
      v.items ≡ due (suc above)
  kept-digest levels tree above h v e =
      let long : above < length levels =
      omega (
        arith,
        sym (length-map levels (λ v. v.items)) ∙ ap length tree
            ∙ length-map-range_with_len due 1 count,
      ) in
      ap (λ v. v.items) e ∙ sym (get_or-map (λ v. v.items) levels above v [] long)
      ∙ ap (λ xs. get_or xs above []) tree
      ∙ get_or-map-range_with_len due 1 count above (suc above) [] h (omega arith)

  module _ (indices : List ℕ) (level : ℕ) where
    pub taken-within : All (λ i. i < 2 ^ (count - level)) (taken indices count level)
    taken-within = range-within
        (is_taken indices level) 0 (2 ^ (count - level)) (2 ^ (count - level)) (omega arith)

    pub kept-proof : (positions : List ℕ) → positions ≡ taken indices count level →
        proof_of at indices count level ++ map (at level) positions
        ≡ proof_of at indices count (suc level)
    kept-proof positions same = ap (λ ps. proof_of at indices count level ++ map (at level) ps) same
        ∙ sym (proof-more at indices count level)
