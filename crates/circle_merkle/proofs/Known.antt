-- The known positions of a tree, level by level.
use Rattle.std.specs.Prelude.{◌≡◌, ℕ, ◌+◌, ◌-◌, ◌*◌, ◌/◌, ◌^◌, ◌<◌, ◌≤◌, ◌==◌, ◌||◌, Bool, true}
use Rattle.std.specs.Prelude.{false, List, [], ◌∷◌, length, filter, All, slice_index_or}
use Rattle.std.specs.List.{range_with_len}
use Rattle.std.proofs.Common.{suc, refl, sym, ap, ◌∙◌, arith, ⊎_elim}
use Rattle.std.proofs.lemmas.Bool.{eq-eqb, ne_eqb, cases_eq}
use Rattle.std.proofs.lemmas.Nat.{shr-shr, shr_below}
use Rattle.std.proofs.lemmas.List.Folds.{list_any_at}
use Rattle.std.proofs.lemmas.List.Elements.{filter_agree}
use Rattle.circle_merkle.specs.Tree.{is_known, is_taken, known, taken}
use Rattle.circle_merkle.specs.Walk.{parents_of, siblings_of}
use Rattle.circle_merkle.proofs.Pairs.{above, siblings-pairs, parents-pairs}
use Rattle.circle_merkle.proofs.Powers.{halves}

or-swap : (a b c d : Bool) → ((a || b) || (c || d)) ≡ ((a || c) || (b || d))
or-swap true b true d = refl
or-swap true b false d = refl
or-swap false true true d = refl
or-swap false true false d = refl
or-swap false false true d = refl
or-swap false false false d = refl

-- a position has this one above it where it is one of the pair
pub half-is : (x p : ℕ) → (x / 2 == p) ≡ ((x == 2 * p) || (x == 2 * p + 1))
half-is x p =
    ⊎_elim
    (λ e. eq-eqb (x / 2) p (omega arith)
    ∙ sym (ap (λ b. b || (x == 2 * p + 1)) (eq-eqb x (2 * p) e)))
    (λ n. ⊎_elim
    (λ e. eq-eqb (x / 2) p (omega arith)
    ∙ sym (ap (λ b. b || (x == 2 * p + 1)) (ne_eqb x (2 * p) n) ∙ eq-eqb x (2 * p + 1) e))
    (λ m. ne_eqb (x / 2) p (λ e. absurd (omega arith))
    ∙ sym (ap (λ b. b || (x == 2 * p + 1)) (ne_eqb x (2 * p) n) ∙ ne_eqb x (2 * p + 1) m))
    (cases_eq x (2 * p + 1)))
    (cases_eq x (2 * p))

pub shift-more : (index level : ℕ) → index / 2 ^ suc level ≡ index / 2 ^ level / 2
shift-more index level = let e : level + 1 ≡ suc level = omega arith in
    ap (λ k. index / 2 ^ k) (sym e) ∙ sym (shr-shr index level 1)

pub is_known-above : (indices : List ℕ) (level p : ℕ) → is_known indices (suc level) p
    ≡ above (is_known indices level) p
is_known-above [] level p = refl
is_known-above (index ∷ indices) level p =
    let x = index / 2 ^ level in
    ap (λ y. (y == p) || is_known indices (suc level) p) (shift-more index level)
    ∙ ap (λ b. b || is_known indices (suc level) p) (half-is x p)
    ∙ ap (λ b. ((x == 2 * p) || (x == 2 * p + 1)) || b) (is_known-above indices level p)
    ∙ or-swap (x == 2 * p) (x == 2 * p + 1) (is_known indices level (2 * p))
    (is_known indices level (2 * p + 1))

module _ (indices : List ℕ) (levels level : ℕ) (h : level < levels) where
  pub parents-known : parents_of (known indices levels level) ≡ known indices levels (suc level)
  parents-known =
      let n = 2 ^ (levels - suc level) in
      let next : level + 1 ≡ suc level = omega arith in
      let size : 2 ^ (levels - level) ≡ 2 * n = halves levels level h
      ∙ ap (λ k. 2 * 2 ^ (levels - k)) next in
      ap (λ m. parents_of (filter (is_known indices level) (range_with_len 0 m))) size
      ∙ parents-pairs (is_known indices level) 0 n
      ∙ filter_agree (above (is_known indices level)) (is_known indices (suc level))
      (λ p. sym (is_known-above indices level p)) (range_with_len 0 n)

  pub siblings-known : siblings_of (known indices levels level) ≡ taken indices levels level
  siblings-known =
      let n = 2 ^ (levels - suc level) in
      let next : level + 1 ≡ suc level = omega arith in
      let size : 2 ^ (levels - level) ≡ 2 * n = halves levels level h
      ∙ ap (λ k. 2 * 2 ^ (levels - k)) next in
      ap (λ m. siblings_of (filter (is_known indices level) (range_with_len 0 m))) size
      ∙ siblings-pairs (is_known indices level) 0 n
      ∙ ap (λ m. filter (is_taken indices level) (range_with_len 0 m)) (sym size)

-- the topmost position is known
pub known-root : (indices : List ℕ) (levels : ℕ) → 1 ≤ length indices →
    All (λ i. i < 2 ^ levels) indices → is_known indices levels 0 ≡ true
known-root indices levels some below =
    let first = slice_index_or indices 0 0 in
    let lt : first < 2 ^ (0 + levels) =
    omega (
      arith,
      below 0 0 some,
      (let e : 0 + levels ≡ levels = omega arith in ap (λ k. 2 ^ k) e),
    ) in
    list_any_at (λ index. index / 2 ^ levels == 0) indices 0 0 (omega arith)
    (eq-eqb (first / 2 ^ levels) 0 (omega (arith, shr_below first 0 levels lt)))
