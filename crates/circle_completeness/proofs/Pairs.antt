-- A codeword as rows of two: what stands at a place, its sibling, and the row that both are in.
use Rattle.std.specs.Prelude.{◌≡◌, ℕ, ◌+◌, ◌-◌, ◌*◌, ◌/◌, ◌%◌, ◌^◌, ◌<◌, ◌≤◌, List, [], ◌∷◌, length}
use Rattle.std.specs.Prelude.{take, drop, slice_index_or, nat_eq, if◌then◌else◌}
use Rattle.std.proofs.Common.{zero, suc, refl, sym, ◌∙◌, ap, arith}
use Rattle.std.proofs.Math.Nat.{pow-suc}
use Rattle.std.proofs.lemmas.List.{get_or-drop, get_or-take, length-drop, length-take-le}
use Rattle.std.proofs.lemmas.Option.{get_or_from_slice_get}
use Rattle.circle_folding.specs.Chain.{pair_of}
use Rattle.circle_codewords.specs.Words.{pairs_of}
use Rattle.circle_codewords.specs.Openings.{sibling_in}
use Rattle.circle_commit.specs.RowFacts.{rows_from-row}

-- the row of a place, and its length
row-of : {E : Type 0} (w : List E) (i : ℕ) → i / 2 < length w / 2 →
    slice_index_or (pairs_of w) (i / 2) [] ≡ take 2 (drop (i / 2 * 2) w)
row-of w i lt = get_or_from_slice_get (pairs_of w) (i / 2) (take 2 (drop (i / 2 * 2) w)) []
    (rows_from-row 2 (length w / 2) (i / 2) w lt)

pub length-row : {E : Type 0} (w : List E) (i : ℕ) → i / 2 < length w / 2 →
    length (slice_index_or (pairs_of w) (i / 2) []) ≡ 2
length-row w i lt =
    ap length (row-of w i lt)
    ∙ length-take-le 2 (drop (i / 2 * 2) w) (omega (arith, lt, length-drop (i / 2 * 2) w))

-- what stands at a place of a codeword stands in its row
pub row-read : {E : Type 0} (z : E) (w : List E) (i : ℕ) → i / 2 < length w / 2 →
    slice_index_or (slice_index_or (pairs_of w) (i / 2) []) (i % 2) z ≡ slice_index_or w i z
row-read z w i lt =
    let at : i / 2 * 2 + i % 2 ≡ i = omega arith in
    ap (λ row. slice_index_or row (i % 2) z) (row-of w i lt)
    ∙ get_or-take 2 (drop (i / 2 * 2) w) (i % 2) z (omega arith)
    ∙ get_or-drop (i / 2 * 2) w (i % 2) z
    ∙ ap (λ n. slice_index_or w n z) at

-- the two entries of a row, either of them as the value
put-back : {E : Type 0} (z : E) (row : List E) (p : ℕ) → p < 2 → length row ≡ 2 →
    (if nat_eq p 0 then slice_index_or row p z ∷ slice_index_or row (1 - p) z
    ∷ [] else slice_index_or row (1 - p) z ∷ slice_index_or row p z ∷ []) ≡ row
put-back z [] p low two = absurd (omega arith)
put-back z (a ∷ []) p low two = absurd (omega arith)
put-back z (a ∷ b ∷ c ∷ rest) p low two = absurd (omega arith)
put-back z (a ∷ b ∷ []) zero low two = refl
put-back z (a ∷ b ∷ []) (suc zero) low two = refl
put-back z (a ∷ b ∷ []) (suc (suc p)) low two = absurd (omega arith)

-- the value at a place and its sibling are the row that the place falls into
pub pair-back : {E : Type 0} (z : E) (w : List E) (i : ℕ) → i / 2 < length w / 2 →
    pair_of i (slice_index_or w i z) (sibling_in z i (slice_index_or (pairs_of w) (i / 2) []))
    ≡ slice_index_or (pairs_of w) (i / 2) []
pair-back z w i lt =
    let row = slice_index_or (pairs_of w) (i / 2) [] in
    ap (λ v. pair_of i v (sibling_in z i row)) (sym (row-read z w i lt))
    ∙ put-back z row (i % 2) (omega arith) (length-row w i lt)

-- so in a codeword of an even number of entries
pub pair-back_even : {E : Type 0} (z : E) (w : List E) (n i : ℕ) → length w ≡ 2 * n → i < length w →
    pair_of i (slice_index_or w i z) (sibling_in z i (slice_index_or (pairs_of w) (i / 2) []))
    ≡ slice_index_or (pairs_of w) (i / 2) []
pair-back_even z w n i even lt = pair-back z w i (omega arith)

-- and in a codeword of a power of two
pub pair-back_power : {E : Type 0} (z : E) (w : List E) (h i : ℕ) → 1 ≤ h → length w ≡ 2 ^ h →
    i < 2 ^ h →
    pair_of i (slice_index_or w i z) (sibling_in z i (slice_index_or (pairs_of w) (i / 2) []))
    ≡ slice_index_or (pairs_of w) (i / 2) []
pair-back_power z w h i positive long lt =
    let next : h ≡ suc (h - 1) = omega (arith, positive) in
    pair-back_even z w (2 ^ (h - 1)) i
    (omega (arith, long, ap (λ n. 2 ^ n) next, pow-suc 2 (h - 1))) (omega (arith, long, lt))
