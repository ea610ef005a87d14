-- Rows in the other order of a domain, twice and at an index.
use Rattle.std.specs.Prelude.{◌≡◌, ℕ, ◌^◌, ◌<◌, List, [], length, map, slice_index_or}
use Rattle.std.specs.List.{range_with_len}
use Rattle.std.proofs.Common.{sym, ◌∙◌, ap, arith}
use Rattle.std.proofs.lemmas.List.FromFn.{fill_by_all, length-map-range_with_len}
use Rattle.std.proofs.lemmas.List.FromFn.{get_or-map-range_with_len}
use Rattle.circle_domain.specs.Ordering.{cfft_index, other_order}
use Rattle.circle_domain.proofs.Reversal.{cfft_index-below, cfft_index-own_inverse}

-- row i of a list of rows by index
get_or-indexed : {T : Type 0} (f : ℕ → List T) (n i : ℕ) (d : List T) → i < n →
    slice_index_or (map f (range_with_len 0 n)) i d ≡ f i
get_or-indexed f n i d h = get_or-map-range_with_len f 0 n i i d h (omega arith)

-- the other order of rows by index
pub other_order-indexed : {T : Type 0} (n : ℕ) (f : ℕ → List T) →
    other_order n (map f (range_with_len 0 (2 ^ n)))
    ≡ map (λ i. f (cfft_index n i)) (range_with_len 0 (2 ^ n))
other_order-indexed n f =
    let rows = map f (range_with_len 0 (2 ^ n)) in
    let there = λ (i : ℕ). slice_index_or rows (cfft_index n i) [] in
    fill_by_all (λ i. f (cfft_index n i)) (other_order n rows) (2 ^ n) []
    (length-map-range_with_len there 0 (2 ^ n))
    (λ i h. get_or-indexed there (2 ^ n) i [] h
    ∙ get_or-indexed f (2 ^ n) (cfft_index n i) [] (cfft_index-below n i))

pub other_order-twice : {T : Type 0} (n : ℕ) (rows : List (List T)) → length rows ≡ 2 ^ n →
    other_order n (other_order n rows) ≡ rows
other_order-twice n rows long =
    let there = λ (i : ℕ). slice_index_or rows (cfft_index n i) [] in
    other_order-indexed n there
    ∙ sym
    (fill_by_all (λ i. there (cfft_index n i)) rows (2 ^ n) [] long
    (λ i h. ap (λ j. slice_index_or rows j []) (sym (cfft_index-own_inverse n i h))))
