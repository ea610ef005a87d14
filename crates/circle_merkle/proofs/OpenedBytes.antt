-- The bytes of opened rows.
use Rattle.std.specs.Prelude.{◌≡◌, ◌≢◌, ℕ, ◌+◌, ◌/◌, ◌^◌, ◌<◌, ◌==◌, Bool, true, false, List, []}
use Rattle.std.specs.Prelude.{◌∷◌, ◌++◌, length, take, slice_index_or, if◌then◌else◌}
use Rattle.std.specs.List.{flat_map}
use Rattle.std.proofs.Common.{zero, suc, refl, sym, ap, ◌∙◌, arith, append-nil, append_assoc}
use Rattle.std.proofs.Common.{add-one}
use Rattle.std.proofs.lemmas.Bool.{eq-eqb, ne_eqb}
use Rattle.std.proofs.lemmas.List.{flat_map_more, take_more}
use Rattle.circle_commit.specs.declared.matrix.Dimensions.{Dimensions}
use Rattle.circle_merkle.specs.Order.{place_of}
use Rattle.circle_merkle.specs.Rows.{bytes_of_height, opened_at}

module _ {T : Type 0} (bytes : T → List ℕ) (height : ℕ) where
  piece : Dimensions → List T → List ℕ
  piece dim row = if dim.height == height then flat_map bytes row else []

  one-more : (dims : List Dimensions) (rows : List (List T)) (j : ℕ) (dim d : Dimensions)
      (row r : List T) → j < length dims → j < length rows →
      slice_index_or dims j d ≡ dim → slice_index_or rows j r ≡ row →
      bytes_of_height bytes (take (suc j) dims) height (take (suc j) rows)
      ≡ bytes_of_height bytes (take j dims) height (take j rows) ++ piece dim row
  unfolding piece
  one-more [] rows j dim d row r hd hr ed er = absurd (omega arith)
  one-more (x ∷ dims) [] j dim d row r hd hr ed er = absurd (omega arith)
  one-more (x ∷ dims) (y ∷ rows) zero dim d row r hd hr ed er =
      append-nil (if x.height == height then flat_map bytes y else [])
      ∙ ap (λ (d : Dimensions). if d.height == height then flat_map bytes y else []) ed
      ∙ ap (λ r. if dim.height == height then flat_map bytes r else []) er
  one-more (x ∷ dims) (y ∷ rows) (suc j) dim d row r hd hr ed er =
      let first = if x.height == height then flat_map bytes y else [] in
      ap (λ rest. first ++ rest)
      (one-more dims rows j dim d row r (omega arith) (omega arith) ed er)
      ∙ sym
      (append_assoc first (bytes_of_height bytes (take j dims) height (take j rows))
      (piece dim row))

  module _ (dims : List Dimensions) (rows : List (List T)) (j : ℕ) (dim d : Dimensions)
      (row r : List T) (hd : j < length dims) (hr : j < length rows)
      (ed : slice_index_or dims j d ≡ dim) (er : slice_index_or rows j r ≡ row) (before : List ℕ)
    where
      more : before ++ bytes_of_height bytes (take (j + 1) dims) height (take (j + 1) rows)
          ≡ (before ++ bytes_of_height bytes (take j dims) height (take j rows)) ++ piece dim row
      more =
          ap (λ k. before ++ bytes_of_height bytes (take k dims) height (take k rows)) (add-one j)
          ∙ ap (λ b. before ++ b) (one-more dims rows j dim d row r hd hr ed er)
          ∙ sym (append_assoc before (bytes_of_height bytes (take j dims) height (take j rows))
          (piece dim row))

      pub opened-with : dim.height ≡ height →
          before ++ bytes_of_height bytes (take (j + 1) dims) height (take (j + 1) rows)
          ≡ (before ++ bytes_of_height bytes (take j dims) height (take j rows))
          ++ flat_map bytes row
      unfolding piece
      opened-with e =
          more ∙ ap (λ b. (before ++ bytes_of_height bytes (take j dims) height (take j rows))
          ++ (if b then flat_map bytes row else [])) (eq-eqb dim.height height e)

      pub opened-without : dim.height ≢ height →
          before ++ bytes_of_height bytes (take (j + 1) dims) height (take (j + 1) rows) ≡ before
          ++ bytes_of_height bytes (take j dims) height (take j rows)
      unfolding piece
      opened-without e =
          more ∙ ap (λ b. (before ++ bytes_of_height bytes (take j dims) height (take j rows))
          ++ (if b then flat_map bytes row else [])) (ne_eqb dim.height height e)
          ∙ append-nil (before ++ bytes_of_height bytes (take j dims) height (take j rows))

-- the bytes of one entry more
pub entry-more : {X A : Type 0} (f : X → List A) (before : List A) (xs : List X) (i : ℕ) (x : X)
    (bs : List A) → i < length xs → x ≡ slice_index_or xs i x → bs ≡ f x →
    (before ++ flat_map f (take i xs)) ++ bs ≡ before ++ flat_map f (take (i + 1) xs)
entry-more f before xs i x bs lt at e =
    ap (λ b. (before ++ flat_map f (take i xs)) ++ b) e
    ∙ flat_map_more f before (take i xs) x
    ∙ ap (λ ys. before ++ flat_map f ys) (ap (λ y. take i xs ++ y ∷ []) at
    ∙ sym (take_more xs i x lt))

-- the rows of the first index that stands below a position are those at its place
pub opened_at-place : {T : Type 0} (level i : ℕ) (indices : List ℕ)
    (opened : List (List (List T))) → length opened ≡ length indices →
    opened_at indices opened level i ≡ slice_index_or opened (place_of indices level i) []
opened_at-place level i [] [] same = refl
opened_at-place level i [] (rows ∷ opened) same = absurd (omega arith)
opened_at-place level i (index ∷ indices) [] same = absurd (omega arith)
opened_at-place level i (index ∷ indices) (rows ∷ opened) same =
    ap (λ others. if index / 2 ^ level == i then rows else others)
    (opened_at-place level i indices opened (omega arith))
    ∙ first-or-later (index / 2 ^ level == i) rows opened (place_of indices level i)
  where
    first-or-later : {X : Type 0} (b : Bool) (x : List X) (xs : List (List X)) (k : ℕ) →
        (if b then x else slice_index_or xs k []) ≡ slice_index_or (x ∷ xs) (if b then 0 else suc k)
        []
    first-or-later true x xs k = refl
    first-or-later false x xs k = refl

-- no rows have no bytes
pub bytes-none : {T : Type 0} (bytes : T → List ℕ) (height : ℕ) (dims : List Dimensions) →
    bytes_of_height bytes dims height [] ≡ []
bytes-none bytes height [] = refl
bytes-none bytes height (dim ∷ dims) = refl
