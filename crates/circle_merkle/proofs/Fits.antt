-- Rows of the widths of shapes, and the greatest height.
use Rattle.std.specs.Prelude.{◌≡◌, ℕ, ◌+◌, ◌*◌, ◌/◌, ◌^◌, ◌<◌, ◌≤◌, List, [], ◌∷◌, ◌++◌, length}
use Rattle.std.specs.Prelude.{map, max, take, All, Vec, vec_len}
use Rattle.std.specs.declared.alloc.Global.{Global}
use Rattle.std.proofs.Common.{zero, suc, refl, sym, ap, subst, ◌∙◌, arith, get_or, ⊎_elim}
use Rattle.std.proofs.Math.Nat.{lt-div-mul-add}
use Rattle.std.proofs.lemmas.Bool.{cases_lt}
use Rattle.std.proofs.lemmas.List.{length-map, get_or-map, map-append, take_more}
use Rattle.std.proofs.lemmas.List.Elements.{All-head, All-tail}
use Rattle.circle_commit.specs.Matrix.{IsPowerOfTwo}
use Rattle.circle_commit.specs.declared.matrix.Dimensions.{Dimensions}
use Rattle.circle_commit.specs.Mmcs.{greatest, heights, opened_rows}
use Rattle.circle_merkle.specs.Authentication.{HasShape}

pub greatest-append : (ns : List ℕ) (n : ℕ) → greatest (ns ++ n ∷ []) ≡ max n (greatest ns)
greatest-append [] n = refl
greatest-append (m ∷ ns) n = ap (max m) (greatest-append ns n) ∙ omega arith

-- the greatest of one height more
pub greatest-more : (dims : List Dimensions) (i : ℕ) (d : Dimensions) → i < length dims →
    greatest (heights (take (i + 1) dims))
    ≡ max (get_or dims i d).height (greatest (heights (take i dims)))
greatest-more dims i d lt =
    ap (λ ds. greatest (heights ds)) (take_more dims i d lt)
    ∙ ap greatest (map-append (λ dim. dim.height) (take i dims) (get_or dims i d ∷ []))
    ∙ greatest-append (heights (take i dims)) (get_or dims i d).height

module _ {T : Type 0} where
  pub length-at : (rows : List (Vec T Global)) (j : ℕ) (v : Vec T Global) → j < length rows →
      v ≡ get_or rows j v →
      get_or (map length (map (λ row. row.items) rows)) j 0 ≡ length v.items
  length-at rows j v lt e =
      get_or-map length (map (λ row. row.items) rows) j [] 0
      (omega (arith, length-map rows (λ row. row.items)))
      ∙ ap length (get_or-map (λ row. row.items) rows j v [] lt) ∙ ap (λ v. length v.items) (sym e)

  pub rows-at : (opened : List (Vec (Vec T Global) Global)) (k : ℕ)
      (v : Vec (Vec T Global) Global) → k < length opened → v ≡ get_or opened k v →
      get_or (opened_rows opened) k [] ≡ map (λ row. row.items) v.items
  rows-at opened k v lt e = get_or-map (λ rows. map (λ row. row.items) rows.items) opened k v [] lt
      ∙ ap (λ v. map (λ row. row.items) v.items) (sym e)

pub width-at : (dims : List Dimensions) (j : ℕ) (d : Dimensions) → j < length dims →
    get_or (map (λ dim. dim.width) dims) j 0 ≡ (get_or dims j d).width
width-at dims j d lt = get_or-map (λ dim. dim.width) dims j d 0 lt

-- no height is above the greatest
pub height-bounded : (dims : List Dimensions) (j : ℕ) (d : Dimensions) → j < length dims →
    (get_or dims j d).height ≤ greatest (heights dims)
height-bounded [] j d h = absurd (omega arith)
height-bounded (dim ∷ dims) zero d h = omega arith
height-bounded (dim ∷ dims) (suc j) d h = omega (arith, height-bounded dims j d (omega arith))

-- a quotient by what isn't greater isn't 0
pub quotient-positive : (x n : ℕ) → 0 < n → n ≤ x → 1 ≤ x / n
quotient-positive x n pos le =
    ⊎_elim
    (λ lt. lt)
    (λ ge. absurd (let e : x / n ≡ 0 = omega arith in let below : x < x / n * n + n =
    lt-div-mul-add pos in let small : x / n * n ≡ 0 * n = ap (λ k. k * n) e in omega arith))
    (cases_lt 0 (x / n))

pub height-at : (dims : List Dimensions) (j : ℕ) (d : Dimensions) → j < length dims →
    get_or (heights dims) j 0 ≡ (get_or dims j d).height
height-at dims j d lt = get_or-map (λ dim. dim.height) dims j d 0 lt

-- each list of rows has one for each shape
pub whole-rows : {T : Type 0} (dims : List Dimensions) (opened : List (Vec (Vec T Global) Global)) →
    HasShape dims (opened_rows opened) → All (λ rows. vec_len rows ≡ length dims) opened
whole-rows dims opened shape = λ k d lt.
    let rows = get_or opened k d in
    let widths =
    shape.widths k []
    (omega (arith, lt, length-map opened (λ rows. map (λ row. row.items) rows.items))) in
    let at = get_or-map (λ rows. map (λ row. row.items) rows.items) opened k d [] lt in
    let long : length rows.items ≡ length dims =
    sym (length-map rows.items (λ row. row.items)) ∙ sym (ap length at)
    ∙ sym (length-map (get_or (opened_rows opened) k []) length) ∙ ap length widths
    ∙ length-map dims (λ dim. dim.width) in
    omega (arith, long, rows.ok.0)

-- the greatest of powers of two is one
pub greatest-power : (dims : List Dimensions) → 1 ≤ length dims →
    All (λ dim. IsPowerOfTwo dim.height) dims → IsPowerOfTwo (greatest (heights dims))
greatest-power [] some powers = absurd (omega arith)
greatest-power (dim ∷ []) some powers =
    let power = All-head (λ dim. IsPowerOfTwo dim.height) dim [] powers in
    let e : max dim.height 0 ≡ dim.height = omega arith in (power.0, e ∙ power.1)
greatest-power (dim ∷ next ∷ dims) some powers =
    let power = All-head (λ dim. IsPowerOfTwo dim.height) dim (next ∷ dims) powers in
    let others =
    greatest-power (next ∷ dims) (omega arith)
    (All-tail (λ dim. IsPowerOfTwo dim.height) dim (next ∷ dims) powers) in
    let rest = greatest (heights (next ∷ dims)) in
    ⊎_elim
    (λ lt. let e : max dim.height rest ≡ rest = omega arith in (others.0, e ∙ others.1))
    (λ ge. let e : max dim.height rest ≡ dim.height = omega arith in (power.0, e ∙ power.1))
    (cases_lt dim.height rest)

-- indices below the greatest height are below the power of two that it is
pub below-power : (dims : List Dimensions) (indices : List ℕ) (r : ℕ) →
    2 ^ r ≡ greatest (heights dims) →
    All (λ i. i < greatest (heights dims)) indices → All (λ i. i < 2 ^ r) indices
below-power dims indices r power below = subst (λ n. All (λ i. i < n) indices) (sym power) below
