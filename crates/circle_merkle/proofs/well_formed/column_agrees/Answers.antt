use Rattle.std.proofs.Common.{◌≡◌, ◌+◌, ◌-◌, ◌/◌, ◌<◌, ◌≤◌, ◌∙◌, ℕ, List, [], Vec, Global, refl}
use Rattle.std.proofs.Common.{sym, ap, subst, get_or, length, vec_len, arith, below_more}
use Rattle.std.proofs.lemmas.List.{get_or-map}
use Rattle.circle_commit.specs.Mmcs.{opened_rows}
use Rattle.circle_merkle.specs.SamePosition.{row_of, NeighborsAgree}
use Rattle.circle_merkle.proofs.Fits.{rows-at}
use Rattle.circle_merkle.proofs.well_formed.column_agrees.Goals as goal
use Rattle.circle_merkle.proofs.well_formed.column_agrees.Goals.{else-index-divisor-via-then-index-divisor+else-not-same_row}
use Rattle.circle_merkle.proofs.well_formed.column_agrees.Goals.{else-index-divisor-via-else-index-divisor}

before_within : {k n : ℕ} → k < n → k - 1 < n
before_within lt = omega arith

back_on : {k : ℕ} → 1 ≤ k → k ≡ k - 1 + 1
back_on pos = omega arith

earlier : (i k : ℕ) → i < k - 1 → i + 1 < k
earlier i k lt = omega arith

up_to_last : (i k : ℕ) → 1 ≤ k → i + 1 < k + 1 → i < k - 1 + 1
up_to_last i k pos lt = omega arith

row-is : {T : Type 0} (opened : List (Vec (Vec T Global) Global)) (place j : ℕ)
    (rows : Vec (Vec T Global) Global) (row : Vec T Global) →
    place < length opened → rows ≡ get_or opened place rows → j < vec_len rows →
    row ≡ get_or rows.items j row → get_or (get_or (opened_rows opened) place []) j []
    ≡ row.items
row-is opened place j rows row hp er hj e =
    ap (λ rs. get_or rs j []) (rows-at opened place rows hp er)
    ∙ get_or-map (λ row. row.items) rows.items j row [] (omega (arith, hj, rows.ok.0))
    ∙ sym (ap (λ v. v.items) e)

within_end : {i n k : ℕ} → i < n → n ≤ k → i < k
within_end lt le = omega arith

pub bounds-opened-place : goal.bounds-opened-place
bounds-opened-place g c =
    c.requires.places (c.loop-k.k - 1) (0, 0) (before_within c.loop-k-test.true)

pub bounds-opened-next_place : goal.bounds-opened-next_place
bounds-opened-next_place g c = c.requires.places c.loop-k.k (0, 0) c.loop-k-test.true

pub index-requires : goal.index-requires
index-requires g c =
    let k = c.loop-k.k - 1 in
    let rows = c.index-opened-place.result in
    subst (λ rows. c.args.j < vec_len rows) (sym c.index-opened-place.is)
    (c.requires.whole (get_or c.args.order.now k (0, 0)).1 rows
    (c.requires.places k (0, 0) (before_within c.loop-k-test.true)))

pub index-requires-then-index-divisor : goal.index-requires-then-index-divisor
index-requires-then-index-divisor g c =
    let k = c.loop-k.k in
    let rows = c.index-opened-next_place.result in
    subst (λ rows. c.args.j < vec_len rows) (sym c.index-opened-next_place.is)
    (c.requires.whole (get_or c.args.order.now k (0, 0)).1 rows
    (c.requires.places k (0, 0) c.loop-k-test.true))

pub loop-k-init : goal.loop-k-init
loop-k-init g c i lt = λ same. absurd (omega arith)

pub returns : goal.returns
returns g c = (λ _ k lt. c.loop-k.invariant k (within_end lt c.loop-k-test.false), λ _. refl)

pub loop-k-preserved : goal.loop-k-preserved
loop-k-preserved g c i lt =
    let order = c.args.order.now in
    let opened = c.args.opened.now in
    let j = c.args.j in
    let k = c.loop-k.k in
    let back : k ≡ k - 1 + 1 = back_on c.loop-k.auto.k in
    let placed = c.requires.places (k - 1) (0, 0) (before_within c.loop-k-test.true) in
    let next_placed = c.requires.places k (0, 0) c.loop-k-test.true in
    let agree : NeighborsAgree order (opened_rows opened) c.args.divisor j (k - 1) =
    λ same. elim c.else-index-divisor.branch [
      | else-index-divisor-via-then-index-divisor+else-not-same_row w ↦
          let first = row-is opened (get_or order (k - 1) (0, 0)).1 j w.index-opened-place.result
          w.index.result.now placed w.index-opened-place.is
          (subst (λ rows. j < vec_len rows) (sym w.index-opened-place.is)
          (c.requires.whole (get_or order (k - 1) (0, 0)).1 w.index-opened-place.result placed))
          w.index.ensures in
          let second = row-is opened (get_or order k (0, 0)).1 j w.index-opened-next_place.result
          w.index-then-index-divisor.result.now next_placed w.index-opened-next_place.is
          (subst (λ rows. j < vec_len rows) (sym w.index-opened-next_place.is)
          (c.requires.whole (get_or order k (0, 0)).1 w.index-opened-next_place.result
          next_placed)) w.index-then-index-divisor.ensures in
          first ∙ sym w.deref.ensures.value ∙ w.if-not-same_row.ensures.0 refl
          ∙ w.deref-then-index-divisor.ensures.value ∙ sym second
          ∙ ap (row_of order (opened_rows opened) j) back
      | else-index-divisor-via-else-index-divisor w ↦ absurd
          (w.if-index-divisor.false
          (same ∙ ap (λ n. (get_or order n (0, 0)).0 / c.args.divisor) (sym back)))
    ] in
    below_more (NeighborsAgree order (opened_rows opened) c.args.divisor j) (k - 1)
    (λ i lt. c.loop-k.invariant i (earlier i k lt)) agree i (up_to_last i k c.loop-k.auto.k lt)

pub returns-then-not-same_row : goal.returns-then-not-same_row
returns-then-not-same_row g c = (
  λ h. absurd (cc),
  λ agree.
      let order = c.args.order.now in
      let opened = c.args.opened.now in
      let j = c.args.j in
      let k = c.loop-k.k in
      let back : k ≡ k - 1 + 1 = back_on c.loop-k.auto.k in
      let placed = c.requires.places (k - 1) (0, 0) (before_within c.loop-k-test.true) in
      let next_placed = c.requires.places k (0, 0) c.loop-k-test.true in
      let first = row-is opened (get_or order (k - 1) (0, 0)).1 j c.index-opened-place.result
      c.index.result.now placed c.index-opened-place.is
      (subst (λ rows. j < vec_len rows) (sym c.index-opened-place.is)
      (c.requires.whole (get_or order (k - 1) (0, 0)).1 c.index-opened-place.result placed))
      c.index.ensures in
      let second = row-is opened (get_or order k (0, 0)).1 j c.index-opened-next_place.result
      c.index-then-index-divisor.result.now next_placed c.index-opened-next_place.is
      (subst (λ rows. j < vec_len rows) (sym c.index-opened-next_place.is)
      (c.requires.whole (get_or order k (0, 0)).1 c.index-opened-next_place.result next_placed))
      c.index-then-index-divisor.ensures in
      let same = agree (k - 1) (subst (λ n. n < length order) back c.loop-k-test.true)
      (c.if-index-divisor.true ∙ ap (λ n. (get_or order n (0, 0)).0 / c.args.divisor) back) in
      absurd
      (let yes =
      c.if-not-same_row.ensures.1 (c.deref.ensures.value ∙ sym first ∙ same
      ∙ ap (row_of order (opened_rows opened) j) (sym back) ∙ second
      ∙ sym c.deref-then-index-divisor.ensures.value) in cc),
)
