-- The lanes of the values of nodes, and lanes as rows of the trace.
use Rattle.std.proofs.Common.{◌≡◌, ℕ, ◌+◌, ◌-◌, ◌*◌, ◌/◌, ◌%◌, ◌<◌, ◌≤◌, List, [], ◌∷◌, ◌++◌}
use Rattle.std.proofs.Common.{length}
use Rattle.std.proofs.Common.{get_or, map, take, drop, arith, sym, ◌∙◌, ap, subst}
use Rattle.std.proofs.Math.Nat.{mod-eq_of_lt, mul-div_cancel, le-div_iff_mul-le}
use Rattle.std.proofs.Math.Nat.{mul-le-mul_right}
use Rattle.std.proofs.Math.Seq.{take-append-add, take-append_seam, take-length}
use Rattle.std.specs.Prelude.{All}
use Rattle.std.proofs.Common.{length-drop}
use Rattle.std.proofs.lemmas.List.{get_or-drop, get_or-map, get_or-take, length-append, map-append}
use Rattle.std.proofs.lemmas.List.{length-take-le}
use Rattle.std.proofs.lemmas.Option.{get_or_from_slice_get}
use Rattle.circle_field.specs.Field.{FieldOps}
use Rattle.circle_commit.specs.Matrix.{rows_from}
use Rattle.circle_commit.specs.RowFacts.{length-rows_from, rows_from-append, rows_from-row}
use Rattle.circle_air.specs.declared.node.Constraint.{Constraint}
use Rattle.circle_air.specs.Lanes.{HoldsInLane, lane, window_past}
use Rattle.circle_air.specs.Parts.{Parts}
use Rattle.circle_air.specs.Places.{HasRow}
use Rattle.circle_air.specs.Satisfies.{HoldsAt, window_of_row}
use Rattle.circle_air.specs.Values.{entry, values}

module _ {E : Type 0} (l : FieldOps E) (lanes r : ℕ) (within : r < lanes) where
  -- the value of a node at a lane
  pub entry-lane : (node : ℕ) (vs : List E) → (node + 1) * lanes ≤ length vs
      → entry l (lane l lanes r vs) node ≡ entry l vs (node * lanes + r)
  entry-lane node vs room =
      let rows = rows_from lanes (length vs / lanes) vs in
      let row = take lanes (drop (node * lanes) vs) in
      let positive : 0 < lanes = omega (arith, within) in
      let enough : node + 1 ≤ length vs / lanes = (le-div_iff_mul-le positive).1 room in
      let listed : node < length rows =
      omega (arith, enough, length-rows_from lanes (length vs / lanes) vs) in
      get_or-map (λ ys. entry l ys r) rows node [] l.zero listed
      ∙ ap (λ ys. entry l ys r)
      (get_or_from_slice_get rows node row []
      (rows_from-row lanes (length vs / lanes) node vs (omega (arith, enough))))
      ∙ get_or-take lanes (drop (node * lanes) vs) r l.zero within
      ∙ get_or-drop (node * lanes) vs r l.zero

  -- the values of one node more
  pub lane-more : (n : ℕ) (earlier here : List E) → length earlier ≡ n * lanes
      → length here ≡ lanes
      → lane l lanes r (earlier ++ here) ≡ lane l lanes r earlier ++ entry l here r ∷ []
  lane-more n earlier here count one =
      let positive : 0 < lanes = omega (arith, within) in
      let f : List E → E = λ ys. entry l ys r in
      let more : length (earlier ++ here) ≡ (n + 1) * lanes =
      omega (arith, length-append earlier here, count, one) in
      let counted : length (earlier ++ here) / lanes ≡ n + 1 =
      ap (λ m. m / lanes) more ∙ mul-div_cancel (n + 1) positive in
      let before : length earlier / lanes ≡ n =
      ap (λ m. m / lanes) count ∙ mul-div_cancel n positive in
      ap (λ m. map f (rows_from lanes m (earlier ++ here))) counted
      ∙ ap (map f) (rows_from-append lanes n 1 earlier here count)
      ∙ map-append f (rows_from lanes n earlier) (rows_from lanes 1 here)
      ∙ ap (λ ys. map f (rows_from lanes n earlier) ++ f ys ∷ [])
      (ap (λ m. take m here) (sym one) ∙ take-length here)
      ∙ ap (λ m. map f (rows_from lanes m earlier) ++ f here ∷ []) (sym before)

  -- what is read of the values of a node
  pub lane_read : (node : ℕ) (vs ys : List E) → (node + 1) * lanes ≤ length vs
      → ys ≡ take lanes (drop (node * lanes) vs)
      → entry l ys r ≡ entry l (lane l lanes r vs) node
  lane_read node vs ys room is =
      ap (λ zs. entry l zs r) is ∙ get_or-take lanes (drop (node * lanes) vs) r l.zero within
      ∙ get_or-drop (node * lanes) vs r l.zero ∙ sym (entry-lane node vs room)

  -- what is read of the values of an earlier node
  pub operand : (n node count : ℕ) (vs ys : List E) → node < n → length vs ≡ n * count
      → count ≡ lanes → ys ≡ take count (drop (node * count) vs)
      → entry l ys r ≡ entry l (lane l lanes r vs) node
  operand n node count vs ys earlier long same is =
      let before : node + 1 ≤ n = omega (arith, earlier) in
      let most : (node + 1) * lanes ≤ n * lanes = mul-le-mul_right lanes before in
      let all : length vs ≡ n * lanes = long ∙ ap (λ m. n * m) same in
      lane_read node vs ys (omega (arith, most, all))
      (is ∙ ap (λ m. take m (drop (node * m) vs)) same)

  pub operands : (op : E → E → E) (n a b count : ℕ) (vs xs ys : List E) → (a < n) × (b < n)
      → length vs ≡ n * count → count ≡ lanes → xs ≡ take count (drop (a * count) vs)
      → ys ≡ take count (drop (b * count) vs)
      → op (entry l xs r) (entry l ys r)
      ≡ op (entry l (lane l lanes r vs) a) (entry l (lane l lanes r vs) b)
  operands op n a b count vs xs ys earlier long same left right =
      ap (λ x. op x (entry l ys r)) (operand n a count vs xs earlier.0 long same left)
      ∙ ap (op (entry l (lane l lanes r vs) a)) (operand n b count vs ys earlier.1 long same right)

  -- the values of the nodes so far, and of one more, in front of others
  pub lane-written : (n : ℕ) (earlier here later : List E) → length earlier ≡ n * lanes
      → length here ≡ lanes
      → lane l lanes r (take ((n + 1) * lanes) (earlier ++ (here ++ later)))
      ≡ lane l lanes r earlier ++ entry l here r ∷ []
  lane-written n earlier here later count one =
      let more : (n + 1) * lanes ≡ length earlier + length here = omega (arith, count, one) in
      ap (λ m. lane l lanes r (take m (earlier ++ (here ++ later)))) more
      ∙ ap (lane l lanes r) (take-append-add earlier (here ++ later) (length here))
      ∙ ap (λ ys. lane l lanes r (earlier ++ ys)) (take-append_seam here later)
      ∙ lane-more n earlier here count one

-- an entry of a part of a list, all of which is 0
pub zero_within : {E : Type 0} (l : FieldOps E) (from end r : ℕ) (xs : List E) → from ≤ r → r < end
    → end ≤ length xs → All (λ v. v ≡ l.zero) (take (end - from) (drop from xs))
    → entry l xs r ≡ l.zero
zero_within l from end r xs low below within zeros =
    let i = r - from in
    let near : i < end - from = omega arith in
    let long : length (take (end - from) (drop from xs)) ≡ end - from =
    length-take-le (end - from) (drop from xs) (omega (arith, length-drop from xs)) in
    let there : from + i ≡ r = omega arith in
    ap (λ n. entry l xs n) (sym there) ∙ sym (get_or-drop from xs i l.zero)
    ∙ sym (get_or-take (end - from) (drop from xs) i l.zero near)
    ∙ zeros i l.zero (omega (arith, long, near))

module _ {F : Type 0} (k : FieldOps F) (p : Parts F) (rows : List (List F)) (public : List F) where
  window_here : (i j : ℕ) → i ≡ j → i < length rows
      → window_past k p rows public j ≡ window_of_row k p rows public i
  window_here i j same below =
      ap (window_past k p rows public) (sym same)
      ∙ ap (λ n. record {
        local = get_or rows n [];
        next = get_or rows ((i + 1) % length rows) [];
        periodic = map (λ column. entry k column (i % length column)) p.periodic_columns;
        public = public;
      }) (mod-eq_of_lt below)

  module _ (lanes : ℕ) (vs : List F) (start height : ℕ) (high : height ≡ length rows)
      (written : (r : ℕ) → r < lanes → lane k lanes r vs
      ≡ values k (λ x. x) p.nodes (window_past k p rows public (start + r))) where
    lane_is : (i : ℕ) → start ≤ i → i < start + lanes → i < length rows
        → lane k lanes (i - start) vs ≡ values k (λ x. x) p.nodes (window_of_row k p rows public i)
    lane_is i low near below =
        written (i - start) (omega arith)
        ∙ ap (values k (λ x. x) p.nodes)
        (window_here i (start + (i - start)) (omega arith) below)

    pub in_row : (i : ℕ) → start ≤ i → i < start + lanes → i < length rows → (c : Constraint)
        → HoldsInLane k lanes vs height i (i - start) c → HoldsAt k p rows public i c
    in_row i low near below c holds has =
        ap (λ vs. entry k vs c.node) (sym (lane_is i low near below))
        ∙ holds (subst (λ n. HasRow c.place n i) (sym high) has)

    pub in_lane : (i : ℕ) → start ≤ i → i < start + lanes → i < length rows → (c : Constraint)
        → HoldsAt k p rows public i c → HoldsInLane k lanes vs height i (i - start) c
    in_lane i low near below c holds has =
        ap (λ vs. entry k vs c.node) (lane_is i low near below)
        ∙ holds (subst (λ n. HasRow c.place n i) high has)
