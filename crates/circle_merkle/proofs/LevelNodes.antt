-- The nodes at the known positions, level by level.
use Rattle.std.specs.Prelude.{◌≡◌, ℕ, ◌+◌, ◌-◌, ◌*◌, ◌^◌, ◌<◌, ◌≤◌, List, [], ◌∷◌, ◌++◌, length}
use Rattle.std.specs.Prelude.{map, filter, drop, All, if◌then◌else◌}
use Rattle.std.specs.List.{range_with_len}
use Rattle.std.proofs.Common.{suc, refl, sym, ap, ◌∙◌, arith}
use Rattle.std.proofs.lemmas.List.{drop-drop}
use Rattle.std.proofs.lemmas.List.Elements.{filter_agree}
use Rattle.sha2.specs.Sha256.{sha256}
use Rattle.circle_merkle.specs.declared.root.Node.{Node}
use Rattle.circle_merkle.specs.declared.root.Opening.{Opening}
use Rattle.circle_merkle.specs.Tree.{rows_digest, node_digest, joined_digest, computed, is_known}
use Rattle.circle_merkle.specs.Tree.{known, is_taken, taken, taken_below, given}
use Rattle.circle_merkle.specs.Walk.{siblings_of}
use Rattle.circle_merkle.specs.Climb.{climbed, positions_of}
use Rattle.circle_merkle.specs.Rows.{size_of, bytes_of_height}
use Rattle.circle_merkle.specs.Order.{place_of, first_places}
use Rattle.circle_merkle.specs.Opening.{rows_in, placed_rows, parent_in, lowest_node, level_nodes}
use Rattle.circle_commit.specs.Mmcs.{opened_rows}
use Rattle.std.proofs.lemmas.List.{length-map}
use Rattle.circle_merkle.proofs.OpenedBytes.{opened_at-place}
use Rattle.circle_merkle.proofs.Places.{place-pairs}
use Rattle.circle_merkle.proofs.Powers.{halves}
use Rattle.circle_merkle.proofs.Pairs.{above}
use Rattle.circle_merkle.proofs.Known.{is_known-above, siblings-known, known-root}
use Rattle.circle_merkle.proofs.Given.{given-fits, given-level}
use Rattle.circle_merkle.proofs.Climbing.{climbed-pairs}

positions-map : (f : ℕ → List ℕ) (place : ℕ → ℕ) (ps : List ℕ) →
    positions_of (map (λ p. record { position = p; place = place p; digest = f p }) ps) ≡ ps
positions-map f place [] = refl
positions-map f place (p ∷ ps) = ap (λ qs. p ∷ qs) (positions-map f place ps)

module _ {T : Type 0} (bytes : T → List ℕ) (o : Opening T) (proof : List (List ℕ)) (levels : ℕ)
  where
    abbrev indices : List ℕ
    indices = o.indices.now

    abbrev value : ℕ → ℕ → List ℕ
    value = computed sha256 (rows_in bytes o) (is_known indices) (given indices levels proof)

    -- the rows at a position are those of the first index below it
    bytes-placed : (level p : ℕ) → (placed_rows bytes o).bytes level (place_of indices level p)
        ≡ (rows_in bytes o).bytes level p
    bytes-placed level p =
        ap (bytes_of_height bytes o.dimensions.now (size_of o.dimensions.now level))
        (sym
        (opened_at-place level p indices (opened_rows o.opened.now)
        (length-map o.opened.now (λ rows. map (λ row. row.items) rows.items) ∙ o.one_each)))

    -- the node over two whose digests are known or given, by the place
    abbrev above_node : ℕ → ℕ → Node
    above_node level p = record {
      position = p;
      place = place_of indices (suc level) p;
      digest = parent_in bytes o (suc level) (place_of indices (suc level) p)
          (if is_known indices level (2 * p) then value level (2 * p) else given indices levels
          proof
          level (2 * p))
          (if is_known indices level (2 * p + 1) then value level (2 * p + 1) else given indices
          levels proof level (2 * p + 1));
    }

    nodes-rows : (level : ℕ) (ps : List ℕ) → map (above_node level) ps
        ≡ map
        (λ p. record {
          position = p;
          place = place_of indices (suc level) p;
          digest =
              value (suc level) p;
        }) ps
    nodes-rows level [] = refl
    nodes-rows level (p ∷ ps) =
        let left = if is_known indices level (2 * p) then value level (2 * p) else given indices
        levels proof level (2 * p) in
        let right = if is_known indices level (2 * p + 1) then value level (2 * p + 1) else given
        indices levels proof level (2 * p + 1) in
        let here = λ (b : List ℕ). let n : Node = record {
          position = p;
          place = place_of indices (suc level) p;
          digest = if (rows_in bytes o).stand (suc level) then joined_digest sha256
              (node_digest sha256 left right) b else node_digest sha256 left right;
        } in n in
        ap (λ b. here b ∷ map (above_node level) ps) (bytes-placed (suc level) p)
        ∙ ap (λ ns. here ((rows_in bytes o).bytes (suc level) p) ∷ ns) (nodes-rows level ps)

    -- the nodes of the lowest level
    lowest-rows : (ps : List ℕ) →
        map (lowest_node bytes o) (map (λ p. (p, place_of indices 0 p)) ps)
        ≡ map (λ p. record { position = p; place = place_of indices 0 p; digest = value 0 p }) ps
    lowest-rows [] = refl
    lowest-rows (p ∷ ps) =
        let here = λ (b : List ℕ). let n : Node =
        record { position = p; place = place_of indices 0 p; digest = rows_digest sha256 b } in
        n in
        ap (λ b. here b ∷ map (lowest_node bytes o) (map (λ p. (p, place_of indices 0 p)) ps))
        (bytes-placed 0 p)
        ∙ ap (λ ns. here ((rows_in bytes o).bytes 0 p) ∷ ns) (lowest-rows ps)

    pub nodes-lowest : map (lowest_node bytes o) (first_places indices levels)
        ≡ level_nodes bytes o proof levels 0
    nodes-lowest = lowest-rows (known indices levels 0)

    module _ (count : length proof ≡ taken_below indices levels levels) (level : ℕ)
        (h : level < levels) where
      siblings-nodes : siblings_of (positions_of (level_nodes bytes o proof levels level))
          ≡ taken indices levels level
      siblings-nodes =
          ap siblings_of
          (positions-map (value level) (place_of indices level) (known indices levels level))
          ∙ siblings-known indices levels level h

      pub nodes-fit : length (siblings_of (positions_of (level_nodes bytes o proof levels level))) ≤
          length (drop (taken_below indices levels level) proof)
      nodes-fit =
          omega (arith, ap length siblings-nodes, given-fits indices levels proof level h count)

      pub nodes-left : drop
          (length (siblings_of (positions_of (level_nodes bytes o proof levels level))))
          (drop (taken_below indices levels level) proof)
          ≡ drop (taken_below indices levels (suc level)) proof
      nodes-left = ap (λ s. drop (length s) (drop (taken_below indices levels level) proof))
          siblings-nodes ∙ drop-drop (length (taken indices levels level))
          (taken_below indices levels level) proof

      -- the nodes of a level give those of the next
      pub nodes-climbed : climbed (parent_in bytes o (suc level))
          (level_nodes bytes o proof levels level) (drop (taken_below indices levels level) proof)
          ≡ level_nodes bytes o proof levels (suc level)
      nodes-climbed =
          let n = 2 ^ (levels - suc level) in
          let next : level + 1 ≡ suc level = omega arith in
          let size : 2 ^ (levels - level) ≡ 2 * n = halves levels level h
          ∙ ap (λ k. 2 * 2 ^ (levels - k)) next in
          let up = parent_in bytes o (suc level) in
          let here = given indices levels proof level in
          let later = drop (taken_below indices levels (suc level)) proof in
          let node = λ (p : ℕ). let x : Node =
          record { position = p; place = place_of indices level p; digest = value level p } in
          x in
          let over = place_of indices (suc level) in
          ap (climbed up (level_nodes bytes o proof levels level))
          (given-level indices levels proof level h count)
          ∙ ap (λ m. climbed up (map node (filter (is_known indices level) (range_with_len 0 m)))
          (map here (filter (is_taken indices level) (range_with_len 0 m)) ++ later)) size
          ∙ climbed-pairs up (value level) here (place_of indices level) over
          (is_known indices level)
          (place-pairs up (value level) here indices level) 0 n later
          ∙ nodes-rows level (filter (above (is_known indices level)) (range_with_len 0 n))
          ∙ ap (map (λ p. record { position = p; place = over p; digest = value (suc level) p }))
          (filter_agree (above (is_known indices level)) (is_known indices (suc level))
          (λ p. sym (is_known-above indices level p)) (range_with_len 0 n))

    module _ (some : 1 ≤ length indices) (below : All (λ i. i < 2 ^ levels) indices) where
      -- the topmost level has the root alone
      pub nodes-root : level_nodes bytes o proof levels levels
          ≡ record { position = 0; place = place_of indices levels 0; digest = value levels 0 } ∷ []
      nodes-root =
          let one : 2 ^ (levels - levels) ≡ 1 =
          (let z : levels - levels ≡ 0 = omega arith in ap (λ k. 2 ^ k) z) in
          let node = λ (p : ℕ). let x : Node =
          record { position = p; place = place_of indices levels p; digest = value levels p } in
          x in
          ap (λ m. map node (filter (is_known indices levels) (range_with_len 0 m))) one
          ∙ ap (λ b. map node (if b then 0 ∷ [] else [])) (known-root indices levels some below)
