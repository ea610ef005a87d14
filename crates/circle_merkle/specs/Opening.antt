-- What opened rows are to contracts: the rows of a tree.
use Rattle.std.specs.Prelude.{◌≡◌, ℕ, ◌^◌, List, [], map, slice_index_or}
use Rattle.sha2.specs.Sha256.{sha256}
use Rattle.circle_commit.specs.Mmcs.{opened_rows}
use Rattle.circle_merkle.specs.declared.root.Opening.{Opening}
use Rattle.circle_merkle.specs.declared.root.Node.{Node}
use Rattle.circle_merkle.specs.Tree as Tree
use Rattle.circle_merkle.specs.Tree.{rows_digest, node_digest, with_rows, computed, is_known, known}
use Rattle.circle_merkle.specs.Tree.{given}
use Rattle.circle_merkle.specs.Rows.{tree_rows, opened_at}
use Rattle.circle_merkle.specs.Authentication.{opened_root}
use Rattle.circle_merkle.specs.Order.{place_of}

module _ {T : Type 0} (bytes : T → List ℕ) where
  abbrev pub rows_in : Opening T → Tree.Rows
  rows_in o = tree_rows bytes o.dimensions.now (opened_at o.indices.now (opened_rows o.opened.now))

  -- the same by the place of an index that stands below
  abbrev pub placed_rows : Opening T → Tree.Rows
  placed_rows o = tree_rows bytes o.dimensions.now
      (λ level place. slice_index_or (opened_rows o.opened.now) place [])

  -- the digest of the node over two of the level below, by that place
  abbrev pub parent_in : Opening T → ℕ → ℕ → List ℕ → List ℕ → List ℕ
  parent_in o level place left right = with_rows sha256 (placed_rows o) level place
      (node_digest sha256 left right)

  -- the node of the lowest level at an index that has this place
  abbrev pub lowest_node : Opening T → ℕ × ℕ → Node
  lowest_node o entry = record {
    position = entry.0;
    place = entry.1;
    digest =
        rows_digest sha256 ((placed_rows o).bytes 0 entry.1);
  }

  -- the root over opened rows and the digests of a proof, with as many levels as the greatest
  -- height has
  abbrev pub IsRootOf : Opening T → List (List ℕ) → List ℕ → Type 0
  IsRootOf o proof root =
      (levels : ℕ) → o.top ≡ 2 ^ levels → root ≡ opened_root sha256 bytes o.dimensions.now
      o.indices.now (opened_rows o.opened.now) proof levels

  -- the nodes at the known positions of a level
  abbrev pub level_nodes : Opening T → List (List ℕ) → ℕ → ℕ → List Node
  level_nodes o proof levels level = map (λ p. record {
    position = p;
    place = place_of o.indices.now level p;
    digest = computed sha256 (rows_in o) (is_known o.indices.now) (given o.indices.now levels proof)
        level p;
  }) (known o.indices.now levels level)
