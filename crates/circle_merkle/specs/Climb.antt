-- One level up from the digests at the known positions of a level.
use Rattle.std.specs.Prelude.{◌≡◌, ℕ, ◌/◌, ◌%◌, ◌==◌, List, [], ◌∷◌}
use Rattle.std.specs.Prelude.{drop, length, map, min, slice_index_or, if◌then◌else◌}
use Rattle.circle_merkle.specs.declared.root.Node.{Node}
use Rattle.circle_merkle.specs.Tree.{sibling}
use Rattle.circle_merkle.specs.Walk.{siblings_of}

-- `up` is the digest over two of the level below, by the place of the first index that stands below
-- it
module _ (up : ℕ → List ℕ → List ℕ → List ℕ) where
  -- the node above a pair
  abbrev pub joined : Node → Node → Node
  joined left right = record {
    position = left.position / 2;
    place = min left.place right.place;
    digest = up (min left.place right.place) left.digest right.digest;
  }

  -- the node above one whose sibling has this digest
  abbrev pub lone : Node → List ℕ → Node
  lone node given = record {
    position = node.position / 2;
    place = node.place;
    digest = if node.position % 2 == 0 then up node.place node.digest given else up node.place given
        node.digest;
  }

  -- the nodes above, which take a given digest for each sibling that isn't known
  abbrev pub climbed : List Node → List (List ℕ) → List Node
  climbed [] given = []
  climbed (node ∷ []) given = lone node (slice_index_or given 0 []) ∷ []
  climbed (node ∷ next ∷ rest) given =
      if next.position == sibling node.position then joined node next ∷ climbed rest given
      else lone node (slice_index_or given 0 []) ∷ climbed (next ∷ rest) (drop 1 given)

  -- of the nodes above, the first, and the nodes and digests that the others are made of
  abbrev pub IsFirstOf :
      Node → List Node → List (List ℕ) → List Node → List (List ℕ) → Type 0
  IsFirstOf above nodes given after left = climbed nodes given ≡ above ∷ climbed after left

-- the positions of nodes
abbrev pub positions_of : List Node → List ℕ
positions_of nodes = map (λ node. node.position) nodes

-- the given digests that are left once the nodes above are made
abbrev pub left_of : List Node → List (List ℕ) → List (List ℕ)
left_of nodes given = drop (length (siblings_of (positions_of nodes))) given
