-- The first of the nodes one level up.
use Rattle.std.specs.Prelude.{◌≡◌, ◌≢◌, ℕ, List, [], ◌∷◌, drop, slice_index_or, if◌then◌else◌}
use Rattle.std.proofs.Common.{refl, ap, sym, subst, length, arith}
use Rattle.std.proofs.lemmas.Bool.{eq-eqb, ne_eqb}
use Rattle.circle_merkle.specs.declared.root.Node.{Node}
use Rattle.circle_merkle.specs.Tree.{sibling}
use Rattle.circle_merkle.specs.Walk.{siblings_of}
use Rattle.circle_merkle.specs.Climb.{joined, lone, climbed, positions_of}

-- the list doesn't begin with the sibling of this position
abbrev pub BeginsApart : ℕ → List Node → Type 0
BeginsApart p [] = Unit {0}
BeginsApart p (next ∷ rest) = next.position ≢ sibling p

module _ (up : ℕ → List ℕ → List ℕ → List ℕ) (node : Node) where
  module _ (next : Node) (e : next.position ≡ sibling node.position) (after : List Node) where
    pub climbed-joined : (given : List (List ℕ)) → climbed up (node ∷ next ∷ after) given
        ≡ joined up node next ∷ climbed up after given
    climbed-joined given =
        ap (λ b. if b then joined up node next
        ∷ climbed up after given else lone up node (slice_index_or given 0 [])
        ∷ climbed up (next ∷ after) (drop 1 given))
        (eq-eqb next.position (sibling node.position) e)

    pub siblings-joined : siblings_of (positions_of (node ∷ next ∷ after))
        ≡ siblings_of (positions_of after)
    siblings-joined =
        ap (λ b. if b then siblings_of (positions_of after) else sibling node.position
        ∷ siblings_of (positions_of (next ∷ after)))
        (eq-eqb next.position (sibling node.position) e)

  pub climbed-apart : (others : List Node) (digest : List ℕ) (left : List (List ℕ)) →
      BeginsApart node.position others →
      climbed up (node ∷ others) (digest ∷ left) ≡ lone up node digest ∷ climbed up others left
  climbed-apart [] digest left h = refl
  climbed-apart (next ∷ rest) digest left h =
      ap (λ b. if b then joined up node next ∷ climbed up rest (digest ∷ left) else lone up node
      digest ∷ climbed up (next ∷ rest) left) (ne_eqb next.position (sibling node.position) h)

  pub siblings-apart : (others : List Node) → BeginsApart node.position others →
      siblings_of (positions_of (node ∷ others)) ≡ sibling node.position
      ∷ siblings_of (positions_of others)
  siblings-apart [] h = refl
  siblings-apart (next ∷ rest) h =
      ap (λ b. if b then siblings_of (positions_of rest) else sibling node.position
      ∷ siblings_of (positions_of (next ∷ rest)))
      (ne_eqb next.position (sibling node.position) h)

pub apart-cons : (p : ℕ) (others after : List Node) (next : Node) → others ≡ next ∷ after →
    next.position ≢ sibling p → BeginsApart p others
apart-cons p others after next e ne = subst (BeginsApart p) (sym e) ne

pub apart-nil : (p : ℕ) (others : List Node) → length others ≡ 0 → BeginsApart p others
apart-nil p [] e = tt
apart-nil p (next ∷ rest) e = absurd (omega arith)
