-- Tests of lists of lists, entry by entry.
use Rattle.std.proofs.Common.{◌≡◌, ◌↔◌, ◌∙◌, sym, ap, arith, List, map, Bool, true, nat_eq, ◌&&◌}
use Rattle.std.proofs.Common.{Vec, Global}
use Rattle.std.proofs.lemmas.Bool.Decides.{nat_tests}
use Rattle.circle_commit.specs.declared.matrix.Dimensions.{Dimensions}
use Rattle.std.specs.Cmp.Lexicographic.{pointwise}
use Rattle.std.specs.Cmp.Derive.Mapped.{pointwise-map}
use Rattle.circle_commit.specs.Mmcs.{opened_rows}
use lib.Pointwise.{pointwise_decides}

module _ {T : Type 0} (equal : T → T → Bool) (decides : (a b : T) → (equal a b ≡ true) ↔ (a ≡ b))
  where
    -- the test of vectors of vectors of vectors
    abbrev pub equal_rows : List (Vec (Vec T Global) Global) → List (Vec (Vec T Global) Global) →
        Bool
    equal_rows xs ys =
        pointwise (λ a b. pointwise (λ x y. pointwise equal x.items y.items) a.items b.items) xs ys

    -- it is that of the lists that they hold
    equal_rows-lists : (xs ys : List (Vec (Vec T Global) Global)) →
        pointwise (pointwise (pointwise equal)) (opened_rows xs) (opened_rows ys) ≡ equal_rows xs ys
    equal_rows-lists xs ys =
        pointwise-map (λ v. map (λ row. row.items) v.items) (pointwise (pointwise equal)) xs ys
        ∙
        (λ i. pointwise
        (λ a b. pointwise-map (λ row. row.items) (pointwise equal) a.items b.items i) xs ys)

    pub equal_rows-same : (xs ys : List (Vec (Vec T Global) Global)) →
        (equal_rows xs ys ≡ true) ↔ (opened_rows xs ≡ opened_rows ys)
    equal_rows-same xs ys =
        let lists = pointwise_decides (pointwise_decides (pointwise_decides decides))
        (opened_rows xs)
        (opened_rows ys) in
        (λ h. lists.0 (equal_rows-lists xs ys ∙ h), λ e. sym (equal_rows-lists xs ys) ∙ lists.1 e)

-- the test of shapes
abbrev pub equal_dimensions : Dimensions → Dimensions → Bool
equal_dimensions a b = nat_eq a.width b.width && nat_eq a.height b.height

pub same_dimensions : (a b : Dimensions) → (equal_dimensions a b ≡ true) ↔ (a ≡ b)
same_dimensions a b = (
  λ h.
      let width : a.width ≡ b.width = grind (arith, nat_tests) in
      let height : a.height ≡ b.height = grind (arith, nat_tests) in
      λ i. record { width = width i; height = height i },
  λ e.
      let width : a.width ≡ b.width = ap (λ (d : Dimensions). d.width) e in
      let height : a.height ≡ b.height = ap (λ (d : Dimensions). d.height) e in
      grind (arith, nat_tests),
)
