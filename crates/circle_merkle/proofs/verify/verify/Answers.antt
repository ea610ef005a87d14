use Rattle.std.proofs.Common.{◌≡◌, ◌<◌, ◌^◌, ◌∙◌, refl, sym, ap, subst, length, map, All, arith}
use Rattle.std.proofs.lemmas.Bool.{false≢true}
use Rattle.std.proofs.lemmas.List.{length-map}
use Rattle.circle_commit.specs.Matrix.{IsPowerOfTwo}
use Rattle.circle_commit.specs.Mmcs.{greatest, heights}
use Rattle.circle_merkle.specs.Tree.{taken_below}
use Rattle.circle_merkle.specs.Order.{IsOrdered}
use Rattle.circle_merkle.proofs.Ordered.{order-placed}
use Rattle.circle_merkle.proofs.Fits.{whole-rows, greatest-power, below-power}
use Rattle.circle_merkle.proofs.verify.verify.Goals as goal

pub agrees-requires-clause-places : goal.agrees-requires-clause-places
agrees-requires-clause-places g c =
    let known = c.if-not-has_indices.ensures.0 refl in
    let opened = c.args.opened.now in
    let indices = c.args.indices.now in
    let count = length-map opened (λ rows. map (λ row. row.items) rows.items) in
    subst (All (λ entry. entry.1 < length opened)) (sym c.deref.ensures.value)
    (λ k d lt. omega (
      arith,
      (order-placed indices c.in_ok-order.order.items c.in_ok-order.ensures k d lt).0,
      count,
      known.one_each,
    ))

pub returns-then-not-agrees-clause-refused : goal.returns-then-not-agrees-clause-refused
returns-then-not-agrees-clause-refused g c = (
  c.if-not-has_shape.ensures.0 refl,
  c.if-not-has_indices.ensures.0 refl,
  λ agree. absurd
      (false≢true
      ((c.if-not-agrees.ensures c.args.indices.now
      (subst (IsOrdered c.args.indices.now) (sym c.deref.ensures.value) c.in_ok-order.ensures)).1
      agree)),
)

pub returns-then-not-branch-clause-refused : goal.returns-then-not-branch-clause-refused
returns-then-not-branch-clause-refused g c =
    let shape = c.if-not-has_shape.ensures.0 refl in
    let known = c.if-not-has_indices.ensures.0 refl in
    let dims = c.args.dimensions.now in
    let indices = c.args.indices.now in
    let counted = c.in_ok-has_count.ensures indices
    (c.deref-2.ensures.value ∙ c.leave_firsts.ensures indices c.log2_strict.result
    c.in_ok-order.ensures
    (below-power dims indices c.log2_strict.result
    (c.log2_strict.ensures.power ∙ c.greatest_height-top.ensures) known.in_range)) in
    let agree =
    (c.if-not-agrees.ensures c.args.indices.now
    (subst (IsOrdered c.args.indices.now) (sym c.deref.ensures.value) c.in_ok-order.ensures)).0
    refl in (
      shape,
      known,
      agree,
      λ levels e h.
          let top = c.greatest_height-top.ensures in
          let same : levels ≡ c.log2_strict.result =
          sym (c.log2_strict.ensures.only levels (top ∙ e)) in
          absurd
          (false≢true
          (sym c.if-not-branch.true
          ∙ counted.1 (h ∙ ap (λ l. taken_below c.args.indices.now l l) same))),
    )

pub invariant_of-opening : goal.invariant_of-opening
invariant_of-opening g c =
    let shape = c.if-not-has_shape.ensures.0 refl in
    let known = c.if-not-has_indices.ensures.0 refl in
    let opened = c.args.opened.now in
    record {
      greatest_height = c.greatest_height-top.ensures;
      one_each = sym (length-map opened (λ rows. map (λ row. row.items) rows.items))
          ∙ known.one_each;
      whole = whole-rows c.args.dimensions.now opened shape;
    }

pub log2_strict-requires : goal.log2_strict-requires
log2_strict-requires g c =
    let shape = c.if-not-has_shape.ensures.0 refl in
    let power : IsPowerOfTwo (greatest (heights c.args.dimensions.now)) =
    greatest-power c.args.dimensions.now shape.some shape.powers_of_two in
    (power.0, c.greatest_height-top.ensures ∙ power.1)

pub root-requires-clause-power : goal.root-requires-clause-power
root-requires-clause-power g c = (c.log2_strict.result, sym c.log2_strict.ensures.power)

pub root-requires-clause-firsts : goal.root-requires-clause-firsts
root-requires-clause-firsts g c = λ levels e.
    let known = c.if-not-has_indices.ensures.0 refl in
    let indices = c.args.indices.now in
    let below : All (λ i. i < 2 ^ levels) indices =
    subst (λ n. All (λ i. i < n) indices) (sym c.greatest_height-top.ensures ∙ e)
    known.in_range in
    c.deref-3.ensures.value ∙ c.leave_firsts.ensures indices levels c.in_ok-order.ensures below

pub root-requires-clause-count : goal.root-requires-clause-count
root-requires-clause-count g c = λ levels e.
    let shape = c.if-not-has_shape.ensures.0 refl in
    let known = c.if-not-has_indices.ensures.0 refl in
    let dims = c.args.dimensions.now in
    let indices = c.args.indices.now in
    let counted = c.in_ok-has_count.ensures indices
    (c.deref-2.ensures.value ∙ c.leave_firsts.ensures indices c.log2_strict.result
    c.in_ok-order.ensures
    (below-power dims indices c.log2_strict.result
    (c.log2_strict.ensures.power ∙ c.greatest_height-top.ensures) known.in_range)) in
    let same : levels ≡ c.log2_strict.result = sym (c.log2_strict.ensures.only levels e) in
    counted.0 c.if-not-branch.false ∙ ap (λ l. taken_below indices l l) (sym same)

pub returns-then-not-same_digest-clause-refused : goal.returns-then-not-same_digest-clause-refused
returns-then-not-same_digest-clause-refused g c =
    let shape = c.if-not-has_shape.ensures.0 refl in
    let known = c.if-not-has_indices.ensures.0 refl in
    let dims = c.args.dimensions.now in
    let indices = c.args.indices.now in
    let counted = c.in_ok-has_count.ensures indices
    (c.deref-2.ensures.value ∙ c.leave_firsts.ensures indices c.log2_strict.result
    c.in_ok-order.ensures
    (below-power dims indices c.log2_strict.result
    (c.log2_strict.ensures.power ∙ c.greatest_height-top.ensures) known.in_range)) in
    let agree =
    (c.if-not-agrees.ensures c.args.indices.now
    (subst (IsOrdered c.args.indices.now) (sym c.deref.ensures.value) c.in_ok-order.ensures)).0
    refl in
    let top = c.greatest_height-top.ensures in (
      shape,
      known,
      agree,
      (λ levels e.
          let same : levels ≡ c.log2_strict.result =
          sym (c.log2_strict.ensures.only levels (top ∙ e)) in
          counted.0 c.if-not-branch.false
          ∙ ap (λ l. taken_below c.args.indices.now l l) (sym same)),
      (λ levels e h. absurd
          (false≢true
          (c.if-not-same_digest.ensures.1 (c.in_ok-root.ensures levels (top ∙ e) ∙ h)))),
    )

pub returns-clause-accepted : goal.returns-clause-accepted
returns-clause-accepted g c =
    let shape = c.if-not-has_shape.ensures.0 refl in
    let known = c.if-not-has_indices.ensures.0 refl in
    let dims = c.args.dimensions.now in
    let indices = c.args.indices.now in
    let counted = c.in_ok-has_count.ensures indices
    (c.deref-2.ensures.value ∙ c.leave_firsts.ensures indices c.log2_strict.result
    c.in_ok-order.ensures
    (below-power dims indices c.log2_strict.result
    (c.log2_strict.ensures.power ∙ c.greatest_height-top.ensures) known.in_range)) in
    let agree =
    (c.if-not-agrees.ensures c.args.indices.now
    (subst (IsOrdered c.args.indices.now) (sym c.deref.ensures.value) c.in_ok-order.ensures)).0
    refl in
    let power : IsPowerOfTwo (greatest (heights c.args.dimensions.now)) =
    greatest-power c.args.dimensions.now shape.some shape.powers_of_two in
    let top = c.greatest_height-top.ensures in
    let same : power.0 ≡ c.log2_strict.result =
    sym (c.log2_strict.ensures.only power.0 (top ∙ power.1)) in
    record {
      shape = shape;
      known = known;
      agreeing = agree;
      levels = power.0;
      top = power.1;
      count = counted.0 c.if-not-branch.false
          ∙ ap (λ l. taken_below c.args.indices.now l l) (sym same);
      root = sym (c.in_ok-root.ensures power.0 (top ∙ power.1))
          ∙ c.if-not-same_digest.ensures.0 refl;
    }

pub agrees-requires-clause-greatest : goal.agrees-requires-clause-greatest
agrees-requires-clause-greatest g c = c.greatest_height-top.ensures

pub agrees-requires-clause-shape : goal.agrees-requires-clause-shape
agrees-requires-clause-shape g c = c.if-not-has_shape.ensures.0 refl

pub root-requires-clause-some : goal.root-requires-clause-some
root-requires-clause-some g c = (c.if-not-has_indices.ensures.0 refl).some

pub root-requires-clause-in_range : goal.root-requires-clause-in_range
root-requires-clause-in_range g c =
    subst (λ n. All (λ i. i < n) c.args.indices.now) (sym c.greatest_height-top.ensures)
    (c.if-not-has_indices.ensures.0 refl).in_range

pub returns-then-not-has_shape-clause-refused : goal.returns-then-not-has_shape-clause-refused
returns-then-not-has_shape-clause-refused g c =
    λ shape. absurd (false≢true (c.if-not-has_shape.ensures.1 shape))

pub returns-then-not-has_indices-clause-refused : goal.returns-then-not-has_indices-clause-refused
returns-then-not-has_indices-clause-refused g c = (
  c.if-not-has_shape.ensures.0 refl,
  λ known. absurd (false≢true (c.if-not-has_indices.ensures.1 known)),
)
