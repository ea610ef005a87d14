use Rattle.std.proofs.Common.{◌≡◌, ◌/◌, ◌∙◌, ◌<◌, ◌≤◌, ◌+◌, ℕ, [], refl, sym, ap, subst, length}
use Rattle.std.proofs.Common.{map, get_or, arith, below_more}
use Rattle.std.proofs.lemmas.Nat.{pow_pos}
use Rattle.std.proofs.lemmas.List.{length-map, get_or-map}
use Rattle.circle_commit.specs.Mmcs.{greatest, heights, opened_rows}
use Rattle.circle_commit.specs.declared.matrix.Dimensions.{Dimensions}
use Rattle.circle_merkle.specs.SamePosition.{NeighborsAgree}
use Rattle.circle_merkle.proofs.Fits.{height-bounded, quotient-positive, height-at}
use Rattle.circle_merkle.proofs.Neighbors.{agree-all, agree-neighbors}
use Rattle.circle_merkle.proofs.well_formed.agrees.Goals as goal

pub nonzero_div-top : goal.nonzero_div-top
nonzero_div-top g c =
    let nothing : Dimensions = record { width = 0; height = 0 } in
    let power = c.requires.shape.powers_of_two c.loop-j.j nothing c.loop-j-test.true in
    omega (arith, power.1, pow_pos power.0)

pub column_agrees-requires-clause-divisor : goal.column_agrees-requires-clause-divisor
column_agrees-requires-clause-divisor g c =
    let nothing : Dimensions = record { width = 0; height = 0 } in
    let power = c.requires.shape.powers_of_two c.loop-j.j nothing c.loop-j-test.true in
    quotient-positive c.args.top (get_or c.args.dimensions.now c.loop-j.j nothing).height
    (omega (arith, power.1, pow_pos power.0))
    (omega (
      arith,
      height-bounded c.args.dimensions.now c.loop-j.j nothing c.loop-j-test.true,
      c.requires.greatest,
    ))

pub column_agrees-requires-clause-whole : goal.column_agrees-requires-clause-whole
column_agrees-requires-clause-whole g c = λ k d lt.
    let opened = c.args.opened.now in
    let rows = get_or opened k d in
    let widths =
    c.requires.shape.widths k []
    (omega (arith, lt, length-map opened (λ rows. map (λ row. row.items) rows.items))) in
    let at = get_or-map (λ rows. map (λ row. row.items) rows.items) opened k d [] lt in
    let long : length rows.items ≡ length c.args.dimensions.now =
    sym (length-map rows.items (λ row. row.items)) ∙ sym (ap length at)
    ∙ sym (length-map (get_or (opened_rows opened) k []) length) ∙ ap length widths
    ∙ length-map c.args.dimensions.now (λ dim. dim.width) in
    omega (arith, long, rows.ok.0, c.loop-j-test.true)

pub returns-then-not-column_agrees : goal.returns-then-not-column_agrees
returns-then-not-column_agrees g c indices ordered =
    let nothing : Dimensions = record { width = 0; height = 0 } in
    let dims = c.args.dimensions.now in
    let j = c.loop-j.j in
    let opened = opened_rows c.args.opened.now in
    let divisor : c.args.top / (get_or dims j nothing).height ≡ greatest (heights dims) / get_or
    (heights dims) j 0 =
    ap (λ t. t / (get_or dims j nothing).height) c.requires.greatest
    ∙ ap (λ h. greatest (heights dims) / h)
    (sym (height-at dims j nothing c.loop-j-test.true)) in (
      λ h. absurd (cc),
      λ agree. absurd (
          let yes =
          c.if-not-column_agrees.ensures.1
          (agree-neighbors indices c.args.order.now ordered opened
          (c.args.top / (get_or dims j nothing).height) j
          (λ k l hk hl e. agree j k l c.loop-j-test.true hk hl
          (ap (λ d. get_or indices k 0 / d) (sym divisor) ∙ e
          ∙ ap (λ d. get_or indices l 0 / d) divisor))) in cc),
    )

pub loop-j-preserved : goal.loop-j-preserved
loop-j-preserved g c =
    let nothing : Dimensions = record { width = 0; height = 0 } in
    let dims = c.args.dimensions.now in
    let j = c.loop-j.j in
    let order = c.args.order.now in
    let opened = opened_rows c.args.opened.now in
    let P = λ (i : ℕ). (k : ℕ) → k + 1 < length order →
    NeighborsAgree order opened (c.args.top / get_or (heights dims) i 0) i k in
    below_more P j c.loop-j.invariant
    (subst (λ h. (k : ℕ) → k + 1 < length order → NeighborsAgree order opened (c.args.top / h) j k)
    (sym (height-at dims j nothing c.loop-j-test.true)) (c.if-not-column_agrees.ensures.0 refl))

pub returns : goal.returns
returns g c indices ordered = (
  λ _. (λ j k l hj hk hl e.
      let nothing : Dimensions = record { width = 0; height = 0 } in
      let dims = c.args.dimensions.now in
      let order = c.args.order.now in
      let opened = opened_rows c.args.opened.now in
      let power = c.requires.shape.powers_of_two j nothing hj in
      let height = get_or (heights dims) j 0 in
      let top : c.args.top / height ≡ greatest (heights dims) / height =
      ap (λ t. t / height) c.requires.greatest in
      let positive : 1 ≤ c.args.top / height =
      quotient-positive c.args.top height
      (omega (arith, power.1, pow_pos power.0, height-at dims j nothing hj))
      (omega (
        arith,
        height-bounded dims j nothing hj,
        height-at dims j nothing hj,
        c.requires.greatest,
      )) in
      agree-all indices order ordered opened (c.args.top / height) j positive
      (c.loop-j.invariant j (omega (arith, hj))) k l hk hl
      (ap (λ d. get_or indices k 0 / d) top ∙ e ∙ ap (λ d. get_or indices l 0 / d) (sym top))),
  λ _. refl,
)
