use Rattle.std.proofs.Common.{◌≢◌, ◌+◌, ◌%◌, ◌<◌, ◌∙◌, ap, refl, arith, length}
use Rattle.std.proofs.lemmas.List.{get_or-set_other, get_or_default}
use Rattle.circle_air.specs.Values.{entry}
use Rattle.circle_air.proofs.Cycles.{first_place, place_more, written_more}
use Rattle.circle_quotient.proofs.selectors.multiply_by_cycle.Goals as goal

pub loop-value-init : goal.loop-value-init
loop-value-init g c = record {
  at = first_place 0 (length c.args.cycle.now) c.requires;
  below = c.requires;
  written = λ r d h. absurd (omega (arith, h));
  others = λ r d h. refl;
}

pub loop-value-preserved : goal.loop-value-preserved
loop-value-preserved g c =
    let k = g.F.Operations.ops in
    let inv = c.loop-value.invariant in
    let xs = c.args.cycle.now in
    let old = c.args.values.now in
    let i = c.loop-value.value-index in
    let a = c.value-item.result in
    let b = c.index-cycle-at.result in
    let v = c.mul.result in
    let room : i < length c.loop-value.values =
    omega (arith, c.loop-value-test.true, c.loop-value.auto.values) in record {
      at = place_more 0 i (length xs) c.loop-value.at c.following-at.result inv.at
          c.following-at.ensures.next;
      below = c.following-at.ensures.below;
      written = written_more c.loop-value.values
          (λ r d. k.mul (entry k old r) (entry k xs ((0 + r) % length xs))) i v room inv.written
          (λ d. g.met.F.Field.mul_law _ _ _ c.mul.ensures
          ∙ ap (λ x. k.mul x b)
          (get_or_default c.loop-value.values i a k.zero room ∙ inv.others i k.zero (omega arith))
          ∙ ap (k.mul (entry k old i))
          (c.index-cycle-at.is ∙ get_or_default xs c.loop-value.at b k.zero inv.below
          ∙ ap (λ n. entry k xs n) inv.at));
      others = λ r d h.
          let other : r ≢ i = omega (arith, h) in
          get_or-set_other c.loop-value.values i r v d other ∙ inv.others r d (omega (arith, h));
    }
