use Rattle.std.proofs.Common.{◌≡◌, ◌+◌, ◌++◌, [], ◌∷◌, ◌∙◌, sym, ap, arith, add-one, map}
use Rattle.std.specs.List.{range_with_len}
use Rattle.std.proofs.lemmas.List.FromFn.{map-range_with_len_more}
use Rattle.circle_field.specs.Field.{nth_power}
use Rattle.circle_field.proofs.field.Field.powers.Goals as goal

pub loop-preserved : goal.loop-preserved
loop-preserved g c =
    let k = g.Self.Operations.ops in
    let n = c.loop.counter in
    let base = c.args.base in
    let before = map (λ i. nth_power k base i) (range_with_len 0 n) in
    let next : nth_power k base (n + 1) ≡ k.mul base (nth_power k base n) =
    ap (nth_power k base) (add-one n) in
    record {
      made =
          c.in_ok-push.ensures.items
          ∙ ap (λ items. items ++ c.loop.power ∷ []) c.loop.invariant.made
          ∙ ap (λ p. before ++ p ∷ []) c.loop.invariant.next
          ∙ sym (map-range_with_len_more (λ i. nth_power k base i) 0 n n (omega arith));
      next =
          g.met.Self.Field.mul_law _ _ _ c.mul-power.ensures
          ∙ ap (λ p. k.mul p base) c.loop.invariant.next
          ∙ g.Self.Operations.laws.ring.mul_comm _ _ ∙ sym next;
    }
