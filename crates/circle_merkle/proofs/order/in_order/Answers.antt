use Rattle.std.proofs.Common.{◌≡◌, ◌++◌, ◌∷◌, [], ◌∙◌, ap, sym, subst, map, length, arith}
use Rattle.std.specs.List.{range_with_len}
use Rattle.std.specs.List.Sorted.{IsPermutation}
use Rattle.std.proofs.lemmas.List.FromFn.{map-range_with_len_more}
use Rattle.circle_merkle.specs.Order.{entry_at}
use Rattle.circle_merkle.proofs.order.in_order.Goals as goal

pub loop-place-preserved : goal.loop-place-preserved
loop-place-preserved c =
    let place = c.loop-place.place in
    let indices = c.args.indices.now in
    c.in_ok-push.ensures.items ∙ ap (λ before. before ++ entry_at indices place ∷ [])
    c.loop-place.invariant
    ∙ sym (map-range_with_len_more (entry_at indices) 0 place place (omega arith))

pub returns : goal.returns
returns c =
    let indices = c.args.indices.now in
    let end : c.loop-place.place ≡ length indices = omega arith in
    let whole = c.loop-place.invariant ∙ ap (λ n. map (entry_at indices) (range_with_len 0 n))
    end in
    record {
      permuted = subst (λ xs. IsPermutation xs c.sort_unstable.new.self.items) whole
          c.sort_unstable.ensures.permutation;
      ascending = c.sort_unstable.ensures.sorted;
    }
