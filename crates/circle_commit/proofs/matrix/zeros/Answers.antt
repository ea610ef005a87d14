use Rattle.std.proofs.Common.{◌++◌, [], ◌∷◌, ◌∙◌, sym, ap, map}
use Rattle.std.specs.List.{range_with_len}
use Rattle.circle_commit.proofs.Written.{range-more}
use Rattle.circle_commit.proofs.matrix.zeros.Goals as goal

pub loop-i-preserved : goal.loop-i-preserved
loop-i-preserved g c =
    let z = g.EF.Operations.ops.zero in
    c.in_ok-push.ensures.items ∙ ap (λ xs. xs ++ c.ZERO.result ∷ []) c.loop-i.invariant
    ∙ ap (λ x. map (λ _. z) (range_with_len 0 c.loop-i._i) ++ x ∷ [])
    (c.ZERO.ensures ∙ g.met.EF.Field.zero_law)
    ∙ sym (range-more (λ _. z) 0 c.loop-i._i)
