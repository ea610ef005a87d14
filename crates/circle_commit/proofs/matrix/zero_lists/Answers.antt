use Rattle.std.proofs.Common.{◌++◌, [], ◌∷◌, ◌∙◌, sym, ap, map}
use Rattle.std.specs.List.{range_with_len}
use Rattle.std.proofs.lemmas.List.{map-append}
use Rattle.circle_commit.proofs.Written.{range-more}
use Rattle.circle_commit.proofs.matrix.zero_lists.Goals as goal

pub loop-i-preserved : goal.loop-i-preserved
loop-i-preserved g c =
    let zs = map (λ _. g.EF.Operations.ops.zero) (range_with_len 0 c.args.count) in
    let made = c.in_ok-zeros.field-0 in
    ap (map (λ v. v.items)) c.in_ok-push.ensures.items
    ∙ map-append (λ v. v.items) c.loop-i.made.items (made ∷ [])
    ∙ ap (λ xs. xs ++ made.items ∷ []) c.loop-i.invariant
    ∙ ap (λ x. map (λ _. zs) (range_with_len 0 c.loop-i._i) ++ x ∷ []) c.in_ok-zeros.ensures
    ∙ sym (range-more (λ _. zs) 0 c.loop-i._i)
