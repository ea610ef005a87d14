use Rattle.std.proofs.Common.{◌++◌, ◌∷◌, [], ◌∙◌, ap, sym, map, arith}
use Rattle.std.specs.List.{range_with_len}
use Rattle.std.proofs.lemmas.List.FromFn.{map-range_with_len_more}
use Rattle.sha2.specs.Sha256.{sha256}
use Rattle.circle_merkle.specs.Messages.{pair_digest}
use Rattle.circle_merkle.proofs.tree.pairs_level.Goals as goal

pub loop-i-preserved : goal.loop-i-preserved
loop-i-preserved c =
    let i = c.loop-i.i in
    let f = pair_digest sha256 c.args.first c.args.pairs.now in
    c.in_ok-push.ensures.items
    ∙ ap (λ before. before ++ c.digest_of_pair.result ∷ []) c.loop-i.invariant
    ∙ ap (λ x. map f (range_with_len 0 i) ++ x ∷ []) c.digest_of_pair.ensures
    ∙ sym (map-range_with_len_more f 0 i i (omega arith))
