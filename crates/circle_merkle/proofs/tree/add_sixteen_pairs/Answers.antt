use Rattle.std.proofs.Common.{◌≡◌, ◌+◌, ◌*◌, ◌++◌, ◌∙◌, ap, map, arith}
use Rattle.std.specs.List.{range_with_len}
use Rattle.sha2.specs.Sha256.{sha256}
use Rattle.circle_merkle.specs.Messages.{pair_digest}
use Rattle.circle_merkle.proofs.Levels.{range-joined}
use Rattle.circle_merkle.proofs.tree.add_sixteen_pairs.Goals as goal

pub loop-group-preserved : goal.loop-group-preserved
loop-group-preserved c =
    let done = 16 * c.loop-group.group in
    let f = pair_digest sha256 c.args.first c.args.pairs.now in
    let more : done + 16 ≡ 16 * (c.loop-group.group + 1) = omega arith in
    c.in_ok-extend_from_slice.ensures.items
    ∙ ap (λ xs. xs ++ c.in_ok-sixteen_pairs.field-0) c.loop-group.invariant
    ∙ ap (λ xs. map f (range_with_len 0 done) ++ xs) c.in_ok-sixteen_pairs.ensures
    ∙ range-joined f 0 done 16 done (omega arith)
    ∙ ap (λ n. map f (range_with_len 0 n)) more
