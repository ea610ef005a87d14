use Rattle.std.proofs.Common.{◌≡◌, ◌∙◌, [], length, map, sym, ap, arith}
use Rattle.std.proofs.lemmas.List.{get_or_default, get_or-map, length-map, same_lists}
use Rattle.sha2.specs.Sha256.{digest_bytes, sha256}
use Rattle.circle_merkle.proofs.lanes.digests.Goals as goal

pub returns : goal.returns
unfolding sha256
returns c messages sixteen all whole =
    let count : length (map sha256 messages) ≡ 16 = length-map messages sha256 ∙ sixteen in
    same_lists c.loop-i.digests (map sha256 messages) (c.loop-i.invariant.0 ∙ sym count)
    (λ k d lt.
    get_or_default c.loop-i.digests k d [] lt
    ∙ c.loop-i.invariant.1 k (omega arith)
    ∙ ap (λ h. digest_bytes h 8)
    (c.hash_values-state.ensures messages sixteen all whole k (omega arith))
    ∙ sym (get_or-map sha256 messages k [] d (omega arith)))
