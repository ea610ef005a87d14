use Rattle.std.proofs.Common.{◌≡◌, ℕ, ◌*◌, ◌<◌, List, [], length, flat_map, get_or, All}
use Rattle.sha2.specs.Sha256.{hash_after, initial_hash_256, padded_message}
use Rattle.circle_merkle.specs.Lanes.{lane}
use Rattle.circle_merkle.proofs.lanes.hash_values.Given as goal

abbrev pub invariant-loop-n : goal.invariant-loop-n
invariant-loop-n l = (messages : List (List ℕ)) → length messages ≡ 16
    → All (λ m. length (padded_message m) ≡ 64 * l.blocks) messages
    → l.bytes ≡ flat_map padded_message messages
    → (i : ℕ) → i < 16 →
    lane i l.state ≡ hash_after initial_hash_256 (padded_message (get_or messages i [])) l.n
