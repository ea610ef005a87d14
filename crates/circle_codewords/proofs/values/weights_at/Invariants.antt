use Rattle.std.proofs.Common.{◌≡◌, ◌≢◌, ◌<◌, ℕ, slice_index_or}
use Rattle.circle_codewords.proofs.values.weights_at.Given as goal

abbrev pub invariant-loop-known : goal.invariant-loop-known
invariant-loop-known g l = (j : ℕ) (d : _) → j < l.known-index →
    (slice_index_or l.all j d).log_blowup ≡ l.log_blowup →
    (slice_index_or l.all j d).log_height ≡ l.log_height →
    (slice_index_or l.all j d).point ≢ l.point
