use Rattle.std.proofs.Common.{◌-◌, ◌∷◌, length}
use Rattle.sha2.specs.Sha256.{padded_message}
use Rattle.circle_merkle.specs.RowBytes.{matrix_bytes}
use Rattle.circle_merkle.proofs.Padded.{AreMessages}
use Rattle.circle_merkle.proofs.messages.sixteen_rows.Given as goal

abbrev pub invariant-loop-i : goal.invariant-loop-i
invariant-loop-i g l =
    AreMessages (λ i. 0 ∷ matrix_bytes g.T.ElementBytes.bytes l.height i l.matrices)
    (length
    (padded_message (0 ∷ matrix_bytes g.T.ElementBytes.bytes l.height l.from l.matrices)))
    l.from (l.i - l.from) l.messages.items
