use Rattle.std.proofs.Common.{◌≡◌, ◌-◌, ◌/◌, ◌∙◌, ap, sym, arith}
use Rattle.std.proofs.lemmas.Nat.{one_shl}
use Rattle.circle_domain.specs.Ordering.{cfft_index, reversed}
use Rattle.circle_domain.proofs.Reversal.{reversed-below, cfft_index-even, cfft_index-odd}
use Rattle.circle_domain.proofs.Reversal.{cfft_index-own_inverse}
use Rattle.circle_domain.proofs.ordering.cfft_permute_index.Goals as goal
use Rattle.circle_domain.proofs.ordering.cfft_permute_index.Goals.{then-index-eq0, else-index-eq0}

pub returns-clause-below : goal.returns-clause-below
returns-clause-below c = rw c.reverse_bits_len.ensures (reversed-below _ _)

pub returns-clause-own_inverse : goal.returns-clause-own_inverse
returns-clause-own_inverse c =
    let n = c.args.log_n in
    let i = c.args.index in
    let value : c.reverse_bits_len.result ≡ cfft_index n i =
    c.reverse_bits_len.ensures ∙ elim c.if-index-eq0.branch [
      | then-index-eq0 w ↦ ap (reversed n) w.source-is
          ∙ sym (cfft_index-even n i w.if-index-eq0.true)
      | else-index-eq0 w ↦
          ap (reversed n) (w.source-is ∙ ap (λ m. m - 1 - i / 2) (one_shl n 64 (omega arith)))
          ∙ sym (cfft_index-odd n i (omega (arith, w.if-index-eq0.false)))
    ] in
    ap (cfft_index n) value ∙ cfft_index-own_inverse n i c.requires.in_range
