use Rattle.std.proofs.Common.{length, map, ap, ◌∙◌}
use Rattle.circle_codewords.specs.Requests.{lists_of}
use Rattle.circle_prover.proofs.Requested.{parts-more}
use Rattle.circle_prover.proofs.claims.batch_widths.Goals as goal

pub loop-matrix-preserved : goal.loop-matrix-preserved
loop-matrix-preserved g c =
    parts-more (λ m. map (λ w. length w) m) (λ rows. lists_of rows.items) (λ v. v.items)
    c.args.values.now c.loop-matrix.matrix-index c.matrix-item.result
    c.loop-matrix.widths.items c.push.new.self.items c.in_ok-matrix_widths.field-0
    c.loop-matrix-test.true c.matrix-item.is c.in_ok-push.ensures.items
    (c.in_ok-matrix_widths.ensures
    ∙ ap (λ vs. map (λ w. length w) (lists_of vs)) c.deref.ensures.value)
    c.loop-matrix.invariant
