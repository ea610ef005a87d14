use Rattle.std.specs.Prelude.{IfOk}
use Rattle.std.proofs.Common.{◌≡◌, ◌<◌, ◌∙◌, subst, arith}
use Rattle.circle_transcript.proofs.Labels.{two_labels, three_labels}
use Rattle.circle_transcript.proofs.shape.CirclePcsShape.labelled.Goals as goal

pub returns-then-self-eq0-clause-separator : goal.returns-then-self-eq0-clause-separator
returns-then-self-eq0-clause-separator c =
    two_labels _ _ _ _ _ _ _ c.args.self.now.log_final_poly_len c.in_ok-separator.ensures
    c.in_ok-separator-2.ensures
    c.in_eight_bytes.ensures.bytes (c.deref.ensures.value ∙ c.in_ok-opening_layout.ensures)
    c.if-self-eq0.true

pub returns-clause-separator : goal.returns-clause-separator
returns-clause-separator c =
    let some : 0 < c.args.self.now.log_final_poly_len = omega (arith, c.if-self-eq0.false) in
    subst (λ x. IfOk c.instance-3.result (λ s. s ≡ x))
    (three_labels _ _ _ _ _ _ _ _ c.args.self.now.log_final_poly_len c.in_ok-separator.ensures
    c.in_ok-separator-2.ensures
    c.in_eight_bytes.ensures.bytes (c.deref.ensures.value ∙ c.in_ok-opening_layout.ensures)
    c.in_eight_bytes-2.ensures.bytes some)
    c.instance-3.ensures
