use Rattle.std.proofs.Common.{[], sym, ap, ◌∙◌, append-nil}
use Rattle.circle_transcript.specs.Numbers.{indices_steps}
use Rattle.test_allocations.proofs.without.transcripts.verify_whole.Goals as goal

pub returns : goal.returns
returns c =
    let played = c.verify.new.transcript.shape in
    c.in_ok-indices.ensures.due []
    (c.in_ok-verify.ensures.queries ∙ ap (indices_steps 3) (sym c.verify.ensures.same)
    ∙ sym (append-nil (indices_steps 3 played)))
