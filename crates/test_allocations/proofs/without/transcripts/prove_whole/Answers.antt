use Rattle.std.proofs.Common.{[], sym, ap, ◌∙◌, append-nil}
use Rattle.circle_transcript.specs.Numbers.{indices_steps}
use Rattle.test_allocations.proofs.without.transcripts.prove_whole.Goals as goal

pub returns : goal.returns
returns c =
    let played = c.prove.new.transcript.shape in
    c.in_ok-indices.ensures.due []
    (c.in_ok-prove.ensures.queries ∙ ap (indices_steps 3) (sym c.prove.ensures.same)
    ∙ sym (append-nil (indices_steps 3 played)))
