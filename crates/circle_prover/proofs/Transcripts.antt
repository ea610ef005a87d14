-- Transcripts of one shape that borrow one challenger.
use Rattle.std.proofs.Common.{◌∙◌}
use Rattle.circle_transcript.specs.Transcript.{IsSame}
use Rattle.circle_transcript.specs.declared.transcript.CircleTranscript.{CircleTranscript}

-- what stays the same in each of two calls stays so in both
pub same-both : {C F E Com Side S : Type 0} {g d : _}
    (a b c : CircleTranscript C F E Com Side S g d)
    → IsSame a b → IsSame b c → IsSame a c
same-both a b c first second = record {
  challenger = second.challenger ∙ first.challenger;
  shape = second.shape ∙ first.shape;
}
