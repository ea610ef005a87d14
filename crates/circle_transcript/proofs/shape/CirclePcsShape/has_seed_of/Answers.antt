use Rattle.std.proofs.Common.{subst}
use Rattle.circle_challenger.specs.Separator.{IsWritable}
use Rattle.circle_transcript.specs.ShapeOf.{shape_of}
use Rattle.circle_transcript.proofs.Labels.{writable_labels}
use Rattle.circle_transcript.proofs.Seeds.{same_runs}
use Rattle.circle_transcript.proofs.shape.CirclePcsShape.has_seed_of.Goals as goal

pub returns-clause-told : goal.returns-clause-told
returns-clause-told g c =
    same_runs g.EF.ExtensionField.DEGREE (shape_of c.args.self.now) (shape_of c.args.other.now)
    (subst IsWritable c.in_ok-own.ensures.separator c.text.ensures.writable)
    (subst IsWritable c.in_ok-others.ensures.separator c.text-2.ensures.writable)
    (writable_labels c.args.self.now c.in_ok-own.ensures.fits c.requires.final_poly)
    (writable_labels c.args.other.now c.in_ok-others.ensures.fits c.requires.others)
