use Rattle.p3_circle.proofs.Scheme.{memory-said}
use Rattle.p3_circle.proofs.instance.CirclePcsPcs.verify.Goals as goal

pub returns-clause-refused : goal.returns-clause-refused
returns-clause-refused g c = memory-said c.verify.result _ c.verify.ensures.complete
