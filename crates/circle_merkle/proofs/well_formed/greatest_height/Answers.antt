use Rattle.std.proofs.Common.{◌∙◌, sym, ap}
use Rattle.std.specs.Prelude.{max}
use Rattle.circle_commit.specs.declared.matrix.Dimensions.{Dimensions}
use Rattle.circle_merkle.proofs.Fits.{greatest-more}
use Rattle.circle_merkle.proofs.well_formed.greatest_height.Goals as goal

pub loop-dim-preserved : goal.loop-dim-preserved
loop-dim-preserved c =
    let nothing : Dimensions = record { width = 0; height = 0 } in
    c.max-top.ensures ∙ ap (max _) c.loop-dim.invariant
    ∙ sym
    (greatest-more c.args.dimensions.now c.loop-dim.dim-index nothing c.loop-dim-test.true)
