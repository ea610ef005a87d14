use Rattle.std.proofs.Common.{refl, subst, All}
use Rattle.std.proofs.lemmas.List.{take_all}
use Rattle.std.proofs.lemmas.List.Elements.{All-more}
use Rattle.circle_commit.specs.Matrix.{IsPowerOfTwo}
use Rattle.circle_commit.specs.declared.matrix.Dimensions.{Dimensions}
use Rattle.circle_merkle.proofs.well_formed.are_powers_of_two.Goals as goal

pub loop-dim-preserved : goal.loop-dim-preserved
loop-dim-preserved c =
    let nothing : Dimensions = record { width = 0; height = 0 } in
    All-more (λ dim. IsPowerOfTwo dim.height) c.args.dimensions.now c.loop-dim.dim-index nothing
    c.loop-dim-test.true c.loop-dim.invariant (c.if-not-is_power_of_two.ensures.0 refl)

pub returns : goal.returns
returns c = (
  λ _. subst (All (λ dim. IsPowerOfTwo dim.height))
      (take_all c.loop-dim.dim-index c.args.dimensions.now c.loop-dim-test.false)
      c.loop-dim.invariant,
  λ _. refl,
)
