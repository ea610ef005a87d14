use Rattle.std.proofs.Common.{◌+◌, ◌*◌, ◌<◌, ◌≤◌, ◌∙◌, arith, length, min, inl, inr}
use Rattle.std.specs.Prelude.{Some}
use Rattle.std.proofs.lemmas.Grind.{div_ceil_times}
use Rattle.circle_air.specs.declared.trace.TheConstants.{LANES}
use Rattle.circle_air.specs.Air.{air_of}
use Rattle.circle_air.specs.Satisfies.{HoldsAt}
use Rattle.circle_air.proofs.Found.{before_or_from, found_below, found_more}
use Rattle.circle_air.proofs.check.check_constraints.Goals as goal

pub returns-in-Some : goal.returns-in-Some
returns-in-Some g c =
    let p = air_of c.args.air.now in
    let rows = g.M.Matrix.rows c.args.rows.now in
    let Holds = HoldsAt g.F.Operations.ops p rows c.args.public_values.now in
    let inv = c.loop-block.invariant in
    let start = c.loop-block.block * LANES in
    let end = min (length rows) (start + LANES) in
    let v = c.in-Some.violation in
    let begun : start < length rows =
    omega (
      arith,
      c.loop-block-test.true,
      inv.height,
      c.div_ceil-block-end.ensures,
      (div_ceil_times c.height-height.result LANES (omega arith)).1,
    ) in
    found_below Holds p.constraints 0 end (length rows) (omega arith) v
    (found_more Holds p.constraints start end
    (λ i low high. inv.holds i low high (omega (arith, high, begun)))
    (Some v) c.in-Some.ensures.found)

pub loop-block-preserved : goal.loop-block-preserved
loop-block-preserved g c =
    let rows = g.M.Matrix.rows c.args.rows.now in
    let inv = c.loop-block.invariant in
    let start = c.loop-block.block * LANES in record {
      room = c.in-None.ensures.room;
      height = inv.height;
      holds = λ i low high below. elim (before_or_from i start) [
        | inl b ↦ inv.holds i low b below
        | inr f ↦ c.in-None.ensures.found i f (omega (arith, high, below))
      ];
    }

pub returns : goal.returns
returns g c =
    let m = c.args.rows.now in
    let rows = g.M.Matrix.rows m in
    let inv = c.loop-block.invariant in
    let all : length rows ≤ c.loop-block.block * LANES =
    omega (
      arith,
      c.loop-block-test.false,
      inv.height,
      c.div_ceil-block-end.ensures,
      (div_ceil_times c.height-height.result LANES (omega arith)).0,
    ) in record {
      public_count = c.requires.public;
      widths = λ k d below. g.met.M.Matrix.width_law m k d below ∙ c.requires.width;
      holds = λ i below. inv.holds i (omega arith) (omega (arith, below, all)) below;
    }
