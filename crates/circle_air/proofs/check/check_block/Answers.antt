use Rattle.std.proofs.Common.{◌≡◌, ℕ, ◌+◌, ◌-◌, ◌*◌, ◌<◌, ◌∙◌, sym, ap, subst, arith, length}
use Rattle.std.proofs.Common.{get_or}
use Rattle.std.proofs.Common.{min}
use Rattle.circle_air.specs.declared.trace.TheConstants.{LANES}
use Rattle.circle_air.specs.Air.{air_of}
use Rattle.circle_air.specs.Lanes.{HoldsInLane, window_past}
use Rattle.circle_air.specs.Ranges.{IsInRange}
use Rattle.circle_air.specs.Satisfies.{HoldsAt, IsFoundIn}
use Rattle.circle_air.specs.Values.{values}
use Rattle.circle_air.specs.Valid.{valid}
use Rattle.circle_air.proofs.Found.{found_alike}
use Rattle.circle_air.proofs.Lanes.{in_row, in_lane}
use Rattle.circle_air.proofs.check.check_block.Goals as goal

pub write_values-requires : goal.write_values-requires
write_values-requires g c =
    let w = c.args.windows.now in
    let p = air_of w.air.now in
    let nodes = c.nodes.result.now in
    let periodic = length p.periodic_columns in record {
      room = c.requires.room ∙ ap (λ ns. length ns * LANES) (sym c.nodes.ensures);
      range = λ i below node is.
          let there : i < length p.nodes = subst (λ xs. i < length xs) c.nodes.ensures below in
          let here : get_or p.nodes i node ≡ node =
          sym (is ∙ ap (λ xs. get_or xs i node) c.nodes.ensures) in
          subst (λ n. IsInRange n periodic (length w.public_values.now) i node)
          (sym c.requires.width)
          (subst (λ n. IsInRange p.width periodic n i node) (sym c.requires.public)
          (subst (λ n. IsInRange p.width periodic p.num_public_values i n) here
          ((valid p w.air.now.valid).nodes i node there)));
    }

pub violation-requires : goal.violation-requires
violation-requires g c i d below =
    let p = air_of c.args.windows.now.air.now in
    let long : length c.write_values.new.values ≡ length p.nodes * LANES =
    c.write_values.auto.values ∙ c.requires.room in
    let there : i < length p.constraints =
    subst (λ xs. i < length xs) c.constraints.ensures below in
    let node = (get_or c.constraints.result.now i d).node in
    let earlier : node < length p.nodes =
    subst (λ xs. (get_or xs i d).node < length p.nodes) (sym c.constraints.ensures)
    ((valid p c.args.windows.now.air.now.valid).constraint_nodes i d there) in
    omega (arith, long, earlier)

pub returns-clause-found : goal.returns-clause-found
returns-clause-found g c =
    let k = g.F.Operations.ops in
    let w = c.args.windows.now in
    let p = air_of w.air.now in
    let rows = g.M.Matrix.rows w.rows.now in
    let public = w.public_values.now in
    let vs = c.write_values.new.values in
    let height = c.height.result in
    let high : height ≡ length rows = c.height.ensures
    ∙ sym (g.met.M.Matrix.height_law w.rows.now) in
    let end = min (length rows) (w.start + LANES) in
    let In = λ (i : ℕ). HoldsInLane k LANES vs height i (i - w.start) in
    let written = λ (r : ℕ) (lane : r < LANES). c.write_values.ensures.values r lane
    ∙ ap (λ nodes. values k (λ x. x) nodes (window_past k p rows public (w.start + r)))
    c.nodes.ensures in
    let found : IsFoundIn In p.constraints w.start end c.violation.result =
    subst (λ cs. IsFoundIn In cs w.start end c.violation.result) c.constraints.ensures
    (subst
    (λ n. IsFoundIn In c.constraints.result.now w.start (min n (w.start + LANES))
    c.violation.result) high c.violation.ensures) in
    found_alike In (HoldsAt k p rows public) p.constraints w.start end
    (λ i low below. in_row k p rows public LANES vs w.start height high written i low
    (omega (arith, below)) (omega (arith, below)))
    (λ i low below. in_lane k p rows public LANES vs w.start height high written i low
    (omega (arith, below)) (omega (arith, below)))
    c.violation.result found
