use Rattle.std.proofs.Common.{◌≡◌, ◌*◌, ◌≤◌, ◌∙◌, sym, ap, arith, ◌∷◌, [], ◌++◌, length}
use Rattle.std.proofs.Common.{length-append}
use Rattle.std.proofs.Math.Nat.{mul-le-mul_right}
use Rattle.std.proofs.lemmas.List.{take_all}
use Rattle.circle_air.specs.Lanes.{lane}
use Rattle.circle_air.specs.Values.{value, values}
use Rattle.circle_air.proofs.Lanes.{lane-written}
use Rattle.circle_air.proofs.Nodes.{values_more}
use Rattle.circle_air.proofs.evaluate.write_values.Goals as goal

pub loop-i-preserved : goal.loop-i-preserved
loop-i-preserved g c =
    let k = g.E.Operations.ops in
    let embed = g.E.ExtensionField.embed in
    let nodes = c.args.nodes.now in
    let lanes = c.args.lanes in
    let i = c.loop-i.i in
    let node = c.index-nodes-i.result in
    let earlier = c.split_at_mut-earlier.result.0.now in
    let rest = c.split_at_mut-earlier.result.1.now in
    let here = c.write_node.new.values in
    let later = c.split_at_mut-here.result.1.now in
    let first = c.split_at_mut-earlier.ensures.front_len in
    let one : length here ≡ lanes =
    c.write_node.auto.values ∙ c.split_at_mut-here.ensures.front_len in
    record {
      count = length-append earlier (here ++ later)
          ∙ omega (
            arith,
            length-append here later,
            first,
            one,
            c.split_at_mut-earlier.ensures.back_len,
            c.split_at_mut-here.ensures.back_len,
            c.loop-i.invariant.count,
          );
      written = λ r within.
          let w = g.W.Windows.window c.args.windows.now r in
          let before = ap (lane k lanes r) c.split_at_mut-earlier.ensures.front
          ∙ c.loop-i.invariant.written r within in
          lane-written k lanes r within i earlier here later first one
          ∙ ap (λ v. lane k lanes r earlier ++ v ∷ [])
          (c.write_node.ensures r (omega (arith, within, one))
          ∙ ap (λ m. value k embed w (lane k m r earlier) node) one)
          ∙ ap (λ vs. vs ++ value k embed w vs node ∷ []) before
          ∙ sym (values_more k embed w nodes i node c.loop-i-test.true c.index-nodes-i.is);
    }

pub returns-clause-values : goal.returns-clause-values
returns-clause-values g c r within =
    let k = g.E.Operations.ops in
    let nodes = c.args.nodes.now in
    let lanes = c.args.lanes in
    let i = c.loop-i.i in
    let end : length nodes ≤ i = omega (arith, c.loop-i-test.false) in
    let all : length c.loop-i.values ≤ i * lanes =
    omega (arith, mul-le-mul_right lanes end, c.loop-i.invariant.count) in
    ap (lane k lanes r) (sym (take_all (i * lanes) c.loop-i.values all))
    ∙ c.loop-i.invariant.written r within
    ∙ ap (λ ns. values k g.E.ExtensionField.embed ns (g.W.Windows.window c.args.windows.now r))
    (take_all i nodes end)
