use Rattle.std.proofs.Common.{◌≡◌, ◌+◌, ◌∙◌, List, sym, ap, subst, arith, length, map, take}
use Rattle.std.proofs.Common.{All}
use Rattle.std.proofs.lemmas.List.{length-map}
use Rattle.circle_commit.specs.DotProduct.{dot}
use Rattle.circle_commit.specs.PeriodicLdeTable.{columns_of}
use Rattle.circle_air.specs.Lanes.{lane}
use Rattle.circle_air.specs.Values.{entry}
use Rattle.circle_air.proofs.Lanes.{lane_read}
use Rattle.circle_quotient.specs.Blocks.{selectors_at_place}
use Rattle.circle_quotient.specs.Lanes.{HaveLanes}
use Rattle.circle_quotient.specs.Terms.{terms}
use Rattle.circle_quotient.proofs.LaneLists.{at_lane, lane-columns, cleared-element, cleared-lanes}
use Rattle.circle_quotient.proofs.Weighing.{weighted-more}
use Rattle.circle_quotient.proofs.blocks.QuotientTerms.write_sums.Goals as goal

pub loop-j-init : goal.loop-j-init
loop-j-init g c =
    let k = g.F.Operations.ops in
    let old = c.args.coefficients.now in
    let new = c.clear_all.new.lists in
    let lanes = length c.args.products.now in
    let room = c.requires.sums in
    let is = c.clear_all.ensures in record {
      room = record {
        all = c.clear_all.auto.lists ∙ room.all;
        each = subst (All (λ (column : List g.row.F.Denot). length column ≡ lanes)) (sym is)
            (cleared-lanes k lanes (columns_of old) room.each);
      };
      sums = λ r lt. lane-columns k new r ∙ ap (λ xs. at_lane k xs r) is
          ∙ cleared-element g.met.EF.ExtensionField.are_coefficients g.F.Operations.laws
          g.EF.Operations.laws g.met.EF.ExtensionField.embedding r (columns_of old)
          (length-map old (λ v. v.items) ∙ room.all);
    }

pub loop-j-preserved : goal.loop-j-preserved
loop-j-preserved g c =
    let k = g.F.Operations.ops in
    let l = g.EF.Operations.ops in
    let m = g.EF.ExtensionField.embed in
    let coefficients = g.EF.ExtensionField.coefficients in
    let t = c.args.self.now in
    let cs = t.constraints.now in
    let ws = t.weights.items in
    let lanes = length c.args.products.now in
    let j = c.loop-j.j in
    let below = c.loop-j-test.true in
    let values = c.node_values-values.result.now in
    let w = c.index.result.now in
    let count = c.node_values-values.ensures.count in record {
      room = subst
          (λ n. HaveLanes g.EF.ExtensionField.DEGREE n c.add_selected.new.coefficients) count
          c.add_selected.ensures.lanes;
      sums = λ r lt.
          let s = selectors_at_place k t (c.args.start + r) in
          let nodes = lane k lanes r c.args.nodes.now in
          let a = dot l (take j (map m (terms k cs nodes s))) (take j ws) in
          c.add_selected.ensures.sums r a (omega (arith, lt, count))
          (c.loop-j.invariant.sums r lt)
          ∙ ap (λ x. coefficients (l.add a (l.mul (m x) w)))
          (ap (λ f. k.mul f (entry k values r)) (c.selector-selector.ensures.values r lt)
          ∙ ap (k.mul _) (lane_read k lanes r lt _ c.args.nodes.now values
          (c.requires.nodes j _ below) c.node_values-values.ensures.values))
          ∙ ap coefficients (sym (weighted-more k g.EF.Operations.laws m s nodes cs ws j _ w below
          c.requires.weights c.index.ensures));
    }
