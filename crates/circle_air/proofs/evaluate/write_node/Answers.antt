use Rattle.std.proofs.Common.{◌∙◌, sym, ap, subst, length}
use Rattle.circle_air.specs.Lanes.{lane}
use Rattle.circle_air.specs.Ranges.{IsInRange}
use Rattle.circle_air.specs.Values.{value}
use Rattle.circle_field.specs.Field.{sub}
use Rattle.circle_air.proofs.Lanes.{operand, operands}
use Rattle.circle_air.proofs.evaluate.write_node.Goals as goal

pub returns-in-Add : goal.returns-in-Add
returns-in-Add g c r below =
    let k = g.E.Operations.ops in
    let w = c.args.windows.now in
    let earlier = c.args.earlier.now in
    let lanes = length c.write_sums.new.sums in
    let ranges = subst
    (IsInRange (g.W.Windows.width w) (g.W.Windows.num_periodic_columns w)
    (g.W.Windows.num_public_values w) c.requires.0) c.in-Add.is c.requires.2 in
    c.write_sums.ensures r below
    ∙ operands k lanes r below k.add c.requires.0 c.in-Add.left c.in-Add.right
    (length c.args.values.now) earlier c.node_lanes.result.now c.node_lanes-in-Add.result.now ranges
    c.requires.1
    (sym c.write_sums.auto.sums) c.node_lanes.ensures.values c.node_lanes-in-Add.ensures.values
    ∙ ap (value k g.E.ExtensionField.embed (g.W.Windows.window w r) (lane k lanes r earlier))
    (sym c.in-Add.is)

pub returns-in-Sub : goal.returns-in-Sub
returns-in-Sub g c r below =
    let k = g.E.Operations.ops in
    let w = c.args.windows.now in
    let earlier = c.args.earlier.now in
    let lanes = length c.write_differences.new.differences in
    let ranges = subst
    (IsInRange (g.W.Windows.width w) (g.W.Windows.num_periodic_columns w)
    (g.W.Windows.num_public_values w) c.requires.0) c.in-Sub.is c.requires.2 in
    c.write_differences.ensures r below
    ∙ operands k lanes r below (sub k) c.requires.0 c.in-Sub.left c.in-Sub.right
    (length c.args.values.now) earlier c.node_lanes-in-Sub.result.now
    c.node_lanes-in-Sub-2.result.now ranges c.requires.1
    (sym c.write_differences.auto.differences) c.node_lanes-in-Sub.ensures.values
    c.node_lanes-in-Sub-2.ensures.values
    ∙ ap (value k g.E.ExtensionField.embed (g.W.Windows.window w r) (lane k lanes r earlier))
    (sym c.in-Sub.is)

pub returns-in-Mul : goal.returns-in-Mul
returns-in-Mul g c r below =
    let k = g.E.Operations.ops in
    let w = c.args.windows.now in
    let earlier = c.args.earlier.now in
    let lanes = length c.write_products.new.products in
    let ranges = subst
    (IsInRange (g.W.Windows.width w) (g.W.Windows.num_periodic_columns w)
    (g.W.Windows.num_public_values w) c.requires.0) c.in-Mul.is c.requires.2 in
    c.write_products.ensures r below
    ∙ operands k lanes r below k.mul c.requires.0 c.in-Mul.left c.in-Mul.right
    (length c.args.values.now) earlier c.node_lanes-in-Mul.result.now
    c.node_lanes-in-Mul-2.result.now ranges c.requires.1
    (sym c.write_products.auto.products) c.node_lanes-in-Mul.ensures.values
    c.node_lanes-in-Mul-2.ensures.values
    ∙ ap (value k g.E.ExtensionField.embed (g.W.Windows.window w r) (lane k lanes r earlier))
    (sym c.in-Mul.is)

pub returns-in-Neg : goal.returns-in-Neg
returns-in-Neg g c r below =
    let k = g.E.Operations.ops in
    let w = c.args.windows.now in
    let earlier = c.args.earlier.now in
    let lanes = length c.write_opposites.new.opposites in
    let range = subst
    (IsInRange (g.W.Windows.width w) (g.W.Windows.num_periodic_columns w)
    (g.W.Windows.num_public_values w) c.requires.0) c.in-Neg.is c.requires.2 in
    c.write_opposites.ensures r below
    ∙ ap k.neg
    (operand k lanes r below c.requires.0 c.in-Neg.operand (length c.args.values.now) earlier
    c.node_lanes-in-Neg.result.now range c.requires.1 (sym c.write_opposites.auto.opposites)
    c.node_lanes-in-Neg.ensures.values)
    ∙ ap (value k g.E.ExtensionField.embed (g.W.Windows.window w r) (lane k lanes r earlier))
    (sym c.in-Neg.is)
