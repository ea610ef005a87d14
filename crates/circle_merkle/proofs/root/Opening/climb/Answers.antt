use Rattle.std.proofs.Common.{◌++◌, ◌∙◌, append-nil, refl, sym, ap}
use Rattle.std.proofs.lemmas.List.{nil_from_length}
use Rattle.circle_merkle.specs.Climb.{climbed, left_of}
use Rattle.circle_merkle.specs.Opening.{parent_in}
use Rattle.circle_merkle.proofs.Maps.{moved_over}
use Rattle.circle_merkle.proofs.root.Opening.climb.Goals as goal

pub loop-node-init : goal.loop-node-init
loop-node-init g c =
    let up = parent_in g.T.ElementBytes.bytes c.args.self.now c.args.level in
    record {
      enough = c.requires.enough;
      parents =
          ap (λ xs. xs ++ climbed up c.args.nodes.now c.args.given.now)
          c.in_ok-parents.ensures.items;
      left = refl;
    }

pub loop-node-preserved : goal.loop-node-preserved
loop-node-preserved g c =
    let up = parent_in g.T.ElementBytes.bytes c.args.self.now c.args.level in
    let rest = c.loop-node.rest.now in
    let given = c.loop-node.given.now in
    let after = c.first_parent.result.1.now in
    let left = c.first_parent.result.2.now in
    let whole = c.in-Some.ensures.cases.0 in
    record {
      enough = c.first_parent.ensures.enough;
      parents = moved_over c.loop-node.parents.items c.push.new.self.items c.first_parent.result.0
          (climbed up after left) (climbed up rest given)
          (climbed up c.args.nodes.now c.args.given.now)
          c.in_ok-push.ensures.items (ap (λ ns. climbed up ns given) whole
          ∙ c.first_parent.ensures.parents) c.loop-node.invariant.parents;
      left = sym c.first_parent.ensures.left ∙ ap (λ ns. left_of ns given) (sym whole)
          ∙ c.loop-node.invariant.left;
    }

pub first_parent-requires-clause-rows : goal.first_parent-requires-clause-rows
first_parent-requires-clause-rows g c = c.has_rows-has_rows.ensures

pub returns-clause-parents : goal.returns-clause-parents
returns-clause-parents g c =
    let up = parent_in g.T.ElementBytes.bytes c.args.self.now c.args.level in
    let parents = c.loop-node.parents.items in
    let none = nil_from_length c.loop-node.rest.now c.in_default.ensures.cases in
    sym (append-nil parents) ∙ ap (λ ns. parents ++ climbed up ns c.loop-node.given.now) (sym none)
    ∙ c.loop-node.invariant.parents

pub returns-clause-rest : goal.returns-clause-rest
returns-clause-rest g c =
    let none = nil_from_length c.loop-node.rest.now c.in_default.ensures.cases in
    ap (λ ns. left_of ns c.loop-node.given.now) (sym none) ∙ c.loop-node.invariant.left
