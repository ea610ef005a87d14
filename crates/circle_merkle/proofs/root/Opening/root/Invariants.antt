use Rattle.std.proofs.Common.{◌≡◌, drop}
use Rattle.circle_merkle.specs.Tree.{taken_below}
use Rattle.circle_merkle.specs.Opening.{level_nodes}
use Rattle.circle_merkle.proofs.root.Opening.root.Given as goal

abbrev pub invariant-loop-level : goal.invariant-loop-level
invariant-loop-level g l = record {
  nodes : l.nodes.items ≡ level_nodes g.T.ElementBytes.bytes l.self l.proof l.count l.level;
  given : l.given ≡ drop (taken_below l.self.indices.now l.count l.level) l.proof;
}
