use Rattle.std.proofs.Common.{◌≡◌, ◌^◌, ◌≤◌, [], drop, take, length}
use Rattle.std.specs.Prelude.{All}
use Rattle.circle_air.specs.Degrees.{degrees}
use Rattle.circle_air.specs.Parts.{parts_of}
use Rattle.circle_air.specs.Refusal.{nodes_refusal}
use Rattle.circle_air.proofs.parts.AirParts.checked_degrees.Given as goal

abbrev pub invariant-loop-node : goal.invariant-loop-node
invariant-loop-node g l =
    let p = parts_of l.self in record {
      refusal : nodes_refusal p [] p.nodes
          ≡ nodes_refusal p l.degrees.items (drop l.node-index p.nodes);
      degrees : l.degrees.items ≡ degrees (take l.node-index p.nodes);
      count : length l.degrees.items ≡ l.node-index;
      small : All (λ d. d ≤ 2 ^ 30) l.degrees.items;
    }
