-- Room for a block's rows and for the values of the nodes there.
use Rattle.std.specs.Prelude.{◌≡◌, ◌*◌, length}
use Rattle.circle_air.specs.Parts.{Parts}
use Rattle.circle_quotient.specs.Lanes.{HaveLanes}
use Rattle.circle_quotient.specs.declared.nodes.NodeLanes.{NodeLanes}

-- for each lane the entries of both rows and a value for each node
pub record HasRoom {F : Type 0} (p : Parts F) (room : NodeLanes F) : Type 0 where
  pub local : HaveLanes p.width room.lanes room.local.items
  pub next : HaveLanes p.width room.lanes room.next.items
  pub values : length room.values.items ≡ length p.nodes * room.lanes
