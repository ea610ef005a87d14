use Rattle.std.proofs.Common.{◌≡◌, All, take, length, map}
use Rattle.circle_merkle.proofs.well_formed.has_shape.Given as goal

abbrev pub invariant-loop-rows : goal.invariant-loop-rows
invariant-loop-rows g l =
    All (λ rows. map length (map (λ row. row.items) rows.items)
    ≡ map (λ dim. dim.width) l.dimensions) (take l.rows-index l.opened)
