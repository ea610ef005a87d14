use Rattle.std.proofs.Common.{◌≡◌, map, take}
use Rattle.circle_plane.proofs.cfft.shares_of.Given as goal

abbrev pub invariant-loop-w : goal.invariant-loop-w
invariant-loop-w g l = map (λ s. s.now) l.lent.items
    ≡ map (λ w. w.now.shares.items) (take l.w-index l.weights)
