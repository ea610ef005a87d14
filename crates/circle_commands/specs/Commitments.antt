-- The state of a challenger that absorbs commitments.
use Rattle.std.specs.Prelude.{ℕ, List, [], ◌∷◌}
use Rattle.circle_challenger.specs.Sponge.{absorbed}

-- the state after s once these commitments were absorbed, in order
abbrev pub after_commitments : List ℕ → List (List ℕ) → List ℕ
after_commitments s [] = s
after_commitments s (commitment ∷ commitments) =
    after_commitments (absorbed s commitment) commitments
