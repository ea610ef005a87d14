-- Heights that are powers of two, by their logarithms.
use Rattle.std.proofs.Common.{◌≡◌, ℕ, ◌^◌, ◌<◌, ◌≤◌, suc, arith}
use Rattle.std.proofs.Math.Nat.{pow-suc}
use Rattle.std.proofs.lemmas.Nat.{pow_pos}
use Rattle.circle_domain.proofs.Powers.{pow_within}

-- a lower logarithm is that of a lower height
pub height-below : (h m height : ℕ) → 2 ^ h ≡ height → h < m → height < 2 ^ m
height-below h m height is lt = let next : 2 ^ suc h ≤ 2 ^ m = pow_within (suc h) m lt in
    omega (arith, is, next, pow-suc 2 h, pow_pos h)

-- one that isn't lower of one that isn't
pub height-above : (h m height : ℕ) → 2 ^ h ≡ height → m ≤ h → 2 ^ m ≤ height
height-above h m height is le = let within = pow_within m h le in omega (arith, is, within)
