-- What follows of the rows at an index.
use Rattle.std.specs.Prelude.{◌≡◌, ℕ, ◌+◌, ◌-◌, ◌^◌, ◌/◌, ◌≤◌}
use Rattle.std.proofs.Common.{◌∙◌, ap, arith}
use Rattle.std.proofs.Math.Nat.{mul-div_cancel}
use Rattle.std.proofs.lemmas.Nat.{pow-add, pow_pos}
use Rattle.circle_commit.specs.Mmcs.{row_at}

-- the quotient of powers of two
pub pow-div : (above below : ℕ) → below ≤ above → 2 ^ above / 2 ^ below ≡ 2 ^ (above - below)
pow-div above below h =
    let e : above ≡ above - below + below = omega arith in
    ap (λ n. 2 ^ n / 2 ^ below) e ∙ ap (λ n. n / 2 ^ below) (pow-add 2 (above - below) below)
    ∙ mul-div_cancel (2 ^ (above - below)) (pow_pos below)

-- the row of a matrix of height 2^h is the index without its lowest bits
pub row_at-powers : (above below index : ℕ) → below ≤ above → row_at (2 ^ above) (2 ^ below) index
    ≡ index / 2 ^ (above - below)
row_at-powers above below index h = ap (λ n. index / n) (pow-div above below h)
