-- Codewords as rows of two.
use Rattle.std.specs.Prelude.{◌≡◌, ℕ, ◌-◌, ◌*◌, ◌/◌, ◌^◌, ◌≤◌, List, length}
use Rattle.std.proofs.Common.{zero, suc, sym, ◌∙◌, ap, arith}
use Rattle.std.proofs.Math.Nat.{pow-suc}
use Rattle.circle_commit.specs.Matrix.{rows_from}
use Rattle.circle_codewords.specs.Words.{pairs_of}

-- a power of two that isn't 1 is even
pub twice-half : (h : ℕ) → 1 ≤ h → 2 ^ h ≡ 2 ^ (h - 1) * 2
twice-half (suc n) positive = let same : suc n - 1 ≡ n = omega arith in
    pow-suc 2 n ∙ ap (λ m. 2 ^ m * 2) (sym same)
twice-half zero positive = absurd (omega (arith, positive))

pub pairs-made : {E : Type 0} (n : ℕ) (xs ys : List E) → xs ≡ ys → n ≡ length ys →
    rows_from 2 (n / 2) xs ≡ pairs_of ys
pairs-made n xs ys same count = ap (λ m. rows_from 2 (m / 2) xs) count
    ∙ ap (rows_from 2 (length ys / 2)) same
