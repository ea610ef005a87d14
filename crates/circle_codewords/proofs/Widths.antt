-- Widths of matrices, and the greatest of them.
use Rattle.std.specs.Prelude.{◌≡◌, ℕ, ◌*◌, ◌<◌, ◌≤◌}
use Rattle.std.proofs.Common.{refl, ◌∙◌, ap, arith, mul-le-mul_right, Bool, true, false, cond}
use Rattle.std.proofs.Common.{◌⊎◌, inl, inr, ⊎_elim, nat_lt, ◌==◌, nat_cmp, Less, Equal, Greater}
use Rattle.std.proofs.Common.{is_lt}
use Rattle.std.specs.Ordering.{ord_max}
use Rattle.std.proofs.lemmas.Bool.{cases_lt, lt-ltb, le-ltb}
use Rattle.circle_commit.specs.RowMajorMatrix.{width_of, height_of, length-values}
use Rattle.circle_commit.specs.declared.matrix.RowMajorMatrix.{RowMajorMatrix}

-- a matrix of some row isn't wider than memory has room
pub width-fits : {T : Type 0} (m : RowMajorMatrix T) → 1 ≤ height_of m →
    width_of m < 9223372036854775808
width-fits m some =
    let least : 1 * width_of m ≤ height_of m * width_of m = mul-le-mul_right (width_of m) some in
    omega (arith, least, length-values m, m.values.ok.0, m.values.ok.1, m.values.small)

-- the greater of two numbers
max-is : (a b : ℕ) (s t : Bool) → cond (is_lt (cond s Less (cond t Equal Greater))) a b ≡ cond s a b
max-is a b true t = refl
max-is a b false true = refl
max-is a b false false = refl

pub max-of : (a b m : ℕ) → m ≡ ord_max nat_cmp a b → (a ≤ m) × (b ≤ m) × ((m ≡ a) ⊎ (m ≡ b))
max-of a b m e =
    ⊎_elim
    (λ less. let is : m ≡ a = e ∙ max-is a b (nat_lt b a) (b == a)
    ∙ ap (λ s. cond s a b) (lt-ltb b a less) in
    (omega (arith, is), omega (arith, is, less), inl is))
    (λ other. let is : m ≡ b = e ∙ max-is a b (nat_lt b a) (b == a)
    ∙ ap (λ s. cond s a b) (le-ltb b a other) in
    (omega (arith, is, other), omega (arith, is), inr is))
    (cases_lt b a)
