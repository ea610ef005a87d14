use Rattle.std.proofs.Common.{◌≡◌, ℕ, ◌-◌, ◌<◌, ◌^◌, ◌==◌, true, false, if◌then◌else◌, arith}
use Rattle.std.proofs.Math.Pow.{pow-lt}
use Rattle.std.proofs.lemmas.Bool.Decides.{nat_tests}
use Rattle.test_schemes.proofs.stubborn.StubbornGrindingChallengerMersenne31.grind.Goals as goal

-- the greatest number of some bits is not 0
greatest_passes : (bits : ℕ) → (bits ≡ 0 → ⊥) → (if bits == 0 then true else (2 ^ bits - 1) == 0)
    ≡ false
greatest_passes bits some =
    let positive : 0 < bits = omega arith in
    let power : 2 ^ 0 < 2 ^ bits = pow-lt positive in
    grind (arith, nat_tests)

pub returns-else-bits-eq0-clause-none : goal.returns-else-bits-eq0-clause-none
returns-else-bits-eq0-clause-none c = λ w. greatest_passes c.args.bits c.if-bits-eq0.false
