-- The tests of the heights of committed matrices, and what they establish.
use Rattle.std.proofs.Common.{◌≡◌, ℕ, ◌+◌, ◌^◌, ◌<◌, ◌≤◌, ◌==◌, false, List, length, get_or, sym}
use Rattle.std.proofs.Common.{◌∙◌, zero, suc, arith, subst, ⊎_elim}
use Rattle.std.proofs.Math.Nat.{pow-suc}
use Rattle.std.proofs.lemmas.Bool.{lt-ltb, le-ltb, le-leb, lt-leb, ltb-false, leb-false, cases_lt}
use Rattle.std.proofs.lemmas.Nat.{pow_pos}
use Rattle.std.specs.Prelude.{Ok, Err, All}
use Rattle.circle_commit.specs.RowMajorMatrix.{height_of}
use Rattle.circle_commit.specs.declared.matrix.RowMajorMatrix.{RowMajorMatrix}
use Rattle.circle_commit.specs.declared.params.FriParameters.{FriParameters}
use Rattle.circle_domain.proofs.Powers.{pow_within, pow_order}
use Rattle.circle_prover.specs.Requesting.{height_tests}
use Rattle.circle_relation.specs.TestsInOrder.{answer}
use Rattle.circle_relation.specs.declared.error.ProverError.TheVariants.{HeightTooSmall}
use Rattle.circle_relation.specs.declared.error.ProverError.TheVariants.{HeightTooLarge}
use Rattle.circle_relation.proofs.Answering.{answer-none, passing, refusing, skipped}

pub pow_below : (h m : ℕ) → h < m → 2 ^ h < 2 ^ m
pow_below h m lt = let next : 2 ^ suc h ≤ 2 ^ m = pow_within (suc h) m lt in
    omega (arith, next, pow-suc 2 h, pow_pos h)

-- a power of two below another has the smaller logarithm
pub power_below : (h m : ℕ) → 2 ^ h < 2 ^ m → h < m
power_below h m lt =
    ⊎_elim
    (λ yes. yes)
    (λ no. absurd (let le : 2 ^ m ≤ 2 ^ h = pow_within m h no in omega (arith, le, lt)))
    (cases_lt h m)

module _ {M : Type 0} (two : ℕ) (p : FriParameters M) (height h : ℕ) (tall : 2 ^ h ≡ height) where
  pub height_small : h < p.log_blowup + 2 + p.log_final_poly_len →
      answer {A = Unit {0}} (height_tests two p height) (tt {0}) ≡ Err HeightTooSmall
  height_small low =
      refusing _ _ (tt {0})
      (lt-ltb _ _ (omega (arith, pow_below h (p.log_blowup + 2 + p.log_final_poly_len) low, tall)))

  pub height_large : p.log_blowup + 2 + p.log_final_poly_len ≤ h → two ≤ h →
      answer {A = Unit {0}} (height_tests two p height) (tt {0}) ≡ Err HeightTooLarge
  height_large enough high =
      skipped _ _ (tt {0})
      (le-ltb _ _
      (omega (arith, pow_within (p.log_blowup + 2 + p.log_final_poly_len) h enough, tall)))
      ∙ refusing _ _ (tt {0}) (le-leb _ _ (omega (arith, pow_within two h high, tall)))

  pub height_fits : p.log_blowup + 2 + p.log_final_poly_len ≤ h → h < two →
      answer {A = Unit {0}} (height_tests two p height) (tt {0}) ≡ Ok (tt {0})
  height_fits enough low =
      skipped _ _ (tt {0})
      (le-ltb _ _
      (omega (arith, pow_within (p.log_blowup + 2 + p.log_final_poly_len) h enough, tall)))
      ∙ skipped _ _ (tt {0}) (lt-leb _ _ (omega (arith, pow_below h two low, tall)))
      ∙ answer-none (tt {0})

  pub height-passed : answer (height_tests two p height) (tt {0}) ≡ Ok (tt {0}) →
      (p.log_blowup + 2 + p.log_final_poly_len ≤ h) × (h < two)
  height-passed passed =
      let first = passing _ _ passed in
      let second = passing _ _ first.1 in
      let enough : p.log_blowup + 2 + p.log_final_poly_len ≤ h =
      pow_order (p.log_blowup + 2 + p.log_final_poly_len) h
      (omega (
        arith,
        ltb-false height (2 ^ (p.log_blowup + 2 + p.log_final_poly_len)) first.0,
        tall,
      )) in
      (enough, power_below h two (omega (arith, leb-false (2 ^ two) height second.0, tall)))

-- a matrix has fewer than 2^64 rows
pub log_small : {F : Type 0} (m : RowMajorMatrix F) (n : ℕ) → height_of m ≡ 2 ^ n → n ≤ 63
log_small m n tall =
    ⊎_elim
    (λ yes. omega (arith, yes))
    (λ no. absurd (
    let le : 2 ^ 64 ≤ 2 ^ n = pow_within 64 n no in
    let positive : 1 ≤ m.width = m.width_positive in
    omega (arith, le, tall, m.values.ok.0, m.values.small)))
    (cases_lt n 64)

-- what holds of all items holds of one that is read
pub at-item : {X : Type 0} (P : X → Type 0) (xs : List X) (i : ℕ) (x : X) → All P xs →
    i < length xs → x ≡ get_or xs i x → P x
at-item P xs i x all within is = subst P (sym is) (all i x within)

-- a number that isn't 0
pub eqb_positive : (n : ℕ) → (n == 0) ≡ false → 1 ≤ n
eqb_positive zero is = cc
eqb_positive (suc n) is = omega arith
