-- The first item that is refused.
use Rattle.std.proofs.Common.{◌≡◌, ℕ, ◌<◌, List, [], ◌∷◌, length, take, All, zero, suc, ◌⊎◌, inl}
use Rattle.std.proofs.Common.{inr, subst, sym, arith, slice_index_or, Result, Ok, Err, Vec, Global}
use Rattle.std.specs.Prelude.{MatchResult, IsErrAnd}
use Rattle.circle_commands.specs.Traces.{AreFitting, AreTall, IsFirst}
use Rattle.circle_commands.specs.declared.prove.Trace.{Trace}

-- an item that is refused after items that fit
pub first_at : {T : Type 0} (Fits IsRefused : T → Type 0) (xs : List T) (i : ℕ) (x : T) →
    i < length xs → x ≡ slice_index_or xs i x → All Fits (take i xs) → IsRefused x →
    IsFirst Fits IsRefused xs
first_at Fits IsRefused [] i x lt is fit here = absurd (omega (arith, lt))
first_at Fits IsRefused (a ∷ xs) zero x lt is fit here = inl (subst IsRefused is here)
first_at Fits IsRefused (a ∷ xs) (suc i) x lt is fit here =
    inr (
      fit zero a (omega arith),
      first_at Fits IsRefused xs i x (omega (arith, lt)) is
          (λ k d h. fit (suc k) d (omega (arith, h))) here,
    )

-- a result that is this error
pub refused_by : {A E : Type 0} (P : Type 0) (Q : E → Type 0) (r : Result A E) (e : E) →
    IsErrAnd r (λ x. x ≡ e) → Q e → MatchResult r (λ x. P) Q
refused_by P Q (Ok x) e is holds = absurd is
refused_by P Q (Err d) e is holds = subst Q (sym is) holds

-- an error after the rows were found to fit
pub passed_by : {A E : Type 0} (P : Type 0) (Q : E → Type 0) (r : Result A E) → P →
    MatchResult r (λ x. P) (λ e. Q e ⊎ P)
passed_by P Q (Ok x) fit = fit
passed_by P Q (Err e) fit = inr fit

-- what is tall enough fits
pub tall-fitting : (final : ℕ) (batches : List (Vec Trace Global)) → AreTall final batches →
    AreFitting batches
tall-fitting final batches tall = λ i b lt j t lt'. (tall i b lt j t lt').0
