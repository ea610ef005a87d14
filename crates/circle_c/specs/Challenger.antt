-- What a command makes of an input from a challenger of the caller's, and how that is left.
use Rattle.std.specs.Prelude.{◌≡◌, ℕ, List}

-- a result from the one state; the challenger is left as the command leaves it where the line fits
abbrev pub IsResultFrom : {Given : Type 0} → (Given → List ℕ → List ℕ → List ℕ → Type 0) → Type 0 →
    List ℕ → List ℕ → Given → List ℕ → Type 0
IsResultFrom IsResult Fits old new input line =
    (left : List ℕ) × (IsResult input old left line × (Fits → new ≡ left))

-- a reason to refuse the input from the one state
abbrev pub IsReasonFrom : {Given Reason : Type 0} →
    (Given → List ℕ → List ℕ → Reason → Type 0) → List ℕ → Given → Reason → Type 0
IsReasonFrom IsReason old input reason = (left : List ℕ) × IsReason input old left reason
