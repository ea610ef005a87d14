-- Inputs that are refused since their AIR is.
use Rattle.std.proofs.Common.{◌≡◌, ◌⊎◌, ⊎_elim, Option, Some, None, inl, inr, subst, sym}
use Rattle.std.proofs.Common.{IfErr, IsErrAnd, Ok, Err, Result}
use Rattle.circle_air.specs.declared.error.AirError.{AirError}
use Rattle.circle_air.specs.declared.error.AirError.TheVariants as air
use Rattle.stark_commands.specs.Refused.{IsRefusalOfAir}

-- what a refusal becomes, and what holds of that
pub refused_by : {A E : Type 0} (Becomes P : E → Type 0) (r : Result A E) → IsErrAnd r Becomes →
    ((e : E) → Becomes e → P e) → IfErr r P
refused_by Becomes P (Ok x) is holds = tt
refused_by Becomes P (Err e) is holds = holds e is

module _ {R : Type 0} (make : AirError → R) (memory : R) (found : Option AirError)
    (error : AirError) (reason : R) (why : (error ≡ air.Memory) ⊎ (found ≡ Some error))
    (is : IsRefusalOfAir make memory error reason) where
  -- memory is refused, or the input is
  pub air_refused : (Is : R → Type 0) → (found ≡ Some error → Is (make error)) →
      (reason ≡ memory) ⊎ Is reason
  air_refused Is refused =
      ⊎_elim (λ none. inl none.1)
      (λ other. ⊎_elim (λ none. absurd (other.0 none))
      (λ some. inr (subst Is (sym other.1) (refused some))) why) is

  -- where the AIR is accepted, it is memory
  pub none_refused : found ≡ None → reason ≡ memory
  none_refused accepted =
      ⊎_elim (λ none. none.1)
      (λ other. ⊎_elim (λ none. absurd (other.0 none)) (λ some. absurd (cc)) why) is
