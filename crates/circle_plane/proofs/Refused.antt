-- Refusals that are handed on.
use Rattle.std.specs.Prelude.{◌≡◌, ℕ, List, Ok, Err, IfErr, IsErrAnd}
use Rattle.std.specs.declared.result.Result.{Result}
use Rattle.std.proofs.Common.{sym, subst}
use Rattle.circle_plane.specs.PeriodicColumns.{IsFirstFault, IsRefusal}
use Rattle.circle_plane.specs.declared.periodic.PeriodicError.{PeriodicError}
use Rattle.circle_plane.specs.declared.periodic.PeriodicError.TheVariants.{Empty, NotPowerOfTwo}
use Rattle.circle_plane.specs.declared.periodic.PeriodicError.TheVariants.{LongerThanTrace}
use Rattle.circle_plane.specs.declared.periodic.PeriodicError.TheVariants.{HeightTooLarge, Memory}

pub handed_on : {A E : Type 0} (r : Result A E) (e : E) (P : E → Type 0) → IsErrAnd r (λ x. x ≡ e) →
    P e → IfErr r P
handed_on (Ok x) e P h p = tt
handed_on (Err x) e P h p = subst P (sym h) p

-- the first fault of a column is the refusal
pub fault-refusal : (size : ℕ) (periods : List ℕ) (blowup : ℕ) (e : PeriodicError) →
    IsFirstFault size periods e → IsRefusal size periods blowup e
fault-refusal size periods blowup Empty h = h
fault-refusal size periods blowup NotPowerOfTwo h = h
fault-refusal size periods blowup LongerThanTrace h = h
fault-refusal size periods blowup HeightTooLarge h = absurd h.3
fault-refusal size periods blowup Memory h = absurd h.3
