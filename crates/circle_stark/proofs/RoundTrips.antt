-- How proving and verifying in one call returns the refusals of both.
use Rattle.std.specs.Prelude.{◌≡◌, Bool, false, if◌then◌else◌}
use Rattle.std.proofs.Common.{ap}
use Rattle.circle_stark.specs.RoundTrip.{is_memory, unproved}
use Rattle.circle_stark.specs.declared.error.StarkProverError.{StarkProverError}
use Rattle.circle_stark.specs.declared.round_trip.StarkRoundTripError.{StarkRoundTripError}
use Rattle.circle_stark.specs.declared.round_trip.StarkRoundTripError.TheVariants.{Memory, Prove}
use Rattle.circle_stark.specs.declared.round_trip.StarkRoundTripError.TheVariants.{Verify}
use Rattle.circle_stark.proofs.Verdicts.{refused-by}

module _ {Error : Type 0} where
  -- a refusal other than `Memory` is returned as the prover's
  pub kept : (e : StarkProverError) → is_memory e ≡ false → unproved {Error = Error} e ≡ Prove e
  kept e none = ap (λ (b : Bool). if b then Memory else Prove e) none

  -- what holds of `Memory`, and of the prover's refusal, holds of what is returned
  pub of-unproved : (P : StarkRoundTripError Error → Type 0) (e : StarkProverError) → P Memory →
      P (Prove e) → P (unproved e)
  of-unproved P e p q = refused-by P (is_memory e) Memory (Prove e) p q

  -- the refusal isn't the verifier's
  abbrev pub IsNotVerify : StarkRoundTripError Error → Type 0
  IsNotVerify e = (error : _) → e ≡ Verify error → ⊥

  pub memory-not-verify : IsNotVerify Memory
  memory-not-verify error same = absurd (cc)

  pub prove-not-verify : (e : StarkProverError) → IsNotVerify (Prove e)
  prove-not-verify e error same = absurd (cc)
