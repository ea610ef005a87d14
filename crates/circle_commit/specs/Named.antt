-- The names of refusals, letter by letter.
use Rattle.std.specs.Prelude.{ℕ, List, codes}
use Rattle.circle_commit.specs.declared.error.FriError.{FriError}
use Rattle.circle_commit.specs.declared.error.FriError.TheVariants as error

-- the name of a variant, but that of the inner error where the input is refused
abbrev pub fri_name : {C I : Type 0} → (I → List ℕ) → FriError C I → List ℕ
fri_name _ error.NoCommittedMatrices = codes "NoCommittedMatrices"
fri_name inner (error.InputError e) = inner e
fri_name _ (error.GlobalMaxHeightTooLarge _ _) = codes "GlobalMaxHeightTooLarge"
fri_name _ (error.UnsupportedGrinding _ _) = codes "UnsupportedGrinding"
fri_name _ error.ZeroQueries = codes "ZeroQueries"
fri_name _ error.ZeroBlowup = codes "ZeroBlowup"
fri_name _ (error.UnsupportedFoldingCap _) = codes "UnsupportedFoldingCap"
fri_name _ (error.CommitRoundCountMismatch _ _) = codes "CommitRoundCountMismatch"
fri_name _ (error.CommitPowWitnessCountMismatch _ _) = codes "CommitPowWitnessCountMismatch"
fri_name _ (error.NonCanonicalPowWitness _) = codes "NonCanonicalPowWitness"
fri_name _ (error.CommitPhaseOpeningsCountMismatch _ _) = codes "CommitPhaseOpeningsCountMismatch"
fri_name _ (error.CommitPhaseQueryCountMismatch _ _ _) = codes "CommitPhaseQueryCountMismatch"
fri_name _ (error.SiblingValuesLengthMismatch _ _ _) = codes "SiblingValuesLengthMismatch"
fri_name _ error.PointAtInfinity = codes "PointAtInfinity"
fri_name _ (error.InvalidPowWitness _) = codes "InvalidPowWitness"
fri_name _ error.FinalPolyMismatch = codes "FinalPolyMismatch"
fri_name _ (error.UnconsumedReducedOpenings _ _) = codes "UnconsumedReducedOpenings"
fri_name _ (error.CommitPhaseMmcsError _) = codes "CommitPhaseMmcsError"
fri_name _ error.Memory = codes "Memory"
fri_name _ (error.FinalPolyLengthMismatch _ _) = codes "FinalPolyLengthMismatch"
