-- Claims as contracts see them.
use Rattle.std.specs.Prelude.{List, map}
use Rattle.std.specs.Borrow.{Bor}
use Rattle.circle_point.specs.declared.point.Point.{Point}
use Rattle.circle_point.specs.Point.{coordinates}
use Rattle.circle_transcript.specs.Draw.{Claim, claim}

-- a point and the values there
abbrev pub claim_of : {E : Type 0} {g : _} → (Point E g × Bor (List E)) → Claim E
claim_of c = claim (coordinates c.0) c.1.now

abbrev pub claims_of : {E : Type 0} {g : _} → List (Point E g × Bor (List E)) → List (Claim E)
claims_of claims = map claim_of claims
