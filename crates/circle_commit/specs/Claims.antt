-- The claims that a verifier is handed, told by their parts.
use Rattle.std.specs.Prelude.{List, map, zip, Vec}
use Rattle.std.specs.declared.alloc.Global.{Global}
use Rattle.circle_commit.specs.DotProduct.{pairwise}
use Rattle.circle_commit.specs.declared.pcs.CommitmentOpening.{CommitmentOpening}
use Rattle.circle_commit.specs.declared.pcs.MatrixOpening.{MatrixOpening}
use Rattle.circle_commit.specs.declared.pcs.PointOpening.{PointOpening}
use Rattle.circle_commit.specs.declared.claims.CommittedBatch.{CommittedBatch}

-- the lists that vectors hold
abbrev pub lists : {E : Type 0} → Vec (Vec E Global) Global → List (List E)
lists vectors = map (λ v. v.items) vectors.items

-- a claim about one matrix: its domain, and the values at each point
abbrev pub Told : Type 0 → Type 0 → Type 0
Told E Dom = Dom × List (E × List E)

abbrev pub point_told : {E : Type 0} → PointOpening E → E × List E
point_told p = (p.point, p.values.items)

abbrev pub matrix_told : {E Dom : Type 0} → MatrixOpening E Dom → Told E Dom
matrix_told m = (m.domain, map point_told m.points.items)

abbrev pub batch_told : {E Com Dom : Type 0} → CommitmentOpening E Com Dom → Com × List (Told E Dom)
batch_told b = (b.commitment, map matrix_told b.matrices.items)

-- on this domain and at these points the values at their places
abbrev pub matrix_claimed : {E Dom : Type 0} → Dom × List E → List (List E) → Told E Dom
matrix_claimed m values = (m.0, zip m.1 values)

-- under the batch's commitment, for each matrix the values at its place
abbrev pub batch_claimed : {E Com Dom : Type 0} → CommittedBatch E Com Dom
    → List (List (List E)) → Com × List (Told E Dom)
batch_claimed b values =
    (b.commitment, pairwise matrix_claimed (zip b.domains.items (lists b.points)) values)
