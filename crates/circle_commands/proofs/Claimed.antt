-- Claims made of what a verifier knows of batches and of the values that were opened.
use Rattle.std.proofs.Common.{◌≡◌, ℕ, List, [], ◌∷◌, length, map, zip, ap, refl, ◌∙◌, arith}
use Rattle.circle_field.specs.declared.cubic.Cubic.{Cubic}
use Rattle.circle_commit.specs.DotProduct.{pairwise}
use Rattle.circle_commit.specs.Pcs.{Openings}
use Rattle.circle_commit.specs.declared.pcs.CommitmentOpening.{CommitmentOpening}
use Rattle.circle_commit.specs.declared.pcs.MatrixOpening.{MatrixOpening}
use Rattle.circle_commit.specs.declared.pcs.PointOpening.{PointOpening}
use Rattle.circle_commit.specs.Claims.{Told, batch_told as all_told, matrix_told as sized}
use Rattle.circle_commit.specs.Claims.{point_told}
use Rattle.circle_commit.specs.Claims.{matrix_claimed as sized_claim, batch_claimed as sized_claims}
use Rattle.circle_commit.specs.declared.claims.CommittedBatch.{CommittedBatch}
use Rattle.circle_codewords.specs.Requests.{log_of}
use Rattle.circle_relation.specs.Statement.{BatchClaim, MatrixClaim, PointClaim}
use Rattle.circle_relation.specs.StatementOf.{point_claim}
use Rattle.circle_codewords.specs.Words.{claim_of}
use Rattle.circle_commands.specs.Proved.{batch_claimed, matrix_claimed, known_of, known_told}
use Rattle.circle_commands.specs.Proved.{logs_of, points_of}
use Rattle.circle_commands.specs.Verified.{batch_told, batches_told, matrices_told}
use Rattle.circle_commands.specs.declared.prove.Committed.{Committed}
use Rattle.circle_commands.specs.declared.prove.Trace.{Trace}

-- the same claims as the relation has them
abbrev point_as : Cubic × List Cubic → PointClaim Cubic
point_as p = claim_of p.0 p.1

abbrev matrix_as : Told Cubic ℕ → MatrixClaim Cubic
matrix_as m = record { log_n = m.0; claims = map point_as m.1 }

abbrev batch_as : List ℕ × List (Told Cubic ℕ) → BatchClaim (List ℕ) Cubic
batch_as b = record { commitment = b.0; matrices = map matrix_as b.1 }

points-same : (points : List (PointOpening Cubic)) → map point_claim points
    ≡ map point_as (map point_told points)
points-same [] = refl
points-same (p ∷ ps) = ap (λ cs. point_claim p ∷ cs) (points-same ps)

matrices-same : (matrices : List (MatrixOpening Cubic ℕ)) → matrices_told matrices
    ≡ map matrix_as (map sized matrices)
matrices-same [] = refl
matrices-same (m ∷ ms) =
    let with_claims : List (PointClaim Cubic) → MatrixClaim Cubic =
    λ cs. record { log_n = m.domain; claims = cs } in
    ap (λ cs. with_claims cs ∷ matrices_told ms) (points-same m.points.items)
    ∙ ap (λ cs. matrix_as (sized m) ∷ cs) (matrices-same ms)

batches-same : (batches : List (CommitmentOpening Cubic (List ℕ) ℕ)) → batches_told batches
    ≡ map batch_as (map all_told batches)
batches-same [] = refl
batches-same (b ∷ bs) =
    let with_matrices : List (MatrixClaim Cubic) → BatchClaim (List ℕ) Cubic =
    λ ms. record { commitment = b.commitment; matrices = ms } in
    ap (λ ms. with_matrices ms ∷ batches_told bs) (matrices-same b.matrices.items)
    ∙ ap (λ cs. batch_as (all_told b) ∷ cs) (batches-same bs)

-- values beside their points
values-claimed : (points : List Cubic) (values : List (List Cubic)) →
    map point_as (zip points values) ≡ pairwise claim_of points values
values-claimed [] vs = refl
values-claimed (p ∷ ps) [] = refl
values-claimed (p ∷ ps) (v ∷ vs) = ap (λ cs. claim_of p v ∷ cs) (values-claimed ps vs)

matrices-claimed : (traces : List Trace) (values : List (List (List Cubic))) →
    map matrix_as (pairwise sized_claim (zip (logs_of traces) (points_of traces)) values)
    ≡ pairwise matrix_claimed traces values
matrices-claimed [] vs = refl
matrices-claimed (t ∷ ts) [] = refl
matrices-claimed (t ∷ ts) (v ∷ vs) =
    let with_claims : List (PointClaim Cubic) → MatrixClaim Cubic =
    λ cs. record { log_n = log_of (length t.rows.items); claims = cs } in
    ap
    (λ cs. with_claims cs
    ∷ map matrix_as (pairwise sized_claim (zip (logs_of ts) (points_of ts)) vs))
    (values-claimed t.points.items v)
    ∙ ap (λ cs. matrix_claimed t v ∷ cs) (matrices-claimed ts vs)

-- by what is known of a batch
abbrev claims_by : List ℕ × List (ℕ × List Cubic) → List (List (List Cubic)) →
    BatchClaim (List ℕ) Cubic
claims_by b values = batch_as (b.0, pairwise sized_claim b.1 values)

batch-claimed : (c : Committed) (values : List (List (List Cubic))) → claims_by (known_of c) values
    ≡ batch_claimed c values
batch-claimed c values =
    let with_matrices : List (MatrixClaim Cubic) → BatchClaim (List ℕ) Cubic =
    λ ms. record { commitment = c.commitment; matrices = ms } in
    ap with_matrices (matrices-claimed c.traces.now values)

each-claimed : (committed : List Committed) (known : List (CommittedBatch Cubic (List ℕ) ℕ))
    (values : Openings Cubic) → map known_told known ≡ map known_of committed →
    map batch_as (pairwise sized_claims known values) ≡ pairwise batch_claimed committed values
each-claimed [] [] vs same = refl
each-claimed [] (k ∷ ks) vs same = absurd (omega (arith, ap length same))
each-claimed (c ∷ cs) [] vs same = absurd (omega (arith, ap length same))
each-claimed (c ∷ cs) (k ∷ ks) [] same = refl
each-claimed (c ∷ cs) (k ∷ ks) (v ∷ vs) same =
    let first : known_told k ≡ known_of c = cc in
    let rest : map known_told ks ≡ map known_of cs = cc in
    ap (λ b. claims_by b v ∷ map batch_as (pairwise sized_claims ks vs)) first
    ∙ ap (λ b. b ∷ map batch_as (pairwise sized_claims ks vs)) (batch-claimed c v)
    ∙ ap (λ bs. batch_claimed c v ∷ bs) (each-claimed cs ks vs rest)

-- what is claimed of batches that are known so
pub batches-claimed : (committed : List Committed) (known : List (CommittedBatch Cubic (List ℕ) ℕ))
    (values : Openings Cubic)
    (claims : List (CommitmentOpening Cubic (List ℕ) ℕ)) → map known_told known
    ≡ map known_of committed → map all_told claims ≡ pairwise sized_claims known values →
    batches_told claims ≡ pairwise batch_claimed committed values
batches-claimed committed known values claims same made = batches-same claims
    ∙ ap (map batch_as) made ∙ each-claimed committed known values same
