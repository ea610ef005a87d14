-- The height of a matrix among others.
use Rattle.std.proofs.Common.{◌≡◌, ℕ, ◌<◌, List, length, get_or, sym, ap, ◌∙◌}
use Rattle.std.proofs.lemmas.List.{get_or-map}
use Rattle.circle_commit.specs.Matrix.{IsPowerOfTwo}
use Rattle.circle_commit.specs.RowMajorMatrix.{height_of}
use Rattle.circle_commit.specs.declared.matrix.RowMajorMatrix.{RowMajorMatrix}
use Rattle.p3_circle.specs.Committing.{height_at}

pub power-at : {T : Type 0} (matrices : List (RowMajorMatrix T)) (i : ℕ) (m : RowMajorMatrix T) →
    i < length matrices → m ≡ get_or matrices i m
    → IsPowerOfTwo (height_of m) → IsPowerOfTwo (height_at matrices i)
power-at matrices i m within is power =
    (power.0, get_or-map height_of matrices i m 0 within ∙ ap height_of (sym is) ∙ power.1)
