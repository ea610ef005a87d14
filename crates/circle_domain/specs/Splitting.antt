-- The parts of a standard domain: c domains of equal sizes, whose shifts are its first c natural
-- points.
-- The natural points go to the parts 0, 1, .., c - 1, c - 1, .., 1, 0, 0, 1, ..
use Rattle.std.specs.Prelude.{◌≡◌, ℕ, ◌+◌, ◌-◌, ◌*◌, ◌/◌, ◌%◌, ◌<◌, nat_lt, nat_eq, if◌then◌else◌}
use Rattle.std.specs.Prelude.{List, IfSome, map, slice_get}
use Rattle.std.specs.List.{range_with_len}
use Rattle.circle_commit.specs.Matrix.{mapped_rows}
use Rattle.circle_commit.specs.RowMajorMatrix.{rows}
use Rattle.circle_commit.specs.declared.matrix.RowMajorMatrix.{RowMajorMatrix}

-- the part that natural point i goes to
abbrev pub part_of : ℕ → ℕ → ℕ
part_of c i = if nat_lt (i % (2 * c)) c then i % (2 * c) else 2 * c - 1 - i % (2 * c)

-- its natural place in the part
abbrev pub place_in : ℕ → ℕ → ℕ
place_in c i = i / (2 * c) * 2 + (if nat_lt (i % (2 * c)) c then 0 else 1)

-- the place in the whole of natural point r of part j
abbrev pub place_of : ℕ → ℕ → ℕ → ℕ
place_of c j r = r / 2 * (2 * c) + (if nat_eq (r % 2) 0 then j else 2 * c - 1 - j)

-- `height` rows, part by part
abbrev pub split_rows : {T : Type 0} → ℕ → ℕ → List (List T) → List (List (List T))
split_rows c height all =
    map (λ j. mapped_rows (place_of c j) (height / c) all) (range_with_len 0 c)

-- each of `height` rows stands at its place in its part
abbrev pub EachRowGoes : {T : Type 0} →
    ℕ → ℕ → RowMajorMatrix T → List (RowMajorMatrix T) → Type 0
EachRowGoes c height whole parts =
    (i : ℕ) → i < height → IfSome (slice_get parts (part_of c i)) (λ part.
    slice_get (rows part) (place_in c i) ≡ slice_get (rows whole) i)
