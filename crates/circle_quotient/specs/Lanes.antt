-- Lists of equal length, of which each index is a lane.
use Rattle.std.specs.Prelude.{◌≡◌, ℕ, List, length, map, All, Vec, Option, None, Some}
use Rattle.std.specs.declared.alloc.Global.{Global}
use Rattle.circle_field.specs.Field.{FieldOps}
use Rattle.circle_commit.specs.PeriodicLdeTable.{columns_of}
use Rattle.circle_air.specs.Values.{entry}

-- the entry of each list at the lane
abbrev pub lane_of : {F : Type 0} → FieldOps F → List (Vec F Global) → ℕ → List F
lane_of k columns r = map (λ column. entry k column.items r) columns

-- `count` lists, each with an entry for each of `lanes` lanes
pub record HaveLanes {F : Type 0} (count lanes : ℕ) (columns : List (Vec F Global)) : Type 0 where
  pub all : length columns ≡ count
  pub each : All (λ column. length column ≡ lanes) (columns_of columns)

-- the factor of a lane, and 1 where there are none
abbrev pub factor_at : {F : Type 0} → FieldOps F → Option (List F) → ℕ → F
factor_at k None r = k.one
factor_at k (Some factors) r = entry k factors r
