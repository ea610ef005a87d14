-- Columns that repeat over a trace, and the table of their values on an extension of its domain.
use Rattle.std.specs.Prelude.{◌≡◌, ℕ, ◌-◌, ◌*◌, ◌^◌, ◌≤◌, ◌<◌, List, [], All, Some}
use Rattle.std.specs.Prelude.{length, map, take, slice_get, slice_index_or, Vec}
use Rattle.std.specs.declared.alloc.Global.{Global}
use Rattle.circle_field.specs.Field.{FieldOps}
use Rattle.circle_field.specs.Circle.{Coordinates}
use Rattle.circle_commit.specs.Matrix.{IsPowerOfTwo}
use Rattle.circle_commit.specs.Mmcs.{greatest}
use Rattle.circle_commit.specs.PeriodicLdeTable.{width_of, height_of, entry_at}
use Rattle.circle_commit.specs.declared.periodic.PeriodicLdeTable.{PeriodicLdeTable}
use Rattle.circle_point.specs.Projective.{from_line}
use Rattle.circle_domain.specs.Domain.{log_size, shift_of, IsStandardDomain}
use Rattle.circle_domain.specs.Order.{natural_order}
use Rattle.circle_domain.specs.Periodic.{IsClearOfPeriod, IsPeriodicValue}
use Rattle.circle_domain.specs.Selectors.{IsFinite}
use Rattle.circle_domain.specs.declared.domain.CircleDomain.{CircleDomain}
use Rattle.circle_plane.specs.declared.periodic.PeriodicError.{PeriodicError}
use Rattle.circle_plane.specs.declared.periodic.PeriodicError.TheVariants.{Empty, NotPowerOfTwo}
use Rattle.circle_plane.specs.declared.periodic.PeriodicError.TheVariants.{LongerThanTrace}
use Rattle.circle_plane.specs.declared.periodic.PeriodicError.TheVariants.{HeightTooLarge, Memory}

-- the columns that vectors hold
abbrev pub columns_of : {F : Type 0} → List (Vec F Global) → List (List F)
columns_of table = map (λ column. column.items) table

-- a fact of each column
abbrev pub OfEachColumn : {F : Type 0} → List (Vec F Global) → (List F → Type 0) → Type 0
OfEachColumn table P = (c : ℕ) → c < length table → P (slice_index_or (columns_of table) c [])

module _ {F E : Type 0} {g : _} (two_adicity : ℕ) (k : FieldOps F) (gen : ℕ → Coordinates F)
    (l : FieldOps E) (embed : F → E) (trace : CircleDomain F g) (t : E) where
  -- a column that repeats over the trace has a value at the coordinate t: it has at most one entry,
  -- or the trace is standard, the entries are a power of two and at most as many as its points, and
  -- t is finite and clear of the period
  abbrev pub HasValueAt : List F → Type 0
  HasValueAt column = 2 ≤ length column →
      IsStandardDomain two_adicity gen trace
      × IsPowerOfTwo (length column) × (length column ≤ 2 ^ log_size trace) × IsFinite l t
      × IsClearOfPeriod k gen l embed (log_size trace) column (from_line l t)

-- the values at q of the columns that repeat over a trace of 2^n rows
abbrev pub ArePeriodicValues : {F E : Type 0} → FieldOps F → (ℕ → Coordinates F) → FieldOps E →
    (F → E) → ℕ → Coordinates E → List (Vec F Global) → List E → Type 0
ArePeriodicValues k gen l embed n q table values = (c : ℕ) → c < length table →
    IsPeriodicValue k gen l embed n (slice_index_or (columns_of table) c []) q
    (slice_index_or values c l.zero)

-- a number n of entries that repeat over `size` rows
abbrev pub IsPeriod : ℕ → ℕ → Type 0
IsPeriod size n = IsPowerOfTwo n × (n ≤ size)

-- what is wrong with a number of entries
abbrev pub IsFault : ℕ → ℕ → PeriodicError → Type 0
IsFault size n Empty = n ≡ 0
IsFault size n NotPowerOfTwo = (1 ≤ n) × ¬ IsPowerOfTwo n
IsFault size n LongerThanTrace = IsPowerOfTwo n × (size < n)
IsFault size n HeightTooLarge = ⊥
IsFault size n Memory = ⊥

-- the first of the numbers of entries with a fault has this one
abbrev pub IsFirstFault : ℕ → List ℕ → PeriodicError → Type 0
IsFirstFault size periods e = (j : ℕ) × (j < length periods)
    × All (IsPeriod size) (take j periods) × IsFault size (slice_index_or periods j 0) e

-- the longest period, 2^blowup times over
abbrev pub table_height : List ℕ → ℕ → ℕ
table_height periods blowup = greatest periods * 2 ^ blowup

-- the refusal's condition holds, and that of none before it
abbrev pub IsRefusal : ℕ → List ℕ → ℕ → PeriodicError → Type 0
IsRefusal size periods blowup Empty = IsFirstFault size periods Empty
IsRefusal size periods blowup NotPowerOfTwo = IsFirstFault size periods NotPowerOfTwo
IsRefusal size periods blowup LongerThanTrace = IsFirstFault size periods LongerThanTrace
IsRefusal size periods blowup HeightTooLarge =
    All (IsPeriod size) periods × (2 ^ 64 ≤ table_height periods blowup * length periods)
IsRefusal size periods blowup Memory =
    All (IsPeriod size) periods × (table_height periods blowup * length periods < 2 ^ 64)

module _ {F : Type 0} (k : FieldOps F) (gen : ℕ → Coordinates F) where
  -- the columns' values at the points in natural order of the domain (m, s), an extension of a
  -- trace of 2^n rows
  pub record IsPeriodicTable (two_adicity n m : ℕ) (s : Coordinates F) (columns : List (List F))
      (table : PeriodicLdeTable F) : Type 0 where
    pub width : width_of table ≡ length columns
    pub height : height_of table ≡ table_height (map length columns) (m - n)
    pub columns_fit : All (IsPeriod (2 ^ n)) (map length columns)
    pub counted : table_height (map length columns) (m - n) * length columns < 2 ^ 64
    pub values : m ≤ two_adicity → (i c : ℕ) (p : Coordinates F) →
        slice_get (natural_order k gen m s) i ≡ Some p → c < length columns →
        (v : F) × (entry_at table i c ≡ Some v)
        × IsPeriodicValue k gen k (λ x. x) n (slice_index_or columns c []) p v

module _ {F : Type 0} {g : _} where
  -- the columns' table on an extension of the trace's domain
  abbrev pub IsTableOn : FieldOps F → (ℕ → Coordinates F) → ℕ → (trace lde : CircleDomain F g) →
      List (List F) → PeriodicLdeTable F → Type 0
  IsTableOn k gen two_adicity trace lde columns table =
      IsPeriodicTable k gen two_adicity (log_size trace) (log_size lde) (shift_of lde) columns table

  -- why there is none
  abbrev pub IsRefusedOn : (trace lde : CircleDomain F g) → List (List F) → PeriodicError → Type 0
  IsRefusedOn trace lde columns e =
      IsRefusal (2 ^ log_size trace) (map length columns) (log_size lde - log_size trace) e
