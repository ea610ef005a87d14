-- The table of a periodic column.
use Rattle.std.specs.Prelude.{◌≡◌, ℕ, ◌+◌, ◌-◌, ◌*◌, ◌%◌, ◌^◌, ◌<◌, ◌≤◌, List, [], ◌∷◌, length}
use Rattle.std.specs.Prelude.{Some, slice_get, slice_index_or}
use Rattle.std.proofs.Common.{zero, suc, refl, sym, ◌∙◌, ap, subst, arith, pow-add}
use Rattle.std.proofs.Math.Nat.{mod-eq_of_lt, mod-lt, mul-le-mul_right}
use Rattle.std.proofs.lemmas.Nat.{pow_pos}
use lib.Pow.{pow_mono}
use Rattle.circle_field.specs.Field.{FieldOps}
use Rattle.circle_field.specs.Circle.{Coordinates}
use Rattle.circle_commit.specs.Matrix.{IsPowerOfTwo}
use Rattle.circle_commit.specs.Mmcs.{greatest}
use Rattle.circle_commit.specs.PeriodicLdeTable.{entry_at, height_of, rows}
use Rattle.circle_commit.specs.declared.periodic.PeriodicLdeTable.{PeriodicLdeTable}
use Rattle.circle_domain.specs.Domain.{log_size, shift_of}
use Rattle.circle_domain.specs.Periodic.{IsPeriodicValue}
use Rattle.circle_domain.specs.declared.domain.CircleDomain.{CircleDomain}
use Rattle.circle_plane.specs.PeriodicColumns.{IsPeriodicTable, IsRefusal, IsRefusedOn, IsTableOn}
use Rattle.circle_plane.specs.declared.periodic.PeriodicError.{PeriodicError}
use Rattle.circle_plane.specs.declared.periodic.PeriodicError.TheVariants.{Empty, HeightTooLarge}
use Rattle.circle_plane.specs.declared.periodic.PeriodicError.TheVariants.{LongerThanTrace, Memory}
use Rattle.circle_plane.specs.declared.periodic.PeriodicError.TheVariants.{NotPowerOfTwo}
use Rattle.circle_plane.proofs.Periods.{greatest-positive}
use Rattle.circle_air.specs.Values.{entry}
use Rattle.circle_quotient.specs.Terms.{IsPeriodicColumn}

some_same : {A : Type 0} (x y : A) → Some x ≡ Some y → x ≡ y
some_same x y h = cc

-- the table on standard domains
pub standard-table : {F : Type 0} {g : _} {k : FieldOps F} {gen : ℕ → Coordinates F}
    {two_adicity : ℕ} {columns : List (List F)} {table : PeriodicLdeTable F}
    (trace lde : CircleDomain F g) (n kk : ℕ) → log_size trace ≡ n → log_size lde ≡ n + kk →
    shift_of lde ≡ gen (n + kk + 1) → IsTableOn k gen two_adicity trace lde columns table →
    IsPeriodicTable k gen two_adicity n (n + kk) (gen (n + kk + 1)) columns table
standard-table {k = k} {gen = gen} {two_adicity = two_adicity} {columns = columns} {table = table}
    trace lde n kk small large shift is =
    subst (λ i. IsPeriodicTable k gen two_adicity i (n + kk) (gen (n + kk + 1)) columns table) small
    (subst
    (λ i. IsPeriodicTable k gen two_adicity (log_size trace) i (gen (n + kk + 1)) columns table)
    large
    (subst
    (λ (s : Coordinates _). IsPeriodicTable k gen two_adicity (log_size trace) (log_size lde) s
    columns table) shift is))

module _ {F : Type 0} {k : FieldOps F} {gen : ℕ → Coordinates F} (two_adicity n kk : ℕ)
    (fits : n + kk ≤ two_adicity) (column : List F) (table : PeriodicLdeTable F)
    (is : IsPeriodicTable k gen two_adicity n (n + kk) (gen (n + kk + 1)) (column ∷ []) table) where
  -- a table of one column has rows
  pub table-rows : 1 ≤ height_of table
  table-rows =
      let longest : 1 ≤ greatest (length column ∷ []) =
      greatest-positive (2 ^ n) (length column ∷ []) (omega arith) is.columns_fit in
      let times = pow_pos (n + kk - n) in
      let height = is.height in
      grind (arith, longest, times, height)

  -- whose entries are the column's values
  pub table-column : (made : List F) → length made ≡ height_of table →
      ((i : ℕ) → i < height_of table → entry_at table i 0 ≡ Some (entry k made i)) →
      IsPeriodicColumn k gen n kk column made
  table-column made tall entries = record {
    positive = let some = table-rows in omega (arith, tall, some);
    values = λ i s here.
        let h = height_of table in
        let small : i % h < h = mod-lt i table-rows in
        let told = is.values fits i 0 s here (omega arith) in
        let again : i % h % h ≡ i % h = mod-eq_of_lt small in
        let same : told.0 ≡ entry k made (i % length made) =
        some_same told.0 (entry k made (i % length made))
        (sym told.1
        ∙ ap (λ j. slice_get (slice_index_or (rows table) j []) 0) (sym again)
        ∙ entries (i % h) small
        ∙ ap (λ t. Some (entry k made (i % t))) (sym tall)) in
        subst (IsPeriodicValue k gen k (λ x. x) n column s) same told.2;
  }

-- the table of a column that repeats over 2^n rows is refused only for want of memory
only-memory : (n kk long : ℕ) → n + kk ≤ 62 → IsPowerOfTwo long → long ≤ 2 ^ n →
    (e : PeriodicError) → IsRefusal (2 ^ n) (long ∷ []) kk e → e ≡ Memory
only-memory n kk long small power most Empty (zero, below, before, fault) =
    let positive = pow_pos power.0 in
    absurd (omega (arith, fault, power.1, positive))
only-memory n kk long small power most Empty (suc j, below, before, fault) =
    absurd (omega (arith, below))
only-memory n kk long small power most NotPowerOfTwo (zero, below, before, fault) =
    absurd (fault.1 power)
only-memory n kk long small power most NotPowerOfTwo (suc j, below, before, fault) =
    absurd (omega (arith, below))
only-memory n kk long small power most LongerThanTrace (zero, below, before, fault) =
    let longer = fault.1 in absurd (omega (arith, most, longer))
only-memory n kk long small power most LongerThanTrace (suc j, below, before, fault) =
    absurd (omega (arith, below))
only-memory n kk long small power most HeightTooLarge (fit, large) =
    let whole : 2 ^ (n + kk) ≡ 2 ^ n * 2 ^ kk = pow-add 2 n kk in
    let bound : 2 ^ (n + kk) ≤ 2 ^ 62 = pow_mono small in
    let product : long * 2 ^ kk ≤ 2 ^ n * 2 ^ kk = mul-le-mul_right (2 ^ kk) most in
    let alone : greatest (long ∷ []) ≡ long = omega arith in
    let entries : 2 ^ 64 ≤ long * 2 ^ kk * 1 =
    subst (λ h. 2 ^ 64 ≤ h * 2 ^ kk * 1) alone large in
    absurd (omega (arith, entries, whole, bound, product))
only-memory n kk long small power most Memory refused = refl

-- so on domains of these sizes
pub column-refused : {F : Type 0} {g : _} (trace lde : CircleDomain F g) (n kk : ℕ) →
    log_size trace ≡ n → log_size lde ≡ n + kk → n + kk ≤ 62 → (columns : List (List F))
    (column : List F) → columns ≡ column ∷ [] → IsPowerOfTwo (length column) →
    length column ≤ 2 ^ n → (e : PeriodicError) → IsRefusedOn trace lde columns e → e ≡ Memory
column-refused trace lde n kk small large fits columns column same power most e refused =
    let blowup : log_size lde - log_size trace ≡ kk = omega (arith, small, large) in
    only-memory n kk (length column) fits power most e
    (subst (λ i. IsRefusal (2 ^ i) (length column ∷ []) kk e) small
    (subst (λ i. IsRefusal (2 ^ log_size trace) (length column ∷ []) i e) blowup
    (subst (λ cs. IsRefusedOn trace lde cs e) same refused)))
