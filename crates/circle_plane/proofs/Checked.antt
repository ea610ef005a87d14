-- What is known of the columns once they are checked and their table's entries counted.
use Rattle.std.specs.Prelude.{◌≡◌, ◌≢◌, ℕ, ◌-◌, ◌*◌, ◌^◌, ◌<◌, ◌≤◌, List, All, length, map, Vec}
use Rattle.std.specs.declared.alloc.Global.{Global}
use Rattle.std.proofs.Common.{sym, ap, ◌∙◌, subst, arith}
use Rattle.std.proofs.lemmas.List.{length-map}
use Rattle.circle_commit.specs.Mmcs.{greatest}
use Rattle.circle_plane.specs.PeriodicColumns.{columns_of, IsPeriod, IsRefusal, table_height}
use Rattle.circle_plane.specs.declared.periodic.PeriodicError.TheVariants.{Memory}
use Rattle.circle_plane.proofs.Periods.{greatest-positive, entries-counted}

pub record AreChecked {F : Type 0} (n m period height : ℕ) (table : List (Vec F Global)) : Type 0
  where
    pub listed : length (columns_of table) ≡ length table
    pub some : 1 ≤ length (columns_of table)
    pub positive : 1 ≤ period
    pub fit : All (IsPeriod (2 ^ n)) (map length (columns_of table))
    pub tall : height ≡ table_height (map length (columns_of table)) (m - n)
    pub counted : table_height (map length (columns_of table)) (m - n) * length (columns_of table) <
        2
        ^ 64
    pub memory : IsRefusal (2 ^ n) (map length (columns_of table)) (m - n) Memory

pub checked : {F : Type 0} (table : List (Vec F Global)) (n m a b size period height : ℕ) →
    length table ≢ 0 → size ≡ 2 ^ n → a ≡ m → b ≡ n →
    All (IsPeriod size) (map length (columns_of table)) →
    period ≡ greatest (map length (columns_of table)) →
    height ≡ period * 2 ^ (a - b) → period * 2 ^ (a - b) * length table < 2 ^ 64 →
    AreChecked n m period height table
checked table n m a b size period height nonempty e_s e_a e_b fits longest tall counted =
    let columns = columns_of table in
    let periods = map length columns in
    let listed : length columns ≡ length table = length-map table (λ column. column.items) in
    let same : length periods ≡ length columns = length-map columns length in
    let total = entries-counted periods period a b m n (length table) longest e_a e_b
    (sym (same ∙ listed)) in
    let fit : All (IsPeriod (2 ^ n)) periods = subst (λ i. All (IsPeriod i) periods) e_s fits in
    let least = greatest-positive (2 ^ n) periods (omega (arith, nonempty, listed, same)) fit in
    record {
      listed = listed;
      some = omega (arith, nonempty, listed);
      positive = omega (arith, least, longest);
      fit = fit;
      tall = tall ∙ ap (λ p. p * 2 ^ (a - b)) longest ∙ ap (λ i. greatest periods * 2 ^ (i - b)) e_a
          ∙ ap (λ i. greatest periods * 2 ^ (m - i)) e_b;
      counted = omega (arith, counted, total ∙ ap (λ w. table_height periods (m - n) * w) same);
      memory = (fit, omega (arith, counted, total));
    }
