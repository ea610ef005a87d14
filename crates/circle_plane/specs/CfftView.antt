-- What a matrix that is seen in the other order of a domain is to contracts, by what the matrix
-- below has.
use Rattle.std.specs.Prelude.{ℕ, List}
use Rattle.circle_commit.specs.declared.matrix.RowIndexMappedView.{RowIndexMappedView}
use Rattle.circle_domain.specs.CfftPerm.{log_height_of}
use Rattle.circle_domain.specs.Ordering.{other_order}
use Rattle.circle_domain.specs.declared.ordering.CfftPerm.{CfftPerm}

module _ {M : Type 0} {g h : _} where
  -- its number of columns, where the first argument is what a matrix has for that
  abbrev pub seen_width : (M → ℕ) → RowIndexMappedView CfftPerm M g h → ℕ
  seen_width width view = width view.inner

  -- its rows, where the first argument is what a matrix has for rows
  abbrev pub seen_rows : {F : Type 0} →
      (M → List (List F)) → RowIndexMappedView CfftPerm M g h → List (List F)
  seen_rows rows view = other_order (log_height_of view.index_map) (rows view.inner)
