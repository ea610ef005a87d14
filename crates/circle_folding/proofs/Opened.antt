-- Reads of the rows that vectors hold.
use Rattle.std.specs.Prelude.{◌≡◌, ℕ, ◌<◌, List, [], length, map, slice_index_or, Vec}
use Rattle.std.specs.declared.alloc.Global.{Global}
use Rattle.std.proofs.Common.{sym, ◌∙◌, ap}
use Rattle.std.proofs.lemmas.List.{length-map, get_or-map}
use Rattle.circle_commit.specs.Mmcs.{opened_rows}

module _ {T : Type 0} (values : List (Vec (Vec T Global) Global)) (i matrix : ℕ)
    (rows : Vec (Vec T Global) Global) (within : i < length values)
    (at : rows ≡ slice_index_or values i rows) where
  opened : slice_index_or (opened_rows values) i [] ≡ map (λ row. row.items) rows.items
  opened =
      let entries : Vec (Vec T Global) Global → List (List T) =
      λ rows. map (λ row. row.items) rows.items in
      get_or-map entries values i rows [] within ∙ ap entries (sym at)

  pub opened-count : length (slice_index_or (opened_rows values) i []) ≡ length rows.items
  opened-count = ap length opened ∙ length-map rows.items (λ row. row.items)

  pub opened-row : (row : Vec T Global) → matrix < length rows.items →
      row ≡ slice_index_or rows.items matrix row →
      row.items ≡ slice_index_or (slice_index_or (opened_rows values) i []) matrix []
  opened-row row lt here =
      let items : Vec T Global → List T = λ row. row.items in
      ap items here ∙ sym (get_or-map items rows.items matrix row [] lt)
      ∙ ap (λ all. slice_index_or all matrix []) (sym opened)
