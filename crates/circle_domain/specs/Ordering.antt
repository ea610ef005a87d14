-- The permutation between the two orders of a domain.
use Rattle.std.specs.Prelude.{ℕ, ◌+◌, ◌-◌, ◌*◌, ◌/◌, ◌%◌, ◌^◌, nat_eq, if◌then◌else◌}
use Rattle.std.specs.Prelude.{List, map, slice_index_or}
use Rattle.std.specs.List.{range_with_len}
use Rattle.std.proofs.Common.{zero, suc}
use Rattle.circle_commit.specs.Matrix.{mapped_rows}

-- the number whose n lowest bits are those of i in the other order
abbrev pub reversed : ℕ → ℕ → ℕ
reversed zero i = 0
reversed (suc n) i = i % 2 * 2 ^ n + reversed n (i / 2)

-- the natural place of place i of the transform's order, among 2^n points
abbrev pub cfft_index : ℕ → ℕ → ℕ
cfft_index n i = if nat_eq (i % 2) 0 then reversed n (i / 2) else reversed n (2 ^ n - 1 - i / 2)

-- the rows of a domain of 2^n points in the other of its two orders
abbrev pub other_order : {T : Type 0} → ℕ → List (List T) → List (List T)
other_order n rows = mapped_rows (cfft_index n) (2 ^ n) rows

-- what stands in one of the two orders, in the other, with d where there is nothing
abbrev pub reordered : {T : Type 0} → T → ℕ → List T → List T
reordered d n xs = map (λ i. slice_index_or xs (cfft_index n i) d) (range_with_len 0 (2 ^ n))
