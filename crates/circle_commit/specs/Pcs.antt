-- Definitions for polynomial commitment schemes.
use Rattle.std.specs.Prelude.{List, map, Vec}
use Rattle.std.specs.declared.alloc.Global.{Global}
use Rattle.circle_commit.specs.Mmcs.{opened_rows}

-- opened values: for each batch, for each matrix, for each point, a value for each column
abbrev pub Openings : Type 0 → Type 0
Openings E = List (List (List (List E)))

-- the values that vectors hold
abbrev pub openings : {E : Type 0} → List (Vec (Vec (Vec E Global) Global) Global) → Openings E
openings batches = map (λ batch. opened_rows batch.items) batches
