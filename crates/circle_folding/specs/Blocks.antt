-- Blocks of equal entries.
use Rattle.std.specs.Prelude.{ℕ, List, [], ◌∷◌, ◌++◌, replicate}
use Rattle.circle_field.specs.Field.{FieldOps}

-- each entry n times over
abbrev pub spread : {T : Type 0} → ℕ → List T → List T
spread n [] = []
spread n (x ∷ xs) = replicate n x ++ spread n xs

-- the sum of the entries
abbrev pub sum_of : {F : Type 0} → FieldOps F → List F → F
sum_of k [] = k.zero
sum_of k (x ∷ xs) = k.add x (sum_of k xs)
