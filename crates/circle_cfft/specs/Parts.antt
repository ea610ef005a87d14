-- The factors that the layers of a part of the entries have.
use Rattle.std.specs.Prelude.{◌≡◌, ℕ, ◌+◌, ◌*◌, ◌/◌, ◌^◌, ◌<◌, List, length, take, drop, Vec}
use Rattle.std.specs.declared.alloc.Global.{Global}
use Rattle.circle_cfft.specs.Passes.{factors_at}

-- part number `part` of a layer's factors, `blocks` in each
abbrev pub part_of : {F : Type 0} → (part blocks : ℕ) → List F → List F
part_of part blocks factors = take blocks (drop (part * blocks) factors)

-- the factors that layer l has for part number `part` of the entries, of `count` entries each
abbrev pub factors_of_part :
    {F : Type 0} → (width count part : ℕ) → List (Vec F Global) → ℕ → List F
factors_of_part width count part twiddles l =
    part_of part (count / (2 ^ l * width + 2 ^ l * width)) (factors_at twiddles l)

-- at each layer the blocks of the part, one for each factor, make up its entries
abbrev pub AreLayersOfPart :
    {F : Type 0} → (width count part : ℕ) → List (Vec F Global) → Type 0
AreLayersOfPart width count part twiddles = (l : ℕ) → l < length twiddles →
    length (factors_of_part width count part twiddles l) * (2 ^ l * width + 2 ^ l * width) ≡ count
