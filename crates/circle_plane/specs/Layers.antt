-- What groups of rows count.
use Rattle.std.specs.Prelude.{ℕ}
use Rattle.circle_cfft.specs.Butterflies.{count_of}
use Rattle.circle_plane.specs.declared.layers.InGroups.{InGroups}

-- the butterflies that they counted so far
abbrev pub counted : InGroups → ℕ
counted groups = count_of groups.butterflies
