-- Values that a challenger absorbs, one after another.
use Rattle.std.specs.Prelude.{List, [], ◌∷◌}

-- the state after these values were absorbed, in order
abbrev pub after_all : {S A : Type 0} → (S → A → S) → S → List A → S
after_all after_observe s [] = s
after_all after_observe s (x ∷ xs) = after_all after_observe (after_observe s x) xs
