-- Elements of the cubic extension are told apart by their bytes.
use Rattle.std.specs.Prelude.{◌≡◌, ℕ, List, [], ◌∷◌}
use Rattle.circle_field.specs.declared.cubic.Cubic.{Cubic}
use Rattle.circle_field.specs.Bytes.{bytes_told_apart}
use Rattle.circle_field.specs.Cubic.{cubic_bytes}
use Rattle.circle_field.specs.CubicOperations.{same_cubic}

-- lists that agree agree in their first four entries and in the others
four_and_rest : (a b c d e f g h : ℕ) (xs ys : List ℕ) → a ∷ b ∷ c ∷ d ∷ xs ≡ e ∷ f ∷ g ∷ h ∷ ys →
    (a ∷ b ∷ c ∷ d ∷ [] ≡ e ∷ f ∷ g ∷ h ∷ []) × (xs ≡ ys)
four_and_rest a b c d e f g h xs ys same = (cc, cc)

-- elements of the same bytes are equal
pub cubic_told_apart : (a b : Cubic) → cubic_bytes a ≡ cubic_bytes b → a ≡ b
cubic_told_apart a b same =
    let first = four_and_rest _ _ _ _ _ _ _ _ _ _ same in
    let second = four_and_rest _ _ _ _ _ _ _ _ _ _ first.1 in
    same_cubic a b (bytes_told_apart a.c0 b.c0 first.0) (bytes_told_apart a.c1 b.c1 second.0)
    (bytes_told_apart a.c2 b.c2 second.1)
