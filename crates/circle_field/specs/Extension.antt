-- Extensions of a field: coefficients in the base field.
use Rattle.std.specs.Prelude.{◌≡◌, ℕ, List, [], ◌∷◌, length, map, refl}
use Rattle.std.proofs.Common.{ap}
use Rattle.circle_field.specs.Field.{FieldOps, IsEmbedding}

-- the sums of the entries at each place
abbrev pub sums : {F : Type 0} → FieldOps F → List F → List F → List F
sums k [] ys = []
sums k (x ∷ xs) [] = []
sums k (x ∷ xs) (y ∷ ys) = k.add x y ∷ sums k xs ys

-- coefficients of elements of l in k: of a fixed number, linear, and told by no other element
pub record AreCoefficients {F E : Type 0} (k : FieldOps F) (l : FieldOps E) (embed : F → E)
    (degree : ℕ) (coefficients : E → List F) : Type 0 where
  pub count : (a : E) → length (coefficients a) ≡ degree
  pub of_sum : (a b : E) → coefficients (l.add a b) ≡ sums k (coefficients a) (coefficients b)
  pub of_multiple : (x : F) (a : E) →
      coefficients (l.mul (embed x) a) ≡ map (k.mul x) (coefficients a)
  pub determined : (a b : E) → coefficients a ≡ coefficients b → a ≡ b

pub identity_embedding : {F : Type 0} (k : FieldOps F) → IsEmbedding k k (λ x. x)
identity_embedding k = record {
  zero = refl;
  one = refl;
  add = λ a b. refl;
  mul = λ a b. refl;
  neg = λ a. refl;
  injective = λ a b h. h;
}

-- the first entry, where there is one
head_or : {F : Type 0} → F → List F → F
head_or d [] = d
head_or d (x ∷ xs) = x

-- the one coefficient of an element of the field itself
pub own_coefficient : {F : Type 0} (k : FieldOps F) → AreCoefficients k k (λ x. x) 1 (λ x. x ∷ [])
unfolding head_or
own_coefficient k = record {
  count = λ a. refl;
  of_sum = λ a b. refl;
  of_multiple = λ x a. refl;
  determined = λ a b h. ap (head_or a) h;
}
