-- The coefficients of 0, and that there is one basis by coefficients.
use Rattle.std.specs.Prelude.{◌≡◌, ℕ, List, [], ◌∷◌, length, map, replicate, slice_index_or}
use Rattle.std.proofs.Common.{sym, ◌∙◌, ap, refl}
use Rattle.std.proofs.lemmas.List.FromFn.{fill_by_all}
use Rattle.circle_field.specs.Extension.{AreCoefficients}
use Rattle.circle_field.specs.Field.{FieldOps, FieldLaws, IsEmbedding}
use Rattle.circle_field.specs.RingFacts.{zero_mul}
use Rattle.circle_quotient.specs.Basis.{AreBasis}

map-constant : {X Y : Type 0} (f : X → Y) (y : Y) → ((x : X) → f x ≡ y) → (xs : List X) →
    map f xs ≡ replicate (length xs) y
map-constant f y each [] = refl
map-constant f y each (x ∷ xs) =
    ap (λ v. v ∷ map f xs) (each x) ∙ ap (λ rest. y ∷ rest) (map-constant f y each xs)

pub zero-coefficients : {F E : Type 0} {k : FieldOps F} {l : FieldOps E} {m : F → E}
    {degree : ℕ} {coefficients : E → List F} (laws : FieldLaws k) (laws' : FieldLaws l) →
    IsEmbedding k l m → AreCoefficients k l m degree coefficients →
    coefficients l.zero ≡ replicate degree k.zero
zero-coefficients {k = k} {l = l} {m = m} {coefficients = coefficients} laws laws' embedding are =
    ap coefficients
    (sym (zero_mul laws'.ring l.zero) ∙ ap (λ z. l.mul z l.zero) (sym embedding.zero))
    ∙ are.of_multiple k.zero l.zero
    ∙ map-constant (k.mul k.zero) k.zero (λ x. zero_mul laws.ring x) (coefficients l.zero)
    ∙ ap (λ n. replicate n k.zero) (are.count l.zero)

-- a field has one basis by its coefficients
pub basis-only : {F E : Type 0} {k : FieldOps F} {l : FieldOps E} {m : F → E} {degree : ℕ}
    {coefficients : E → List F} → AreCoefficients k l m degree coefficients → (xs ys : List E) →
    AreBasis k coefficients degree xs → AreBasis k coefficients degree ys → xs ≡ ys
basis-only {l = l} {degree = degree} are xs ys one other =
    let entry_at = λ (i : ℕ). slice_index_or ys i l.zero in
    fill_by_all entry_at xs degree l.zero one.count
    (λ i lt. are.determined (slice_index_or xs i l.zero) (slice_index_or ys i l.zero)
    (one.each i l.zero lt ∙ sym (other.each i l.zero lt)))
    ∙ sym (fill_by_all entry_at ys degree l.zero other.count (λ i lt. refl))
