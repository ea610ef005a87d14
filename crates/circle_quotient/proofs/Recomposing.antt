-- What is put together from chunks is a function of the degree of the composition.
use Rattle.std.specs.Prelude.{◌≡◌, ℕ, ◌+◌, ◌*◌, ◌^◌, ◌<◌, List, [], ◌∷◌, length, map, remove}
use Rattle.std.specs.Prelude.{slice_index_or}
use Rattle.std.specs.List.{AllByRecursion}
use Rattle.std.proofs.Common.{suc, ap, refl, subst, arith}
use Rattle.std.proofs.lemmas.List.Edits.{length-remove}
use Rattle.circle_field.specs.Field.{FieldOps, FieldLaws, sub}
use Rattle.circle_field.specs.Ring.{var, con, unit, plus as sum, times as prod, minus}
use Rattle.circle_field.specs.RingSound.{ring}
use Rattle.circle_field.specs.Circle.{Coordinates}
use Rattle.circle_point.specs.Basis.{iterated_x}
use Rattle.circle_commit.specs.DotProduct.{dot}
use Rattle.circle_quotient.specs.Recomposition.{lagrange_factor, part_factor}
use Rattle.circle_quotient.proofs.Monomials.{nothing}
use Rattle.circle_quotient.proofs.Forms.{HasForm, form-product, form-constant, form-combined}
use Rattle.circle_quotient.proofs.Forms.{form-same, form-doubled}

module _ {E : Type 0} {l : FieldOps E} (laws : FieldLaws l) (j : ℕ) where
  abbrev pub size : ℕ
  size = 2 ^ j

  -- the vanishing polynomial
  abbrev pub x_at : Coordinates E → E
  x_at p = iterated_x l j p.x

  difference : (x i : E) → HasForm l (size + 1) 0 (λ p. l.mul (sub l (x_at p) x) i)
  difference x i =
      let e : suc size ≡ size + 1 = omega arith in
      form-same laws (size + 1) 0 (λ p. l.add (l.mul i (x_at p)) (l.mul (l.neg (l.mul x i)) l.one))
      (λ p. l.mul (sub l (x_at p) x) i)
      (form-combined laws (size + 1) 0 i (l.neg (l.mul x i)) x_at (λ p. l.one)
      (subst (λ n. HasForm l n 0 x_at) e (form-doubled laws j))
      (subst (λ n. HasForm l n 0 (λ p. l.one)) e (form-constant laws size 0 l.one)))
      (λ p on. ring laws.ring (x_at p ∷ x ∷ i ∷ [])
      (prod (sum (var 0) (minus (var 1))) (var 2))
      (sum (prod (var 2) (var 0)) (prod (minus (prod (var 1) (var 2))) unit)) refl)

  -- a factor has a degree for each other part
  factor-form : (others : List E) (own : E) →
      HasForm l (length others * size + 1) 0 (λ p. lagrange_factor l others own (x_at p))
  factor-form [] own =
      let e : suc 0 ≡ 0 * size + 1 = omega arith in
      subst (λ n. HasForm l n 0 (λ p. l.one)) e (form-constant laws 0 0 l.one)
  factor-form (x ∷ others) own =
      let r = length others in
      let e : suc r * size ≡ r * size + size = omega arith in
      form-product laws (size + 1) 0 (r * size + 1) 0 (suc r * size + 1) 0
      (λ p. l.mul (sub l (x_at p) x) (l.inv (sub l own x)))
      (λ p. lagrange_factor l others own (x_at p)) (λ a b. omega (arith, e))
      (λ a b. absurd (omega (arith, a))) (λ a b. absurd (omega (arith, b)))
      (λ a b. absurd (omega (arith, a)))
      (difference x (l.inv (sub l own x))) (factor-form others own)

  -- the vanishing polynomial times what is put together of the chunks in these places, which may
  -- have
  -- so many highest powers of x beside
  module _ (xs : List E) (extra : ℕ) where
    abbrev pub whole : ℕ
    whole = (length xs + 1) * size

    abbrev pub together : List ℕ → List (Coordinates E → E) → Coordinates E → E
    together js ds p =
        l.mul (x_at p) (dot l (map (λ i. part_factor l xs i (x_at p)) js) (map (λ d. d p) ds))

    one_more : (i : ℕ) → i < length xs → (d : Coordinates E → E) → HasForm l (size + extra) size d →
        HasForm l (whole + extra) whole
        (λ p. l.mul (l.mul (x_at p) (part_factor l xs i (x_at p))) (d p))
    one_more i lt d s =
        let r = length (remove xs i) in
        let count : r + 1 ≡ length xs = omega (arith, length-remove xs i lt) in
        let e : (r + 1) * size ≡ r * size + size = omega arith in
        let f : (r + 1) * size ≡ length xs * size = ap (λ n. n * size) count in
        let g : whole ≡ length xs * size + size = omega arith in
        let one : suc size ≡ size + 1 = omega arith in
        let factor = λ (p : Coordinates E). part_factor l xs i (x_at p) in
        let scaled = form-product laws (size + 1) 0 (r * size + 1) 0 (length xs * size + 1) 0
        x_at factor (λ a b. omega (arith, e, f)) (λ a b. absurd (omega (arith, a)))
        (λ a b. absurd (omega (arith, b))) (λ a b. absurd (omega (arith, a)))
        (subst (λ n. HasForm l n 0 x_at) one (form-doubled laws j))
        (factor-form (remove xs i) (slice_index_or xs i l.zero)) in
        form-product laws (length xs * size + 1) 0 (size + extra) size (whole + extra) whole
        (λ p. l.mul (x_at p) (factor p)) d (λ a b. omega (arith, g))
        (λ a b. absurd (omega (arith, a))) (λ a b. omega (arith, g))
        (λ a b. absurd (omega (arith, a))) scaled s

    nothing-form : HasForm l (whole + extra) whole (λ p. l.zero)
    nothing-form = (
      (λ x. l.zero),
      (λ x. l.zero),
      nothing laws (whole + extra),
      nothing laws whole,
      λ p on. ring laws.ring (p.y ∷ []) (con 0) (sum (con 0) (prod (var 0) (con 0))) refl,
    )

    pub together-form : (js : List ℕ) (ds : List (Coordinates E → E)) →
        AllByRecursion (λ i. i < length xs) js →
        AllByRecursion (λ d. HasForm l (size + extra) size d) ds →
        HasForm l (whole + extra) whole (together js ds)
    together-form [] ds below all =
        form-same laws (whole + extra) whole (λ p. l.zero) (together [] ds) nothing-form
        (λ p on. ring laws.ring (x_at p ∷ []) (prod (var 0) (con 0)) (con 0) refl)
    together-form (i ∷ js) [] below all =
        form-same laws (whole + extra) whole (λ p. l.zero) (together (i ∷ js) []) nothing-form
        (λ p on. ring laws.ring (x_at p ∷ []) (prod (var 0) (con 0)) (con 0) refl)
    together-form (i ∷ js) (d ∷ ds) below all =
        let first = λ (p : Coordinates E).
        l.mul (l.mul (x_at p) (part_factor l xs i (x_at p))) (d p) in
        form-same laws (whole + extra) whole
        (λ p. l.add (l.mul l.one (first p)) (l.mul l.one (together js ds p)))
        (together (i ∷ js) (d ∷ ds))
        (form-combined laws (whole + extra) whole l.one l.one first (together js ds)
        (one_more i below.0 d all.0) (together-form js ds below.1 all.1))
        (λ p on.
        ring laws.ring (x_at p ∷ part_factor l xs i (x_at p) ∷ d p
        ∷ dot l (map (λ i. part_factor l xs i (x_at p)) js) (map (λ d. d p) ds) ∷ [])
        (prod (var 0) (sum (prod (var 1) (var 2)) (var 3)))
        (sum (prod unit (prod (prod (var 0) (var 1)) (var 2)))
        (prod unit (prod (var 0) (var 3)))) refl)
