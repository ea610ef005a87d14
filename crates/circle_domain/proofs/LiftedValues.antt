-- Values of polynomials over a field, in a larger field.
use Rattle.std.specs.Prelude.{◌≡◌, ℕ, ◌/◌, ◌%◌, ◌^◌, List, [], ◌∷◌, ◌++◌, map}
use Rattle.std.proofs.Common.{zero, suc, ◌∙◌, ap, refl}
use Rattle.std.proofs.lemmas.List.{map-append}
use Rattle.circle_field.specs.Field.{FieldOps, IsEmbedding}
use Rattle.circle_field.specs.Circle.{Coordinates, plus, opposite, lifted}
use Rattle.circle_point.specs.Basis.{iterated_x, bit_factor, low_bits_product, x_basis}
use Rattle.circle_point.specs.Basis.{circle_basis, weighted_sum, value}
use Rattle.circle_domain.specs.Order.{coset, with_opposites}
use Rattle.circle_domain.proofs.Lifted.{lifted-plus, lifted-opposite, lifted-iterated_x}

module _ {F E : Type 0} {k : FieldOps F} {l : FieldOps E} {m : F → E} (e : IsEmbedding k l m) where
  lifted-bit_factor : (b : ℕ) (a : F) → m (bit_factor k b a) ≡ bit_factor l b (m a)
  lifted-bit_factor zero a = e.one
  lifted-bit_factor (suc b) a = refl

  lifted-low_bits : (bits j : ℕ) (x : F) → m (low_bits_product k bits j x)
      ≡ low_bits_product l bits j (m x)
  lifted-low_bits zero j x = e.one
  lifted-low_bits (suc bits) j x =
      e.mul (low_bits_product k bits j x) (bit_factor k (j / 2 ^ bits % 2) (iterated_x k bits x))
      ∙ ap (λ v. l.mul v (m (bit_factor k (j / 2 ^ bits % 2) (iterated_x k bits x))))
      (lifted-low_bits bits j x)
      ∙ ap (l.mul (low_bits_product l bits j (m x)))
      (lifted-bit_factor (j / 2 ^ bits % 2) (iterated_x k bits x)
      ∙ ap (bit_factor l (j / 2 ^ bits % 2)) (lifted-iterated_x e bits x))

  lifted-circle_basis : (j : ℕ) (p : Coordinates F) → m (circle_basis k j p)
      ≡ circle_basis l j (lifted m p)
  lifted-circle_basis j p =
      e.mul (x_basis k (j / 2) p.x) (bit_factor k (j % 2) p.y)
      ∙ ap (λ v. l.mul v (m (bit_factor k (j % 2) p.y))) (lifted-low_bits (j / 2) (j / 2) p.x)
      ∙ ap (l.mul (x_basis l (j / 2) (m p.x))) (lifted-bit_factor (j % 2) p.y)

  lifted-weighted_sum : (f : ℕ → F) (h : ℕ → E) → ((j : ℕ) → m (f j) ≡ h j) → (j : ℕ) (c : List F) →
      m (weighted_sum k f j c) ≡ weighted_sum l h j (map m c)
  lifted-weighted_sum f h same j [] = e.zero
  lifted-weighted_sum f h same j (c ∷ cs) =
      e.add (k.mul c (f j)) (weighted_sum k f (suc j) cs)
      ∙ ap (λ v. l.add v (m (weighted_sum k f (suc j) cs)))
      (e.mul c (f j) ∙ ap (l.mul (m c)) (same j))
      ∙ ap (l.add (l.mul (m c) (h j))) (lifted-weighted_sum f h same (suc j) cs)

  pub lifted-value : (c : List F) (p : Coordinates F) → m (value k c p)
      ≡ value l (map m c) (lifted m p)
  lifted-value c p =
      lifted-weighted_sum (λ j. circle_basis k j p) (λ j. circle_basis l j (lifted m p))
      (λ j. lifted-circle_basis j p) 0 c

  pub lifted-values : (c : List F) (ps : List (Coordinates F)) → map m (map (value k c) ps)
      ≡ map (value l (map m c)) (map (lifted m) ps)
  lifted-values c [] = refl
  lifted-values c (p ∷ ps) = ap (λ v. v ∷ map m (map (value k c) ps)) (lifted-value c p)
      ∙ ap (λ vs. value l (map m c) (lifted m p) ∷ vs) (lifted-values c ps)

  pub lifted-coset : (gen : ℕ → Coordinates F) (n : ℕ) (s : Coordinates F) →
      map (lifted m) (coset k gen n s) ≡ coset l (λ i. lifted m (gen i)) n (lifted m s)
  lifted-coset gen zero s = refl
  lifted-coset gen (suc n) s =
      let up : ℕ → Coordinates E = λ i. lifted m (gen i) in
      map-append (lifted m) (coset k gen n s) (coset k gen n (plus k s (gen (suc n))))
      ∙ ap (λ xs. xs ++ map (lifted m) (coset k gen n (plus k s (gen (suc n)))))
      (lifted-coset gen n s)
      ∙ ap (λ ys. coset l up n (lifted m s) ++ ys) (lifted-coset gen n (plus k s (gen (suc n)))
      ∙ ap (coset l up n) (lifted-plus e s (gen (suc n))))

  pub lifted-with_opposites : (ps : List (Coordinates F)) → map (lifted m) (with_opposites k ps)
      ≡ with_opposites l (map (lifted m) ps)
  lifted-with_opposites [] = refl
  lifted-with_opposites (p ∷ ps) =
      ap (λ o. lifted m p ∷ o ∷ map (lifted m) (with_opposites k ps)) (lifted-opposite e p)
      ∙ ap (λ rest. lifted m p ∷ opposite l (lifted m p) ∷ rest) (lifted-with_opposites ps)
