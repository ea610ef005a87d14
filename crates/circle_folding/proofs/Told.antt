-- Values at the points of a block determine the coefficients.
use Rattle.std.specs.Prelude.{◌≡◌, ◌≢◌, ℕ, ◌^◌, ◌≤◌, List, [], ◌∷◌, length, map}
use Rattle.std.proofs.Common.{suc, sym, ◌∙◌, ap, refl, arith}
use Rattle.std.proofs.Math.Nat.{pow-suc}
use Rattle.circle_field.specs.Field.{FieldOps, FieldLaws, IsEmbedding}
use Rattle.circle_field.specs.Circle.{Coordinates, IsOnCircle, AreGenerators, lifted, origin, times}
use Rattle.circle_field.specs.CircleGroup.{lifted-on_circle}
use Rattle.circle_point.specs.Basis.{value, x_value}
use Rattle.circle_domain.specs.Order.{coset, with_opposites}
use Rattle.circle_domain.specs.Layers.{every_second}
use Rattle.circle_domain.proofs.Blocks.{points}
use Rattle.circle_domain.proofs.Inversion.{finish-injective}
use Rattle.circle_domain.proofs.Lifted.{lifted-points, lifted-generators, lifted-times}
use Rattle.circle_domain.proofs.Lifted.{lifted-origin, lifted-injective}
use Rattle.circle_domain.proofs.Transform.{finish, finish-value}
use Rattle.circle_domain.proofs.Twiddles.{map-map}
use Rattle.circle_folding.proofs.Factors.{points-opposites}
use Rattle.circle_folding.proofs.Halves.{with_zeros, length-with_zeros, value-with_zeros}

-- each entry twice
abbrev twice : {T : Type 0} → List T → List T
twice [] = []
twice (x ∷ xs) = x ∷ x ∷ twice xs

module _ {F : Type 0} (k : FieldOps F) where
  map-opposites : {T : Type 0} (h : F → T) (ps : List (Coordinates F)) →
      map (λ p. h p.x) (with_opposites k ps) ≡ twice (map (λ p. h p.x) ps)
  map-opposites h [] = refl
  map-opposites h (p ∷ ps) = ap (λ rest. h p.x ∷ h p.x ∷ rest) (map-opposites h ps)

  every_second-with_zeros : (cs : List F) → every_second (with_zeros k cs) ≡ cs
  every_second-with_zeros [] = refl
  every_second-with_zeros (c ∷ cs) = ap (λ rest. c ∷ rest) (every_second-with_zeros cs)

pub map-alike : {X Y : Type 0} (f h : X → Y) (xs : List X) → ((x : X) → f x ≡ h x) →
    map f xs ≡ map h xs
map-alike f h [] e = refl
map-alike f h (x ∷ xs) e = ap (λ y. y ∷ map f xs) (e x) ∙ ap (λ ys. h x ∷ ys) (map-alike f h xs e)

module _ {F E : Type 0} {k : FieldOps F} {l : FieldOps E} {embed : F → E} (laws : FieldLaws l)
    (e : IsEmbedding k l embed)
    {gen : ℕ → Coordinates F} {bits : ℕ} (gens : AreGenerators k bits gen) where
  -- the values at a block's points and their opposites, by the circle's basis
  doubled-values : (m : ℕ) (q : Coordinates F) (c : List E) → length c ≡ 2 ^ m → m ≤ bits →
      IsOnCircle k q →
      finish l (λ n. lifted embed (gen n)) (suc m) (lifted embed q) (with_zeros l c)
      ≡ twice (map (λ p. x_value l c (embed p.x)) (coset k gen m q))
  doubled-values m q c long fits on_circle =
      let lgen : ℕ → Coordinates E = λ n. lifted embed (gen n) in
      let doubled : length (with_zeros l c) ≡ 2 ^ suc m =
      omega (arith, length-with_zeros l c, long, pow-suc 2 m) in
      finish-value laws.ring (lifted-generators e gens) (suc m) (lifted embed q) (with_zeros l c)
      doubled (omega (arith, fits)) (lifted-on_circle e q on_circle)
      ∙ ap (map (value l (with_zeros l c))) (sym (lifted-points e gen (suc m) q))
      ∙ map-map (value l (with_zeros l c)) (lifted embed) (points k gen (suc m) q)
      ∙ map-alike (λ p. value l (with_zeros l c) (lifted embed p)) (λ p. x_value l c (embed p.x))
      (points k gen (suc m) q) (λ p. value-with_zeros laws.ring c (lifted embed p))
      ∙ ap (map (λ p. x_value l c (embed p.x))) (points-opposites k gen m q)
      ∙ map-opposites k (λ x. x_value l c (embed x)) (coset k gen m q)

  pub x_values-injective : (m : ℕ) (q : Coordinates F) (c d : List E) → length c ≡ 2 ^ m →
      length d ≡ 2 ^ m → m ≤ bits → IsOnCircle k q →
      times k (2 ^ suc m) q ≢ origin k → map (λ p. x_value l c (embed p.x)) (coset k gen m q)
      ≡ map (λ p. x_value l d (embed p.x)) (coset k gen m q) → c ≡ d
  x_values-injective m q c d lc ld fits on_circle h same =
      let doubled : (b : List E) → length b ≡ 2 ^ m → length (with_zeros l b) ≡ 2 ^ suc m =
      λ b long. omega (arith, length-with_zeros l b, long, pow-suc 2 m) in
      let genuine : times l (2 ^ suc m) (lifted embed q) ≢ origin l =
      λ bad. h
      (lifted-injective e (times k (2 ^ suc m) q) (origin k) (lifted-times e (2 ^ suc m) q ∙ bad
      ∙ sym (lifted-origin e))) in
      let zeros : with_zeros l c ≡ with_zeros l d =
      finish-injective laws (lifted-generators e gens) (suc m) (lifted embed q) (with_zeros l c)
      (with_zeros l d) (doubled c lc) (doubled d ld) (omega (arith, fits))
      (lifted-on_circle e q on_circle) genuine
      (doubled-values m q c lc fits on_circle ∙ ap twice same
      ∙ sym (doubled-values m q d ld fits on_circle)) in
      sym (every_second-with_zeros l c) ∙ ap every_second zeros ∙ every_second-with_zeros l d
