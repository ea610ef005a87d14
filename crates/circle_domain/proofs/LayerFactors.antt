-- The factors of a layer of a genuine domain are not 0.
use Rattle.std.specs.Prelude.{◌≢◌, ℕ, ◌+◌, ◌-◌, ◌^◌, ◌<◌, ◌≤◌}
use Rattle.std.specs.List.{AllByRecursion}
use Rattle.std.proofs.Common.{suc, sym, arith, subst, ◌≡◌}
use Rattle.circle_field.specs.Field.{FieldOps, FieldLaws}
use Rattle.circle_field.specs.Circle.{Coordinates, IsOnCircle, AreGenerators, times, origin}
use Rattle.circle_domain.specs.Layers.{layer_factors}
use Rattle.circle_domain.proofs.Layering.{factors-nonzero}

module _ {F : Type 0} {k : FieldOps F} (laws : FieldLaws k) {gen : ℕ → Coordinates F} {bits : ℕ}
    (gens : AreGenerators k bits gen) (n : ℕ) (s : Coordinates F)
    (fits : n ≤ bits) (on_circle : IsOnCircle k s) (genuine : times k (2 ^ n) s ≢ origin k) where
  pub layer_factors-nonzero : (m : ℕ) → m < n →
      AllByRecursion (λ t. t ≢ k.zero) (layer_factors k gen n s m)
  layer_factors-nonzero m lt =
      let e : suc (n - (m + 1) + m) ≡ n = omega arith in
      factors-nonzero laws gens (n - (m + 1)) m s (omega (arith, fits)) on_circle
      (subst (λ i. times k (2 ^ i) s ≢ origin k) (sym e) genuine)
