-- The lengths of what the blocks give.
use Rattle.std.specs.Prelude.{◌≡◌, ℕ, ◌+◌, ◌-◌, ◌^◌, List, [], ◌∷◌, length, take, drop}
use Rattle.std.proofs.Common.{zero, suc, sym, ◌∙◌, arith, length-append, length-drop}
use Rattle.std.proofs.Math.Nat.{pow-suc}
use Rattle.circle_field.specs.Field.{FieldOps, sub}
use Rattle.circle_commit.specs.DotProduct.{pairwise}
use Rattle.circle_domain.proofs.Transform.{first-long}
use Rattle.circle_commit.proofs.Written.{length-pairwise}
use Rattle.circle_folding.specs.Interpolation.{multiples}

module _ {F E : Type 0} (l : FieldOps E) (embed : F → E) where
  pub length-multiples : (m : ℕ) (is : List F) (ws : List E) → length ws ≡ 2 ^ m →
      length (multiples l embed m is ws) ≡ 2 ^ m
  length-multiples zero is ws e = e
  length-multiples (suc m) [] ws e = e
  length-multiples (suc m) (i ∷ is) ws e =
      let h = 2 ^ m in
      let d : 2 ^ suc m ≡ h + h = omega (arith, pow-suc 2 m) in
      let a = multiples l embed m (take (h - 1) is) (take h ws) in
      let b = multiples l embed m (drop (h - 1) is) (drop h ws) in
      let la : length a ≡ h =
      length-multiples m (take (h - 1) is) (take h ws) (first-long h (2 ^ suc m) ws e d) in
      let lb : length b ≡ h =
      length-multiples m (drop (h - 1) is) (drop h ws)
      (omega (arith, length-drop h ws, e, d)) in
      length-append (pairwise l.add a b) (pairwise (λ x y. l.mul (embed i) (sub l x y)) a b)
      ∙ omega (
        arith,
        length-pairwise l.add a b (la ∙ sym lb),
        length-pairwise (λ x y. l.mul (embed i) (sub l x y)) a b (la ∙ sym lb),
        la,
        d,
      )
