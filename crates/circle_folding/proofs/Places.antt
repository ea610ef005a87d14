-- The places of queries in codewords of different lengths, and the points there.
use Rattle.std.specs.Prelude.{◌≡◌, ℕ, ◌+◌, ◌-◌, ◌/◌, ◌^◌, ◌<◌, ◌≤◌, Some, slice_get, slice_index_or}
use Rattle.std.proofs.Common.{suc, sym, ◌∙◌, ap, arith}
use Rattle.std.proofs.Math.Pow.{shr_lt}
use Rattle.std.proofs.lemmas.Option.{get_or_from_slice_get}
use Rattle.circle_field.specs.Field.{FieldOps, RingLaws}
use Rattle.circle_field.specs.Circle.{Coordinates, AreGenerators}
use Rattle.circle_domain.specs.Order.{cfft_order, natural_order}
use Rattle.circle_domain.specs.Ordering.{cfft_index}
use Rattle.circle_domain.proofs.CosetOrder.{cfft-place}

-- a query without its lowest bits
pub place-below : (q low high : ℕ) → low ≤ high → q < 2 ^ high → q / 2 ^ (high - low) < 2 ^ low
place-below q low high le lt =
    let e : 2 ^ high ≡ 2 ^ (low + (high - low)) = ap (λ n. 2 ^ n) (omega (arith, le)) in
    shr_lt low (high - low) (omega (arith, lt, e))

module _ {F : Type 0} {k : FieldOps F} (laws : RingLaws k) {gen : ℕ → Coordinates F} {bits : ℕ}
    (gens : AreGenerators k bits gen) where
  -- the point that is computed for a place of the transform's order
  pub point-at : (h n place index : ℕ) (s p d : Coordinates F) → 1 ≤ h → h ≤ suc bits →
      place < 2 ^ h → n ≡ h → s ≡ gen (h + 1) → index ≡ cfft_index h place →
      slice_get (natural_order k gen n s) index ≡ Some p →
      p ≡ slice_index_or (cfft_order k gen h (gen (h + 1))) place d
  point-at h n place index s p d positive fits lt size shift is here =
      let e : suc (h - 1) ≡ h = omega (arith, positive) in
      sym (get_or_from_slice_get (natural_order k gen n s) index p d here)
      ∙ ap (λ i. slice_index_or (natural_order k gen n s) i d)
      (is ∙ ap (λ m. cfft_index m place) (sym e))
      ∙ ap (λ m. slice_index_or (natural_order k gen m s) (cfft_index (suc (h - 1)) place) d) size
      ∙ ap (λ q. slice_index_or (natural_order k gen h q) (cfft_index (suc (h - 1)) place) d) shift
      ∙ sym
      (cfft-place laws gens (h - 1) place (gen (h + 1)) d (let l : place < 2 ^ suc (h - 1) =
      omega (arith, lt, ap (λ m. 2 ^ m) e) in l) (omega (arith, fits)))
