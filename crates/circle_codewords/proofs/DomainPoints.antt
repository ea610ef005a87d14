-- The points of a domain in the transform's order.
use Rattle.std.specs.Prelude.{◌≡◌, ℕ, ◌+◌, ◌-◌, ◌<◌, ◌≤◌, List, [], ◌∷◌, ◌++◌, map, take, length}
use Rattle.std.specs.Prelude.{All, slice_index_or}
use Rattle.std.proofs.Common.{zero, suc, refl, sym, ◌∙◌, ap, arith}
use Rattle.std.proofs.lemmas.List.{map_more}
use Rattle.std.proofs.lemmas.List.Elements.{All-nil, All-cons, All-append}
use Rattle.circle_field.specs.Field.{FieldOps, IsEmbedding, RingLaws}
use Rattle.circle_field.specs.Circle.{Coordinates, AreGenerators, IsOnCircle, lifted, opposite}
use Rattle.circle_field.specs.Circle.{plus}
use Rattle.circle_field.specs.CircleGroup.{lifted-on_circle, opposite-on_circle, plus-on_circle}
use Rattle.circle_point.specs.Point.{coordinates}
use Rattle.circle_point.specs.declared.point.Point.{Point}
use Rattle.circle_domain.specs.Order.{with_opposites, coset, cfft_order}

module _ {F : Type 0} (k : FieldOps F) where
  opposites-append : (xs : List (Coordinates F)) (q : Coordinates F) →
      with_opposites k (xs ++ q ∷ []) ≡ (with_opposites k xs ++ q ∷ []) ++ opposite k q ∷ []
  opposites-append [] q = refl
  opposites-append (x ∷ xs) q = ap (λ rest. x ∷ opposite k x ∷ rest) (opposites-append xs q)

  -- one more point and its opposite
  pub opposites-more : {T : Type 0} (f : T → Coordinates F) (xs : List T) (i : ℕ) (x : T)
      (old new : List (Coordinates F)) (p o : Coordinates F) →
      i < length xs → x ≡ slice_index_or xs i x → new ≡ (old ++ p ∷ []) ++ o ∷ [] →
      old ≡ with_opposites k (map f (take i xs)) → p ≡ f x → o ≡ opposite k (f x) →
      new ≡ with_opposites k (map f (take (i + 1) xs))
  opposites-more f xs i x old new p o lt is pushed before first second =
      pushed ∙ ap (λ ys. (ys ++ p ∷ []) ++ o ∷ []) before
      ∙ ap (λ y. (with_opposites k (map f (take i xs)) ++ y ∷ []) ++ o ∷ []) (first ∙ ap f is)
      ∙ ap (λ y. (with_opposites k (map f (take i xs)) ++ f (slice_index_or xs i x) ∷ []) ++ y ∷ [])
      (second ∙ ap (λ y. opposite k (f y)) is)
      ∙ sym (opposites-append (map f (take i xs)) (f (slice_index_or xs i x)))
      ∙ ap (with_opposites k) (sym (map_more f xs i x lt))

  module _ (laws : RingLaws k) {gen : ℕ → Coordinates F} {bits : ℕ}
      (gens : AreGenerators k bits gen) where
    coset-on : (m : ℕ) (q : Coordinates F) → m ≤ bits → IsOnCircle k q →
        All (IsOnCircle k) (coset k gen m q)
    coset-on zero q le on = All-cons (IsOnCircle k) q [] on (All-nil (IsOnCircle k))
    coset-on (suc m) q le on =
        All-append (IsOnCircle k) (coset k gen m q) (coset k gen m (plus k q (gen (suc m))))
        (coset-on m q (omega (arith, le)) on)
        (coset-on m (plus k q (gen (suc m))) (omega (arith, le))
        (plus-on_circle laws q (gen (suc m)) on (gens.on_circle (suc m) le)))

    opposites-on : (xs : List (Coordinates F)) → All (IsOnCircle k) xs →
        All (IsOnCircle k) (with_opposites k xs)
    opposites-on [] on = All-nil (IsOnCircle k)
    opposites-on (x ∷ xs) on =
        All-cons (IsOnCircle k) x (opposite k x ∷ with_opposites k xs) (on 0 x (omega arith))
        (All-cons (IsOnCircle k) (opposite k x) (with_opposites k xs)
        (opposite-on_circle laws x (on 0 x (omega arith)))
        (opposites-on xs (λ i d lt. on (suc i) d (omega (arith, lt)))))

    pub order-on : (n : ℕ) (s : Coordinates F) → n ≤ suc bits → 1 ≤ n → IsOnCircle k s →
        All (IsOnCircle k) (cfft_order k gen n s)
    order-on n s le positive on =
        opposites-on (coset k gen (n - 1) s) (coset-on (n - 1) s (omega (arith, le, positive)) on)

module _ {F E : Type 0} {k : FieldOps F} {l : FieldOps E} {embed : F → E}
    (embedding : IsEmbedding k l embed) where
  pub lifted-on : (xs : List (Coordinates F)) → All (IsOnCircle k) xs →
      All (λ x. IsOnCircle l (lifted embed x)) xs
  lifted-on xs on = λ i d lt. lifted-on_circle embedding (slice_index_or xs i d) (on i d lt)

  pub points-on : {g : _} → ((p : Point F g) → IsOnCircle k (coordinates p)) →
      (ps : List (Point F g)) → All (λ x. IsOnCircle l (lifted embed x)) (map coordinates ps)
  points-on each [] = All-nil (λ x. IsOnCircle l (lifted embed x))
  points-on each (p ∷ ps) =
      All-cons (λ x. IsOnCircle l (lifted embed x)) (coordinates p) (map coordinates ps)
      (lifted-on_circle embedding (coordinates p) (each p)) (points-on each ps)
