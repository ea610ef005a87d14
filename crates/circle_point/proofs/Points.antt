-- When two points are one.
use Rattle.std.specs.Prelude.{◌≡◌, ◌↔◌, Bool, true, false, not, ◌&&◌}
use Rattle.std.proofs.Common.{ap, subst, sym, refl, ◌∙◌}
use Rattle.std.proofs.lemmas.Bool.{false≢true}
use Rattle.circle_field.specs.Circle.{Coordinates, IsOnCircle, at}
use Rattle.circle_field.specs.CircleGroup.{same_coordinates}
use Rattle.circle_point.specs.declared.point.Point.{Point}

-- points with the same coordinates are the same
pub same_point : {F : Type 0} {g : _} → IsSet F → (p q : Point F g) → p.x ≡ q.x → p.y ≡ q.y → p ≡ q
same_point {F} {g} set p q ex ey =
    let P : F → F → Type 0 = λ x y. IsOnCircle g.ops (at x y) in
    let make : (x y : F) → P x y → Point F g = λ x y h. record { x = x; y = y; on_circle = h } in
    subst (λ x. (h : P x q.y) → p ≡ make x q.y h) ex
    (subst (λ y. (h : P p.x y) → p ≡ make p.x y h) ey
    (λ h. ap (make p.x p.y) (set _ _ p.on_circle h)))
    q.on_circle

-- `!=` on coordinates
pub different_coordinates : {F : Type 0} (eq : F → F → Bool) →
    ((a b : F) → (eq a b ≡ true) ↔ (a ≡ b)) → (p q : Coordinates F) →
    (not (eq p.x q.x && eq p.y q.y) ≡ true) ↔ (p ≡ q → ⊥)
different_coordinates eq law p q =
    let go : (b c : Bool) → eq p.x q.x ≡ b → eq p.y q.y ≡ c → (not (b && c) ≡ true) ↔ (p ≡ q → ⊥) =
    elim [
      | true ↦ elim [
        | true ↦ λ ex ey.
            let same : p ≡ q = same_coordinates ((law p.x q.x).0 ex) ((law p.y q.y).0 ey) in
            (λ h. absurd (false≢true h), λ h. absurd (h same))
        | false ↦ λ ex ey. (
          λ h same. false≢true (sym ey ∙ (law p.y q.y).1 (ap (λ (r : Coordinates _). r.y) same)),
          λ h. refl,
        )
      ]
      | false ↦ λ c ex ey. (
        λ h same. false≢true (sym ex ∙ (law p.x q.x).1 (ap (λ (r : Coordinates _). r.x) same)),
        λ h. refl,
      )
    ] in
    go (eq p.x q.x) (eq p.y q.y) refl refl
