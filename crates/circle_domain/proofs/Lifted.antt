-- Points, generators and vanishing polynomials in a larger field.
use Rattle.std.specs.Prelude.{◌≡◌, ◌≢◌, ℕ, ◌-◌, ◌++◌, map}
use Rattle.std.proofs.Common.{zero, suc, sym, ◌∙◌, ap, refl}
use Rattle.std.proofs.lemmas.List.{map-append}
use Rattle.circle_field.specs.Field.{FieldOps, FieldLaws, IsEmbedding, nth_power, two, sub}
use Rattle.circle_field.specs.Circle.{Coordinates, AreGenerators, at, plus, opposite, origin, times}
use Rattle.circle_field.specs.Circle.{lifted}
use Rattle.circle_field.specs.CircleGroup.{same_coordinates, lifted-on_circle}
use Rattle.circle_point.specs.Basis.{doubled_x, iterated_x, vanishing}
use Rattle.circle_domain.specs.Layers.{factor, second_half}
use Rattle.circle_domain.proofs.Blocks.{points}

module _ {F E : Type 0} {k : FieldOps F} {l : FieldOps E} {m : F → E} (e : IsEmbedding k l m) where
  pub lifted-plus : (p q : Coordinates F) → lifted m (plus k p q) ≡ plus l (lifted m p) (lifted m q)
  lifted-plus p q =
      same_coordinates
      (e.add (k.mul p.x q.x) (k.neg (k.mul p.y q.y))
      ∙ ap (λ v. l.add v (m (k.neg (k.mul p.y q.y)))) (e.mul p.x q.x)
      ∙ ap (l.add (l.mul (m p.x) (m q.x))) (e.neg (k.mul p.y q.y) ∙ ap l.neg (e.mul p.y q.y)))
      (e.add (k.mul p.x q.y) (k.mul p.y q.x)
      ∙ ap (λ v. l.add v (m (k.mul p.y q.x))) (e.mul p.x q.y)
      ∙ ap (l.add (l.mul (m p.x) (m q.y))) (e.mul p.y q.x))

  pub lifted-opposite : (p : Coordinates F) → lifted m (opposite k p) ≡ opposite l (lifted m p)
  lifted-opposite p = same_coordinates refl (e.neg p.y)

  pub lifted-origin : lifted m (origin k) ≡ origin l
  lifted-origin = same_coordinates e.one e.zero

  pub lifted-half_turn : lifted m (at (k.neg k.one) k.zero) ≡ at (l.neg l.one) l.zero
  lifted-half_turn = same_coordinates (e.neg k.one ∙ ap l.neg e.one) e.zero

  pub lifted-times : (n : ℕ) (p : Coordinates F) → lifted m (times k n p) ≡ times l n (lifted m p)
  lifted-times zero p = lifted-origin
  lifted-times (suc n) p = lifted-plus p (times k n p) ∙ ap (plus l (lifted m p)) (lifted-times n p)

  -- an embedding maps different points to different points
  pub lifted-injective : (p q : Coordinates F) → lifted m p ≡ lifted m q → p ≡ q
  lifted-injective p q h =
      same_coordinates (e.injective p.x q.x (ap (λ (r : Coordinates E). r.x) h))
      (e.injective p.y q.y (ap (λ (r : Coordinates E). r.y) h))

  -- generators stay generators
  pub lifted-generators : {bits : ℕ} {gen : ℕ → Coordinates F} → AreGenerators k bits gen →
      AreGenerators l bits (λ n. lifted m (gen n))
  lifted-generators {gen = gen} gens = record {
    on_circle = λ n h. lifted-on_circle e (gen n) (gens.on_circle n h);
    doubled = λ n h. sym (lifted-plus (gen (suc n)) (gen (suc n)))
        ∙ ap (lifted m) (gens.doubled n h);
    half_turn = ap (lifted m) gens.half_turn ∙ lifted-half_turn;
    neutral = ap (lifted m) gens.neutral ∙ lifted-origin;
  }

  pub lifted-second_half : (gen : ℕ → Coordinates F) (n : ℕ) (q : Coordinates F) →
      lifted m (second_half k gen n q) ≡ second_half l (λ i. lifted m (gen i)) n (lifted m q)
  lifted-second_half gen zero q = lifted-opposite q
  lifted-second_half gen (suc n) q = lifted-plus q (gen (suc n))

  -- the points of a block
  pub lifted-points : (gen : ℕ → Coordinates F) (n : ℕ) (q : Coordinates F) →
      map (lifted m) (points k gen n q) ≡ points l (λ i. lifted m (gen i)) n (lifted m q)
  lifted-points gen zero q = refl
  lifted-points gen (suc n) q =
      let lgen : ℕ → Coordinates E = λ i. lifted m (gen i) in
      map-append (lifted m) (points k gen n q) (points k gen n (second_half k gen n q))
      ∙ ap (λ xs. xs ++ map (lifted m) (points k gen n (second_half k gen n q)))
      (lifted-points gen n q)
      ∙ ap (λ ys. points l lgen n (lifted m q) ++ ys) (lifted-points gen n (second_half k gen n q)
      ∙ ap (points l lgen n) (lifted-second_half gen n q))

  pub lifted-doubled_x : (x : F) → m (doubled_x k x) ≡ doubled_x l (m x)
  lifted-doubled_x x =
      e.add (k.add (k.mul x x) (k.mul x x)) (k.neg k.one)
      ∙ ap (λ v. l.add v (m (k.neg k.one)))
      (e.add (k.mul x x) (k.mul x x) ∙ ap (λ v. l.add v v) (e.mul x x))
      ∙ ap (l.add (l.add (l.mul (m x) (m x)) (l.mul (m x) (m x)))) (e.neg k.one ∙ ap l.neg e.one)

  pub lifted-iterated_x : (n : ℕ) (x : F) → m (iterated_x k n x) ≡ iterated_x l n (m x)
  lifted-iterated_x zero x = refl
  lifted-iterated_x (suc n) x = lifted-iterated_x n (doubled_x k x)
      ∙ ap (iterated_x l n) (lifted-doubled_x x)

  pub lifted-vanishing : (n : ℕ) (p : Coordinates F) → m (vanishing k n p)
      ≡ vanishing l n (lifted m p)
  lifted-vanishing n p = lifted-iterated_x (n - 1) p.x

  pub lifted-factor : (n : ℕ) (p : Coordinates F) → m (factor k n p) ≡ factor l n (lifted m p)
  lifted-factor zero p = refl
  lifted-factor (suc n) p = lifted-iterated_x n p.x

  pub lifted-two : m (two k) ≡ two l
  lifted-two = e.add k.one k.one ∙ ap (λ v. l.add v v) e.one

  pub lifted-inverse : FieldLaws k → (a : F) → a ≢ k.zero → l.mul (m (k.inv a)) (m a) ≡ l.one
  lifted-inverse laws a h = sym (e.mul (k.inv a) a)
      ∙ ap m (laws.ring.mul_comm (k.inv a) a ∙ laws.mul_inv a h) ∙ e.one

  pub lifted-nth_power : (n : ℕ) (a : F) → m (nth_power k a n) ≡ nth_power l (m a) n
  lifted-nth_power zero a = e.one
  lifted-nth_power (suc n) a = e.mul a (nth_power k a n) ∙ ap (l.mul (m a)) (lifted-nth_power n a)
