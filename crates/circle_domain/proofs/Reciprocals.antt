-- What the selectors divide by.
use Rattle.std.specs.Prelude.{◌≡◌, ◌≢◌, ℕ, ◌+◌, ◌-◌, ◌^◌, ◌≤◌, max, [], ◌∷◌, Some, slice_get}
use Rattle.std.proofs.Common.{zero, suc, sym, ◌∙◌, ap, subst, refl, arith}
use Rattle.std.proofs.lemmas.Nat.{pow_pos}
use Rattle.std.proofs.lemmas.Option.{slice_get_within, get_or_from_slice_get}
use Rattle.circle_field.specs.Field.{FieldOps, FieldLaws, IsEmbedding, nth_power, two}
use Rattle.circle_field.specs.Ring.{Expr, var, con, unit, plus as sum, times as prod, minus}
use Rattle.circle_field.specs.RingSound.{ring}
use Rattle.circle_field.specs.RingCombine.{given, combine}
use Rattle.circle_field.specs.RingFacts.{neg_zero_cancel, neg_zero, neg_neg, neg_unique}
use Rattle.circle_field.specs.Circle.{Coordinates, IsOnCircle, AreGenerators, plus, opposite}
use Rattle.circle_field.specs.Circle.{origin, times, lifted}
use Rattle.circle_field.specs.CircleGroup.{plus-origin, same_coordinates}
use Rattle.circle_field.proofs.Inverses.{nonzero_product, inverse_unique, one_nonzero}
use Rattle.circle_point.specs.Basis.{doubled_x, vanishing}
use Rattle.circle_point.specs.Projective.{to_line}
use Rattle.circle_point.proofs.Multiples.{times-+, times-on_circle}
use Rattle.circle_domain.specs.Clear.{IsClearOf}
use Rattle.circle_domain.specs.Order.{IsGenuine, natural_order}
use Rattle.circle_domain.specs.Selectors.{normaliser, vanishing_on}
use Rattle.circle_domain.proofs.Blocks.{times-generator}
use Rattle.circle_domain.proofs.ClearOf.{clear-of}
use Rattle.circle_domain.proofs.CosetOrder.{opposite-plus}
use Rattle.circle_domain.proofs.Lifted.{lifted-inverse, lifted-opposite, lifted-times}
use Rattle.circle_domain.proofs.Lifted.{lifted-vanishing, lifted-nth_power, lifted-two}
use Rattle.circle_domain.proofs.Orders.{natural_from-even, natural_from-odd, two_halves}

module _ {F : Type 0} {k : FieldOps F} (laws : FieldLaws k) where
  -- 1 / (y / (x + 1)) = (x + 1) / y, where y is not 0
  pub reciprocal : (d : Coordinates F) → IsOnCircle k d → d.y ≢ k.zero →
      k.mul (k.add d.x k.one) (k.inv d.y) ≡ k.inv (to_line k d)
  reciprocal d c h =
      let x : Expr = var 0 in let y : Expr = var 1 in let i : Expr = var 2 in let j : Expr =
      var 3 in
      let next : k.add d.x k.one ≢ k.zero = λ z.
      let e : d.x ≡ k.neg k.one =
      neg_unique laws.ring k.one d.x (laws.ring.add_comm k.one d.x ∙ z) in
      nonzero_product laws d.y d.y h h
      (combine laws.ring (d.x ∷ d.y ∷ []) (prod y y) (con 0)
      (given unit (sum (prod x x) (prod y y)) unit
      ∷ given (minus (sum x (minus unit))) x (minus unit) ∷ []) refl (c, (e, tt))) in
      let given_y = laws.mul_inv d.y h in
      let given_next = laws.mul_inv (k.add d.x k.one) next in
      let whole : k.mul (k.mul (k.add d.x k.one) (k.inv d.y)) (to_line k d) ≡ k.one =
      combine laws.ring (d.x ∷ d.y ∷ k.inv d.y ∷ k.inv (k.add d.x k.one) ∷ [])
      (prod (prod (sum x unit) i) (prod y j)) unit
      (given (prod (sum x unit) j) (prod y i) unit ∷ given unit (prod (sum x unit) j) unit ∷ [])
      refl (given_y, (given_next, tt)) in
      inverse_unique laws (to_line k d) (k.mul (k.add d.x k.one) (k.inv d.y))
      (λ z. one_nonzero laws (sym whole ∙ ap (k.mul (k.mul (k.add d.x k.one) (k.inv d.y))) z
      ∙ ring laws.ring (k.mul (k.add d.x k.one) (k.inv d.y) ∷ []) (prod (var 0) (con 0)) (con 0)
      refl)) whole

  opposite-times : (n : ℕ) (p : Coordinates F) → times k n (opposite k p) ≡ opposite k (times k n p)
  opposite-times zero p = same_coordinates refl (sym (neg_zero laws.ring))
  opposite-times (suc n) p = ap (plus k (opposite k p)) (opposite-times n p)
      ∙ sym (opposite-plus laws.ring p (times k n p))

  -- twice a point with y = 0 is neutral
  twice_flat : (t : Coordinates F) → IsOnCircle k t → t.y ≡ k.zero → plus k t t ≡ origin k
  twice_flat t c h =
      let x : Expr = var 0 in let y : Expr = var 1 in
      same_coordinates
      (combine laws.ring (t.x ∷ t.y ∷ []) (sum (prod x x) (minus (prod y y))) unit
      (given unit (sum (prod x x) (prod y y)) unit ∷ given (minus (sum y y)) y (con 0) ∷ []) refl
      (c, (h, tt)))
      (combine laws.ring (t.x ∷ t.y ∷ []) (sum (prod x y) (prod y x)) (con 0)
      (given (sum x x) y (con 0) ∷ []) refl (h, tt))

  power-nonzero : (n : ℕ) → nth_power k (two k) n ≢ k.zero
  power-nonzero zero = one_nonzero laws
  power-nonzero (suc n) = nonzero_product laws (two k) (nth_power k (two k) n) laws.two_nonzero
      (power-nonzero n)

  -- the normaliser of the last row of a genuine domain
  pub normaliser-nonzero : (n : ℕ) (s : Coordinates F) → IsGenuine k n s → IsOnCircle k s →
      normaliser k n (opposite k s) ≢ k.zero
  normaliser-nonzero n s genuine c = λ z.
      let t = times k (2 ^ (n - 1)) s in
      let y = (times k (2 ^ (n - 1)) (opposite k s)).y in
      let turned : y ≡ k.neg t.y =
      ap (λ (r : Coordinates F). r.y) (opposite-times (2 ^ (n - 1)) s) in
      let whole : k.mul (nth_power k (two k) n) y ≡ k.zero =
      sym (neg_neg laws.ring (k.mul (nth_power k (two k) n) y)) ∙ ap k.neg z ∙ neg_zero laws.ring in
      nonzero_product laws (nth_power k (two k) n) y (power-nonzero n)
      (λ flat.
      let level : t.y ≡ k.zero = sym (neg_neg laws.ring t.y) ∙ ap k.neg (sym turned ∙ flat)
      ∙ neg_zero laws.ring in
      genuine.1
      (ap (λ m. times k m s) (sym (two_halves n genuine.0))
      ∙ times-+ laws.ring (2 ^ (n - 1)) (2 ^ (n - 1)) s
      ∙ twice_flat t (times-on_circle laws.ring (2 ^ (n - 1)) s c) level))
      whole

  up : (n : ℕ) (a b : Coordinates F) → 1 ≤ n → vanishing k n a ≡ vanishing k n b →
      vanishing k (max n 2) a ≡ vanishing k (max n 2) b
  up zero a b h e = absurd (omega arith)
  up (suc zero) a b h e = ap (doubled_x k) e
  up (suc (suc m)) a b h e =
      let same : max (suc (suc m)) 2 ≡ suc (suc m) = omega arith in
      ap (λ i. vanishing k i a) same ∙ e ∙ ap (λ i. vanishing k i b) (sym same)

module _ {F E : Type 0} {k : FieldOps F} {l : FieldOps E} {m : F → E} (laws : FieldLaws k)
    (laws' : FieldLaws l) (embedding : IsEmbedding k l m) where
  lifted-inv : (a : F) → a ≢ k.zero → m (k.inv a) ≡ l.inv (m a)
  lifted-inv a h =
      inverse_unique laws' (m a) (m (k.inv a))
      (λ z. h (embedding.injective a k.zero (z ∙ sym embedding.zero)))
      (lifted-inverse embedding laws a h)

  lifted-normaliser : (n : ℕ) (p : Coordinates F) → m (normaliser k n p)
      ≡ normaliser l n (lifted m p)
  lifted-normaliser n p =
      let y = (times k (2 ^ (n - 1)) p).y in
      embedding.neg (k.mul (nth_power k (two k) n) y)
      ∙ ap l.neg (embedding.mul (nth_power k (two k) n) y
      ∙ ap (λ v. l.mul v (m y)) (lifted-nth_power embedding n (two k)
      ∙ ap (λ v. nth_power l v n) (lifted-two embedding))
      ∙ ap (l.mul (nth_power l (two l) n))
      (ap (λ (r : Coordinates E). r.y) (lifted-times embedding (2 ^ (n - 1)) p)))

  -- the inverse of the normaliser, taken in the smaller field
  pub lifted-reciprocal : (n : ℕ) (s : Coordinates F) → IsGenuine k n s → IsOnCircle k s →
      m (k.inv (normaliser k n (opposite k s))) ≡ l.inv (normaliser l n (opposite l (lifted m s)))
  lifted-reciprocal n s genuine c =
      lifted-inv (normaliser k n (opposite k s)) (normaliser-nonzero laws n s genuine c)
      ∙ ap l.inv (lifted-normaliser n (opposite k s)
      ∙ ap (normaliser l n) (lifted-opposite embedding s))

  module _ {gen : ℕ → Coordinates F} {bits : ℕ} (gens : AreGenerators k bits gen) (n : ℕ)
      (positive : 1 ≤ n) (fits : n ≤ bits)
      (s : Coordinates F) (shift-on_circle : IsOnCircle k s) (q : Coordinates E)
      (on_circle : IsOnCircle l q) (clear : IsClearOf l m (natural_order k gen n s) q) where
    -- the vanishing polynomial is not 0 at a point that is clear of the domain
    pub vanishing-nonzero : vanishing_on l n (lifted m s) q ≢ l.zero
    vanishing-nonzero = λ z.
        let same : vanishing l n q ≡ vanishing l n (lifted m s) =
        neg_zero_cancel laws'.ring (vanishing l n q) (vanishing l n (lifted m s)) z in
        (clear-of laws laws' embedding gens n positive fits s shift-on_circle q on_circle).0 clear
        (up laws' n q (lifted m s) positive same ∙ sym (lifted-vanishing embedding (max n 2) s))

    clear_at : (i : ℕ) (p : Coordinates F) → slice_get (natural_order k gen n s) i ≡ Some p →
        (plus l q (opposite l (lifted m p))).y ≢ l.zero
    clear_at i p here =
        subst (λ (r : Coordinates F). (plus l q (opposite l (lifted m r))).y ≢ l.zero)
        (get_or_from_slice_get (natural_order k gen n s) i p p here)
        (clear i p (slice_get_within (natural_order k gen n s) i p here))

    -- it differs from the first and the last point
    pub clear-first : (plus l q (opposite l (lifted m s))).y ≢ l.zero
    clear-first =
        clear_at 0 s
        (natural_from-even k (2 ^ (n - 1)) 0 (gen (n - 1)) s 0 0 (pow_pos (n - 1)) (omega arith)
        ∙ ap Some (plus-origin laws.ring s))

    pub clear-last : (plus l q (opposite l (lifted m (opposite k s)))).y ≢ l.zero
    clear-last =
        let count = 2 ^ (n - 1) in
        let some : 1 ≤ count = pow_pos (n - 1) in
        let j = count - 1 in
        let all : suc (0 + j) ≡ count = omega (arith, some) in
        let e : n - 1 ≡ n - 1 + 0 = omega arith in
        let whole : times k count (gen (n - 1)) ≡ origin k =
        ap (λ i. times k count (gen i)) e
        ∙ times-generator laws.ring gens (n - 1) 0 (omega (arith, fits)) ∙ gens.neutral in
        clear_at (suc (j + j)) (opposite k s)
        (natural_from-odd k count j (gen (n - 1)) s 0 (suc (j + j)) (omega (arith, some)) refl
        ∙ ap (λ v. Some (plus k (opposite k s) v)) (ap (λ i. times k i (gen (n - 1))) all ∙ whole)
        ∙ ap Some (plus-origin laws.ring (opposite k s)))
