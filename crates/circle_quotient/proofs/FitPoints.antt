-- Points at which the vanishing polynomial isn't 0 are clear of the standard domain, and their
-- multiples of those of periodic columns.
use Rattle.std.specs.Prelude.{Bool, true, ◌≡◌, ◌≢◌, ◌↔◌, ℕ, ◌+◌, ◌-◌, ◌^◌, ◌<◌, ◌≤◌, List, [], ◌∷◌}
use Rattle.std.specs.Prelude.{length, max}
use Rattle.std.proofs.Common.{zero, suc, sym, ◌∙◌, ap, refl, arith}
use Rattle.circle_field.specs.Field.{FieldOps, FieldLaws, IsEmbedding}
use Rattle.circle_field.specs.Ring.{var, con, unit, plus as sum, times as prod, minus}
use Rattle.circle_field.specs.RingCombine.{given, combine}
use Rattle.circle_field.specs.RingSound.{ring}
use Rattle.circle_field.specs.Circle.{Coordinates, IsOnCircle, AreGenerators, plus, times}
use Rattle.circle_field.proofs.Inverses.{nonzero_product}
use Rattle.circle_point.specs.Basis.{doubled_x, iterated_x, vanishing}
use Rattle.circle_point.specs.Projective.{from_line}
use Rattle.circle_point.proofs.Multiples.{iterated_x-times, times-on_circle}
use Rattle.circle_point.proofs.Projections.{from_line-on_circle, line_norm-zero}
use Rattle.circle_domain.specs.Clear.{IsClearOf}
use Rattle.circle_domain.specs.Order.{natural_order}
use Rattle.circle_domain.specs.Periodic.{IsClearOfPeriod}
use Rattle.circle_domain.specs.Selectors.{IsFinite}
use Rattle.circle_domain.proofs.Blocks.{times-generator}
use Rattle.circle_domain.proofs.ClearOf.{clear-of}
use Rattle.circle_domain.proofs.Powers.{pow_order}
use Rattle.circle_domain.proofs.Walking.{zero_square}
use Rattle.circle_quotient.proofs.Monomials.{zero_factor}

module _ {F : Type 0} {k : FieldOps F} (laws : FieldLaws k) {gen : ℕ → Coordinates F} {bits : ℕ}
    (gens : AreGenerators k bits gen) where
  -- the vanishing polynomial is 0 at the shift
  at_shift : (j : ℕ) → suc j < bits → iterated_x k j (gen (suc j + 1)).x ≡ k.zero
  at_shift j fits =
      let shift = gen (suc j + 1) in
      let on = gens.on_circle (suc j + 1) (omega (arith, fits)) in
      let p = times k (2 ^ j) shift in
      let e : suc j + 1 ≡ j + 2 = omega arith in
      let up : p ≡ gen 2 =
      ap (λ i. times k (2 ^ j) (gen i)) e
      ∙ times-generator laws.ring gens j 2 (omega (arith, fits)) in
      let turn =
      ap (λ r. plus k r r) up ∙ gens.doubled 1 (omega (arith, fits)) ∙ gens.half_turn in
      let twice : k.mul (k.add k.one k.one) p.x ≡ k.zero =
      combine laws.ring (p.x ∷ p.y ∷ []) (prod (sum unit unit) (var 0)) (con 0)
      (given (var 0) (sum (prod (var 0) (var 0)) (minus (prod (var 1) (var 1)))) (minus unit)
      ∷ given (minus (var 0)) (sum (prod (var 0) (var 0)) (prod (var 1) (var 1))) unit
      ∷ given (var 1) (sum (prod (var 0) (var 1)) (prod (var 1) (var 0))) (con 0) ∷ []) refl (
        ap (λ (r : Coordinates F). r.x) turn,
        (
          times-on_circle laws.ring (2 ^ j) shift on,
          (ap (λ (r : Coordinates F). r.y) turn, tt),
        ),
      ) in
      iterated_x-times laws.ring j shift on
      ∙ zero_factor laws (k.add k.one k.one) p.x laws.two_nonzero twice

module _ {F E : Type 0} {k : FieldOps F} {l : FieldOps E} {m : F → E} (laws : FieldLaws k)
    (laws' : FieldLaws l) (embedding : IsEmbedding k l m) {gen : ℕ → Coordinates F} {bits : ℕ}
    (gens : AreGenerators k bits gen) (eq : E → E → Bool)
    (law : (a b : E) → (eq a b ≡ true) ↔ (a ≡ b)) where
  double-nonzero : (x : E) → x ≢ l.zero → doubled_x l x ≢ m (doubled_x k k.zero)
  double-nonzero x off = λ e.
      let up : m (doubled_x k k.zero) ≡ l.neg l.one =
      ap m (ring laws.ring [] (sum (sum (prod (con 0) (con 0)) (prod (con 0) (con 0))) (minus unit))
      (minus unit) refl) ∙ embedding.neg k.one ∙ ap l.neg embedding.one in
      nonzero_product laws' (l.add l.one l.one) (l.mul x x) laws'.two_nonzero
      (λ z. off (zero_square laws' eq law x z))
      (combine laws'.ring (x ∷ []) (prod (sum unit unit) (prod (var 0) (var 0))) (con 0)
      (given unit (sum (sum (prod (var 0) (var 0)) (prod (var 0) (var 0))) (minus unit))
      (minus unit) ∷ []) refl (e ∙ up, tt))

  pub clear-where : (n : ℕ) → 1 ≤ n → n < bits → (q : Coordinates E) → IsOnCircle l q →
      vanishing l n q ≢ l.zero → IsClearOf l m (natural_order k gen n (gen (n + 1))) q
  clear-where zero positive fits q on off = absurd (omega (arith, positive))
  clear-where (suc zero) positive fits q on off =
      let here = at_shift laws gens 0 fits in
      (clear-of laws laws' embedding gens 1 positive (omega (arith, fits)) (gen 2)
      (gens.on_circle 2 (omega (arith, fits))) q on).1
      (λ e. double-nonzero q.x off (e ∙ ap (λ x. m (doubled_x k x)) here))
  clear-where (suc (suc j)) positive fits q on off =
      let n = suc (suc j) in
      let s = gen (n + 1) in
      let two : max n 2 ≡ n = omega arith in
      let less : n - 1 ≡ suc j = omega arith in
      (clear-of laws laws' embedding gens n positive (omega (arith, fits)) s
      (gens.on_circle (n + 1) (omega (arith, fits))) q on).1
      (λ e. off (ap (λ i. vanishing l i q) (sym two) ∙ e
      ∙ ap m (ap (λ i. vanishing k i s) two ∙ ap (λ i. iterated_x k i s.x) less
      ∙ at_shift laws gens (suc j) fits) ∙ embedding.zero))

  iterated-both : (b a : ℕ) (x : E) → iterated_x l a (iterated_x l b x) ≡ iterated_x l (b + a) x
  iterated-both zero a x = let e : a ≡ 0 + a = omega arith in ap (λ i. iterated_x l i x) e
  iterated-both (suc b) a x =
      let e : suc (b + a) ≡ suc b + a = omega arith in
      iterated-both b a (doubled_x l x) ∙ ap (λ i. iterated_x l i x) e

  pub clear-of-period : (n : ℕ) → 1 ≤ n → n < bits → (column : List F) → length column ≤ 2 ^ n →
      (q : Coordinates E) → IsOnCircle l q → vanishing l n q ≢ l.zero →
      IsClearOfPeriod k gen l m n column q
  clear-of-period n positive fits column short q on off = λ j some long.
      let fitting : 2 ^ j ≤ 2 ^ n = omega (arith, long, short) in
      let le : j ≤ n = pow_order j n fitting in
      let e : n - 1 ≡ (n - j) + (j - 1) = omega (arith, le, some) in
      clear-where j some (omega (arith, le, fits)) (times l (2 ^ (n - j)) q)
      (times-on_circle laws'.ring (2 ^ (n - j)) q on)
      (λ z. off (ap (λ i. iterated_x l i q.x) e ∙ sym (iterated-both (n - j) (j - 1) q.x)
      ∙ ap (iterated_x l (j - 1)) (iterated_x-times laws'.ring (n - j) q on) ∙ z))

pub finite-on_circle : {E : Type 0} {l : FieldOps E} (laws : FieldLaws l) (t : E) → IsFinite l t →
    IsOnCircle l (from_line l t)
finite-on_circle laws t finite =
    from_line-on_circle laws t (λ z. finite (line_norm-zero laws t z))
