-- The vanishing polynomial of a trace's domain has one value on each part of the quotient's domain,
-- another on each, and nowhere 0.
use Rattle.std.specs.Prelude.{◌≡◌, ◌≢◌, ℕ, ◌+◌, ◌-◌, ◌*◌, ◌%◌, ◌^◌, ◌<◌, ◌≤◌, length}
use Rattle.std.specs.Prelude.{take}
use Rattle.std.proofs.Common.{zero, suc, sym, ◌∙◌, ap, arith, ⊎_elim, pow-add}
use Rattle.std.proofs.Math.Nat.{pow-suc, mul-le-mul_right}
use Rattle.std.proofs.lemmas.Bool.{cases_lt}
use Rattle.std.proofs.lemmas.List.{length-map, length-take-le}
use Rattle.std.proofs.lemmas.Nat.{pow_pos}
use Rattle.circle_field.specs.Field.{FieldOps, RingLaws, FieldLaws}
use Rattle.circle_field.specs.Circle.{Coordinates, AreGenerators, origin, plus, times}
use Rattle.circle_field.specs.CircleGroup.{plus-origin}
use Rattle.circle_point.specs.Basis.{iterated_x, vanishing}
use Rattle.circle_point.proofs.Multiples.{iterated_x-times}
use Rattle.circle_domain.specs.Order.{natural_order}
use Rattle.circle_domain.specs.Splitting.{part_of}
use Rattle.circle_domain.proofs.Blocks.{times-plus, times-generator}
use Rattle.circle_domain.proofs.Inversion.{factor-nonzero, twice}
use Rattle.circle_domain.proofs.NaturalValues.{length-natural}
use Rattle.circle_domain.proofs.Walking.{times-times, standard-doublings, one-not_opposite}
use Rattle.circle_quotient.specs.Identity.{values_of_parts}
use Rattle.circle_quotient.proofs.Places.{point, point-on, point-mod, point-opposite, x-distinct}

module _ {E : Type 0} {l : FieldOps E} (laws : FieldLaws l) {gen : ℕ → Coordinates E} {bits : ℕ}
    (gens : AreGenerators l bits gen) (j kk : ℕ) (some_parts : 1 ≤ kk)
    (fits : suc j + kk < bits) where
  -- the points of the quotient's domain, and what 2^j times they are
  abbrev pub large : ℕ → Coordinates E
  large = point laws gens (suc j + kk) (omega arith) fits

  abbrev small : ℕ → Coordinates E
  small = point laws gens (suc kk) (omega arith) (omega (arith, fits))

  -- the vanishing polynomial there
  abbrev pub vanishing_at : ℕ → E
  vanishing_at i = iterated_x l j (large i).x

  large-small : (i : ℕ) → times l (2 ^ j) (large i) ≡ small i
  large-small i =
      let n = suc j + kk in
      let a : n + 1 ≡ j + (suc kk + 1) = omega arith in
      let b : n ≡ j + suc kk = omega arith in
      times-plus laws.ring (2 ^ j) (gen (n + 1)) (times l i (gen n))
      ∙ ap (λ p. plus l p (times l (2 ^ j) (times l i (gen n))))
      (ap (λ m. times l (2 ^ j) (gen m)) a ∙ times-generator laws.ring gens j (suc kk + 1)
      (omega (arith, fits)))
      ∙ ap (plus l (gen (suc kk + 1)))
      (times-times laws.ring (2 ^ j) i (gen n)
      ∙ ap (times l i) (ap (λ m. times l (2 ^ j) (gen m)) b
      ∙ times-generator laws.ring gens j (suc kk) (omega (arith, fits))))

  vanishing-small : (i : ℕ) → vanishing_at i ≡ (small i).x
  vanishing-small i =
      iterated_x-times laws.ring j (large i)
      (point-on laws gens (suc j + kk) (omega arith) fits i)
      ∙ ap (λ (p : Coordinates E). p.x) (large-small i)

  -- the values repeat
  pub vanishing-turn : (i : ℕ) → vanishing_at i ≡ vanishing_at (i % 2 ^ suc kk)
  vanishing-turn i =
      vanishing-small i
      ∙ ap (λ (p : Coordinates E). p.x)
      (sym (point-mod laws gens (suc kk) (omega arith) (omega (arith, fits)) i))
      ∙ sym (vanishing-small (i % 2 ^ suc kk))

  -- one value on each part
  pub vanishing-part : (i : ℕ) → vanishing_at i ≡ vanishing_at (part_of (2 ^ kk) i)
  vanishing-part i =
      let c = 2 ^ kk in
      let whole : 2 ^ suc kk ≡ 2 * c = omega (arith, pow-suc 2 kk) in
      let r = i % (2 * c) in
      let r_below : r < 2 * c = omega (arith, pow_pos kk) in
      let same : small i ≡ small r =
      sym (point-mod laws gens (suc kk) (omega arith) (omega (arith, fits)) i)
      ∙ ap (λ m. small (i % m)) whole in
      vanishing-small i ∙ ap (λ (p : Coordinates E). p.x) same
      ∙ ⊎_elim
      (λ low.
      let here : r ≡ part_of c i = grind (arith, low) in
      ap (λ m. (small m).x) here)
      (λ high.
      let here : 2 * c - 1 - r ≡ part_of c i = grind (arith, high) in
      let count : r + (2 * c - 1 - r) + 1 ≡ 2 ^ suc kk = omega (arith, r_below, whole) in
      sym (ap (λ (p : Coordinates E). p.x)
      (point-opposite laws gens (suc kk) (omega arith) (omega (arith, fits)) r (2 * c - 1 - r)
      count))
      ∙ ap (λ m. (small m).x) here)
      (cases_lt r c)
      ∙ sym (vanishing-small (part_of c i))

  -- another on each
  pub vanishing-distinct : (t u : ℕ) → t < u → u < 2 ^ kk → vanishing_at t ≡ vanishing_at u → ⊥
  vanishing-distinct t u lt below e =
      x-distinct laws gens (suc kk) (omega arith) (omega (arith, fits)) t u lt
      (omega (arith, lt, below, pow-suc 2 kk))
      (sym (vanishing-small t) ∙ e ∙ vanishing-small u)

  more-doublings : (a b : ℕ) (p : Coordinates E) → times l (2 ^ b) p ≡ origin l →
      times l (2 ^ (a + b)) p ≡ origin l
  more-doublings zero b p e = let same : 0 + b ≡ b = omega arith in
      ap (λ m. times l (2 ^ m) p) same ∙ e
  more-doublings (suc a) b p e =
      let same : suc a + b ≡ suc (a + b) = omega arith in
      let before = more-doublings a b p e in
      ap (λ m. times l (2 ^ m) p) same ∙ twice laws (a + b) p
      ∙ ap (λ r. plus l r r) before
      ∙ plus-origin laws.ring (origin l)

  -- and nowhere 0
  pub vanishing-nonzero : (i : ℕ) → vanishing_at i ≢ l.zero
  vanishing-nonzero i = λ z.
      let p = small i in
      let on = point-on laws gens (suc kk) (omega arith) (omega (arith, fits)) i in
      factor-nonzero laws 1 p on
      (λ bad.
      let e : (kk - 1) + 2 ≡ suc kk = omega (arith, some_parts) in
      let gone = more-doublings (kk - 1) 2 p bad in
      one-not_opposite laws
      (ap (λ (r : Coordinates E). r.x)
      (sym gone ∙ ap (λ m. times l (2 ^ m) p) e
      ∙ standard-doublings laws.ring gens (suc kk) (omega arith) (omega (arith, fits)) i)))
      (sym (vanishing-small i) ∙ z)

-- there are as many as parts
pub length-values_of_parts : {F E : Type 0} {k : FieldOps F} (laws : RingLaws k)
    {gen : ℕ → Coordinates F} {bits : ℕ} (gens : AreGenerators k bits gen) (l : FieldOps E)
    (m : F → E) (n log_chunks : ℕ) → 1 ≤ n →
    length (values_of_parts k gen l m n log_chunks) ≡ 2 ^ log_chunks
length-values_of_parts {k = k} laws {gen = gen} gens l m n log_chunks positive =
    let total = n + log_chunks in
    let parts = 2 ^ log_chunks in
    let points = natural_order k gen total (gen (total + 1)) in
    let long : length points ≡ 2 ^ total =
    length-natural laws gens total (gen (total + 1)) (omega (arith, positive)) in
    let within : parts ≤ 2 ^ total = omega (
      arith,
      pow-add 2 n log_chunks,
      mul-le-mul_right parts (let h : 1 ≤ 2 ^ n = omega (arith, pow_pos n) in h),
    ) in
    length-map (take parts points) (λ s. m (vanishing k n s))
    ∙ length-take-le parts points (omega (arith, within, long))
