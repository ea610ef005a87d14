-- Codewords on half of a standard domain, and the only coefficients that have their values.
use Rattle.std.specs.Prelude.{◌≡◌, ◌≢◌, ℕ, ◌+◌, ◌-◌, ◌*◌, ◌%◌, ◌^◌, ◌≤◌, List, [], ◌∷◌, ◌++◌}
use Rattle.std.specs.Prelude.{length, map, take, drop, replicate, All}
use Rattle.std.specs.List.{AllByRecursion}
use Rattle.std.proofs.Common.{zero, suc, sym, ◌∙◌, ap, refl, arith, subst, length-append}
use Rattle.std.proofs.Math.Nat.{mod-eq_of_lt}
use Rattle.std.proofs.lemmas.List.{length-map, map-append, take_at, drop_at, take-append-drop}
use Rattle.std.proofs.lemmas.List.{length-take-le}
use Rattle.std.proofs.lemmas.List.Elements.{All-from_recursion}
use Rattle.circle_field.specs.Field.{FieldOps, RingLaws, FieldLaws, IsEmbedding, two, nth_power}
use Rattle.circle_field.specs.RingFacts.{mul_swap, mul_zero}
use Rattle.circle_field.specs.Circle.{Coordinates, AreGenerators, origin, times}
use Rattle.circle_point.specs.Basis.{x_value}
use Rattle.circle_domain.specs.Order.{coset}
use Rattle.circle_domain.proofs.Lifted.{lifted-inverse, lifted-two, lifted-nth_power}
use Rattle.circle_domain.proofs.Powers.{pow_within}
use Rattle.circle_domain.proofs.StandardDomain.{standard-genuine}
use Rattle.circle_domain.proofs.Twiddles.{map-map}
use Rattle.circle_folding.specs.Interpolation.{multiples, block_factors}
use Rattle.circle_domain.specs.Spans.{HasXValues}
use Rattle.circle_folding.proofs.Factors.{point_factors, point_factors-nonzero, block_factors-coset}
use Rattle.circle_folding.proofs.Interpolated.{multiples-values}
use Rattle.circle_folding.proofs.Lengths.{length-multiples}
use Rattle.circle_folding.proofs.Linear.{x_value-multiple, x_value-more}
use Rattle.circle_folding.proofs.Told.{x_values-injective, map-alike}

module _ {F : Type 0} {k : FieldOps F} (laws : RingLaws k) where
  power-inverse : (a b : F) (n : ℕ) → k.mul a b ≡ k.one → k.mul (nth_power k a n) (nth_power k b n)
      ≡ k.one
  power-inverse a b zero h = laws.one_mul k.one
  power-inverse a b (suc n) h =
      mul_swap laws a (nth_power k a n) b (nth_power k b n)
      ∙ ap (λ v. k.mul v (k.mul (nth_power k a n) (nth_power k b n))) h
      ∙ laws.one_mul (k.mul (nth_power k a n) (nth_power k b n)) ∙ power-inverse a b n h

  -- multiples by inverse numbers
  multiples-cancel : (a b : F) (xs : List F) → k.mul a b ≡ k.one → map (k.mul a) (map (k.mul b) xs)
      ≡ xs
  multiples-cancel a b [] h = refl
  multiples-cancel a b (x ∷ xs) h =
      ap (λ v. v ∷ map (k.mul a) (map (k.mul b) xs))
      (sym (laws.mul_assoc a b x) ∙ ap (λ v. k.mul v x) h ∙ laws.one_mul x)
      ∙ ap (λ rest. x ∷ rest) (multiples-cancel a b xs h)

  zeros : (s : F) (n : ℕ) → AllByRecursion (λ z. z ≡ k.zero) (map (k.mul s) (replicate n k.zero))
  zeros s zero = tt
  zeros s (suc n) = (mul_zero laws s, zeros s n)

  plain-zeros : (n : ℕ) → AllByRecursion (λ z. z ≡ k.zero) (replicate n k.zero)
  plain-zeros zero = tt
  plain-zeros (suc n) = (refl, plain-zeros n)

length-zeros : {T : Type 0} (z : T) (n : ℕ) → length (replicate n z) ≡ n
length-zeros z zero = refl
length-zeros z (suc n) = ap suc (length-zeros z n)

module _ {F : Type 0} {k : FieldOps F} (base : FieldLaws k) {gen : ℕ → Coordinates F} {bits : ℕ}
    (gens : AreGenerators k bits gen) (m : ℕ) (fits : m + 2 ≤ bits) where
  genuine : times k (2 ^ suc m) (gen (m + 2)) ≢ origin k
  genuine =
      let order : suc m + 1 ≡ m + 2 = omega arith in
      subst (λ i. times k (2 ^ suc m) (gen i) ≢ origin k) order
      (standard-genuine base gens (suc m) (omega arith) (omega (arith, fits))).1

  -- no factor of half of a standard domain is 0
  pub standard-nonzero : All (λ t. t ≢ k.zero) (point_factors k gen m (gen (m + 2)))
  standard-nonzero =
      All-from_recursion (λ t. t ≢ k.zero) (point_factors k gen m (gen (m + 2)))
      (point_factors-nonzero base gens m (gen (m + 2)) (omega (arith, fits))
      (gens.on_circle (m + 2) fits) genuine)

module _ {F E : Type 0} {k : FieldOps F} {l : FieldOps E} {embed : F → E} (base : FieldLaws k)
    (laws : FieldLaws l) (e : IsEmbedding k l embed)
    {gen : ℕ → Coordinates F} {bits : ℕ} (gens : AreGenerators k bits gen) where
  -- 1 / 2^m times 2^m
  pub half-power-inverse : (m : ℕ) (s : F) → s ≡ k.mul k.one (nth_power k (k.inv (two k)) m) →
      l.mul (embed s) (nth_power l (two l) m) ≡ l.one
  half-power-inverse m s is_power =
      let unit : l.mul (embed (k.inv (two k))) (two l) ≡ l.one =
      ap (l.mul (embed (k.inv (two k)))) (sym (lifted-two e))
      ∙ lifted-inverse e base (two k) base.two_nonzero in
      ap (λ v. l.mul (embed v) (nth_power l (two l) m))
      (is_power ∙ base.ring.one_mul (nth_power k (k.inv (two k)) m))
      ∙ ap (λ v. l.mul v (nth_power l (two l) m)) (lifted-nth_power e m (k.inv (two k)))
      ∙ power-inverse laws.ring (embed (k.inv (two k))) (two l) m unit

  module _ (m : ℕ) (fits : m + 2 ≤ bits) where
    module _ (word made : List E) (long : length word ≡ 2 ^ m)
        (given : made
        ≡ multiples l embed m
        (map k.inv (block_factors k m (map (λ p. p.x) (coset k gen m (gen (m + 2)))))) word) where
      is_made : made ≡ multiples l embed m (map k.inv (point_factors k gen m (gen (m + 2)))) word
      is_made =
          given ∙ ap (λ fs. multiples l embed m (map k.inv fs) word)
          (block_factors-coset k gen m (gen (m + 2)))

      made-long : length made ≡ 2 ^ m
      made-long = ap length is_made
          ∙ length-multiples l embed m (map k.inv (point_factors k gen m (gen (m + 2)))) word long

      made-values : map (λ p. x_value l made (embed p.x)) (coset k gen m (gen (m + 2)))
          ≡ map (l.mul (nth_power l (two l) m)) word
      made-values =
          ap (λ c. map (λ p. x_value l c (embed p.x)) (coset k gen m (gen (m + 2)))) is_made
          ∙ multiples-values base laws e gens m (gen (m + 2)) word (omega (arith, fits))
          (gens.on_circle (m + 2) fits) (genuine base gens m fits) long

      -- values of a multiple, and of further zeros
      scaled-values : (s : E) (c : List E) →
          map (λ p. x_value l (map (l.mul s) c) (embed p.x)) (coset k gen m (gen (m + 2)))
          ≡ map (l.mul s) (map (λ p. x_value l c (embed p.x)) (coset k gen m (gen (m + 2))))
      scaled-values s c =
          map-alike (λ p. x_value l (map (l.mul s) c) (embed p.x))
          (λ p. l.mul s (x_value l c (embed p.x))) (coset k gen m (gen (m + 2)))
          (λ p. x_value-multiple laws.ring s c (embed p.x))
          ∙ sym (map-map (l.mul s) (λ p. x_value l c (embed p.x)) (coset k gen m (gen (m + 2))))

      padded-values : (c zs : List E) → AllByRecursion (λ z. z ≡ l.zero) zs →
          map (λ p. x_value l (c ++ zs) (embed p.x)) (coset k gen m (gen (m + 2)))
          ≡ map (λ p. x_value l c (embed p.x)) (coset k gen m (gen (m + 2)))
      padded-values c zs h =
          map-alike (λ p. x_value l (c ++ zs) (embed p.x)) (λ p. x_value l c (embed p.x))
          (coset k gen m (gen (m + 2))) (λ p. x_value-more laws.ring c zs (embed p.x) h)

      module _ (b : ℕ) (few : b ≤ m) where
        within : 2 ^ b ≤ 2 ^ m
        within = pow_within b m few

        -- where all further ones are 0 the first ones are coefficients
        pub found-values : (s : E) (c : List E) → l.mul s (nth_power l (two l) m) ≡ l.one →
            AllByRecursion (λ z. z ≡ l.zero) (drop (2 ^ b) made) →
            c ≡ map (l.mul s) (take (2 ^ b) made) → HasXValues k gen l embed b m word c
        found-values s c unit none is_c = record {
          count = ap length is_c ∙ length-map (take (2 ^ b) made) (l.mul s)
              ∙ length-take-le (2 ^ b) made (omega (arith, within, made-long));
          values =
              ap (λ d. map (λ p. x_value l d (embed p.x)) (coset k gen m (gen (m + 2)))) is_c
              ∙ scaled-values s (take (2 ^ b) made)
              ∙ ap (map (l.mul s)) (sym (padded-values (take (2 ^ b) made) (drop (2 ^ b) made) none)
              ∙ ap (λ d. map (λ p. x_value l d (embed p.x)) (coset k gen m (gen (m + 2))))
              (take-append-drop (2 ^ b) made) ∙ made-values)
              ∙ multiples-cancel laws.ring s (nth_power l (two l) m) word unit;
        }

        module _ (d : List E) (has : HasXValues k gen l embed b m word d) where
          -- other coefficients, with zeros for the further ones, are those
          made-is : made
              ≡ map (l.mul (nth_power l (two l) m)) (d ++ replicate (2 ^ m - 2 ^ b) l.zero)
          made-is =
              let power = nth_power l (two l) m in
              let more = replicate (2 ^ m - 2 ^ b) l.zero in
              let all : length (d ++ more) ≡ 2 ^ m = length-append d more
              ∙ omega (arith, has.count, length-zeros l.zero (2 ^ m - 2 ^ b), within) in
              x_values-injective laws e gens m (gen (m + 2)) made (map (l.mul power) (d ++ more))
              made-long (length-map (d ++ more) (l.mul power) ∙ all)
              (omega (arith, fits)) (gens.on_circle (m + 2) fits) (genuine base gens m fits)
              (made-values
              ∙ sym (scaled-values power (d ++ more)
              ∙ ap (map (l.mul power))
              (padded-values d more (plain-zeros laws.ring (2 ^ m - 2 ^ b)) ∙ has.values)))

          split : made ≡ map (l.mul (nth_power l (two l) m)) d
              ++ map (l.mul (nth_power l (two l) m)) (replicate (2 ^ m - 2 ^ b) l.zero)
          split =
              made-is
              ∙ map-append (l.mul (nth_power l (two l) m)) d (replicate (2 ^ m - 2 ^ b) l.zero)

          first-long : length (map (l.mul (nth_power l (two l) m)) d) ≡ 2 ^ b
          first-long = length-map d (l.mul (nth_power l (two l) m)) ∙ has.count

          pub others-zero : AllByRecursion (λ z. z ≡ l.zero) (drop (2 ^ b) made)
          others-zero =
              let power = l.mul (nth_power l (two l) m) in
              subst (AllByRecursion (λ z. z ≡ l.zero))
              (sym
              (ap (drop (2 ^ b)) split
              ∙ drop_at (map power d) (map power (replicate (2 ^ m - 2 ^ b) l.zero)) (2 ^ b)
              first-long))
              (zeros laws.ring (nth_power l (two l) m) (2 ^ m - 2 ^ b))

          pub only-ones : (s : E) → l.mul s (nth_power l (two l) m) ≡ l.one →
              d ≡ map (l.mul s) (take (2 ^ b) made)
          only-ones s unit =
              let power = l.mul (nth_power l (two l) m) in
              sym (ap (λ ws. map (l.mul s) (take (2 ^ b) ws)) split
              ∙ ap (map (l.mul s))
              (take_at (map power d) (map power (replicate (2 ^ m - 2 ^ b) l.zero)) (2 ^ b)
              first-long)
              ∙ multiples-cancel laws.ring s (nth_power l (two l) m) d unit)

-- the x coordinates of points that are a coset
pub coset-abscissas : {F P : Type 0} (k : FieldOps F) (gen : ℕ → Coordinates F)
    (f : P → Coordinates F) (ps : List P) (xs : List F) (n m : ℕ) (s q : Coordinates F) →
    xs ≡ map (λ p. (f p).x) ps → map f ps ≡ coset k gen n s → n ≡ m → s ≡ q →
    xs ≡ map (λ p. p.x) (coset k gen m q)
coset-abscissas k gen f ps xs n m s q read points size shift =
    read ∙ sym (map-map (λ p. p.x) f ps)
    ∙ ap (map (λ p. p.x)) (points ∙ ap (λ i. coset k gen i s) size ∙ ap (coset k gen m) shift)

-- a power of two that fits 64 bits
pub shifted-one : (b m bits : ℕ) → b ≤ m → m + 2 ≤ bits → bits ≤ 62 → 1 * 2 ^ b % 2 ^ 64 ≡ 2 ^ b
shifted-one b m bits few fits small =
    let le : 2 ^ b ≤ 2 ^ 62 = pow_within b 62 (omega (arith, few, fits, small)) in
    let e : 1 * 2 ^ b ≡ 2 ^ b = omega arith in
    ap (λ n. n % 2 ^ 64) e ∙ mod-eq_of_lt (omega (arith, le))
