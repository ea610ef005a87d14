-- The domain of the first points of a standard domain.
use Rattle.std.specs.Prelude.{◌≡◌, ◌≢◌, ℕ, ◌+◌, ◌-◌, ◌^◌, ◌<◌, ◌≤◌, max, All}
use Rattle.std.proofs.Common.{zero, suc, sym, ◌∙◌, ap, subst, arith}
use Rattle.std.specs.List.{AllByRecursion}
use Rattle.std.proofs.lemmas.List.Elements.{All-from_recursion}
use Rattle.circle_field.specs.Field.{FieldOps, FieldLaws, IsEmbedding}
use Rattle.circle_field.specs.Circle.{Coordinates, AreGenerators, IsOnCircle, origin, times, plus}
use Rattle.circle_field.specs.Circle.{opposite}
use Rattle.circle_field.specs.CircleGroup.{plus-opposite}
use Rattle.circle_point.specs.Projective.{minus, from_line}
use Rattle.circle_point.proofs.Projections.{line_norm-zero, from_line-on_circle}
use Rattle.circle_point.specs.Basis.{iterated_x, doubled_x}
use Rattle.circle_point.proofs.Multiples.{iterated_x-suc}
use Rattle.circle_domain.specs.Clear.{IsClearOf}
use Rattle.circle_domain.specs.Order.{IsGenuine, natural_order, cfft_order}
use Rattle.circle_domain.proofs.Blocks.{times-generator, times-origin, points-cfft_order}
use Rattle.circle_domain.proofs.ClearOf.{clear-of, natural-all}
use Rattle.circle_folding.specs.Queries.{IsApart}
use Rattle.circle_domain.proofs.Lifted.{lifted-iterated_x}

module _ {F : Type 0} {k : FieldOps F} (laws : FieldLaws k) {bits : ℕ} {gen : ℕ → Coordinates F}
    (gens : AreGenerators k bits gen) where
  -- a generator of more than one point is not neutral
  generator-moves : (j : ℕ) → suc j ≤ bits → gen (suc j) ≢ origin k
  generator-moves j within bad =
      let e : suc j ≡ j + 1 = omega arith in
      let half : gen 1 ≡ origin k = sym (times-generator laws.ring gens j 1 (omega (arith, within)))
      ∙ ap (λ n. times k (2 ^ j) (gen n)) (sym e) ∙ ap (times k (2 ^ j)) bad ∙ times-origin
      laws.ring (2 ^ j) in
      let minus : k.neg k.one ≡ k.one =
      ap (λ (p : Coordinates F). p.x) (sym gens.half_turn ∙ half) in
      laws.two_nonzero (ap (λ v. k.add v k.one) (sym minus) ∙ laws.ring.neg_add k.one)

  -- the domain of the first points is genuine
  pub first-genuine : (t h : ℕ) → 1 ≤ t → t ≤ h → h < bits → IsGenuine k t (gen (h + 1))
  first-genuine t h positive within below =
      let e : h + 1 ≡ t + suc (h - t) = omega (arith, within) in (
        positive,
        λ bad.
            generator-moves (h - t) (omega (arith, below, positive, within))
            (sym (times-generator laws.ring gens t (suc (h - t)) (omega (arith, below, within)))
            ∙ ap (λ n. times k (2 ^ t) (gen n)) (sym e) ∙ bad),
      )

-- what doubles alike goes on alike
same-later : {E : Type 0} (l : FieldOps E) (m d : ℕ) (x y : E) → iterated_x l m x
    ≡ iterated_x l m y → iterated_x l (m + d) x ≡ iterated_x l (m + d) y
same-later l m zero x y same = let e : m + 0 ≡ m = omega arith in ap (λ n. iterated_x l n x) e
    ∙ same ∙ ap (λ n. iterated_x l n y) (sym e)
same-later l m (suc d) x y same =
    let e : m + suc d ≡ suc (m + d) = omega arith in
    ap (λ n. iterated_x l n x) e ∙ iterated_x-suc l (m + d) x
    ∙ ap (doubled_x l) (same-later l m d x y same) ∙ sym (iterated_x-suc l (m + d) y)
    ∙ ap (λ n. iterated_x l n y) (sym e)

module _ {F E : Type 0} {k : FieldOps F} {l : FieldOps E} {m : F → E} (laws : FieldLaws k)
    (laws' : FieldLaws l) (embedding : IsEmbedding k l m)
    {gen : ℕ → Coordinates F} {bits : ℕ} (gens : AreGenerators k bits gen) where
  -- a point that a domain is clear of, the domain of its first points is clear of
  pub first-clear : (t h : ℕ) (s : Coordinates F) (q : Coordinates E) → 1 ≤ t → t ≤ h → h ≤ bits →
      IsOnCircle k s → IsOnCircle l q →
      IsClearOf l m (natural_order k gen h s) q → IsClearOf l m (natural_order k gen t s) q
  first-clear t h s q positive within fits hs hq clear =
      let at_h = clear-of laws laws' embedding gens h (omega (arith, positive, within)) fits s hs q
      hq in
      let at_t = clear-of laws laws' embedding gens t positive (omega (arith, within, fits)) s hs q
      hq in
      let a = max t 2 - 1 in
      let d = max h 2 - max t 2 in
      let e : a + d ≡ max h 2 - 1 = omega (arith, within) in
      at_t.1 (λ same.
      at_h.0 clear
      (ap (λ n. iterated_x l n q.x) (sym e)
      ∙ same-later l a d q.x (m s.x) (same ∙ lifted-iterated_x embedding a s.x)
      ∙ sym (lifted-iterated_x embedding (a + d) s.x) ∙ ap (λ n. m (iterated_x k n s.x)) e))

  -- a point that a domain is clear of is none of its points
  pub clear-apart : (n : ℕ) (s : Coordinates F) (q : Coordinates E) → 1 ≤ n → n ≤ suc bits →
      IsOnCircle l q →
      IsClearOf l m (natural_order k gen n s) q → IsApart m (cfft_order k gen n s) q
  clear-apart n s q positive fits hq clear =
      let P : Coordinates F → Type 0 = λ p. (minus l m q p).y ≢ l.zero in
      let listed = natural-all laws.ring gens P n s positive fits in
      let all : All P (cfft_order k gen n s) =
      All-from_recursion P (cfft_order k gen n s)
      (subst (AllByRecursion P) (points-cfft_order k gen n s positive) (listed.0 clear)) in
      λ i d lt same. all i d lt (ap (λ p. (plus l q (opposite l p)).y) same
      ∙ ap (λ (p : Coordinates E). p.y) (plus-opposite laws'.ring q hq))

  -- so of points that are off it
  pub off-apart : (h : ℕ) (t : E) → 1 ≤ h → h ≤ suc bits → l.mul t t ≢ l.neg l.one →
      IsClearOf l m (natural_order k gen h (gen (h + 1))) (from_line l t) →
      IsApart m (cfft_order k gen h (gen (h + 1))) (from_line l t)
  off-apart h t positive fits finite clear =
      clear-apart h (gen (h + 1)) (from_line l t) positive fits
      (from_line-on_circle laws' t (λ none. finite (line_norm-zero laws' t none))) clear
