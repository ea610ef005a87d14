-- A point that a standard domain is not clear of is one of its points.
use Rattle.std.specs.Prelude.{◌≡◌, ◌≢◌, ◌↔◌, ℕ, ◌+◌, ◌-◌, ◌^◌, ◌<◌, ◌≤◌, Bool, true, false, not}
use Rattle.std.specs.Prelude.{◌&&◌, List, [], ◌∷◌, All, slice_index_or}
use Rattle.std.specs.List.{list_any, AllByRecursion}
use Rattle.std.proofs.Common.{suc, refl, sym, ◌∙◌, ap, subst, arith, ⊎_elim}
use Rattle.std.proofs.Math.Nat.{pow-suc}
use Rattle.std.proofs.lemmas.Bool.{cases_lt, false≢true}
use Rattle.std.proofs.lemmas.List.Elements.{recursion_from_All}
use Rattle.std.proofs.lemmas.List.Folds.{list_any_at, list_any_none}
use Rattle.std.proofs.lemmas.Option.{get_or_from_slice_get, slice_get-get_or}
use Rattle.circle_field.specs.Field.{FieldOps, FieldLaws, IsEmbedding}
use Rattle.circle_field.specs.Ring.{Expr, var, con, unit, plus as sum, times as prod, minus as less}
use Rattle.circle_field.specs.RingCombine.{given, combine}
use Rattle.circle_field.specs.RingFacts.{neg_zero_cancel}
use Rattle.circle_field.specs.Circle.{Coordinates, at, IsOnCircle, AreGenerators, plus, opposite}
use Rattle.circle_field.specs.Circle.{origin, times, lifted}
use Rattle.circle_field.specs.CircleGroup.{difference-plus, lifted-on_circle, opposite-on_circle}
use Rattle.circle_field.specs.CircleGroup.{plus-on_circle, plus-origin, plus_assoc, plus_comm}
use Rattle.circle_field.specs.CircleGroup.{same_coordinates}
use Rattle.circle_field.proofs.Inverses.{nonzero_product}
use Rattle.circle_point.specs.Projective.{from_line, half_turn, minus}
use Rattle.circle_point.proofs.Multiples.{origin-plus, times-+}
use Rattle.circle_point.proofs.Projections.{from_line-on_circle, line_norm-zero}
use Rattle.circle_domain.specs.Clear.{IsClearOf}
use Rattle.circle_domain.specs.Order.{cfft_order, natural_order}
use Rattle.circle_domain.specs.Selectors.{IsFinite}
use Rattle.circle_domain.proofs.Blocks.{points-cfft_order, times-generator, times-generator-past}
use Rattle.circle_domain.proofs.ClearOf.{natural-all}
use Rattle.circle_domain.proofs.Lifted.{lifted-half_turn, lifted-plus}
use Rattle.circle_domain.proofs.PartLists.{length-natural_order}
use Rattle.circle_domain.proofs.Walking.{standard-at, standard-on_circle, standard-point}
use Rattle.circle_folding.specs.Queries.{IsApart}
use Rattle.circle_commit.specs.RowMajorMatrix.{height_of}
use Rattle.circle_commit.specs.declared.matrix.RowMajorMatrix.{RowMajorMatrix}
use Rattle.circle_codewords.specs.Requests.{log_of}
use Rattle.circle_relation.specs.Accepts.{Fields}
use Rattle.circle_codewords.specs.Ratios.{points_of_height}
use Rattle.circle_codewords.specs.Values.{AreOff, IsOffDomain}
use Rattle.circle_codewords.proofs.Prefix.{off-apart}
use Rattle.circle_prover.specs.Requesting.{HasDomain, is_at, some_on_domain}

-- a test passes of none where it passes of nothing in the list
pub none-passes : {X : Type 0} (test : X → Bool) (xs : List X) → list_any test xs ≡ false →
    All (λ x. test x ≡ false) xs
none-passes test xs none = λ i d lt.
    let x = slice_index_or xs i d in
    let go : (b : Bool) → test x ≡ b → test x ≡ false = elim [
      | true ↦ λ e. absurd (false≢true (sym none ∙ list_any_at test xs i d lt e))
      | false ↦ λ e. e
    ] in
    go (test x) refl

module _ {E : Type 0} {l : FieldOps E} (laws : FieldLaws l) (same : E → E → Bool) (law : (a b : E) →
    (same a b ≡ true) ↔ (a ≡ b)) where
  -- a point of the circle with y = 0 is neutral or the half turn
  turns : (P : Type 0) (d : Coordinates E) → IsOnCircle l d → d.y ≡ l.zero → (d ≡ origin l → P) →
      (d ≡ half_turn l → P) → P
  turns P d on flat neutral half =
      let x : Expr = var 0 in let y : Expr = var 1 in
      let product : l.mul (l.add d.x (l.neg l.one)) (l.add d.x (l.neg (l.neg l.one))) ≡ l.zero =
      combine laws.ring (d.x ∷ d.y ∷ []) (prod (sum x (less unit)) (sum x (less (less unit))))
      (con 0)
      (given unit (sum (prod x x) (prod y y)) unit ∷ given (less y) y (con 0) ∷ []) refl
      (on, (flat, tt)) in
      let is : (v : E) → d.x ≡ v → d ≡ at v l.zero = λ v e. ap (λ w. at w d.y) e ∙ ap (at v) flat in
      let second : (b : Bool) → same d.x (l.neg l.one) ≡ b → (d.x ≢ l.one) → P = elim [
        | true ↦ λ e no. half (is (l.neg l.one) ((law d.x (l.neg l.one)).0 e))
        | false ↦ λ e no. absurd
            (nonzero_product laws (l.add d.x (l.neg l.one)) (l.add d.x (l.neg (l.neg l.one)))
            (λ z. no (neg_zero_cancel laws.ring d.x l.one z))
            (λ z. false≢true
            (sym e ∙ (law d.x (l.neg l.one)).1 (neg_zero_cancel laws.ring d.x (l.neg l.one) z)))
            product)
      ] in
      let first : (b : Bool) → same d.x l.one ≡ b → P = elim [
        | true ↦ λ e. neutral (is l.one ((law d.x l.one).0 e))
        | false ↦ λ e. second (same d.x (l.neg l.one)) refl
            (λ one. false≢true (sym e ∙ (law d.x l.one).1 one))
      ] in
      first (same d.x l.one) refl

module _ {F : Type 0} {k : FieldOps F} (laws : FieldLaws k) {gen : ℕ → Coordinates F} {bits : ℕ}
    (gens : AreGenerators k bits gen) (n : ℕ) (positive : 1 ≤ n) (fits : n < bits) where
  -- point i of the standard domain
  abbrev point : ℕ → Coordinates F
  point i = plus k (gen (n + 1)) (times k i (gen n))

  -- half as many steps as there are points are a half turn
  turned : (i : ℕ) → plus k (point i) (half_turn k) ≡ point (i + 2 ^ (n - 1))
  turned i =
      let e : n - 1 + 1 ≡ n = omega (arith, positive) in
      let steps : times k (2 ^ (n - 1)) (gen n) ≡ half_turn k =
      ap (λ m. times k (2 ^ (n - 1)) (gen m)) (sym e)
      ∙ times-generator laws.ring gens (n - 1) 1 (omega (arith, positive, fits))
      ∙ gens.half_turn in
      ap (plus k (point i)) (sym steps)
      ∙ plus_assoc laws.ring (gen (n + 1)) (times k i (gen n)) (times k (2 ^ (n - 1)) (gen n))
      ∙ ap (plus k (gen (n + 1))) (sym (times-+ laws.ring i (2 ^ (n - 1)) (gen n)))

  -- as many steps as there are points lead back
  around : (i : ℕ) → point (i + 2 ^ n) ≡ point i
  around i =
      ap (plus k (gen (n + 1)))
      (times-+ laws.ring i (2 ^ n) (gen n)
      ∙ ap (plus k (times k i (gen n)))
      (times-generator-past laws.ring gens n n (omega arith) (omega (arith, fits)))
      ∙ plus-origin laws.ring (times k i (gen n)))

  -- what holds of all points of the domain holds of them half a turn on
  half-on : (P : Coordinates F → Type 0) → ((i : ℕ) → i < 2 ^ n → P (point i)) → (i : ℕ) →
      i < 2 ^ n → P (plus k (point i) (half_turn k))
  half-on P all i lt =
      let half = 2 ^ (n - 1) in
      let e : suc (n - 1) ≡ n = omega (arith, positive) in
      let two : 2 ^ n ≡ half + half = ap (λ m. 2 ^ m) (sym e) ∙ omega (arith, pow-suc 2 (n - 1)) in
      ⊎_elim
      (λ low. subst P (sym (turned i)) (all (i + half) (omega (arith, low, two))))
      (λ high.
      let there : i + half ≡ i - half + 2 ^ n = omega (arith, high, two) in
      subst P (sym (turned i ∙ ap point there ∙ around (i - half)))
      (all (i - half) (omega (arith, lt))))
      (cases_lt i half)

  -- each point of the domain, by its place
  at-place : (P : Coordinates F → Type 0) → All P (natural_order k gen n (gen (n + 1))) → (i : ℕ) →
      i < 2 ^ n → P (point i)
  at-place P all i lt =
      let natural = natural_order k gen n (gen (n + 1)) in
      subst P
      (get_or_from_slice_get natural i (point i) (point i)
      (standard-point laws.ring gens n positive fits i lt))
      (all i (point i) (omega (arith, lt, length-natural_order k gen n (gen (n + 1)) positive)))

  -- what holds of the points in the transform's order holds of them in natural order
  naturally : (P : Coordinates F → Type 0) → All P (cfft_order k gen n (gen (n + 1))) →
      All P (natural_order k gen n (gen (n + 1)))
  naturally P all =
      let s = gen (n + 1) in
      (natural-all laws.ring gens P n s positive (omega (arith, fits))).1
      (subst (AllByRecursion P) (sym (points-cfft_order k gen n s positive))
      (recursion_from_All P (cfft_order k gen n s) all))

  module _ {E : Type 0} {l : FieldOps E} {m : F → E} (laws' : FieldLaws l)
      (embedding : IsEmbedding k l m)
      (same : E → E → Bool) (law : (a b : E) → (same a b ≡ true) ↔ (a ≡ b)) where
    -- what is no point of the domain, the domain is clear of
    pub apart-clear : (q : Coordinates E) → IsOnCircle l q →
        IsApart m (cfft_order k gen n (gen (n + 1))) q →
        IsClearOf l m (natural_order k gen n (gen (n + 1))) q
    apart-clear q on apart = λ i d lt.
        let natural = natural_order k gen n (gen (n + 1)) in
        let P : Coordinates F → Type 0 = λ p. lifted m p ≢ q in
        let all = at-place P (naturally P apart) in
        let p = slice_index_or natural i d in
        let there = slice_get-get_or natural i d lt in
        let within : i < 2 ^ n =
        omega (arith, lt, length-natural_order k gen n (gen (n + 1)) positive) in
        let is : p ≡ point i = standard-at laws.ring gens n positive fits i p there in
        let on_p = standard-on_circle laws.ring gens n positive fits i p there in
        let on_l : IsOnCircle l (lifted m p) = lifted-on_circle embedding p on_p in
        let difference = minus l m q p in
        let back : plus l difference (lifted m p) ≡ q =
        difference-plus laws'.ring q (lifted m p) on_l in
        λ flat.
        turns laws' same law ⊥ difference
        (plus-on_circle laws'.ring q (opposite l (lifted m p)) on
        (opposite-on_circle laws'.ring (lifted m p) on_l)) flat
        (λ neutral. all i within
        (ap (lifted m) (sym is) ∙ sym (origin-plus laws'.ring (lifted m p))
        ∙ ap (λ r. plus l r (lifted m p)) (sym neutral) ∙ back))
        (λ half.
        half-on P all i within
        (ap (λ r. lifted m (plus k r (half_turn k))) (sym is)
        ∙ lifted-plus embedding p (half_turn k)
        ∙ ap (plus l (lifted m p)) (lifted-half_turn embedding)
        ∙ plus_comm laws'.ring (lifted m p) (half_turn l)
        ∙ ap (λ r. plus l r (lifted m p)) (sym half) ∙ back))

and-both : (a b : Bool) → a ≡ true → b ≡ true → (a && b) ≡ true
and-both true b x y = y
and-both false b x y = absurd (false≢true x)

pub and-each : (a b : Bool) → (a && b) ≡ true → (a ≡ true) × (b ≡ true)
and-each true b x = (refl, x)
and-each false b x = absurd (false≢true x)

pub never : (b : Bool) → (b ≡ true → ⊥) → b ≡ false
never b bad =
    let go : (c : Bool) → b ≡ c → b ≡ false = elim [
      | true ↦ λ e. absurd (bad e)
      | false ↦ λ e. e
    ] in
    go b refl

-- where the contrary of a test is told to be so
contrary : (b s : Bool) → (b ≡ true → s ≡ false) → (s ≡ false → b ≡ true) → not b ≡ s
contrary b s first second =
    let go : (c d : Bool) → b ≡ c → s ≡ d → not c ≡ d = elim [
      | true ↦ λ d eb es. sym (sym es ∙ first eb)
      | false ↦ elim [
        | true ↦ λ eb es. refl
        | false ↦ λ eb es. absurd (false≢true (sym eb ∙ second es))
      ]
    ] in
    go b s refl refl

module _ {F E : Type 0} (k : Fields F E) (same : E → E → Bool) (law : (a b : E) →
    (same a b ≡ true) ↔ (a ≡ b)) where
  -- the test for one point
  pub told : (t : E) (x : Coordinates F) →
      (is_at k same t x ≡ true) ↔ (lifted k.embed x ≡ from_line k.extension t)
  told t x =
      let z = from_line k.extension t in (
        λ yes.
            let both = and-each (same (k.embed x.x) z.x) (same (k.embed x.y) z.y) yes in
            same_coordinates ((law (k.embed x.x) z.x).0 both.0) ((law (k.embed x.y) z.y).0 both.1),
        λ is.
            and-both (same (k.embed x.x) z.x) (same (k.embed x.y) z.y)
            ((law (k.embed x.x) z.x).1 (ap (λ (p : Coordinates E). p.x) is))
            ((law (k.embed x.y) z.y).1 (ap (λ (p : Coordinates E). p.y) is)),
      )

  module _ {two : ℕ} (laws : FieldLaws k.field) (laws' : FieldLaws k.extension)
      (embedding : IsEmbedding k.field k.extension k.embed)
      (gens : AreGenerators k.field two k.gen) (m : RowMajorMatrix F) (domain : HasDomain two m)
    where
      -- a point that is off the domain is none of its points, and the other way round
      off-none : (t : E) → IsFinite k.extension t → IsOffDomain k (log_of (height_of m)) t →
          list_any (is_at k same t) (points_of_height k.field k.gen (log_of (height_of m))) ≡ false
      off-none t finite off =
          let h = log_of (height_of m) in
          let points = points_of_height k.field k.gen h in
          let below = domain.in_group in
          let apart = off-apart laws laws' embedding gens h t domain.positive (omega (arith, below))
          finite off in
          list_any_none (is_at k same t) points
          (λ i d lt. let x = slice_index_or points i d in
          never (is_at k same t x) (λ yes. apart i d lt ((told t x).0 yes)))

      none-off : (t : E) → IsFinite k.extension t →
          list_any (is_at k same t) (points_of_height k.field k.gen (log_of (height_of m)))
          ≡ false →
          IsOffDomain k (log_of (height_of m)) t
      none-off t finite none =
          let h = log_of (height_of m) in
          let points = points_of_height k.field k.gen h in
          let z = from_line k.extension t in
          apart-clear laws gens h domain.positive domain.in_group laws' embedding same law z
          (from_line-on_circle laws' t (λ bad. finite (line_norm-zero laws' t bad)))
          (λ i d lt is. false≢true (sym (none-passes (is_at k same t) points none i d lt)
          ∙ (told t (slice_index_or points i d)).1 is))

      -- so of several
      pub all-off : (points : List E) → All (IsFinite k.extension) points → some_on_domain
          k same m points ≡ false → AreOff k (log_of (height_of m)) points
      all-off points finite none = (
        finite,
        λ i d lt.
            none-off (slice_index_or points i d) (finite i d lt)
            (none-passes
            (λ t. list_any (is_at k same t)
            (points_of_height k.field k.gen (log_of (height_of m)))) points none i d lt),
      )

      off-all : (points : List E) → AreOff k (log_of (height_of m)) points → some_on_domain
          k same m points ≡ false
      off-all points off =
          list_any_none
          (λ t. list_any (is_at k same t) (points_of_height k.field k.gen (log_of (height_of m))))
          points
          (λ i d lt. off-none (slice_index_or points i d) (off.0 i d lt) (off.1 i d lt))

      -- where a test decides whether all are off, its negation decides whether one is not
      pub off-told : (points : List E) → All (IsFinite k.extension) points → (b : Bool) →
          (b ≡ true → AreOff k (log_of (height_of m)) points) →
          (AreOff k (log_of (height_of m)) points → b ≡ true) → not b ≡ some_on_domain
          k same m points
      off-told points finite b first second =
          contrary b (some_on_domain k same m points) (λ e. off-all points (first e))
          (λ e. second (all-off points finite e))
