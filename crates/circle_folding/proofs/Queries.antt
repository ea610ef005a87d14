-- The values at queries, from round to round.
use Rattle.std.specs.Prelude.{◌≡◌, ◌≢◌, ℕ, ◌+◌, ◌-◌, ◌*◌, ◌/◌, ◌%◌, ◌^◌, ◌≤◌, ◌<◌, List, [], ◌∷◌}
use Rattle.std.specs.Prelude.{◌++◌, Some, nat_eq, if◌then◌else◌, length, map, All, slice_get}
use Rattle.std.specs.Prelude.{slice_index_or}
use Rattle.std.proofs.Common.{zero, suc, refl, sym, ◌∙◌, ap, ⊎_elim, arith}
use Rattle.std.proofs.Math.Nat.{pow-suc}
use Rattle.std.proofs.lemmas.Bool.{cases_eq}
use Rattle.std.proofs.lemmas.List.{map-append, length-map, get_or-map}
use Rattle.std.proofs.lemmas.List.Elements.{All-head, All-tail, All-map, All-weaker}
use Rattle.std.proofs.lemmas.Nat.{shr_below, shr-shr}
use Rattle.circle_field.specs.Field.{FieldOps, RingLaws, FieldLaws}
use Rattle.circle_field.specs.Ring.{var, con, unit, plus as sum, times as prod, minus}
use Rattle.circle_field.specs.RingSound.{ring}
use Rattle.circle_field.specs.RingFacts.{neg_neg}
use Rattle.circle_field.specs.Circle.{Coordinates, IsOnCircle, AreGenerators, plus}
use Rattle.circle_field.specs.CircleGroup.{plus_comm, plus_assoc, doubling, plus-on_circle}
use Rattle.circle_point.specs.Basis.{doubled_x}
use Rattle.circle_domain.specs.Order.{natural_order}
use Rattle.circle_domain.specs.Ordering.{cfft_index}
use Rattle.circle_commit.specs.DotProduct.{pairwise}
use Rattle.circle_domain.specs.Layers.{block_starts, second_half, factor}
use Rattle.circle_domain.proofs.Layering.{halves, block_starts-halves}
use Rattle.circle_domain.proofs.Twiddles.{map-map}
use Rattle.circle_commit.proofs.Written.{length-pairwise, pairwise-read}
use Rattle.circle_folding.specs.Fold.{fold_x_twiddles, folds, fold_pair}
use Rattle.circle_folding.specs.Chain.{round_twiddle, pair_of, asked_pairs, next_value}
use Rattle.circle_folding.proofs.Twiddles.{x_factors, length-fold_x_twiddles}
use Rattle.circle_folding.proofs.Twiddles.{fold_x_twiddles-nonzero, x_twiddle-of}

module _ {F : Type 0} (k : FieldOps F) where
  -- each followed by its opposite
  abbrev with_negatives : List F → List F
  with_negatives [] = []
  with_negatives (t ∷ ts) = t ∷ k.neg t ∷ with_negatives ts

  -- the opposite at odd places
  abbrev pub signed : ℕ → F → F
  signed j t = if nat_eq (j % 2) 0 then t else k.neg t

  pub signed-even : (j : ℕ) (t : F) → j % 2 ≡ 0 → signed j t ≡ t
  signed-even j t even = ap (λ b. if nat_eq b 0 then t else k.neg t) even

  pub signed-odd : (j : ℕ) (t : F) → j % 2 ≢ 0 → signed j t ≡ k.neg t
  signed-odd j t odd = let one : j % 2 ≡ 1 = omega (arith, odd) in
      ap (λ b. if nat_eq b 0 then t else k.neg t) one

  with_negatives-read : (ts : List F) (j : ℕ) (d : F) → j < length ts + length ts →
      slice_index_or (with_negatives ts) j d ≡ signed j (slice_index_or ts (j / 2) d)
  with_negatives-read [] j d h = absurd (omega arith)
  with_negatives-read (t ∷ ts) zero d h = refl
  with_negatives-read (t ∷ ts) (suc zero) d h = refl
  with_negatives-read (t ∷ ts) (suc (suc j)) d h =
      let half : suc (suc j) / 2 ≡ suc (j / 2) = omega arith in
      let bit : suc (suc j) % 2 ≡ j % 2 = omega arith in
      with_negatives-read ts j d (omega arith)
      ∙ sym (ap (λ i. signed (suc (suc j)) (slice_index_or (t ∷ ts) i d)) half
      ∙ ap
      (λ b. if nat_eq b 0 then slice_index_or ts (j / 2) d else k.neg
      (slice_index_or ts (j / 2) d)) bit)

  -- a sign that is taken back
  signed-signed : RingLaws k → (j : ℕ) (t : F) → signed j (signed j t) ≡ t
  signed-signed laws j t =
      ⊎_elim
      (λ even. ap (signed j) (signed-even j t even) ∙ signed-even j t even)
      (λ odd. ap (signed j) (signed-odd j t odd) ∙ signed-odd j (k.neg t) odd ∙ neg_neg laws t)
      (cases_eq (j % 2) 0)

module _ {F : Type 0} {k : FieldOps F} (laws : RingLaws k) {bits : ℕ} {gen : ℕ → Coordinates F}
    (gens : AreGenerators k bits gen) where
  -- the x coordinates of the doubles of every second point of a coset are those of the coset of the
  -- double
  doubled-starts : (a : ℕ) (q : Coordinates F) → a + 2 ≤ bits → IsOnCircle k q →
      map (λ p. doubled_x k p.x) (block_starts k gen a 2 q)
      ≡ map (λ p. p.x) (block_starts k gen a 1 (plus k q q))
  doubled-starts zero q fits c = ap (λ (p : Coordinates F). p.x ∷ []) (doubling laws q c)
  doubled-starts (suc a) q fits c =
      let g = gen (suc (suc a)) in
      let u = λ (p : Coordinates F). doubled_x k p.x in
      let x = λ (p : Coordinates F). p.x in
      let qq = plus k q q in
      let two : a + 2 ≡ suc (suc a) = omega arith in
      let one : a + 1 ≡ suc a = omega arith in
      let double : plus k (plus k q g) (plus k q g) ≡ plus k qq (gen (suc a)) =
      plus_assoc laws q g (plus k q g)
      ∙ ap (plus k q) (sym (plus_assoc laws g q g) ∙ ap (λ r. plus k r g) (plus_comm laws g q)
      ∙ plus_assoc laws q g g)
      ∙ sym (plus_assoc laws q q (plus k g g))
      ∙ ap (plus k qq) (gens.doubled (suc a) (omega (arith, fits))) in
      ap (λ n. map u (block_starts k gen a 2 q ++ block_starts k gen a 2 (second_half k gen n q)))
      two
      ∙ map-append u (block_starts k gen a 2 q) (block_starts k gen a 2 (plus k q g))
      ∙ ap (λ xs. xs ++ map u (block_starts k gen a 2 (plus k q g)))
      (doubled-starts a q (omega (arith, fits)) c)
      ∙ ap (λ ys. map x (block_starts k gen a 1 qq) ++ ys)
      (doubled-starts a (plus k q g) (omega (arith, fits))
      (plus-on_circle laws q g c (gens.on_circle (suc (suc a)) (omega (arith, fits)))))
      ∙ ap (λ p. map x (block_starts k gen a 1 qq) ++ map x (block_starts k gen a 1 p)) double
      ∙ sym
      (ap
      (λ n. map x
      (block_starts k gen a 1 qq ++ block_starts k gen a 1 (second_half k gen n qq))) one
      ∙ map-append x (block_starts k gen a 1 qq) (block_starts k gen a 1 (plus k qq (gen (suc a)))))

  -- the x coordinates of neighbours are opposite
  x-halves : (qs : List (Coordinates F)) → map (λ p. p.x) (halves k gen 1 qs)
      ≡ with_negatives k (map (λ p. p.x) qs)
  x-halves [] = refl
  x-halves (q ∷ qs) =
      let turned : (plus k q (gen 1)).x ≡ k.neg q.x =
      ap (λ (g : Coordinates F). (plus k q g).x) gens.half_turn
      ∙ ring laws (q.x ∷ q.y ∷ [])
      (sum (prod (var 0) (minus unit)) (minus (prod (var 1) (con 0)))) (minus (var 0)) refl in
      ap (λ t. q.x ∷ t ∷ map (λ p. p.x) (halves k gen 1 qs)) turned
      ∙ ap (λ rest. q.x ∷ k.neg q.x ∷ rest) (x-halves qs)

  twiddles-starts : (r : ℕ) → fold_x_twiddles k gen r
      ≡ map (λ p. p.x) (block_starts k gen r 2 (gen (r + 3)))
  twiddles-starts r =
      let e : r + 2 - (1 + 1) ≡ r = omega arith in
      sym (x_factors k gen r) ∙ ap (λ a. map (factor k 1) (block_starts k gen a 2 (gen (r + 3)))) e

  -- twice the squares less one of twiddles are the twiddles of half as many pairs and their
  -- opposites
  twiddles-doubled : (m : ℕ) → m + 4 ≤ bits → map (doubled_x k) (fold_x_twiddles k gen (suc m))
      ≡ with_negatives k (fold_x_twiddles k gen m)
  twiddles-doubled m fits =
      let s = gen (suc m + 3) in
      let next : suc m + 3 ≡ suc (m + 3) = omega arith in
      let x = λ (p : Coordinates F). p.x in
      ap (map (doubled_x k)) (twiddles-starts (suc m))
      ∙ map-map (doubled_x k) x (block_starts k gen (suc m) 2 s)
      ∙ doubled-starts (suc m) s (omega (arith, fits))
      (gens.on_circle (suc m + 3) (omega (arith, fits)))
      ∙ ap (λ p. map x (block_starts k gen (suc m) 1 p)) (ap (λ n. plus k (gen n) (gen n)) next
      ∙ gens.doubled (m + 3) (omega (arith, fits)))
      ∙ ap (map x) (block_starts-halves k gen m 1 (gen (m + 3)))
      ∙ x-halves (block_starts k gen m 2 (gen (m + 3)))
      ∙ ap (with_negatives k) (sym (twiddles-starts m))

  -- the twiddle of a query in the next round
  next-twiddle : (h r q : ℕ) → r + 3 ≤ h → h < bits → q < 2 ^ h →
      signed k (q / 2 ^ (r + 2)) (doubled_x k (round_twiddle k gen h r q))
      ≡ round_twiddle k gen h (r + 1) q
  next-twiddle h r q enough fits below =
      let m = h - 2 - (r + 1) in
      let j = q / 2 ^ (r + 2) in
      let ts = fold_x_twiddles k gen (suc m) in
      let here : h - 2 - r ≡ suc m = omega (arith, enough) in
      let whole : h ≡ suc m + (r + 2) = omega (arith, enough) in
      let low : j < 2 ^ suc m = shr_below q (suc m) (r + 2) (rw (← whole) below) in
      let places : r + 1 + 2 ≡ r + 2 + 1 = omega arith in
      let next : q / 2 ^ (r + 1 + 2) ≡ j / 2 = ap (λ n. q / 2 ^ n) places
      ∙ sym (shr-shr q (r + 2) 1) in
      let inside : j < length ts = omega (arith, low, length-fold_x_twiddles k gen (suc m)) in
      let of_half : j < length (fold_x_twiddles k gen m) + length (fold_x_twiddles k gen m) =
      omega (arith, low, length-fold_x_twiddles k gen m, pow-suc 2 m) in
      ap (λ n. signed k j (doubled_x k (slice_index_or (fold_x_twiddles k gen n) j k.zero))) here
      ∙ ap (signed k j) (sym (get_or-map (doubled_x k) ts j k.zero k.zero inside)
      ∙ ap (λ xs. slice_index_or xs j k.zero) (twiddles-doubled m (omega (arith, enough, fits)))
      ∙ with_negatives-read k (fold_x_twiddles k gen m) j k.zero of_half)
      ∙ signed-signed k laws j (slice_index_or (fold_x_twiddles k gen m) (j / 2) k.zero)
      ∙ ap (λ i. slice_index_or (fold_x_twiddles k gen m) i k.zero) (sym next)

  -- the twiddles of queries in the next round
  pub next-twiddles : (h r : ℕ) (queries : List ℕ) → r + 3 ≤ h → h < bits →
      All (λ q. q < 2 ^ h) queries →
      pairwise (λ q t. signed k (q / 2 ^ (r + 2)) (doubled_x k t)) queries
      (map (round_twiddle k gen h r) queries) ≡ map (round_twiddle k gen h (r + 1)) queries
  next-twiddles h r [] enough fits all = refl
  next-twiddles h r (q ∷ qs) enough fits all =
      let step = λ (q : ℕ) (t : F). signed k (q / 2 ^ (r + 2)) (doubled_x k t) in
      ap (λ t. t ∷ pairwise step qs (map (round_twiddle k gen h r) qs))
      (next-twiddle h r q enough fits (All-head (λ q. q < 2 ^ h) q qs all))
      ∙ ap (λ rest. round_twiddle k gen h (r + 1) q ∷ rest)
      (next-twiddles h r qs enough fits (All-tail (λ q. q < 2 ^ h) q qs all))

module _ {F : Type 0} {k : FieldOps F} (laws : FieldLaws k) {bits : ℕ} {gen : ℕ → Coordinates F}
    (gens : AreGenerators k bits gen) where
  -- the x coordinate of the point that is computed for a query
  pub first-twiddle : (h n q place : ℕ) (s p : Coordinates F) → 2 ≤ h → h < bits → bits ≤ 62 →
      q < 2 ^ h → n ≡ h → s ≡ gen (h + 1) →
      place ≡ cfft_index h (q / 4 * 4 % 2 ^ 64) → slice_get (natural_order k gen n s) place
      ≡ Some p → p.x ≡ round_twiddle k gen h 0 q
  first-twiddle h n q place s p enough fits small below size shift is_place here =
      let m = h - 2 in
      let whole : h ≡ m + 2 = omega (arith, enough) in
      let top : h ≡ m + 1 + 1 = omega (arith, enough) in
      let next : h + 1 ≡ m + 1 + 1 + 1 = omega (arith, enough) in
      let none : m ≡ h - 2 - 0 = omega arith in
      x_twiddle-of laws gens m 1 n (q / 4) place s p (shr_below q m 2 (rw (← whole) below))
      (omega (arith, enough, fits)) small refl (size ∙ top) (shift ∙ ap gen next)
      (is_place ∙ ap (λ i. cfft_index i (q / 4 * 4 % 2 ^ 64)) top) here
      ∙ ap (λ i. slice_index_or (fold_x_twiddles k gen i) (q / 4) k.zero) none

  -- the twiddles of queries are not 0
  pub round_twiddles-nonzero : (h r : ℕ) (queries : List ℕ) → r + 2 ≤ h → h < bits →
      All (λ q. q < 2 ^ h) queries →
      All (λ t. t ≢ k.zero) (map (round_twiddle k gen h r) queries)
  round_twiddles-nonzero h r queries enough fits all =
      let m = h - 2 - r in
      let whole : h ≡ m + (r + 2) = omega (arith, enough) in
      All-map (λ t. t ≢ k.zero) (round_twiddle k gen h r) queries
      (All-weaker (λ q. q < 2 ^ h) (λ q. round_twiddle k gen h r q ≢ k.zero)
      (λ q below.
      let low : q / 2 ^ (r + 2) < 2 ^ m = shr_below q m (r + 2) (rw (← whole) below) in
      fold_x_twiddles-nonzero laws gens m (omega (arith, enough, fits)) (q / 2 ^ (r + 2)) k.zero
      (omega (arith, low, length-fold_x_twiddles k gen m)))
      queries all)

module _ {E : Type 0} (bits : ℕ) (queries : List ℕ) (values siblings : List E)
    (of_values : length values ≡ length queries) (of_siblings : length siblings ≡ length queries)
  where
    abbrev begun : List (E → List E)
    begun = pairwise (λ q. pair_of (q / 2 ^ bits)) queries values

    length-begun : length begun ≡ length queries
    length-begun = length-pairwise (λ q. pair_of (q / 2 ^ bits)) queries values (sym of_values)

    pub length-asked_pairs : length (asked_pairs bits queries values siblings) ≡ length queries
    length-asked_pairs =
        length-pairwise (λ pair sibling. pair sibling) begun siblings
        (length-begun ∙ sym of_siblings)
        ∙ length-begun

    -- the pair of one query
    pub asked_pairs-read : (i : ℕ) (v s : E) (pair : List E) → i < length queries →
        slice_index_or (asked_pairs bits queries values siblings) i pair
        ≡ pair_of (slice_index_or queries i 0 / 2 ^ bits) (slice_index_or values i v)
        (slice_index_or siblings i s)
    asked_pairs-read i v s pair within =
        pairwise-read (λ pair sibling. pair sibling) begun siblings i (λ _. pair) s pair
        (omega (arith, within, length-begun)) (omega (arith, within, of_siblings))
        ∙ ap (λ p. p (slice_index_or siblings i s))
        (pairwise-read (λ q. pair_of (q / 2 ^ bits)) queries values i 0 v (λ _. pair) within
        (omega (arith, within, of_values)))

    -- what its value becomes
    pub folds-read : {F : Type 0} (l : FieldOps E) (beta : E) (m : F → E) (twiddles : List F)
        (i : ℕ)
        (t : F) (v s d : E) → length twiddles ≡ length queries → i < length queries →
        slice_index_or (folds l beta (map m twiddles) (asked_pairs bits queries values siblings)) i
        d
        ≡ next_value l beta (m (slice_index_or twiddles i t))
        (slice_index_or queries i 0 / 2 ^ bits)
        (slice_index_or values i v) (slice_index_or siblings i s)
    folds-read l beta m twiddles i t v s d of_twiddles within =
        let pairs = asked_pairs bits queries values siblings in
        let u = slice_index_or (map m twiddles) i d in
        pairwise-read (fold_pair l beta) (map m twiddles) pairs i d [] d
        (omega (arith, within, of_twiddles, length-map twiddles m))
        (omega (arith, within, length-asked_pairs))
        ∙ ap (fold_pair l beta u) (asked_pairs-read i v s [] within)
        ∙ ap
        (λ x. next_value l beta x (slice_index_or queries i 0 / 2 ^ bits)
        (slice_index_or values i v) (slice_index_or siblings i s))
        (get_or-map m twiddles i t d (omega (arith, within, of_twiddles)))

    pub length-folds : {F : Type 0} (l : FieldOps E) (beta : E) (m : F → E) (twiddles : List F) →
        length twiddles ≡ length queries →
        length (folds l beta (map m twiddles) (asked_pairs bits queries values siblings))
        ≡ length queries
    length-folds l beta m twiddles of_twiddles =
        length-pairwise (fold_pair l beta) (map m twiddles)
        (asked_pairs bits queries values siblings)
        (length-map twiddles m ∙ of_twiddles ∙ sym length-asked_pairs)
        ∙ length-map twiddles m ∙ of_twiddles
