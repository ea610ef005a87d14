-- The digests one level up.
use Rattle.std.specs.Prelude.{◌≡◌, ℕ, ◌+◌, ◌*◌, ◌/◌, ◌%◌, ◌<◌, ◌==◌, ◌&&◌, ◌||◌, Bool, true, false}
use Rattle.std.specs.Prelude.{not, List, [], ◌∷◌, ◌++◌, map, filter, drop, min, slice_index_or}
use Rattle.std.specs.Prelude.{if◌then◌else◌}
use Rattle.std.specs.List.{range_with_len}
use Rattle.std.proofs.Common.{zero, suc, refl, sym, ap, ◌∙◌, arith}
use Rattle.std.proofs.lemmas.Bool.{eq-eqb}
use Rattle.circle_merkle.specs.declared.root.Node.{Node}
use Rattle.circle_merkle.specs.Tree.{sibling}
use Rattle.circle_merkle.specs.Climb.{joined, lone, climbed}
use Rattle.circle_merkle.proofs.Pairs.{Starts, starts-filter, apart, low-even, low-odd, range-pair}
use Rattle.circle_merkle.proofs.Pairs.{sibling-even, half-even, half-odd, missing, missing-even}
use Rattle.circle_merkle.proofs.Pairs.{missing-odd, above}

module _ (up : ℕ → List ℕ → List ℕ → List ℕ) (known given : ℕ → List ℕ) (place over : ℕ → ℕ) where
  abbrev node : ℕ → Node
  node p = record { position = p; place = place p; digest = known p }

  -- a node whose sibling isn't there takes a given digest
  climbed-lone : (p low : ℕ) (xs : List ℕ) (d : List ℕ) (ds : List (List ℕ)) → Starts low xs →
      sibling p < low →
      climbed up (node p ∷ map node xs) (d ∷ ds) ≡ lone up (node p) d ∷ climbed up (map node xs) ds
  climbed-lone p low [] d ds h lt = refl
  climbed-lone p low (q ∷ rest) d ds h lt =
      ap (λ b. if b then joined up (node p) (node q) ∷ climbed up (map node rest) (d ∷ ds) else lone
      up (node p) d ∷ climbed up (node q ∷ map node rest) ds)
      (apart q (sibling p) low h lt)

  module _ (a : ℕ) where
    joined-is : min (place (2 * a)) (place (2 * a + 1)) ≡ over a →
        joined up (node (2 * a)) (node (2 * a + 1))
        ≡ record {
          position = a;
          place = over a;
          digest =
              up (over a) (known (2 * a)) (known (2 * a + 1));
        }
    joined-is least =
        let left = known (2 * a) in let right = known (2 * a + 1) in
        let above = λ (h k : ℕ). let n : Node =
        record { position = h; place = k; digest = up k left right } in n in
        ap (λ h. above h (min (place (2 * a)) (place (2 * a + 1)))) (half-even a)
        ∙ ap (above a) least

    lone-even : place (2 * a) ≡ over a → (d : List ℕ) → lone up (node (2 * a)) d
        ≡ record { position = a; place = over a; digest = up (over a) (known (2 * a)) d }
    lone-even same d =
        let even : 2 * a % 2 ≡ 0 = omega arith in
        let above = λ (r h k : ℕ). let n : Node =
        record {
          position = h;
          place = k;
          digest = if r ==
              0 then up k (known (2 * a)) d else up k d (known (2 * a));
        } in n in
        ap (λ r. above r (2 * a / 2) (place (2 * a))) even
        ∙ ap (λ h. above 0 h (place (2 * a))) (half-even a) ∙ ap (above 0 a) same

    lone-odd : place (2 * a + 1) ≡ over a → (d : List ℕ) → lone up (node (2 * a + 1)) d
        ≡ record { position = a; place = over a; digest = up (over a) d (known (2 * a + 1)) }
    lone-odd same d =
        let odd : (2 * a + 1) % 2 ≡ 1 = omega arith in
        let above = λ (r h k : ℕ). let n : Node =
        record {
          position = h;
          place = k;
          digest = if r ==
              0 then up k (known (2 * a + 1)) d else up k d (known (2 * a + 1));
        } in n in
        ap (λ r. above r ((2 * a + 1) / 2) (place (2 * a + 1))) odd
        ∙ ap (λ h. above 1 h (place (2 * a + 1))) (half-odd a) ∙ ap (above 1 a) same

    -- the node over this pair, where the tests say which digests are known
    parent : Bool → Bool → Node
    parent t u = record {
      position = a;
      place = over a;
      digest =
          up (over a) (if t then known (2 * a) else given (2 * a))
          (if u then known (2 * a + 1) else given (2 * a + 1));
    }

    -- the place above a pair is the lesser of those that are known
    abbrev pub PlaceIs : Bool → Bool → Type 0
    PlaceIs true true = min (place (2 * a)) (place (2 * a + 1)) ≡ over a
    PlaceIs true false = place (2 * a) ≡ over a
    PlaceIs false true = place (2 * a + 1) ≡ over a
    PlaceIs false false = Unit {0}

    climbed-step : (t u : Bool) → PlaceIs t u →
        (xs ys : List ℕ) (later : List (List ℕ)) (above : List Node) → Starts (2 * (a + 1)) xs →
        climbed up (map node xs) (map given ys ++ later) ≡ above →
        climbed up
        (map node
        (if t then 2 * a
        ∷ (if u then (2 * a + 1) ∷ xs else xs) else (if u then (2 * a + 1) ∷ xs else xs)))
        (map given
        (if u && not t then 2 * a ∷ (if t && not u then (2 * a + 1) ∷ ys else ys) else
        (if t && not u then (2 * a + 1) ∷ ys else ys)) ++ later)
        ≡ (if t || u then parent t u ∷ above else above)
    unfolding parent
    climbed-step true true at xs ys later above h e =
        ap (λ b. if b then joined up (node (2 * a)) (node (2 * a + 1))
        ∷ climbed up (map node xs) (map given ys ++ later)
        else lone up (node (2 * a)) (slice_index_or (map given ys ++ later) 0 [])
        ∷ climbed up (node (2 * a + 1) ∷ map node xs) (drop 1 (map given ys ++ later)))
        (eq-eqb (2 * a + 1) (sibling (2 * a)) (sym (sibling-even a)))
        ∙ ap (λ n. n ∷ climbed up (map node xs) (map given ys ++ later)) (joined-is at)
        ∙ ap (λ ns. parent true true ∷ ns) e
    climbed-step true false at xs ys later above h e =
        climbed-lone (2 * a) (2 * (a + 1)) xs (given (2 * a + 1)) (map given ys ++ later) h
        (low-even a)
        ∙ ap (λ n. n ∷ climbed up (map node xs) (map given ys ++ later))
        (lone-even at (given (2 * a + 1))) ∙ ap (λ ns. parent true false ∷ ns) e
    climbed-step false true at xs ys later above h e =
        climbed-lone (2 * a + 1) (2 * (a + 1)) xs (given (2 * a)) (map given ys ++ later) h
        (low-odd a)
        ∙ ap (λ n. n ∷ climbed up (map node xs) (map given ys ++ later))
        (lone-odd at (given (2 * a))) ∙ ap (λ ns. parent false true ∷ ns) e
    climbed-step false false at xs ys later above h e = e

  module _ (k : ℕ → Bool) where
    map-if : (b : Bool) (x : ℕ) (xs : List ℕ) (f : ℕ → Node) →
        (if b then f x ∷ map f xs else map f xs) ≡ map f (if b then x ∷ xs else xs)
    map-if true x xs f = refl
    map-if false x xs f = refl

    abbrev pub parent_node : ℕ → Node
    parent_node p =
        record {
          position = p;
          place = over p;
          digest =
              up (over p) (if k (2 * p) then known (2 * p) else given (2 * p))
              (if k (2 * p + 1) then known (2 * p + 1) else given (2 * p + 1));
        }

    pub climbed-pairs : ((a : ℕ) → PlaceIs a (k (2 * a)) (k (2 * a + 1))) →
        (a n : ℕ) (later : List (List ℕ)) →
        climbed up (map node (filter k (range_with_len (2 * a) (2 * n))))
        (map given (filter (missing k) (range_with_len (2 * a) (2 * n))) ++ later)
        ≡ map parent_node (filter (above k) (range_with_len a n))
    unfolding parent
    climbed-pairs at a zero later = refl
    climbed-pairs at a (suc n) later =
        let rest = range_with_len (2 * (a + 1)) (2 * n) in
        let xs = filter k rest in
        let ys = filter (missing k) rest in
        let nodes =
        map node
        (if k (2 * a) then 2 * a ∷ (if k (2 * a + 1) then (2 * a + 1) ∷ xs else xs) else
        (if k (2 * a + 1) then (2 * a + 1) ∷ xs else xs)) in
        let places = λ (t u : Bool). if t then 2 * a
        ∷ (if u then (2 * a + 1) ∷ ys else ys) else (if u then (2 * a + 1) ∷ ys else ys) in
        let over = filter (above k) (range_with_len (a + 1) n) in
        ap (λ r. climbed up (map node (filter k r)) (map given (filter (missing k) r) ++ later))
        (range-pair a n)
        ∙ ap (λ b. climbed up nodes (map given (places b (missing k (2 * a + 1))) ++ later))
        (missing-even k a)
        ∙ ap
        (λ b. climbed up nodes (map given (places (k (2 * a + 1) && not (k (2 * a))) b)
        ++ later)) (missing-odd k a)
        ∙ climbed-step a (k (2 * a)) (k (2 * a + 1)) (at a) xs ys later (map parent_node over)
        (starts-filter k (2 * (a + 1)) (2 * n)) (climbed-pairs at (a + 1) n later)
        ∙ map-if (above k a) a over parent_node
