-- The twiddles of codewords and of rounds, one list after another.
use Rattle.std.specs.Prelude.{◌≡◌, ℕ, ◌+◌, ◌-◌, ◌<◌, ◌≤◌, List, [], ◌∷◌, ◌++◌, Some, length, map}
use Rattle.std.specs.Prelude.{take, drop, slice_get}
use Rattle.std.specs.List.{flat_map, range_with_len}
use Rattle.std.proofs.Common.{suc, sym, ◌∙◌, ap, arith, length-append}
use Rattle.std.proofs.Math.Seq.{take-append_seam, drop-append_seam}
use Rattle.std.proofs.lemmas.List.{map-append, length-map, flat_map_more, drop_more}
use Rattle.std.proofs.lemmas.Option.{slice_get_within, get_or_from_slice_get}
use Rattle.circle_field.specs.Field.{FieldOps}
use Rattle.circle_field.specs.Circle.{Coordinates}
use Rattle.circle_folding.specs.Chain.{round_twiddle, round_twiddles}
use Rattle.circle_verifier.specs.Rounds.{inverses_from}
use Rattle.circle_verifier.proofs.FirstLayerWords.{take-push}
use Rattle.circle_verifier.proofs.RoundsWaiting.{range-more}

-- what is made of lists that stand one after another: of the first, and of those after it
module _ {S A B : Type 0} (v : A → B) (f : S → List A) (x : S) (xs : List S) (n : ℕ)
    (long : length (f x) ≡ n) where
  abbrev joined : List B
  joined = map v (flat_map f (x ∷ xs))

  cut : joined ≡ map v (f x) ++ map v (flat_map f xs)
  cut = map-append v (f x) (flat_map f xs)

  counted : n ≡ length (map v (f x))
  counted = sym (length-map (f x) v ∙ long)

  pub part-within : n ≤ length joined
  part-within = omega (
    arith,
    ap length cut,
    length-append (map v (f x)) (map v (flat_map f xs)),
    counted,
  )

  pub first-part : take n joined ≡ map v (f x)
  first-part = ap (take n) cut ∙ ap (λ m. take m (map v (f x) ++ map v (flat_map f xs))) counted
      ∙ take-append_seam (map v (f x)) (map v (flat_map f xs))

  pub later-parts : drop n joined ≡ map v (flat_map f xs)
  later-parts = ap (drop n) cut ∙ ap (λ m. drop m (map v (f x) ++ map v (flat_map f xs))) counted
      ∙ drop-append_seam (map v (f x)) (map v (flat_map f xs))

module _ {A : Type 0} (f : ℕ → List A) where
  -- the lists of the first heights, with that of one more
  pub heights-more : (hs : List ℕ) (i h : ℕ) → slice_get hs i ≡ Some h → flat_map f (take i hs)
      ++ f h ≡ flat_map f (take (i + 1) hs)
  heights-more hs i h at = flat_map_more f [] (take i hs) h
      ∙ ap (flat_map f) (sym (take-push hs i h at))

  -- the lists of the first rounds, with that of one more
  pub rounds-more : (n : ℕ) → flat_map f (range_with_len 0 n) ++ f n
      ≡ flat_map f (range_with_len 0 (n + 1))
  rounds-more n =
      let none : 0 + n ≡ n = omega arith in
      let next : suc n ≡ n + 1 = omega arith in
      let longer = range-more 0 n ∙ ap (λ m. range_with_len 0 n ++ m ∷ []) none in
      flat_map_more f [] (range_with_len 0 n) n
      ∙ ap (flat_map f) (sym longer ∙ ap (range_with_len 0) next)

-- of the inverses of the rounds from one on, its own, and the others
pub next-inverses : {F : Type 0} (k : FieldOps F) (gen : ℕ → Coordinates F) (h : ℕ)
    (queries : List ℕ) {later : List F} (n rounds : ℕ) → n < rounds →
    later ≡ inverses_from k gen h queries n (rounds - n) →
    (length queries ≤ length later)
    × (take (length queries) later ≡ map k.inv (round_twiddles k gen h n queries))
    × (drop (length queries) later ≡ inverses_from k gen h queries (n + 1) (rounds - (n + 1)))
next-inverses k gen h queries n rounds lt are =
    let twiddles = λ (r : ℕ). round_twiddles k gen h r queries in
    let many = length queries in
    let left = rounds - (n + 1) in
    let rest = range_with_len (n + 1) left in
    let long = length-map queries (round_twiddle k gen h n) in
    let count : rounds - n ≡ suc left = omega (arith, lt) in
    let parts = are ∙ ap (inverses_from k gen h queries n) count in (
      omega (arith, ap length parts, part-within k.inv twiddles n rest many long),
      ap (take many) parts ∙ first-part k.inv twiddles n rest many long,
      ap (drop many) parts ∙ later-parts k.inv twiddles n rest many long,
    )

-- the heights from one on begin with it
pub heights-split : (hs : List ℕ) (i h : ℕ) → slice_get hs i ≡ Some h →
    drop i hs ≡ h ∷ drop (i + 1) hs
heights-split hs i h at = drop_more hs i h (slice_get_within hs i h at)
    ∙ ap (λ x. x ∷ drop (i + 1) hs) (get_or_from_slice_get hs i h h at)
