-- What is drawn of claims and a proof.
use Rattle.std.specs.Prelude.{◌≡◌, ℕ, ◌^◌, ◌<◌, ◌≤◌, Bool, true, false, if◌then◌else◌, List, []}
use Rattle.std.specs.Prelude.{◌∷◌, ◌++◌, length, map, flat_map, All, Ok, Err}
use Rattle.std.specs.List.{AllByRecursion}
use Rattle.std.proofs.Common.{zero, suc, refl, sym, ◌∙◌, ap}
use Rattle.std.proofs.lemmas.List.Elements.{All-from_recursion}
use Rattle.circle_challenger.specs.Moves.{Moves, RunMoves, after_element, drawn_numbers, is_passed}
use Rattle.circle_challenger.specs.Sampling.{samples}
use Rattle.circle_commit.specs.declared.params.FriParameters.{FriParameters}
use Rattle.circle_commit.specs.declared.params.PowPhase.TheVariants.{Batch, CommitPhase, Query}
use Rattle.circle_field.specs.Field.{FieldOps}
use Rattle.circle_relation.specs.Taken.{shape_by, taken_by, widths_by}
use Rattle.circle_relation.specs.Statement.{BatchClaim, MatrixClaim, OpeningProof, all_matrices}
use Rattle.circle_transcript.specs.Draw.{Drawn, Taken, claimed, closed, draw_seeded, drawn, layered}
use Rattle.circle_transcript.specs.Draw.{rounds_pass}
use Rattle.circle_transcript.specs.declared.transcript.Numbers.{Numbers}
use Rattle.circle_transcript.proofs.Phases.{draw_is}

-- numbers of `width` bits are below 2^width
all-below : {S : Type 0} (width : ℕ) (next : S → S) (bits_of : S → ℕ) →
    ((s : S) → bits_of s < 2 ^ width) → (count : ℕ) (s : S) →
    AllByRecursion (λ q. q < 2 ^ width) (samples bits_of next count s)
unfolding samples
all-below width next bits_of small zero s = tt
all-below width next bits_of small (suc count) s =
    (small s, all-below width next bits_of small count (next s))

pub numbers-below : {C S F E : Type 0} (m : Moves C S F E) →
    ((s : S) (bits : ℕ) → bits ≤ 63 → m.sampled_bits s bits < 2 ^ bits) →
    (width count : ℕ) (s : S) → width ≤ 63 →
    All (λ q. q < 2 ^ width) (drawn_numbers m width count s)
numbers-below m law width count s fits =
    All-from_recursion (λ q. q < 2 ^ width) (drawn_numbers m width count s)
    (all-below width (λ t. m.after_bits t width) (λ t. m.sampled_bits t width)
    (λ t. law t width fits) count s)

-- three choices with errors that give a value
chosen : {A X : Type 0} (a b c : Bool) (v w : A) (x y z : X) →
    (if a then (if b then (if c then Ok v else Err x) else Err y) else Err z) ≡ Ok w → v ≡ w
chosen true true true v w x y z is = cc
chosen true true false v w x y z is = cc
chosen true false c v w x y z is = cc
chosen false b c v w x y z is = cc

-- what is drawn where nothing is refused
pub drawn-is : {C S F E Com : Type 0} (r : RunMoves C S F E Com) (n : Numbers) (t : Taken F E Com)
    (s : S) (d : Drawn S F) → draw_seeded r n t s ≡ Ok d → drawn r n t s ≡ d
drawn-is r n t s d is =
    chosen (is_passed r.base (claimed r n t s) n.batch_pow_bits t.batch_witness)
    (rounds_pass r n.commit_pow_bits (after_element r.base (layered r n t s)) t.rounds)
    (is_passed r.base (closed r n t s) n.query_pow_bits t.query_witness)
    (drawn r n t s) d Query CommitPhase Batch (sym (draw_is r n t s) ∙ is)

-- what describes and enters a run depends on the claims alone, and not on the commitments
abbrev pub parts : {Com E : Type 0} → List (BatchClaim Com E) → List (List (MatrixClaim E))
parts batches = map (λ b. b.matrices) batches

module _ {E : Type 0} where
  widths-of : {Com : Type 0} (batches : List (BatchClaim Com E)) → widths_by batches
      ≡ map (λ ms. map (λ m. map (λ c. length c.values) m.claims) ms) (parts batches)
  widths-of [] = refl
  widths-of (b ∷ batches) =
      ap (λ rest. map (λ m. map (λ c. length c.values) m.claims) b.matrices ∷ rest)
      (widths-of batches)

  matrices-of : {Com : Type 0} (batches : List (BatchClaim Com E)) → all_matrices batches
      ≡ flat_map (λ ms. ms) (parts batches)
  matrices-of [] = refl
  matrices-of (b ∷ batches) = ap (λ rest. b.matrices ++ rest) (matrices-of batches)

  module _ {A B : Type 0} (xs : List (BatchClaim A E)) (ys : List (BatchClaim B E))
      (same : parts xs ≡ parts ys) where
    pub same-matrices : all_matrices xs ≡ all_matrices ys
    same-matrices = matrices-of xs ∙ ap (flat_map (λ ms. ms)) same ∙ sym (matrices-of ys)

    same-widths : widths_by xs ≡ widths_by ys
    same-widths = widths-of xs ∙ ap (map (λ ms. map (λ m. map (λ c. length c.values) m.claims) ms))
        same ∙ sym (widths-of ys)

    pub same-shape : {M : Type 0} (p : FriParameters M) → shape_by p xs ≡ shape_by p ys
    same-shape p = let widths = same-widths in let matrices = same-matrices in cc

    pub same-taken : {F WC IP WP : Type 0} (l : FieldOps E) (proof : OpeningProof F E WC IP WP) →
        taken_by l xs proof ≡ taken_by l ys proof
    same-taken l proof = let matrices = same-matrices in cc
