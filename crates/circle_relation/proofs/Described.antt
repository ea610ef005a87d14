-- What describes a run's transcript.
use Rattle.std.specs.Prelude.{◌≡◌, ℕ, ◌+◌, ◌-◌, List, [], ◌∷◌, ◌++◌, length, map, flat_map}
use Rattle.std.proofs.Common.{refl, sym, ap, ◌∙◌, append_assoc}
use Rattle.std.proofs.lemmas.List.{map-append}
use Rattle.circle_commit.specs.declared.params.FriParameters.{FriParameters}
use Rattle.circle_field.specs.Field.{FieldOps}
use Rattle.circle_relation.specs.Statement.{BatchClaim, MatrixClaim, PointClaim, all_matrices}
use Rattle.circle_relation.specs.Statement.{log_max_height}
use Rattle.circle_transcript.specs.Draw.{Claim, widths_of}
use Rattle.circle_transcript.specs.Shape.{Shape}
use Rattle.circle_relation.specs.Taken.{claims_taken, point_taken, shape_by, widths_by}

-- what is made of the items of two lists, one after the other
pub flat-append : {A B : Type 0} (f : A → List B) (xs ys : List A) → flat_map f (xs ++ ys)
    ≡ flat_map f xs ++ flat_map f ys
flat-append f [] ys = refl
flat-append f (x ∷ xs) ys = ap (λ r. f x ++ r) (flat-append f xs ys)
    ∙ sym (append_assoc (f x) (flat_map f xs) (flat_map f ys))

module _ {E : Type 0} (l : FieldOps E) where
  points_widths : (cs : List (PointClaim E)) → widths_of (map (point_taken l) cs)
      ≡ map (λ c. length c.values) cs
  points_widths [] = refl
  points_widths (c ∷ cs) = ap (λ r. length c.values ∷ r) (points_widths cs)

  matrices_widths : (ms : List (MatrixClaim E)) →
      widths_of (flat_map (λ m. map (point_taken l) m.claims) ms)
      ≡ flat_map (λ m. m) (map (λ m. map (λ c. length c.values) m.claims) ms)
  matrices_widths [] = refl
  matrices_widths (m ∷ ms) =
      map-append (λ (c : Claim E). length c.values) (map (point_taken l) m.claims)
      (flat_map (λ m. map (point_taken l) m.claims) ms)
      ∙ ap (λ w. w ++ widths_of (flat_map (λ m. map (point_taken l) m.claims) ms))
      (points_widths m.claims)
      ∙ ap (λ w. map (λ c. length c.values) m.claims ++ w) (matrices_widths ms)

  -- the numbers of values of the claims, one after another
  pub claims_widths : {Com : Type 0} (bs : List (BatchClaim Com E)) → widths_of (claims_taken l bs)
      ≡ flat_map (λ m. m) (flat_map (λ b. b) (widths_by bs))
  claims_widths [] = refl
  claims_widths (b ∷ bs) =
      ap (λ cs. widths_of cs)
      (flat-append (λ m. map (point_taken l) m.claims) b.matrices (all_matrices bs))
      ∙ map-append (λ (c : Claim E). length c.values)
      (flat_map (λ m. map (point_taken l) m.claims) b.matrices) (claims_taken l bs)
      ∙ ap (λ w. w ++ widths_of (claims_taken l bs)) (matrices_widths b.matrices)
      ∙ ap (λ w. flat_map (λ m. m) (map (λ m. map (λ c. length c.values) m.claims) b.matrices) ++ w)
      (claims_widths bs)
      ∙ sym (flat-append (λ m. m) (map (λ m. map (λ c. length c.values) m.claims) b.matrices)
      (flat_map (λ b. b) (widths_by bs)))

module _ {M E Com : Type 0} (p : FriParameters M) (batches : List (BatchClaim Com E)) where
  abbrev shape_parts : List (List (List ℕ)) → ℕ → ℕ → Shape
  shape_parts widths top extra = record {
    opened_widths = widths;
    num_commit_rounds = top - 1 - p.log_blowup - p.log_final_poly_len;
    batch_pow_bits = p.batch_proof_of_work_bits;
    commit_pow_bits = p.commit_proof_of_work_bits;
    query_pow_bits = p.query_proof_of_work_bits;
    num_queries = p.num_queries;
    index_bits = top - 1 + extra;
    log_blowup = p.log_blowup;
    log_final_poly_len = p.log_final_poly_len;
  }

  pub shape_is : (widths : List (List (List ℕ))) (top extra : ℕ) (s : Shape) →
      s ≡ shape_parts widths top extra → widths ≡ widths_by batches →
      top ≡ log_max_height p.log_blowup (all_matrices batches) → extra ≡ 1 → s ≡ shape_by p batches
  shape_is widths top extra s made wide high one =
      made ∙ ap (λ w. shape_parts w top extra) wide
      ∙ ap (λ t. shape_parts (widths_by batches) t extra) high
      ∙ ap
      (shape_parts (widths_by batches) (log_max_height p.log_blowup (all_matrices batches))) one
