-- Claims on matrices, one after another.
use Rattle.std.specs.Prelude.{◌≡◌, ℕ, ◌+◌, ◌<◌, ◌==◌, if◌then◌else◌, true, List, [], ◌∷◌, ◌++◌}
use Rattle.std.specs.Prelude.{length, map, take, slice_index_or}
use Rattle.std.proofs.Common.{sym, ◌∙◌, ap}
use Rattle.std.proofs.lemmas.List.{map-append, append-nil, append_assoc, take_more}
use Rattle.circle_field.specs.Circle.{Coordinates}
use Rattle.circle_field.specs.Field.{FieldOps}
use Rattle.circle_relation.specs.Statement.{PointClaim}
use Rattle.circle_relation.specs.Sums.{Adds}
use Rattle.circle_relation.proofs.ReducedSums.{adds-both, adds-same}
use Rattle.circle_codewords.specs.Words.{Committed, claims_on, claims_at}

module _ {F E : Type 0} where
  -- some of the claims on a matrix, each with its row at a place
  abbrev pub claims_among : Committed F E → List (PointClaim E) → ℕ → List (PointClaim E × List F)
  claims_among m claims j = map (λ c. (c, slice_index_or m.rows j [])) claims

  -- one claim more
  among-more : (m : Committed F E) (i : ℕ) (claim : PointClaim E) (j : ℕ) →
      i < length m.claims → slice_index_or m.claims i claim ≡ claim →
      claims_among m (take i m.claims) j ++ (claim, slice_index_or m.rows j []) ∷ []
      ≡ claims_among m (take (i + 1) m.claims) j
  among-more m i claim j lt is =
      let f : PointClaim E → PointClaim E × List F = λ c. (c, slice_index_or m.rows j []) in
      sym (ap (map f) (take_more m.claims i claim lt ∙ ap (λ c. take i m.claims ++ c ∷ []) is)
      ∙ map-append f (take i m.claims) (claim ∷ []))

  -- what the claims before it add and what it adds are what these claims add
  pub claim-after : (l : FieldOps E) (embed : F → E) (alpha : E) (points : List (Coordinates F))
      (none : Coordinates F) (m : Committed F E) (i : ℕ) (claim : PointClaim E)
      (first offset after : E) (begun old new : List E) → i < length m.claims →
      slice_index_or m.claims i claim ≡ claim →
      Adds l embed alpha points none (claims_among m (take i m.claims)) first offset begun old →
      Adds l embed alpha points none (λ j. (claim, slice_index_or m.rows j []) ∷ []) offset after
      old new →
      Adds l embed alpha points none (claims_among m (take (i + 1) m.claims)) first after begun new
  claim-after l embed alpha points none m i claim first offset after begun old new lt is was this =
      adds-same l embed alpha points none
      (λ j. claims_among m (take i m.claims) j ++ (claim, slice_index_or m.rows j []) ∷ [])
      (claims_among m (take (i + 1) m.claims)) first after begun new
      (adds-both l embed alpha points none (claims_among m (take i m.claims))
      (λ j. (claim, slice_index_or m.rows j []) ∷ []) first offset after begun old new was this)
      (λ j _. among-more m i claim j lt is)

  claims-append : (h : ℕ) (ms : List (Committed F E)) (m : Committed F E) (j : ℕ) →
      claims_at h (ms ++ m ∷ []) j ≡ claims_at h ms j
      ++ (if m.log_height == h then claims_on m j else [])
  claims-append h [] m j = append-nil (if m.log_height == h then claims_on m j else [])
  claims-append h (n ∷ ms) m j =
      ap (λ rest. (if n.log_height == h then claims_on n j else []) ++ rest)
      (claims-append h ms m j)
      ∙ sym (append_assoc (if n.log_height == h then claims_on n j else []) (claims_at h ms j)
      (if m.log_height == h then claims_on m j else []))

  -- one matrix more, of the height and of another
  pub claims-more : (h : ℕ) (ms : List (Committed F E)) (i : ℕ) (m : Committed F E) (j : ℕ) →
      i < length ms → slice_index_or ms i m ≡ m → (m.log_height == h) ≡ true →
      claims_at h (take i ms) j ++ claims_on m j ≡ claims_at h (take (i + 1) ms) j
  claims-more h ms i m j lt is same =
      sym (ap (λ ns. claims_at h ns j) (take_more ms i m lt ∙ ap (λ n. take i ms ++ n ∷ []) is)
      ∙ claims-append h (take i ms) m j
      ∙ ap (λ b. claims_at h (take i ms) j ++ (if b then claims_on m j else [])) same)

  pub claims-left : (h : ℕ) (ms : List (Committed F E)) (i : ℕ) (m : Committed F E) (j : ℕ) →
      i < length ms → slice_index_or ms i m ≡ m →
      (if m.log_height == h then claims_on m j else []) ≡ [] → claims_at h (take i ms) j
      ≡ claims_at h (take (i + 1) ms) j
  claims-left h ms i m j lt is none =
      sym (ap (λ ns. claims_at h ns j) (take_more ms i m lt ∙ ap (λ n. take i ms ++ n ∷ []) is)
      ∙ claims-append h (take i ms) m j
      ∙ ap (λ cs. claims_at h (take i ms) j ++ cs) none ∙ append-nil (claims_at h (take i ms) j))
