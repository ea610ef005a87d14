-- The laws of the traits of schemes, of the scheme.
use Rattle.std.specs.Prelude.{◌≡◌, ℕ, ◌+◌, List, [], ◌∷◌, All, slice_index_or, Ok}
use Rattle.std.proofs.Common.{sym, subst, ◌∙◌, ap}
use Rattle.std.proofs.lemmas.List.Elements.{All-cons, All-nil}
use Rattle.circle_challenger.specs.Moves.{RunMoves}
use Rattle.circle_commit.specs.Matrix.{IsPowerOfTwo}
use Rattle.circle_commit.specs.Mmcs.{HaveHeightsOfPowers}
use Rattle.circle_commit.specs.RowMajorMatrix.{height_of}
use Rattle.circle_commit.specs.declared.matrix.RowMajorMatrix.{RowMajorMatrix}
use Rattle.circle_commit.specs.declared.params.FriParameters.{FriParameters}
use Rattle.circle_commit.specs.declared.pcs.OpeningRequest.{OpeningRequest}
use Rattle.circle_domain.specs.Domain.{log_size}
use Rattle.circle_domain.specs.declared.domain.CircleDomain.{CircleDomain}
use Rattle.circle_field.specs.Circle.{Coordinates}
use Rattle.circle_field.specs.Field.{FieldOps}
use Rattle.circle_field.specs.declared.field.Operations.{Ghosts}
use Rattle.circle_commit.specs.Kept.{AreKept}
use Rattle.circle_relation.specs.Taken.{drawn_by}
use Rattle.circle_relation.specs.Accepts.{AcceptsFrom, Authenticates, Fields}
use Rattle.circle_relation.specs.Statement.{BatchClaim, OpeningProof}
use Rattle.p3_circle.specs.Committing.{AreExtensions}
use Rattle.p3_circle.specs.Scheme.{AreCommittedTo, IsCommitted}

module _ {S C F E M Com IC IP WP : Type 0} {k : Fields F E} {p : FriParameters M}
    {r : RunMoves C S F E Com} {inputs : Authenticates IC F IP} {words : Authenticates Com E WP}
    {batches : List (BatchClaim IC E)} {proof : OpeningProof F E Com IP WP} where
  -- what is drawn fixes the state after
  pub one-state : (s t u : S) → AcceptsFrom k p r inputs words batches proof s t →
      AcceptsFrom k p r inputs words batches proof s u → t ≡ u
  one-state s t u a b =
      let both : Ok (drawn_by r.base.coefficients a.drawn t) ≡ Ok
      (drawn_by r.base.coefficients b.drawn u) = sym a.draws ∙ b.draws in
      let same : drawn_by r.base.coefficients a.drawn t ≡ drawn_by r.base.coefficients b.drawn u =
      cc in
      ap (λ d. d.state) same

module _ {F Com : Type 0} {g : Ghosts F} (k : FieldOps F) (gen : ℕ → Coordinates F) (blowup : ℕ)
    (Commits : List (RowMajorMatrix F) → Com → Type 0) where
  -- the extensions of a batch are committed to as the batch
  pub batch-committed : (batch : List (CircleDomain F g × RowMajorMatrix F))
      (ldes : List (RowMajorMatrix F)) (commitment : Com) (matrices : List (RowMajorMatrix F)) →
      AreExtensions k gen blowup batch ldes → AreCommittedTo Commits ldes commitment matrices →
      IsCommitted k gen blowup Commits batch commitment matrices
  batch-committed batch ldes commitment matrices made told = record {
    extended = subst (AreExtensions k gen blowup batch) (sym told.same) made;
    committed = subst (λ ms. Commits ms commitment) (sym told.same) told.committed;
  }

  -- the extensions of a batch have heights that are powers of two
  pub extended-powers : (batch : List (CircleDomain F g × RowMajorMatrix F))
      (made : List (RowMajorMatrix F)) → AreExtensions k gen blowup batch made →
      HaveHeightsOfPowers made
  extended-powers [] [] h = All-nil _
  extended-powers (x ∷ batch) (m ∷ made) h =
      All-cons (λ m. IsPowerOfTwo (height_of m)) m made (log_size x.0 + blowup, h.0.height)
      (extended-powers batch made h.1)
  extended-powers [] (m ∷ made) h = absurd h
  extended-powers (x ∷ batch) [] h = absurd h

  -- so do the matrices that were kept of batches
  pub kept-powers : {D E : Type 0} (kept : D → List (RowMajorMatrix F))
      (requests : List (OpeningRequest D E)) →
      AreKept {B = List (CircleDomain F g × RowMajorMatrix F)} {Com = Com}
      (λ batch commitment d. IsCommitted k gen blowup Commits batch commitment (kept d))
      requests → All (λ r. HaveHeightsOfPowers (kept r.prover_data.now)) requests
  kept-powers kept requests h = λ i d lt.
      let (batch, commitment, told) = h i d lt in
      extended-powers batch (kept (slice_index_or requests i d).prover_data.now) told.extended
