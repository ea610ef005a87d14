-- What is known of matrices that leave something to fold, as codewords read them.
use Rattle.std.specs.Prelude.{◌≡◌, ℕ, ◌+◌, ◌<◌, ◌≤◌, List, map, All, slice_index_or}
use Rattle.std.proofs.Common.{◌∙◌, ap, arith}
use Rattle.std.proofs.lemmas.List.{length-map}
use Rattle.std.proofs.lemmas.List.Elements.{All-map}
use Rattle.circle_commit.specs.Mmcs.{greatest}
use Rattle.circle_codewords.specs.OfMatrices.{lambda_at, rows_at}
use Rattle.circle_codewords.specs.Words.{Committed, IsHeight, committed_of, opened_lambda}
use Rattle.circle_codewords.specs.Words.{opened_rows}
use Rattle.circle_codewords.specs.declared.matrix.BatchedMatrices.{BatchedMatrices}
use Rattle.circle_prover.specs.OfFoldable.{lambdas_of, layers_of, seen}
use Rattle.circle_prover.specs.Words.{AreTall, heights_of, top_of}
use Rattle.circle_prover.specs.declared.foldable.FoldableMatrices.{FoldableMatrices}
use Rattle.circle_prover.proofs.Seen.{top-seen}
use Rattle.circle_prover.proofs.Tops.{height-known, top-known}

module _ {F E M : Type 0} {over g : _} (o : FoldableMatrices F E M over g) where
  -- there is one, and each leaves something to fold
  pub tall-seen : AreTall o.params.now (seen o)
  tall-seen =
      let read = committed_of over.fields o.params.now.log_blowup in (
        omega (arith, o.some, length-map o.matrices.now read),
        All-map
            (λ (m : Committed F E). o.params.now.log_blowup + o.params.now.log_final_poly_len
            + 2 ≤ m.log_height) read o.matrices.now o.tall,
      )

  -- the group has a domain for each
  low-seen : All (λ m. m.log_height < over.fields.two_adicity) (seen o)
  low-seen = All-map (λ (m : Committed F E). m.log_height < over.fields.two_adicity)
      (committed_of over.fields o.params.now.log_blowup) o.matrices.now
      (λ i d lt. (slice_index_or o.matrices.now i d).openable.in_group)

  -- so it is of the greatest height, and of all
  pub top-tall : o.params.now.log_blowup + o.params.now.log_final_poly_len + 2 ≤ top_of (seen o)
  top-tall = top-known (seen o)
      (λ h. o.params.now.log_blowup + o.params.now.log_final_poly_len + 2 ≤ h) tall-seen.0
      tall-seen.1

  pub top-low : top_of (seen o) < over.fields.two_adicity
  top-low = top-known (seen o) (λ h. h < over.fields.two_adicity) tall-seen.0 low-seen

  pub heights-fit :
      All (IsHeight over.fields.two_adicity o.params.now.log_blowup) (heights_of (seen o))
  heights-fit = height-known (seen o) (IsHeight over.fields.two_adicity o.params.now.log_blowup)
      (λ i m lt. let tall = tall-seen.1 i m lt in (omega (arith, tall), low-seen i m lt))

  -- the greatest height as it is found
  pub top-is : greatest (map (λ m. m.log_height) o.matrices.now) ≡ top_of (seen o)
  top-is = top-seen over.fields o.params.now.log_blowup o.matrices.now

  -- what is made of them with a batching challenge
  module _ (b : BatchedMatrices F E over g) (alpha : E) (hs : List ℕ)
      (same : b.matrices.now ≡ o.matrices.now) (blowup : b.log_blowup ≡ o.params.now.log_blowup)
      (challenge : b.alpha ≡ alpha) (all : hs ≡ heights_of (seen o)) where
    pub lambdas-batched : map (lambda_at b) hs ≡ lambdas_of o alpha
    lambdas-batched =
        ap (λ ms. map (opened_lambda over.fields ms b.log_blowup b.alpha) hs) same
        ∙ ap (λ n. map (opened_lambda over.fields o.matrices.now n b.alpha) hs) blowup
        ∙ ap (λ a. map (opened_lambda over.fields o.matrices.now o.params.now.log_blowup a) hs)
        challenge
        ∙ ap (map (opened_lambda over.fields o.matrices.now o.params.now.log_blowup alpha)) all

    pub rows-batched : map (rows_at b) hs ≡ layers_of o alpha
    rows-batched =
        ap (λ ms. map (opened_rows over.fields ms b.log_blowup b.alpha) hs) same
        ∙ ap (λ n. map (opened_rows over.fields o.matrices.now n b.alpha) hs) blowup
        ∙ ap (λ a. map (opened_rows over.fields o.matrices.now o.params.now.log_blowup a) hs)
        challenge
        ∙ ap (map (opened_rows over.fields o.matrices.now o.params.now.log_blowup alpha)) all
