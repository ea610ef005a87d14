use Rattle.std.proofs.Common.{◌≡◌, ◌∙◌, List, sym, ap, subst, arith, length, map, All}
use Rattle.circle_commit.specs.RowMajorMatrix.{rows, width_of}
use Rattle.circle_commit.specs.declared.matrix.RowMajorMatrix.{RowMajorMatrix}
use Rattle.circle_codewords.specs.Words.{HaveHeights, IsHeight}
use Rattle.circle_prover.specs.OfFoldable.{fields_of, seen}
use Rattle.circle_prover.proofs.TallMatrices.{heights-fit, lambdas-batched, rows-batched}
use Rattle.circle_prover.proofs.TallMatrices.{tall-seen}
use Rattle.circle_prover.proofs.Tops.{some-heights}
use Rattle.circle_prover.proofs.OpenedPairs.{powers-of}
use Rattle.circle_prover.proofs.foldable.FoldableMatrices.commit_first_layer.Goals as goal

pub new-requires : goal.new-requires
new-requires g c = c.args.self.now.blowup

pub first_layer-requires : goal.first_layer-requires
first_layer-requires g c =
    let P = IsHeight g.F.ComplexExtendable.CIRCLE_TWO_ADICITY in
    let listed = c.deref.ensures.value ∙ c.in_ok-heights.ensures (fields_of c.args.self.now)
    c.args.self.now.params.now.log_blowup in
    record {
      heights = subst (λ b. All (P b) c.deref.result.now) (sym c.in_ok-batched.ensures.1)
          (subst (All (P c.args.self.now.params.now.log_blowup)) (sym listed)
          (heights-fit c.args.self.now));
    }

pub commit-requires-clause-some : goal.commit-requires-clause-some
commit-requires-clause-some g c =
    let o = c.args.self.now in
    let listed = c.deref.ensures.value
    ∙ c.in_ok-heights.ensures (fields_of o) o.params.now.log_blowup in
    omega (
      arith,
      c.in_ok-lambdas.ensures.shapes.count,
      ap length listed,
      some-heights (seen o) (tall-seen o).0,
    )

pub commit-requires-clause-powers_of_two : goal.commit-requires-clause-powers_of_two
commit-requires-clause-powers_of_two g c =
    powers-of c.deref.result.now c.in_ok-lambdas.layers.items c.in_ok-lambdas.ensures.shapes

pub returns-clause-lambdas : goal.returns-clause-lambdas
returns-clause-lambdas g c =
    let made = c.in_ok-batched.ensures in
    c.in_ok-lambdas.ensures.lambdas
    ∙ lambdas-batched c.args.self.now c.in_ok-batched.batched c.args.alpha c.deref.result.now made.0
    made.1 made.2 (c.deref.ensures.value
    ∙ c.in_ok-heights.ensures (fields_of c.args.self.now) c.args.self.now.params.now.log_blowup)

pub returns-clause-committed : goal.returns-clause-committed
returns-clause-committed g c =
    let made = c.in_ok-commitment.ensures in
    let batched = c.in_ok-batched.ensures in
    record {
      rows = ap (map rows) made.data ∙ c.in_ok-lambdas.ensures.layers
          ∙ rows-batched c.args.self.now c.in_ok-batched.batched c.args.alpha c.deref.result.now
          batched.0 batched.1 batched.2 (c.deref.ensures.value
          ∙ c.in_ok-heights.ensures (fields_of c.args.self.now)
          c.args.self.now.params.now.log_blowup);
      width = subst (All (λ (m : RowMajorMatrix g.row.EF.Denot). width_of m ≡ 2)) (sym made.data)
          c.in_ok-lambdas.ensures.shapes.width;
      commits =
          subst
          (λ (ms : List (RowMajorMatrix g.row.EF.Denot)). g.M.Mmcs.commits
          c.args.self.now.params.now.mmcs ms c.in_ok-commitment.commitment) (sym made.data)
          made.commitment;
    }

pub returns-clause-shapes : goal.returns-clause-shapes
returns-clause-shapes g c =
    subst (λ hs. HaveHeights hs (g.M.Mmcs.matrices c.in_ok-commitment.kept)) c.deref.ensures.value
    (subst (HaveHeights c.deref.result.now) (sym c.in_ok-commitment.ensures.data)
    c.in_ok-lambdas.ensures.shapes)
