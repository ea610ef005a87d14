use Rattle.std.proofs.Common.{◌≡◌, [], ◌∷◌, ◌-◌, ◌^◌, ◌∙◌, ap, subst, arith, length, map, take}
use Rattle.std.proofs.Common.{slice_index_or}
use Rattle.std.proofs.lemmas.List.{take_all, map-append, take_more, length-append, get_or_default}
use Rattle.std.proofs.lemmas.List.Elements.{All-same, All-push}
use Rattle.circle_commit.specs.RowMajorMatrix.{rows, width_of, height_of}
use Rattle.circle_commit.specs.declared.matrix.RowMajorMatrix.{RowMajorMatrix}
use Rattle.circle_domain.proofs.Pointwise.{map_pushed}
use Rattle.circle_codewords.specs.OfMatrices.{lambda_at, rows_at}
use Rattle.circle_codewords.specs.Words.{HaveHeights}
use Rattle.circle_codewords.proofs.matrix.BatchedMatrices.first_layer.Goals as goal

pub layer-requires : goal.layer-requires
layer-requires g c = record {
  height = c.requires.heights c.loop-log_height.log_height-index 0 c.loop-log_height-test.true;
}

pub loop-log_height-preserved : goal.loop-log_height-preserved
loop-log_height-preserved g c =
    let heights = c.args.heights.now in
    let i = c.loop-log_height.log_height-index in
    let h = slice_index_or heights i 0 in
    let lt = c.loop-log_height-test.true in
    let is : h ≡ slice_index_or heights i h = get_or_default heights i 0 h lt in
    let inv = c.loop-log_height.invariant in
    let old = c.loop-log_height.layers.items in
    let made = c.in_ok-lambda.rows in
    let pushed = c.in_ok-push-2.ensures.items in
    record {
      lambdas = map_pushed (lambda_at c.args.self.now) heights i h c.loop-log_height.lambdas.items
          c.push.new.self.items c.in_ok-lambda.lambda lt is c.in_ok-push.ensures.items inv.lambdas
          c.in_ok-lambda.ensures.lambda;
      layers = map_pushed (rows_at c.args.self.now) heights i h (map rows old)
          (map rows c.push-in-loop-log_height.new.self.items) (rows made) lt is
          (ap (map rows) pushed ∙ map-append rows old (made ∷ [])) inv.layers
          c.in_ok-lambda.ensures.rows;
      shapes = record {
        count = ap length pushed ∙ length-append old (made ∷ [])
            ∙ omega (
              arith,
              inv.shapes.count,
              ap length (take_more heights i h lt),
              length-append (take i heights) (slice_index_or heights i h ∷ []),
            );
        width = All-same (λ (m : RowMajorMatrix g.row.EF.Denot). width_of m ≡ 2) _ _ pushed
            (All-push (λ (m : RowMajorMatrix g.row.EF.Denot). width_of m ≡ 2) old made
            inv.shapes.width c.in_ok-lambda.ensures.width);
        height =
            map_pushed (λ n. 2 ^ (n - 1)) heights i h (map height_of old)
            (map height_of c.push-in-loop-log_height.new.self.items) (height_of made) lt is
            (ap (map height_of) pushed ∙ map-append height_of old (made ∷ [])) inv.shapes.height
            c.in_ok-lambda.ensures.height;
      };
    }

pub returns-clause-lambdas : goal.returns-clause-lambdas
returns-clause-lambdas g c =
    c.loop-log_height.invariant.lambdas
    ∙ ap (map _)
    (take_all c.loop-log_height.log_height-index c.args.heights.now
    (omega (arith, c.loop-log_height-test.false)))

pub returns-clause-layers : goal.returns-clause-layers
returns-clause-layers g c =
    c.loop-log_height.invariant.layers
    ∙ ap (map _)
    (take_all c.loop-log_height.log_height-index c.args.heights.now
    (omega (arith, c.loop-log_height-test.false)))

pub returns-clause-shapes : goal.returns-clause-shapes
returns-clause-shapes g c =
    subst (λ hs. HaveHeights hs c.loop-log_height.layers.items)
    (take_all c.loop-log_height.log_height-index c.args.heights.now
    (omega (arith, c.loop-log_height-test.false))) c.loop-log_height.invariant.shapes
