use Rattle.std.proofs.Common.{◌≡◌, ◌/◌, ◌∙◌, sym, ap, arith, length, map}
use Rattle.circle_field.proofs.Inverses.{take-whole}
use Rattle.circle_commit.specs.RowFacts.{length-rows_from}
use Rattle.circle_commit.specs.RowMajorMatrix.{length-rows}
use Rattle.circle_folding.specs.Lambda.{lambda_of, remainder_of}
use Rattle.circle_codewords.specs.Words.{committed_of, lambda, corrected_word}
use Rattle.circle_codewords.specs.OfMatrices.{fields_of}
use Rattle.circle_codewords.proofs.Pairs.{twice-half, pairs-made}
use Rattle.circle_codewords.proofs.matrix.BatchedMatrices.layer.Goals as goal

pub extract_lambda-requires-clause-size : goal.extract_lambda-requires-clause-size
extract_lambda-requires-clause-size g c =
    let top = c.requires.height.1 in (
      c.args.log_height,
      ap length c.deref_mut.ensures.value ∙ c.in_ok-word.ensures.count,
      c.requires.height.0,
      omega (arith, top),
    )

pub new-requires-clause-whole : goal.new-requires-clause-whole
new-requires-clause-whole g c =
    let h = c.args.log_height in
    let low = c.requires.height.0 in
    let even = twice-half h (omega (arith, low, c.args.self.now.blowup)) in
    omega (arith, c.in_ok-word.word.ok.0, c.in_ok-word.ensures.count, even)

pub returns-clause-lambda : goal.returns-clause-lambda
returns-clause-lambda g c =
    let lent : c.deref_mut.result.now ≡ c.in_ok-word.word.items = c.deref_mut.ensures.value in
    c.in_ok-lambda.ensures.lambda c.args.log_height (ap length lent ∙ c.in_ok-word.ensures.count)
    ∙ ap (lambda_of g.F.Operations.ops g.F.ComplexExtendable.generators g.EF.Operations.ops
    g.EF.ExtensionField.embed c.args.self.now.log_blowup c.args.log_height)
    (lent ∙ c.in_ok-word.ensures.word)

pub returns-clause-rows : goal.returns-clause-rows
returns-clause-rows g c =
    let alpha = c.args.self.now.alpha in
    let h = c.args.log_height in
    let B = c.args.self.now.log_blowup in
    let word = c.in_ok-word.word in
    let new = c.extract_lambda.new.lde in
    let lent : c.deref_mut.result.now ≡ word.items = c.deref_mut.ensures.value in
    let is_word = lent ∙ c.in_ok-word.ensures.word in
    let kept : length new ≡ length word.items = c.extract_lambda.auto.lde ∙ ap length lent in
    let k = fields_of c.args.self.now in
    let ms = map (committed_of k B) c.args.self.now.matrices.now in
    let rest : new ≡ corrected_word k alpha ms B h =
    c.in_ok-lambda.ensures.remainder h (ap length lent ∙ c.in_ok-word.ensures.count)
    ∙ ap (λ x. remainder_of k.field k.gen k.extension k.embed B h x c.deref_mut.result.now)
    (returns-clause-lambda g c)
    ∙ ap (remainder_of k.field k.gen k.extension k.embed B h (lambda k alpha ms B h)) is_word in
    let written = take-whole word.len new word.items word.ok.0 kept in
    c.new.ensures.content ∙ pairs-made word.len _ (corrected_word k alpha ms B h) (written ∙ rest)
    (word.ok.0 ∙ sym kept ∙ ap length rest)

pub returns-clause-height : goal.returns-clause-height
returns-clause-height g c =
    let h = c.args.log_height in
    let low = c.requires.height.0 in
    let even = twice-half h (omega (arith, low, c.args.self.now.blowup)) in
    sym (length-rows c.new.result) ∙ ap length c.new.ensures.content
    ∙ length-rows_from 2 (c.in_ok-word.word.len / 2) _
    ∙ omega (arith, c.in_ok-word.word.ok.0, c.in_ok-word.ensures.count, even)
