use Rattle.std.proofs.Common.{◌∙◌, refl, sym, ap, subst, All}
use Rattle.std.proofs.lemmas.Bool.{false≢true}
use Rattle.std.proofs.lemmas.List.{take_all}
use Rattle.std.proofs.lemmas.List.Elements.{All-more}
use Rattle.circle_commit.specs.Matrix.{IsPowerOfTwo}
use Rattle.circle_commit.specs.RowMajorMatrix.{height_of}
use Rattle.circle_commit.proofs.mmcs.heights_are_powers_of_two.Goals as goal

pub loop-matrix-preserved : goal.loop-matrix-preserved
loop-matrix-preserved g c =
    let m = c.matrix-item.result in
    let power = c.if-not-is_power_of_two.ensures.0 refl in
    All-more (λ m. IsPowerOfTwo (height_of m)) c.args.matrices.now c.loop-matrix.matrix-index m
    c.loop-matrix-test.true c.loop-matrix.invariant
    (power.0, ap height_of (sym c.matrix-item.is) ∙ sym c.height.ensures ∙ power.1)

pub returns : goal.returns
returns g c =
    let powers =
    subst (All (λ m. IsPowerOfTwo (height_of m)))
    (take_all c.loop-matrix.matrix-index c.args.matrices.now c.loop-matrix-test.false)
    c.loop-matrix.invariant in
    record {
      yes = λ _ list same. subst (All (λ m. IsPowerOfTwo (height_of m))) same powers;
      no = λ _. refl;
    }

pub returns-then-not-is_power_of_two-clause-no : goal.returns-then-not-is_power_of_two-clause-no
returns-then-not-is_power_of_two-clause-no g c =
    λ all.
    let m = c.matrix-item.result in
    let power = all c.loop-matrix.matrix-index m c.loop-matrix-test.true in
    absurd
    (false≢true (sym c.if-not-is_power_of_two.true
    ∙ c.is_power_of_two.ensures.1 (
      power.0,
      c.height.ensures ∙ ap height_of c.matrix-item.is
          ∙ power.1,
    )))
