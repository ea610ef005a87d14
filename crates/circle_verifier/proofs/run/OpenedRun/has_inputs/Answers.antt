use Rattle.std.proofs.Common.{◌≡◌, ◌==◌, ◌∙◌, ◌&&◌, true, false, sym, ap}
use Rattle.circle_verifier.specs.Shape.{inputs_fit, siblings_fit}
use Rattle.circle_verifier.proofs.Lengths.{rows_test, siblings_test, lambdas_test, run-decides}
use Rattle.circle_verifier.proofs.Lengths.{all-pass, first-fails, second-fails}
use Rattle.circle_verifier.proofs.run.OpenedRun.has_inputs.Goals as goal
use Rattle.circle_verifier.proofs.run.OpenedRun.has_inputs.Goals.{then-inputs_fit, else-inputs_fit}

pub returns-then-siblings_fit : goal.returns-then-siblings_fit
returns-then-siblings_fit g c =
    let n = c.args.num_heights in
    let run = c.args.self.now in
    let rows : rows_test run n ≡ c.inputs_fit.result =
    ap (inputs_fit _ run.claims.now) (sym c.deref.ensures.value) ∙ sym c.inputs_fit.ensures in
    let joined : (rows_test run n && (siblings_test run n && lambdas_test run n)) ≡
    lambdas_test run n = elim c.if-inputs_fit.branch [
      | then-inputs_fit w ↦ all-pass _ _ (lambdas_test run n) (rows ∙ w.if-inputs_fit.true)
          (ap (siblings_fit _ n) (sym w.deref-then-inputs_fit.ensures.value)
          ∙ sym w.siblings_fit.ensures ∙ sym w.value-is ∙ c.if-siblings_fit.true)
      | else-inputs_fit w ↦ absurd (let no : true ≡ false = sym c.if-siblings_fit.true ∙ w.value-is
          ∙ w.if-inputs_fit.false in cc)
    ] in
    run-decides run n _ c.requires (joined ∙ ap (λ m. m == n) (sym c.len.ensures))

pub returns-else-siblings_fit : goal.returns-else-siblings_fit
returns-else-siblings_fit g c =
    let n = c.args.num_heights in
    let run = c.args.self.now in
    let rows : rows_test run n ≡ c.inputs_fit.result =
    ap (inputs_fit _ run.claims.now) (sym c.deref.ensures.value) ∙ sym c.inputs_fit.ensures in
    let joined : (rows_test run n && (siblings_test run n && lambdas_test run n)) ≡ false =
    elim c.if-inputs_fit.branch [
      | then-inputs_fit w ↦ second-fails _ _ (lambdas_test run n) (rows ∙ w.if-inputs_fit.true)
          (ap (siblings_fit _ n) (sym w.deref-then-inputs_fit.ensures.value)
          ∙ sym w.siblings_fit.ensures ∙ sym w.value-is ∙ c.if-siblings_fit.false)
      | else-inputs_fit w ↦ first-fails _ (siblings_test run n) (lambdas_test run n)
          (rows ∙ w.if-inputs_fit.false)
    ] in
    run-decides run n _ c.requires (joined ∙ sym c.if-siblings_fit.false)
