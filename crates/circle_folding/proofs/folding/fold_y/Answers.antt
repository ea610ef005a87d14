use Rattle.std.proofs.Common.{ℕ, ◌≡◌, ◌≢◌, ◌+◌, ◌^◌, ◌≤◌, ◌∙◌, sym, ap, subst, length, All, arith}
use Rattle.std.proofs.lemmas.Result.{IfOk-weaker}
use Rattle.circle_domain.specs.Domain.{log_size, shift_of}
use Rattle.circle_folding.specs.Fold.{fold_y_twiddles}
use Rattle.circle_folding.proofs.FoldedSpans.{y-halves, y-shows}
use Rattle.circle_folding.proofs.Folds.{folds-of}
use Rattle.circle_folding.proofs.Twiddles.{length-fold_y_twiddles, fold_y_twiddles-of}
use Rattle.circle_folding.proofs.Twiddles.{fold_y_twiddles-nonzero}
use Rattle.circle_folding.proofs.folding.fold_y.Goals as goal

pub y_twiddles-requires-clause-positive : goal.y_twiddles-requires-clause-positive
y_twiddles-requires-clause-positive g c = omega (arith, c.standard.ensures.size)

pub log2_strict-log_height-requires : goal.log2_strict-log_height-requires
log2_strict-log_height-requires g c = (c.requires.height.0, c.height.ensures ∙ c.requires.height.1)

pub standard-requires : goal.standard-requires
standard-requires g c =
    let power = c.requires.height in
    let same = c.log2_strict-log_height.ensures.only power.0 (c.height.ensures ∙ power.1) in
    omega (arith, same, power.2)

pub y_twiddles-requires-clause-in_group : goal.y_twiddles-requires-clause-in_group
y_twiddles-requires-clause-in_group g c =
    let power = c.requires.height in
    let same = c.log2_strict-log_height.ensures.only power.0 (c.height.ensures ∙ power.1) in
    omega (arith, same, power.2, c.standard.ensures.size)

pub fold_rows-requires : goal.fold_rows-requires
fold_rows-requires g c =
    let k = g.F.Operations.ops in
    let gen = g.F.ComplexExtendable.generators in
    let power = c.requires.height in
    let r = c.log2_strict-log_height.result in
    let same = c.log2_strict-log_height.ensures.only power.0 (c.height.ensures ∙ power.1) in
    let are = c.deref.ensures.value ∙ fold_y_twiddles-of k gen r (log_size c.standard.result)
    (shift_of c.standard.result) c.in_ok-twiddles.twiddles.items c.standard.ensures.size
    c.standard.ensures.shift c.in_ok-twiddles.ensures in
    record {
      width = c.requires.width;
      height = power.1 ∙ ap (λ n. 2 ^ n) (sym same)
          ∙ sym (ap length are ∙ length-fold_y_twiddles k gen r);
      nonzero =
          subst (All (λ t. t ≢ k.zero)) (sym are)
          (fold_y_twiddles-nonzero g.F.Operations.laws g.met.F.ComplexExtendable.generators_law r
          (omega (arith, same, power.2)));
    }

pub returns : goal.returns
returns g c =
    let k = g.F.Operations.ops in
    let gen = g.F.ComplexExtendable.generators in
    let r = c.log2_strict-log_height.result in
    let rows = g.M.Matrix.rows c.args.evals.now in
    let height = g.M.MatrixShape.height c.args.evals.now in
    let result = c.fold_rows.result in
    let made = folds-of g.EF.Operations.ops c.args.beta g.EF.ExtensionField.embed
    (g.M.Matrix.rows c.args.evals.now) (fold_y_twiddles k gen) c.deref.result.now r
    (g.M.MatrixShape.height c.args.evals.now) c.fold_rows.result
    (c.deref.ensures.value ∙ fold_y_twiddles-of k gen r (log_size c.standard.result)
    (shift_of c.standard.result) c.in_ok-twiddles.twiddles.items c.standard.ensures.size
    c.standard.ensures.shift c.in_ok-twiddles.ensures)
    (λ n height. c.log2_strict-log_height.ensures.only n (c.height.ensures ∙ height))
    c.fold_rows.ensures in
    let wide : All (λ row. length row ≡ 2) rows =
    subst (λ w. All (λ row. length row ≡ w) rows) c.requires.width
    (g.met.M.Matrix.width_law c.args.evals.now) in
    let base = g.F.Operations.laws in
    let laws = g.EF.Operations.laws in
    let e = g.met.EF.ExtensionField.embedding in
    let gens = g.met.F.ComplexExtendable.generators_law in
    let power = c.requires.height in
    let fits : (n : ℕ) → height ≡ 2 ^ n → n + 2 ≤ _ =
    λ n h. omega (
      arith,
      power.2,
      c.log2_strict-log_height.ensures.only n (c.height.ensures ∙ h),
      c.log2_strict-log_height.ensures.only power.0 (c.height.ensures ∙ power.1),
    ) in
    let tall : (n : ℕ) → height ≡ 2 ^ n → length rows ≡ 2 ^ n =
    λ n h. g.met.M.Matrix.height_law c.args.evals.now ∙ h in
    record {
      folds = made;
      halves =
          IfOk-weaker result _ _
          (λ folded is n h. y-halves base laws e gens n c.args.beta rows wide (tall n h) (fits n h)
          folded.items (is n h)) made;
      shows =
          IfOk-weaker result _ _
          (λ folded is n h. y-shows base laws e gens n c.args.beta rows wide (tall n h) (fits n h)
          folded.items (is n h)) made;
    }
