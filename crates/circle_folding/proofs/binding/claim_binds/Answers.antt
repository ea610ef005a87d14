use Rattle.std.proofs.Common.{◌+◌, ◌≡◌, ◌∙◌, ◌-◌, suc, sym, subst, arith}
use Rattle.std.specs.Prelude.{All}
use Rattle.circle_point.specs.Point.{coordinates}
use Rattle.circle_commit.specs.RowMajorMatrix.{rows, width_of, length-rows, rows-width}
use Rattle.circle_domain.proofs.Powers.{pow_injective}
use Rattle.circle_folding.specs.Claims.{row_quotients, AreWideValuesOfOnly}
use Rattle.circle_folding.specs.WideSpans.{WideSpan}
use Rattle.circle_folding.proofs.ClaimedColumns.{column-bound}
use Rattle.circle_folding.proofs.ClaimedWords.{apart-in_order}
use Rattle.circle_folding.proofs.binding.claim_binds.Goals as goal

pub returns : goal.returns
returns g c = λ h long.
    let k = g.F.Operations.ops in
    let l = g.EF.Operations.ops in
    let embed = g.EF.ExtensionField.embed in
    let gen = g.F.ComplexExtendable.generators in
    let z = coordinates c.args.zeta in
    let alphas = c.args.alphas.now in
    let values = c.args.values.now in
    let m = c.args.columns.now in
    let tall = sym (length-rows m) ∙ long in
    let n = h - c.args.log_blowup in
    let size = c.requires.size in
    let same : size.0 ≡ h = pow_injective size.0 h (sym size.1 ∙ tall) in
    let two : suc (suc (n - 2)) ≡ n = omega (arith, size.2, same) in
    subst
    (λ n. All
    (λ alpha. WideSpan k gen l embed n h
    (row_quotients k gen l embed h alpha z (rows m) values)) alphas →
    AreWideValuesOfOnly k gen l embed n h (rows m) z values)
    two
    (λ all j lt.
    column-bound g.EF.Operations.laws g.EF.PartialEq.eq g.met.EF.Field.eq_law
    g.met.EF.ExtensionField.embedding g.met.F.ComplexExtendable.generators_law
    h (omega (arith, size.2, same)) (omega (arith, size.3, same)) z c.args.zeta.on_circle
    (apart-in_order embed g.F.Operations.laws.ring g.met.F.ComplexExtendable.generators_law h
    (gen (h + 1)) z (omega (arith, size.2, same)) (omega (arith, size.3, same))
    (c.requires.off h tall))
    (n - 2) (omega (arith, size.2, same, c.requires.blowup)) (rows m) (width_of m) values long
    (rows-width m) c.requires.claims
    alphas c.requires.challenges c.requires.distinct all j (omega (arith, lt, c.requires.claims)))
