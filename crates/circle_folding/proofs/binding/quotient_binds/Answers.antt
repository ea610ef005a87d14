use Rattle.std.proofs.Common.{◌≡◌, ◌∙◌, ◌+◌, ◌-◌, suc, sym, subst, arith}
use Rattle.circle_point.specs.Point.{coordinates}
use Rattle.circle_domain.specs.Spans.{Span}
use Rattle.circle_domain.proofs.Powers.{pow_injective}
use Rattle.circle_folding.specs.Claims.{word_quotients, IsValueOfOnly}
use Rattle.circle_folding.specs.WideSpans.{WideSpan}
use Rattle.circle_folding.proofs.ClaimedWords.{apart-in_order, word-bound}
use Rattle.circle_folding.proofs.binding.quotient_binds.Goals as goal

pub returns : goal.returns
returns g c = λ h long.
    let k = g.F.Operations.ops in
    let l = g.EF.Operations.ops in
    let embed = g.EF.ExtensionField.embed in
    let gen = g.F.ComplexExtendable.generators in
    let word = c.args.word.now in
    let z = coordinates c.args.zeta in
    let n = h - c.args.log_blowup in
    let size = c.requires.size in
    let same : size.0 ≡ h = pow_injective size.0 h (sym size.1 ∙ long) in
    let two : suc (suc (n - 2)) ≡ n = omega (arith, size.2, same) in
    subst (λ n. Span k gen l embed n h (gen (h + 1)) word →
    WideSpan k gen l embed n h
    (word_quotients k gen l embed h c.args.alpha z word c.args.value) →
    IsValueOfOnly k gen l embed n h word z c.args.value)
    two
    (word-bound g.EF.Operations.laws g.EF.PartialEq.eq g.met.EF.Field.eq_law
    g.met.EF.ExtensionField.embedding g.met.F.ComplexExtendable.generators_law
    h (omega (arith, size.2, same)) (omega (arith, size.3, same)) z c.args.zeta.on_circle
    (apart-in_order embed g.F.Operations.laws.ring g.met.F.ComplexExtendable.generators_law h
    (gen (h + 1)) z (omega (arith, size.2, same)) (omega (arith, size.3, same))
    (c.requires.off h long))
    (n - 2) (omega (arith, size.2, same, c.requires.blowup)) c.args.alpha c.args.value word
    c.requires.nonzero)
