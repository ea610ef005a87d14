use Rattle.std.proofs.Common.{◌≢◌, ◌∙◌, sym}
use Rattle.std.proofs.lemmas.Bool.{false≢true}
use Rattle.circle_codewords.specs.declared.ratios.PointRatios.{PointRatios}
use Rattle.circle_codewords.proofs.Known.{below-more}
use Rattle.circle_codewords.proofs.reduced.ratios_at.Goals as goal

pub returns-then-eq-clause-some : goal.returns-then-eq-clause-some
returns-then-eq-clause-some g c = (
  c.loop-known.known-index,
  c.known-item.result,
  c.loop-known-test.true,
  sym c.known-item.is,
  (
    (g.met.EF.Field.eq_law _ _).0 (sym c.eq.ensures ∙ c.if-eq.true),
    sym c.deref.ensures.value,
  ),
)

pub loop-known-preserved : goal.loop-known-preserved
loop-known-preserved g c =
    below-more (λ (r : PointRatios g.row.EF.Denot). r.point ≢ c.args.point) c.args.all.now
    c.loop-known.known-index c.known-item.result c.loop-known-test.true c.known-item.is
    c.loop-known.invariant
    (λ same. false≢true (sym c.if-eq.false ∙ (c.eq.ensures ∙ (g.met.EF.Field.eq_law _ _).1 same)))
