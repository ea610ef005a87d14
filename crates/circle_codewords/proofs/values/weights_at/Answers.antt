use Rattle.std.proofs.Common.{◌≡◌, ◌≢◌, ◌∙◌, rules, sym}
use Rattle.std.proofs.lemmas.Bool.{false≢true}
use Rattle.circle_codewords.specs.declared.matrix.PointWeights.{PointWeights}
use Rattle.circle_codewords.proofs.Known.{below-more}
use Rattle.circle_codewords.proofs.values.weights_at.Goals as goal
use Rattle.circle_codewords.proofs.values.weights_at.Goals.{else-known-log_blowup-via-then-known-log_blowup+then-known-log_height+else-eq}
use Rattle.circle_codewords.proofs.values.weights_at.Goals.{else-known-log_blowup-via-then-known-log_blowup+else-known-log_height}
use Rattle.circle_codewords.proofs.values.weights_at.Goals.{else-known-log_blowup-via-else-known-log_blowup}

pub returns-then-eq-clause-some : goal.returns-then-eq-clause-some
returns-then-eq-clause-some g c = (search rules, search rules, search rules)

pub returns-then-eq-clause-known : goal.returns-then-eq-clause-known
returns-then-eq-clause-known g c = (
  c.loop-known.known-index,
  c.known-item.result,
  c.loop-known-test.true,
  sym c.known-item.is,
  (search rules, search rules, search rules),
)

pub loop-known-preserved : goal.loop-known-preserved
loop-known-preserved g c =
    let Other : PointWeights g.row.F.Denot g.row.EF.Denot _ → Type 0 = λ w. w.log_blowup
    ≡ c.args.log_blowup → w.log_height ≡ c.args.log_height → w.point ≢ c.args.point in
    let here : Other c.known-item.result =
    elim c.else-known-log_blowup.branch [
      | else-known-log_blowup-via-then-known-log_blowup+then-known-log_height+else-eq w ↦
          λ blowup height point.
          false≢true (sym w.if-eq.false ∙ (w.eq.ensures ∙ (g.met.EF.Field.eq_law _ _).1 point))
      | else-known-log_blowup-via-then-known-log_blowup+else-known-log_height w ↦
          λ blowup height point. w.if-known-log_height.false height
      | else-known-log_blowup-via-else-known-log_blowup w ↦
          λ blowup height point. w.if-known-log_blowup.false blowup
    ] in
    below-more Other c.args.all.now c.loop-known.known-index c.known-item.result
    c.loop-known-test.true c.known-item.is c.loop-known.invariant here
