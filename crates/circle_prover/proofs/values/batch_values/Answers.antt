use Rattle.std.proofs.Common.{[], ◌∷◌, ◌+◌, ◌∙◌, ◌<◌, map, take, sym, ap, subst, arith}
use Rattle.std.specs.List.{AllZip}
use Rattle.std.proofs.lemmas.List.{length-map, map-append, take_all}
use Rattle.circle_commit.specs.Mmcs.{opened_rows}
use Rattle.circle_codewords.specs.Points.{coordinates_of}
use Rattle.circle_codewords.specs.Requests.{AreValuesOf, lists_of}
use Rattle.circle_codewords.specs.declared.matrix.MatrixAtPoints.{MatrixAtPoints}
use Rattle.circle_prover.specs.OfRequests.{asked_of}
use Rattle.circle_prover.proofs.Requested.{fields_at_all, log-is, map-at, pushed-more, values-of}
use Rattle.circle_prover.proofs.values.batch_values.Goals as goal

pub opened_values-requires : goal.opened_values-requires
opened_values-requires g c =
    subst (λ (m : MatrixAtPoints g.row.F.Denot g.row.EF.Denot _ g.EF.Operations).
    c.args.log_blowup < m.log_height) (sym c.matrix-item.is)
    (c.requires c.loop-matrix.matrix-index c.matrix-item.result c.loop-matrix-test.true)

pub loop-matrix-preserved : goal.loop-matrix-preserved
loop-matrix-preserved g c =
    let ms = c.args.matrices.now in
    let k = fields_at_all ms in
    let b = c.args.log_blowup in
    let i = c.loop-matrix.matrix-index in
    let m = c.matrix-item.result in
    let ps = coordinates_of m.points.now in
    let made = c.in_ok-opened_values.field-0 in
    let old = c.loop-matrix.values.items in
    let here = values-of k b m.log_height m.rows.now ps (lists_of made.items)
    (log-is k b g.met.F.ComplexExtendable.at_most_62 m.log_height m.rows.now ps m.openable)
    (length-map made.items (λ v. v.items) ∙ c.in_ok-opened_values.ensures.count
    ∙ sym (length-map m.points.now (λ p. p.coordinate)))
    c.in_ok-opened_values.ensures.values in
    subst (AllZip (λ a v. AreValuesOf k b a.0 a.1 v) (take (i + 1) (map asked_of ms)))
    (sym (ap opened_rows c.in_ok-push.ensures.items
    ∙ map-append (λ v. lists_of v.items) old (made ∷ [])))
    (pushed-more (λ a v. AreValuesOf k b a.0 a.1 v) (map asked_of ms) i (asked_of m)
    (opened_rows old) (lists_of made.items)
    (omega (arith, c.loop-matrix-test.true, length-map ms asked_of))
    (map-at asked_of ms i m c.loop-matrix-test.true c.matrix-item.is) c.loop-matrix.invariant here)

pub returns : goal.returns
returns g c =
    let ms = c.args.matrices.now in
    subst (λ a. AllZip (λ a v. AreValuesOf (fields_at_all ms) c.args.log_blowup a.0 a.1 v) a
    (opened_rows c.loop-matrix.values.items))
    (take_all c.loop-matrix.matrix-index (map asked_of ms)
    (omega (arith, c.loop-matrix-test.false, length-map ms asked_of))) c.loop-matrix.invariant
