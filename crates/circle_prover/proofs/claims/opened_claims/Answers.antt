use Rattle.std.proofs.Common.{◌++◌, ◌∙◌, map, take, flat_map, sym, ap}
use Rattle.std.proofs.lemmas.List.{take_all}
use Rattle.std.proofs.lemmas.List.Folds.{flat_map-map}
use Rattle.circle_commit.specs.DotProduct.{pairwise}
use Rattle.circle_codewords.specs.Points.{coordinates_of}
use Rattle.circle_codewords.specs.Requests.{lists_of}
use Rattle.circle_codewords.specs.Words.{Committed, claim_of, committed_of}
use Rattle.circle_codewords.specs.declared.matrix.OpenedMatrix.{OpenedMatrix}
use Rattle.circle_relation.specs.Taken.{point_taken}
use Rattle.circle_prover.proofs.Requested.{pairwise-map, flat-more}
use Rattle.circle_prover.proofs.claims.opened_claims.Goals as goal

pub loop-matrix-preserved : goal.loop-matrix-preserved
loop-matrix-preserved g c =
    let l = g.EF.Operations.ops in
    let matrices = c.args.matrices.now in
    let i = c.loop-matrix.matrix-index in
    let m = c.matrix-item.result in
    let claims =
    λ (m : OpenedMatrix g.row.F.Denot g.row.EF.Denot _ _). pairwise (λ t v. claim_of t v.items)
    (coordinates_of m.points.now) m.values.now in
    let so_far = flat_map (map (point_taken l)) (map claims (take i matrices)) in
    c.in_ok-append_claims.ensures
    ∙ ap (λ cs. cs ++ map (point_taken l) (pairwise claim_of (coordinates_of m.points.now)
    (lists_of m.values.now)))
    c.loop-matrix.invariant
    ∙ ap (λ cs. so_far ++ map (point_taken l) cs)
    (sym (pairwise-map claim_of (λ v. v.items) (coordinates_of m.points.now) m.values.now))
    ∙ sym
    (flat-more (map (point_taken l)) claims matrices i m c.loop-matrix-test.true
    c.matrix-item.is)

pub returns : goal.returns
returns g c = λ k blowup.
    let l = g.EF.Operations.ops in
    let matrices = c.args.matrices.now in
    let claims =
    λ (m : OpenedMatrix g.row.F.Denot g.row.EF.Denot _ _). pairwise (λ t v. claim_of t v.items)
    (coordinates_of m.points.now) m.values.now in
    c.loop-matrix.invariant ∙ ap (λ ms. flat_map (map (point_taken l)) (map claims ms))
    (take_all c.loop-matrix.matrix-index matrices c.loop-matrix-test.false)
    ∙ flat_map-map (map (point_taken l)) claims matrices
    ∙ sym
    (flat_map-map (λ (d : Committed g.row.F.Denot g.row.EF.Denot). map (point_taken l) d.claims)
    (committed_of k blowup) matrices)
