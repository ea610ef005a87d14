use Rattle.std.proofs.Common.{◌≡◌, ◌∙◌, List, [], ◌∷◌, Some, None, length, map, refl, ap, arith}
use Rattle.std.proofs.Common.{slice_get, slice_index_or}
use Rattle.circle_commit.specs.declared.pcs.PointOpening.{PointOpening}
use Rattle.circle_relation.specs.StatementOf.{point_claim}
use Rattle.circle_verifier.proofs.batches.claimed_width.Goals as goal

module _ {E : Type 0} where
  some-width : (ps : List (PointOpening E)) (p : PointOpening E) → Some p ≡ slice_get ps 0
      → length p.values.items
      ≡ length (slice_index_or (map (λ c. c.values) (map point_claim ps)) 0 [])
  some-width [] p is = cc
  some-width (q ∷ qs) p is = cc

  no-width : (ps : List (PointOpening E)) → None ≡ slice_get ps 0 →
      0 ≡ length (slice_index_or (map (λ c. c.values) (map point_claim ps)) 0 [])
  no-width [] is = refl
  no-width (q ∷ qs) is = cc

pub returns-in-Some : goal.returns-in-Some
returns-in-Some g c =
    let points = c.args.matrix.now.points.items in
    let point = c.in-Some.point.now in
    let long : c.len.result ≡ length point.values.items =
    omega (arith, c.len.ensures, point.values.ok.0) in
    long
    ∙ some-width points point
    (c.in-Some.ensures.value ∙ ap (λ ps. slice_get ps 0) c.deref.ensures.value)

pub returns-in-None : goal.returns-in-None
returns-in-None g c =
    no-width c.args.matrix.now.points.items
    (c.in-None.ensures.value ∙ ap (λ ps. slice_get ps 0) c.deref.ensures.value)
