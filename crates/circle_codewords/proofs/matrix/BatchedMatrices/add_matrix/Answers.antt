use Rattle.std.proofs.Common.{◌≡◌, ◌+◌, ◌<◌, ◌∙◌, sym, ap, subst, arith, map, take, length}
use Rattle.std.proofs.lemmas.Bool.{eqb-true}
use Rattle.std.proofs.lemmas.List.{length-map}
use Rattle.circle_field.specs.Circle.{origin, IsOnCircle}
use Rattle.circle_field.specs.Field.{nth_power}
use Rattle.circle_commit.specs.DotProduct.{dot}
use Rattle.circle_commit.specs.RowMajorMatrix.{rows, width_of}
use Rattle.circle_folding.specs.Queries.{IsApart}
use Rattle.circle_folding.specs.Quotient.{ArePowers}
use Rattle.circle_point.specs.Point.{coordinates}
use Rattle.circle_point.specs.Projective.{from_line}
use Rattle.circle_relation.specs.Sums.{Adds}
use Rattle.circle_relation.proofs.ReducedSums.{adds-none}
use Rattle.circle_codewords.specs.Lifts.{read_rows}
use Rattle.circle_codewords.specs.OfMatrices.{fields_of}
use Rattle.circle_codewords.specs.Ratios.{HasRatios, points_of_height, vanishing_ratio}
use Rattle.circle_codewords.specs.Ratios.{with_quotients}
use Rattle.circle_codewords.specs.Words.{committed_of, claim_of}
use Rattle.circle_codewords.specs.declared.points.OpeningPoint.{OpeningPoint}
use Rattle.circle_codewords.proofs.Added.{claim-adds, count-points, count-read}
use Rattle.circle_codewords.proofs.Claims.{claim-after, claims_among}
use Rattle.circle_codewords.proofs.OpenedClaims.{claim-at, claims-count, claims-end, valued-at}
use Rattle.circle_codewords.proofs.AtPoints.{off-points}
use Rattle.circle_codewords.proofs.matrix.BatchedMatrices.add_matrix.Goals as goal

pub known_ratios-ratios-requires : goal.known_ratios-ratios-requires
known_ratios-ratios-requires g c =
    subst (λ (p : OpeningPoint g.row.EF.Denot _). HasRatios c.args.ratios.now p.coordinate)
    (sym c.point-item.is)
    (c.requires.known c.loop-i.i c.point-item.result c.loop-i-test.true)

pub returns-then-is_empty : goal.returns-then-is_empty
returns-then-is_empty g c =
    let k = fields_of c.args.self.now in
    let alpha = c.args.self.now.alpha in
    let matrix = c.args.matrix.now in
    let ms = committed_of k c.args.self.now.log_blowup matrix in
    let points = points_of_height k.field k.gen matrix.log_height in
    let none = eqb-true (length matrix.points.now) 0 (sym c.if-is_empty.ensures) in
    subst (λ cs. Adds k.extension k.embed alpha points (origin k.field) (claims_among ms cs)
    c.args.offset c.args.offset c.args.sums.now c.args.sums.now)
    (claims-end k c.args.self.now.log_blowup matrix 0 (omega (arith, none)))
    (adds-none k.extension k.embed alpha points (origin k.field) c.args.offset c.args.sums.now)

pub combined_claim-claimed-requires : goal.combined_claim-claimed-requires
combined_claim-claimed-requires g c =
    omega (
      arith,
      ap length (c.deref.ensures.value ∙ ap (λ v. v.items) (sym c.index-matrix-i.is)),
      valued-at c.args.matrix.now c.loop-i.i c.index-matrix-i.result c.loop-i-test.true
          c.index-matrix-i.is,
      c.requires.enough,
      ap length c.as_slice-powers.ensures.value,
    )

pub add_quotients-requires-clause-ratios : goal.add_quotients-requires-clause-ratios
add_quotients-requires-clause-ratios g c =
    let k = fields_of c.args.self.now in
    let matrix = c.args.matrix.now in
    let t = c.point-item.result.coordinate in
    let points = points_of_height k.field k.gen matrix.log_height in
    ap length (c.known_ratios-ratios.ensures points c.requires.right)
    ∙ length-map points (vanishing_ratio k.extension k.embed (from_line k.extension t))
    ∙ count-points k g.F.Operations.laws g.met.F.ComplexExtendable.generators_law
    c.args.self.now.log_blowup matrix.log_height matrix.rows.now matrix.openable.positive
    matrix.openable.rows
    ∙ sym (c.loop-i.invariant.counted ∙ c.requires.size)

pub add_quotients-requires-clause-combined : goal.add_quotients-requires-clause-combined
add_quotients-requires-clause-combined g c =
    let k = fields_of c.args.self.now in
    let blowup = c.args.self.now.log_blowup in
    let matrix = c.args.matrix.now in
    let h = matrix.log_height in
    let m = matrix.rows.now in
    ap length (c.deref-in-loop-i.ensures.value ∙ c.in_ok-combined.ensures)
    ∙ length-map (read_rows k blowup h (width_of m) (rows m))
    (λ row. dot k.extension c.as_slice-powers.result.now (map k.embed row))
    ∙ count-read k g.F.Operations.laws g.met.F.ComplexExtendable.generators_law blowup h m
    matrix.openable.positive matrix.openable.rows
    ∙ sym (c.loop-i.invariant.counted ∙ c.requires.size)

pub mul-requires-in-loop-i : goal.mul-requires-in-loop-i
mul-requires-in-loop-i g c = g.met.EF.Field.can_mul_law _ _

pub mul-after-requires : goal.mul-after-requires
mul-after-requires g c = g.met.EF.Field.can_mul_law _ _

pub loop-i-preserved : goal.loop-i-preserved
loop-i-preserved g c =
    let b = c.args.self.now in
    let k = fields_of b in
    let l = k.extension in
    let matrix = c.args.matrix.now in
    let h = matrix.log_height in
    let points = points_of_height k.field k.gen h in
    let ms = committed_of k b.log_blowup matrix in
    let laws = g.F.Operations.laws in
    let gens = g.met.F.ComplexExtendable.generators_law in
    let embedding = g.met.EF.ExtensionField.embedding in
    let positive = matrix.openable.positive in
    let i = c.loop-i.i in
    let p = c.point-item.result in
    let t = p.coordinate in
    let vs = c.index-matrix-i.result in
    let powers = c.as_slice-powers.result.now in
    let power = c.combined_claim-claimed.result.1 in
    let within : i < length matrix.points.now = c.loop-i-test.true in
    let wide = valued-at matrix i vs within c.index-matrix-i.is in
    let enough : length vs.items < length powers =
    omega (arith, wide, c.requires.enough, ap length c.as_slice-powers.ensures.value) in
    let top = matrix.openable.in_group in
    let Apart = λ (q : OpeningPoint g.row.EF.Denot _).
    IsApart k.embed points (coordinates q.point) in
    let apart = subst (IsApart k.embed points) p.at
    (subst Apart (sym c.point-item.is)
    (off-points k.field k.embed k.gen h matrix.points.now laws embedding gens positive
    (omega (arith, top)) matrix.openable.off.1 i p within)) in
    let are : ArePowers l b.alpha powers =
    subst (ArePowers l b.alpha) (sym c.as_slice-powers.ensures.value) b.are_powers in
    let claims : c.deref.result.now ≡ vs.items = c.deref.ensures.value
    ∙ ap (λ v. v.items) (sym c.index-matrix-i.is) in
    let is_power : power ≡ nth_power l b.alpha (length vs.items) =
    c.combined_claim-claimed.ensures.power b.alpha are
    ∙ ap (λ ws. nth_power l b.alpha (length ws)) claims in
    let mul = g.met.EF.Field.mul_law in
    let step = claim-adds k laws gens b.log_blowup h matrix.rows.now positive matrix.openable.rows
    g.EF.Operations.laws g.met.EF.Field.eq_law embedding top b.alpha t powers vs.items
    c.known_ratios-ratios.result.now c.deref-in-loop-i.result.now c.loop-i.sums
    c.add_quotients.new.sums c.loop-i.after c.halve-half.result power
    c.combined_claim-claimed.result.0 are wide (omega (arith, enough))
    (subst (IsOnCircle l) p.at p.point.on_circle) apart c.halve-half.ensures is_power
    (c.combined_claim-claimed.ensures.claimed ∙ ap (dot l powers) claims)
    (c.known_ratios-ratios.ensures points c.requires.right)
    (c.deref-in-loop-i.ensures.value ∙ c.in_ok-combined.ensures)
    (c.loop-i.invariant.counted ∙ c.requires.size)
    (c.add_quotients.ensures
    ∙ ap
    (λ top. with_quotients l c.halve-half.result top c.combined_claim-claimed.result.0
    c.known_ratios-ratios.result.now c.deref-in-loop-i.result.now c.loop-i.sums)
    (mul _ _ _ c.mul.ensures)) in
    let after : c.mul-after.result ≡ l.mul (l.mul c.loop-i.after power) power =
    mul _ _ _ c.mul-after.ensures ∙ ap (λ o. l.mul o power) (mul _ _ _ c.mul-in-loop-i.ensures) in
    subst
    (λ o. Adds l k.embed b.alpha points (origin k.field)
    (claims_among ms (take (i + 1) ms.claims)) c.args.offset o c.args.sums.now
    c.add_quotients.new.sums) (sym after)
    (claim-after l k.embed b.alpha points (origin k.field) ms i (claim_of t vs.items)
    c.args.offset c.loop-i.after (l.mul (l.mul c.loop-i.after power) power) c.args.sums.now
    c.loop-i.sums c.add_quotients.new.sums
    (omega (arith, within, claims-count k b.log_blowup matrix))
    (claim-at k b.log_blowup matrix i p vs within c.point-item.is c.index-matrix-i.is)
    c.loop-i.invariant step)

pub returns : goal.returns
returns g c =
    let k = fields_of c.args.self.now in
    let matrix = c.args.matrix.now in
    let ms = committed_of k c.args.self.now.log_blowup matrix in
    subst (λ cs. Adds k.extension k.embed c.args.self.now.alpha
    (points_of_height k.field k.gen matrix.log_height) (origin k.field) (claims_among ms cs)
    c.args.offset c.loop-i.after c.args.sums.now c.loop-i.sums)
    (claims-end k c.args.self.now.log_blowup matrix c.loop-i.i c.loop-i-test.false)
    c.loop-i.invariant
