use Rattle.std.proofs.Common.{◌≡◌, ◌-◌, ◌+◌, ◌/◌, ◌^◌, suc, ◌∙◌, sym, ap, Some, arith}
use Rattle.circle_field.specs.Circle.{Coordinates, opposite, plus, times}
use Rattle.circle_domain.specs.Domain.{log_size, shift_of}
use Rattle.circle_point.specs.Point.{coordinates}
use Rattle.circle_domain.proofs.Orders.{two_halves, natural_from-even, natural_from-odd}
use Rattle.circle_domain.proofs.domain.CircleDomain.nth_point.Goals as goal

pub returns-then-index-eq0 : goal.returns-then-index-eq0
returns-then-index-eq0 g c =
    let k = g.F.Operations.ops in
    let n = log_size c.args.self.now in
    let s = shift_of c.args.self.now in
    let step = g.F.ComplexExtendable.generators (n - 1) in
    let turn = c.args.index / 2 in
    let halves = two_halves n c.requires.positive in
    natural_from-even k (2 ^ (n - 1)) turn step s 0 c.args.index
    (omega (arith, halves, c.requires.in_range)) (omega arith)
    ∙ ap (λ m. Some (plus k s (times k m step))) (omega arith)
    ∙ ap (λ (q : Coordinates g.row.F.Denot). Some (plus k s (times k turn q)))
    (sym c.subgroup_generator.ensures)
    ∙ ap (λ (q : Coordinates g.row.F.Denot). Some (plus k s q)) (sym c.mul.ensures)
    ∙ ap (λ (q : Coordinates g.row.F.Denot). Some q) (sym c.add.ensures.sum)

pub returns-else-index-eq0 : goal.returns-else-index-eq0
returns-else-index-eq0 g c =
    let k = g.F.Operations.ops in
    let n = log_size c.args.self.now in
    let s = shift_of c.args.self.now in
    let step = g.F.ComplexExtendable.generators (n - 1) in
    let turn = c.args.index / 2 in
    let halves = two_halves n c.requires.positive in
    natural_from-odd k (2 ^ (n - 1)) turn step s 0 c.args.index
    (omega (arith, halves, c.requires.in_range)) (omega arith)
    ∙ ap (λ m. Some (plus k (opposite k s) (times k m step))) (let e : suc (0 + turn) ≡ turn + 1 =
    omega arith in e)
    ∙ ap (λ (q : Coordinates g.row.F.Denot). Some (plus k (opposite k s) (times k (turn + 1) q)))
    (sym c.subgroup_generator-else-index-eq0.ensures)
    ∙ ap (λ (q : Coordinates g.row.F.Denot). Some (plus k (opposite k s) q))
    (sym c.mul-else-index-eq0.ensures)
    ∙ ap
    (λ (q : Coordinates g.row.F.Denot). Some
    (plus k q (coordinates c.mul-else-index-eq0.result))) (sym c.neg.ensures.opposite)
    ∙ ap (λ (q : Coordinates g.row.F.Denot). Some q) (sym c.add-else-index-eq0.ensures.sum)
