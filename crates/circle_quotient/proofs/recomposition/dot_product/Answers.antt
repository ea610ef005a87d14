use Rattle.std.proofs.Common.{◌≤◌, ◌∙◌, sym, ap, arith, length, take}
use Rattle.std.proofs.lemmas.List.{take_all}
use Rattle.circle_commit.specs.DotProduct.{dot}
use Rattle.circle_commit.proofs.ColumnSums.{dot-more}
use Rattle.circle_quotient.proofs.recomposition.dot_product.Goals as goal

pub loop-i-preserved : goal.loop-i-preserved
loop-i-preserved g c =
    let l = g.E.Operations.ops in
    let xs = c.args.left.now in
    let ys = c.args.right.now in
    let i = c.loop-i.i in
    let x = c.index-left-i.result in
    let y = c.index-right-i.result in
    g.met.E.Field.add_law _ _ _ c.add-sum.ensures
    ∙ ap (λ s. l.add s c.mul.result) c.loop-i.invariant
    ∙ ap (l.add (dot l (take i xs) (take i ys))) (g.met.E.Field.mul_law _ _ _ c.mul.ensures)
    ∙ sym (dot-more l (λ (a : g.row.E.Denot). a) g.E.Operations.laws.ring i xs ys x y
    c.loop-i-test.true (omega (arith, c.loop-i-test.true, c.requires)) c.index-left-i.is
    c.index-right-i.is)

pub returns : goal.returns
returns g c =
    let l = g.E.Operations.ops in
    let end : length c.args.left.now ≤ c.loop-i.i = omega (arith, c.loop-i-test.false) in
    c.loop-i.invariant
    ∙ ap (λ xs. dot l xs (take c.loop-i.i c.args.right.now))
    (take_all c.loop-i.i c.args.left.now end)
    ∙ ap (dot l c.args.left.now)
    (take_all c.loop-i.i c.args.right.now (omega (arith, end, c.requires)))
