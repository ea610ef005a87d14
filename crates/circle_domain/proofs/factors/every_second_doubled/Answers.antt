use Rattle.std.proofs.Common.{◌≡◌, ◌+◌, ◌*◌, ◌++◌, [], ◌∷◌, ◌∙◌, sym, ap, map, drop, arith}
use Rattle.std.proofs.Common.{append_assoc, List, append-nil}
use Rattle.std.proofs.lemmas.Grind.{common_steps}
use Rattle.std.proofs.lemmas.List.{at_drop_all}
use Rattle.circle_point.specs.Basis.{doubled_x}
use Rattle.circle_domain.specs.Layers.{every_second}
use Rattle.circle_domain.proofs.Twiddles.{every_second-more}
use Rattle.circle_domain.proofs.factors.every_second_doubled.Goals as goal

pub loop-i-init : goal.loop-i-init
loop-i-init g c =
    let rest = map (doubled_x g.F.Operations.ops) (every_second c.args.abscissas.now) in
    ap (λ ys. ys ++ rest) c.in_ok-doubled.ensures.items

pub loop-i-preserved : goal.loop-i-preserved
loop-i-preserved g c =
    let f = doubled_x g.F.Operations.ops in
    let xs = c.args.abscissas.now in
    let i = c.loop-i.i in
    let made = c.loop-i.doubled.items in
    let x = c.sub.result in
    let rest = map f (every_second (drop (2 * (i + 1)) xs)) in
    let d = c.index-abscissas-i.result in
    let step : x ≡ f d =
    grind (
      arith,
      common_steps,
      g.met.F.Field.add_law,
      g.met.F.Field.sub_law,
      g.met.F.Field.one_law,
    ) in
    let next = every_second-more xs i d c.requires (omega arith) in
    ap (λ ys. ys ++ rest) c.in_ok-push.ensures.items
    ∙ append_assoc made (x ∷ []) rest
    ∙ ap (λ y. made ++ (y ∷ rest)) (step ∙ ap f c.index-abscissas-i.is)
    ∙ ap (λ ys. made ++ map f ys) (sym next)
    ∙ c.loop-i.invariant

pub returns : goal.returns
returns g c =
    let f = doubled_x g.F.Operations.ops in
    let xs = c.args.abscissas.now in
    let made = c.loop-i.doubled.items in
    let none = at_drop_all (λ (ys : List g.row.F.Denot). made ++ map f (every_second ys)) xs
    (2 * c.loop-i.i)
    (omega (arith, c.loop-i-test.false, c.requires)) in
    sym (append-nil made) ∙ sym none ∙ c.loop-i.invariant
