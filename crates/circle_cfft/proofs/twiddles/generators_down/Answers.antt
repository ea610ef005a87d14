use Rattle.std.proofs.Common.{◌≡◌, ℕ, ◌+◌, ◌-◌, ◌++◌, [], ◌∷◌, ◌∙◌, map, sym, ap, arith, suc}
use Rattle.std.specs.List.{range_with_len}
use Rattle.std.proofs.lemmas.List.{map-append}
use Rattle.circle_field.specs.Circle.{plus}
use Rattle.circle_point.specs.Point.{coordinates}
use Rattle.circle_commit.proofs.Written.{range-more}
use Rattle.circle_cfft.proofs.twiddles.generators_down.Goals as goal

pub loop-init : goal.loop-init
loop-init g c =
    let e : c.args.log_n - 1 ≡ c.args.log_n - 1 - (3 - 3) = omega arith in
    record {
      made = ap (map coordinates) c.in_ok-points.ensures.items;
      next = c.generator-point.ensures ∙ ap g.F.ComplexExtendable.generators e;
    }

pub loop-preserved : goal.loop-preserved
loop-preserved g c =
    let k = g.F.Operations.ops in
    let gen = g.F.ComplexExtendable.generators in
    let n = c.args.log_n in
    let f = λ (i : ℕ). gen (n - 1 - i) in
    let m = c.loop.counter - 3 in
    let p = coordinates c.loop.point in
    let more : m + 1 ≡ c.loop.counter + 1 - 3 = omega arith in
    let z : m ≡ 0 + m = omega arith in
    let r = n - 1 - (m + 1) in
    let down : n - 1 - m ≡ suc r = omega arith in
    record {
      made =
          ap (map coordinates) c.in_ok-push.ensures.items
          ∙ map-append coordinates c.loop.points.items (c.loop.point ∷ [])
          ∙ ap (λ xs. xs ++ p ∷ []) c.loop.invariant.made
          ∙ ap (λ x. map f (range_with_len 0 m) ++ x ∷ []) (c.loop.invariant.next ∙ ap f z)
          ∙ sym (range-more f 0 m) ∙ ap (λ i. map f (range_with_len 0 i)) more;
      next =
          c.double-point.ensures ∙ ap (λ q. plus k q q) (c.loop.invariant.next ∙ ap gen down)
          ∙ g.met.F.ComplexExtendable.generators_law.doubled r (omega (arith, c.requires.in_group))
          ∙ ap (λ i. gen (n - 1 - i)) more;
    }

pub returns : goal.returns
returns g c =
    let e : c.loop.counter - 3 ≡ c.args.log_n - 3 = omega arith in
    c.loop.invariant.made
    ∙ ap
    (λ i. map (λ j. g.F.ComplexExtendable.generators (c.args.log_n - 1 - j))
    (range_with_len 0 i)) e
