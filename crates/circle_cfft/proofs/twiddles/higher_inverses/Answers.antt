use Rattle.std.proofs.Common.{◌≡◌, ◌+◌, ◌-◌, ◌*◌, ◌++◌, ◌∙◌, ◌≤◌, length, map, take, drop, ap}
use Rattle.std.proofs.Common.{arith, length-append, length-drop}
use Rattle.std.proofs.lemmas.List.{length-map, length-take-le}
use Rattle.circle_field.proofs.Inverses.{take-whole}
use Rattle.circle_cfft.proofs.twiddles.higher_inverses.Goals as goal

pub invert_four-requires-clause-length : goal.invert_four-requires-clause-length
invert_four-requires-clause-length g c =
    let xs = c.args.factors.now in
    let n = 4 * c.loop-j.j in
    let inv = g.F.Operations.ops.inv in
    let within : n ≤ length xs = omega (arith, c.loop-j.auto.j, c.requires.some) in
    ap length (c.deref_mut.ensures.value ∙ c.loop-j.invariant)
    ∙ length-append (take n xs) (map inv (drop n xs))
    ∙ omega (
      arith,
      within,
      length-take-le n xs within,
      length-map (drop n xs) inv,
      length-drop n xs,
    )

pub invert_four-requires-clause-room : goal.invert_four-requires-clause-room
invert_four-requires-clause-room g c =
    omega (arith, c.loop-j.auto.j, c.loop-j-test.true, c.requires.some)

pub invert_four-requires-clause-fours : goal.invert_four-requires-clause-fours
invert_four-requires-clause-fours g c = c.requires.fours

pub invert_four-requires-clause-linked : goal.invert_four-requires-clause-linked
invert_four-requires-clause-linked g c = c.requires.linked

pub invert_four-requires-clause-nonzero : goal.invert_four-requires-clause-nonzero
invert_four-requires-clause-nonzero g c = c.requires.nonzero

pub invert_four-requires-clause-above : goal.invert_four-requires-clause-above
invert_four-requires-clause-above g c =
    let xs = c.args.factors.now in
    let next : 4 * c.loop-j.j ≡ 4 * (c.loop-j.j - 1) + 4 = omega (arith, c.loop-j-test.true) in
    c.deref_mut.ensures.value ∙ c.loop-j.invariant
    ∙ ap (λ n. take n xs ++ map g.F.Operations.ops.inv (drop n xs)) next

pub loop-j-preserved : goal.loop-j-preserved
loop-j-preserved g c =
    let old = c.loop-j.inverses in
    take-whole old.len c.invert_four.new.inverses old.items old.ok.0
    (c.invert_four.auto.inverses ∙ ap length c.deref_mut.ensures.value) ∙ c.invert_four.ensures

pub returns : goal.returns
returns g c =
    let xs = c.args.factors.now in
    let end : 4 * c.loop-j.j ≡ 0 = omega (arith, c.loop-j-test.false) in
    c.loop-j.invariant ∙ ap (λ n. take n xs ++ map g.F.Operations.ops.inv (drop n xs)) end
