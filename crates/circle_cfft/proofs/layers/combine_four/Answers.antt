use Rattle.std.proofs.Common.{◌≡◌, ◌<◌, sym, ◌∙◌, ap, refl, arith, length, slice_index_or}
use Rattle.circle_commit.proofs.Written.{written-all}
use Rattle.circle_cfft.proofs.BlockFour.{unwritten, combined, length-combined, combined-more}
use Rattle.circle_cfft.proofs.layers.combine_four.Goals as goal

pub bounds-b-i-in-loop-i : goal.bounds-b-i-in-loop-i
bounds-b-i-in-loop-i g c = omega (arith, c.loop-i-test.true, c.loop-i.auto.b, c.requires.b_length)

pub bounds-c-i-in-loop-i : goal.bounds-c-i-in-loop-i
bounds-c-i-in-loop-i g c = omega (arith, c.loop-i-test.true, c.loop-i.auto.c, c.requires.c_length)

pub bounds-d-i-in-loop-i : goal.bounds-d-i-in-loop-i
bounds-d-i-in-loop-i g c = omega (arith, c.loop-i-test.true, c.loop-i.auto.d, c.requires.d_length)

pub loop-i-preserved : goal.loop-i-preserved
loop-i-preserved g c =
    let fin = g.S.Finish.finished c.args.finish in
    let low = g.B.Butterfly.lower in
    let high = g.B.Butterfly.upper in
    let t = c.args.first.0 in
    let t' = c.args.first.1 in
    let u = c.args.second.0 in
    let v = c.args.second.1 in
    let ps = c.args.a.now in
    let qs = c.args.b.now in
    let rs = c.args.c.now in
    let ss = c.args.d.now in
    let eb = c.requires.b_length in
    let ec = c.requires.c_length in
    let ed = c.requires.d_length in
    let i = c.loop-i.i in
    let x = c.index-a-i.result in
    let y = c.index-b-i.result in
    let z = c.index-c-i.result in
    let w = c.index-d-i.result in
    let one = c.apply in
    let two = c.apply-in-loop-i in
    let three = c.apply-in-loop-i-2 in
    let four = c.apply-in-loop-i-3 in
    let here : i < length ps = omega (arith, c.loop-i-test.true) in
    let long_a = length-combined (λ p q. fin (low u p q)) (low t) (low t') ps qs rs ss eb ec ed in
    let long_b = length-combined (λ p q. fin (high u p q)) (low t) (low t') ps qs rs ss eb ec ed
    ∙ sym eb in
    let long_c = length-combined (λ p q. fin (low v p q)) (high t) (high t') ps qs rs ss eb ec ed
    ∙ sym ec in
    let long_d = length-combined (λ p q. fin (high v p q)) (high t) (high t') ps qs rs ss eb ec ed
    ∙ sym ed in
    let ex : x ≡ slice_index_or ps i x =
    unwritten (combined (λ p q. fin (low u p q)) (low t) (low t') ps qs rs ss eb ec ed) ps
    c.loop-i.a i x long_a c.loop-i.invariant.a c.index-a-i.is in
    let ey : y ≡ slice_index_or qs i y =
    unwritten (combined (λ p q. fin (high u p q)) (low t) (low t') ps qs rs ss eb ec ed) qs
    c.loop-i.b i y long_b c.loop-i.invariant.b c.index-b-i.is in
    let ez : z ≡ slice_index_or rs i z =
    unwritten (combined (λ p q. fin (low v p q)) (high t) (high t') ps qs rs ss eb ec ed) rs
    c.loop-i.c i z long_c c.loop-i.invariant.c c.index-c-i.is in
    let ew : w ≡ slice_index_or ss i w =
    unwritten (combined (λ p q. fin (high v p q)) (high t) (high t') ps qs rs ss eb ec ed) ss
    c.loop-i.d i w long_d c.loop-i.invariant.d c.index-d-i.is in
    record {
      a = combined-more (λ p q. fin (low u p q)) (low t) (low t') ps qs rs ss eb ec ed ps c.loop-i.a
          i x y z w c.finish.result refl here c.loop-i.invariant.a ex ey ez ew
          (c.finish.ensures ∙ ap fin
          (three.ensures.low ∙ ap (λ p. low u p two.result.0) one.ensures.low
          ∙ ap (low u (low t x z)) two.ensures.low));
      b = combined-more (λ p q. fin (high u p q)) (low t) (low t') ps qs rs ss eb ec ed qs
          c.loop-i.b i x y z w c.finish-in-loop-i.result eb here c.loop-i.invariant.b ex ey ez ew
          (c.finish-in-loop-i.ensures ∙ ap fin
          (three.ensures.high ∙ ap (λ p. high u p two.result.0) one.ensures.low
          ∙ ap (high u (low t x z)) two.ensures.low));
      c = combined-more (λ p q. fin (low v p q)) (high t) (high t') ps qs rs ss eb ec ed rs
          c.loop-i.c i x y z w c.finish-in-loop-i-2.result ec here c.loop-i.invariant.c ex ey ez ew
          (c.finish-in-loop-i-2.ensures ∙ ap fin
          (four.ensures.low ∙ ap (λ p. low v p two.result.1) one.ensures.high
          ∙ ap (low v (high t x z)) two.ensures.high));
      d = combined-more (λ p q. fin (high v p q)) (high t) (high t') ps qs rs ss eb ec ed ss
          c.loop-i.d i x y z w c.finish-in-loop-i-3.result ed here c.loop-i.invariant.d ex ey ez ew
          (c.finish-in-loop-i-3.ensures ∙ ap fin
          (four.ensures.high ∙ ap (λ p. high v p two.result.1) one.ensures.high
          ∙ ap (high v (high t x z)) two.ensures.high));
    }

pub returns-clause-a : goal.returns-clause-a
returns-clause-a g c =
    let fin = g.S.Finish.finished c.args.finish in
    let low = g.B.Butterfly.lower in
    let ps = c.args.a.now in
    let new = combined (λ p q. fin (low c.args.second.0 p q)) (low c.args.first.0)
    (low c.args.first.1) ps c.args.b.now c.args.c.now c.args.d.now c.requires.b_length
    c.requires.c_length c.requires.d_length in
    let long = length-combined (λ p q. fin (low c.args.second.0 p q)) (low c.args.first.0)
    (low c.args.first.1) ps c.args.b.now c.args.c.now c.args.d.now c.requires.b_length
    c.requires.c_length c.requires.d_length in
    c.loop-i.invariant.a ∙ written-all c.loop-i.i new ps long (omega (arith, c.loop-i-test.false))

pub returns-clause-b : goal.returns-clause-b
returns-clause-b g c =
    let fin = g.S.Finish.finished c.args.finish in
    let low = g.B.Butterfly.lower in
    let high = g.B.Butterfly.upper in
    let ps = c.args.a.now in
    let new = combined (λ p q. fin (high c.args.second.0 p q)) (low c.args.first.0)
    (low c.args.first.1) ps c.args.b.now c.args.c.now c.args.d.now c.requires.b_length
    c.requires.c_length c.requires.d_length in
    let long = length-combined (λ p q. fin (high c.args.second.0 p q)) (low c.args.first.0)
    (low c.args.first.1) ps c.args.b.now c.args.c.now c.args.d.now c.requires.b_length
    c.requires.c_length c.requires.d_length in
    c.loop-i.invariant.b ∙ written-all c.loop-i.i new c.args.b.now (long ∙ sym c.requires.b_length)
    (omega (arith, c.loop-i-test.false, c.requires.b_length))

pub returns-clause-c : goal.returns-clause-c
returns-clause-c g c =
    let fin = g.S.Finish.finished c.args.finish in
    let low = g.B.Butterfly.lower in
    let high = g.B.Butterfly.upper in
    let ps = c.args.a.now in
    let new = combined (λ p q. fin (low c.args.second.1 p q)) (high c.args.first.0)
    (high c.args.first.1) ps c.args.b.now c.args.c.now c.args.d.now c.requires.b_length
    c.requires.c_length c.requires.d_length in
    let long = length-combined (λ p q. fin (low c.args.second.1 p q)) (high c.args.first.0)
    (high c.args.first.1) ps c.args.b.now c.args.c.now c.args.d.now c.requires.b_length
    c.requires.c_length c.requires.d_length in
    c.loop-i.invariant.c ∙ written-all c.loop-i.i new c.args.c.now (long ∙ sym c.requires.c_length)
    (omega (arith, c.loop-i-test.false, c.requires.c_length))

pub returns-clause-d : goal.returns-clause-d
returns-clause-d g c =
    let fin = g.S.Finish.finished c.args.finish in
    let low = g.B.Butterfly.lower in
    let high = g.B.Butterfly.upper in
    let ps = c.args.a.now in
    let new = combined (λ p q. fin (high c.args.second.1 p q)) (high c.args.first.0)
    (high c.args.first.1) ps c.args.b.now c.args.c.now c.args.d.now c.requires.b_length
    c.requires.c_length c.requires.d_length in
    let long = length-combined (λ p q. fin (high c.args.second.1 p q)) (high c.args.first.0)
    (high c.args.first.1) ps c.args.b.now c.args.c.now c.args.d.now c.requires.b_length
    c.requires.c_length c.requires.d_length in
    c.loop-i.invariant.d ∙ written-all c.loop-i.i new c.args.d.now (long ∙ sym c.requires.d_length)
    (omega (arith, c.loop-i-test.false, c.requires.d_length))
