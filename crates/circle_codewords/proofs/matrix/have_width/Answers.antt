use Rattle.std.proofs.Common.{◌≡◌, ◌∙◌, sym, subst, arith, length, All, Vec, Global}
use Rattle.std.proofs.lemmas.List.{take_all}
use Rattle.std.proofs.lemmas.List.Elements.{All-more}
use Rattle.circle_codewords.proofs.matrix.have_width.Goals as goal

pub loop-value-preserved : goal.loop-value-preserved
loop-value-preserved g c =
    let v = c.value-item.result in
    let Wide : Vec g.row.EF.Denot Global → Type 0 = λ x. length x.items ≡ c.args.width in
    let here : Wide v = sym v.ok.0 ∙ (sym c.len.ensures ∙ c.if-len-width.false) in
    All-more Wide c.args.values.now c.loop-value.value-index v c.loop-value-test.true
    c.loop-value.invariant (subst Wide c.value-item.is here)

pub returns-clause-yes : goal.returns-clause-yes
returns-clause-yes g c = λ yes.
    let Wide : Vec g.row.EF.Denot Global → Type 0 = λ x. length x.items ≡ c.args.width in
    subst (All Wide)
    (take_all c.loop-value.value-index c.args.values.now
    (omega (arith, c.loop-value-test.false))) c.loop-value.invariant
