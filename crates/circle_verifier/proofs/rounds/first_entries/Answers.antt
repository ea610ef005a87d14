use Rattle.std.proofs.Common.{◌≡◌, ◌++◌, ◌∷◌, [], ◌∙◌, List, Vec, Global, sym, ap, length, map}
use Rattle.std.proofs.Common.{take, slice_index_or, arith}
use Rattle.std.proofs.lemmas.List.{take_more, length-map, get_or-map, get_or_default, take_all}
use Rattle.circle_verifier.proofs.rounds.first_entries.Goals as goal

pub index-requires : goal.index-requires
index-requires g c =
    let E = g.row.E.Denot in
    let items : Vec E Global → List E = λ row. row.items in
    let i = c.loop-row.row-index in
    let rows = c.args.rows.now in
    let row = c.row-item.result in
    let one = c.requires i [] (omega (arith, c.loop-row-test.true, length-map rows items)) in
    let here : items row ≡ slice_index_or (map items rows) i [] = ap items c.row-item.is
    ∙ sym (get_or-map items rows i row [] c.loop-row-test.true) in
    omega (arith, one, ap length here, row.ok.0)

pub loop-row-preserved : goal.loop-row-preserved
loop-row-preserved g c =
    let E = g.row.E.Denot in
    let k = g.E.Operations.ops in
    let f : Vec E Global → E = λ row. slice_index_or row.items 0 k.zero in
    let i = c.loop-row.row-index in
    let rows = c.args.rows.now in
    let row = c.row-item.result in
    let e = c.index.result.now in
    let items : Vec E Global → List E = λ row. row.items in
    let one = c.requires i [] (omega (arith, c.loop-row-test.true, length-map rows items)) in
    let same : items row ≡ slice_index_or (map items rows) i [] = ap items c.row-item.is
    ∙ sym (get_or-map items rows i row [] c.loop-row-test.true) in
    let here : e ≡ f row = c.index.ensures
    ∙ get_or_default row.items 0 e k.zero (omega (arith, one, ap length same)) in
    c.in_ok-push.ensures.items
    ∙ ap (λ before. before ++ e ∷ []) c.loop-row.invariant
    ∙ ap (λ x. take i (map f rows) ++ x ∷ [])
    (here ∙ ap f c.row-item.is ∙ sym (get_or-map f rows i row k.zero c.loop-row-test.true))
    ∙ sym (take_more (map f rows) i k.zero (omega (arith, c.loop-row-test.true, length-map rows f)))

pub returns : goal.returns
returns g c =
    let f : Vec g.row.E.Denot Global → g.row.E.Denot =
    λ row. slice_index_or row.items 0 g.E.Operations.ops.zero in
    let rows = c.args.rows.now in
    c.loop-row.invariant
    ∙ take_all c.loop-row.row-index (map f rows)
    (omega (arith, c.loop-row-test.false, length-map rows f))
