use Rattle.std.proofs.Common.{ℕ, ◌++◌, [], ◌∷◌, ◌∙◌, List, Vec, Global, sym, ap, map, take}
use Rattle.std.proofs.lemmas.List.{map-append, map_more, take_all}
use Rattle.circle_commit.specs.Mmcs.{opened_rows}
use Rattle.circle_verifier.proofs.first_layer.empty_rows.Goals as goal

pub loop-preserved : goal.loop-preserved
loop-preserved g c =
    let T = g.row.T.Denot in
    let none : ℕ → List (List T) = λ _. [] in
    let entries : Vec (Vec T Global) Global → List (List T) =
    λ rows. map (λ row. row.items) rows.items in
    let i = c.loop.index in
    let qs = c.args.indices.now in
    ap opened_rows c.in_ok-push.ensures.items
    ∙ map-append entries c.loop.rows.items (c.new.result ∷ [])
    ∙ ap (λ rows. rows ++ entries c.new.result ∷ []) c.loop.invariant
    ∙ ap (λ rows. map none (take i qs) ++ map (λ (row : Vec T Global). row.items) rows ∷ [])
    c.new.ensures.items
    ∙ sym (map_more none qs i 0 c.loop-test.true)

pub returns : goal.returns
returns g c =
    c.loop.invariant
    ∙ ap (map (λ _. [])) (take_all c.loop.index c.args.indices.now c.loop-test.false)
