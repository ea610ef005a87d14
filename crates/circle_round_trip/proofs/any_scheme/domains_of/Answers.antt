use Rattle.std.proofs.Common.{◌≡◌, ◌+◌, ◌++◌, [], ◌∷◌, ◌∙◌, map, take, sym, ap}
use Rattle.std.proofs.lemmas.List.{map-append, take_all, take_more}
use Rattle.circle_round_trip.proofs.any_scheme.domains_of.Goals as goal

pub loop-given-preserved : goal.loop-given-preserved
loop-given-preserved g c =
    let first = λ (m : g.row.D.Denot × g.row.M.Denot). m.0 in
    let batch = c.args.batch.now in
    let i = c.loop-given.given-index in
    let given = c.given-item.result in
    let read : take (i + 1) batch ≡ take i batch ++ given ∷ [] =
    take_more batch i given c.loop-given-test.true
    ∙ ap (λ m. take i batch ++ m ∷ []) (sym c.given-item.is) in
    c.in_ok-push.ensures.items ∙ ap (λ ds. ds ++ given.0 ∷ []) c.loop-given.invariant
    ∙ sym (ap (map first) read ∙ map-append first (take i batch) (given ∷ []))

pub returns : goal.returns
returns g c =
    c.loop-given.invariant
    ∙ ap (map (λ (m : g.row.D.Denot × g.row.M.Denot). m.0))
    (take_all c.loop-given.given-index c.args.batch.now c.loop-given-test.false)
