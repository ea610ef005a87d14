use Rattle.std.proofs.Common.{◌≡◌, ℕ, ◌++◌, [], ◌∷◌, ◌∙◌, List, Vec, Global, sym, ap, length, map}
use Rattle.std.proofs.Common.{take, drop}
use Rattle.std.proofs.lemmas.List.{take_all, map-append, map_more, length-map}
use Rattle.circle_commit.specs.Mmcs.{opened_rows}
use Rattle.circle_commit.specs.DotProduct.{pairwise}
use Rattle.circle_field.proofs.Inverses.{take-whole}
use Rattle.circle_folding.specs.Chain.{asked_pairs}
use Rattle.circle_folding.proofs.FirstLayer.{pushed-onto_nothing}
use Rattle.circle_folding.proofs.Queries.{length-asked_pairs}
use Rattle.circle_folding.proofs.query.query_pairs.Goals as goal

pub loop-init : goal.loop-init
loop-init g c = ap opened_rows c.in_ok-rows.ensures.items

pub push_query_pairs-requires-clause-values : goal.push_query_pairs-requires-clause-values
push_query_pairs-requires-clause-values g c = c.requires.values

pub push_query_pairs-requires-clause-siblings : goal.push_query_pairs-requires-clause-siblings
push_query_pairs-requires-clause-siblings g c = c.requires.siblings

pub loop-preserved : goal.loop-preserved
loop-preserved g c =
    let T = g.row.T.Denot in
    let none : ℕ → List (List T) = λ _. [] in
    let entries : Vec (Vec T Global) Global → List (List T) =
    λ rows. map (λ row. row.items) rows.items in
    let i = c.loop.index in
    let qs = c.args.indices.now in
    ap opened_rows c.in_ok-push.ensures.items
    ∙ map-append entries c.loop.rows.items (c.new.result ∷ [])
    ∙ ap (λ rows. rows ++ entries c.new.result ∷ []) c.loop.invariant
    ∙ ap (λ rows. map none (take i qs) ++ map (λ (row : Vec T Global). row.items) rows ∷ [])
    c.new.ensures.items
    ∙ sym (map_more none qs i 0 c.loop-test.true)

pub push_query_pairs-requires-clause-rows : goal.push_query_pairs-requires-clause-rows
push_query_pairs-requires-clause-rows g c =
    let T = g.row.T.Denot in
    let none : ℕ → List (List T) = λ _. [] in
    let entries : Vec (Vec T Global) Global → List (List T) =
    λ rows. map (λ row. row.items) rows.items in
    let qs = c.args.indices.now in
    let all : opened_rows c.loop.rows.items ≡ map none qs = c.loop.invariant
    ∙ ap (map none) (take_all c.loop.index qs c.loop-test.false) in
    ap length c.deref_mut.ensures.value ∙ sym (length-map c.loop.rows.items entries) ∙ ap length all
    ∙ length-map qs none

pub returns : goal.returns
returns g c =
    let T = g.row.T.Denot in
    let none : ℕ → List (List T) = λ _. [] in
    let bits = c.args.bits in
    let qs = c.args.indices.now in
    let rows = c.loop.rows.items in
    let new = c.push_query_pairs.new.rows in
    let pairs = asked_pairs bits qs c.args.values.now c.args.siblings.now in
    let f = λ (rs : List (List T)) (pair : List T). rs ++ pair ∷ [] in
    let all : opened_rows rows ≡ map none qs = c.loop.invariant
    ∙ ap (map none) (take_all c.loop.index qs c.loop-test.false) in
    let pushed : opened_rows new ≡ map (λ pair. pair ∷ []) pairs =
    c.in_ok-push_query_pairs.ensures
    ∙ ap (λ xs. pairwise f (opened_rows xs) pairs) c.deref_mut.ensures.value
    ∙ ap (λ xs. pairwise f xs pairs) all
    ∙ pushed-onto_nothing qs pairs
    (length-asked_pairs bits qs c.args.values.now c.args.siblings.now c.requires.values
    c.requires.siblings) in
    let same : take c.loop.rows.len (new ++ drop (length new) rows) ≡ new =
    take-whole c.loop.rows.len new rows c.loop.rows.ok.0
    (c.push_query_pairs.auto.rows ∙ ap length c.deref_mut.ensures.value) in
    ap opened_rows same ∙ pushed
