use Rattle.std.proofs.Common.{◌≡◌, ◌/◌, ◌^◌, ◌<◌, ◌++◌, [], ◌∷◌, ◌∙◌, List, Vec, Global, sym, ap}
use Rattle.std.proofs.Common.{length, map, slice_index_or, slice_set, arith}
use Rattle.std.proofs.lemmas.List.{map-append, map-set, length-map, get_or-map}
use Rattle.circle_commit.specs.Mmcs.{opened_rows}
use Rattle.circle_commit.proofs.Written.{written, written-read, written-more, written-all}
use Rattle.circle_commit.proofs.Written.{length-pairwise, pairwise-read}
use Rattle.circle_commit.specs.DotProduct.{pairwise}
use Rattle.circle_folding.specs.Chain.{pair_of, asked_pairs}
use Rattle.circle_folding.proofs.Queries.{length-asked_pairs, asked_pairs-read}
use Rattle.circle_folding.proofs.query.push_query_pairs.Goals as goal

pub bounds-indices-i : goal.bounds-indices-i
bounds-indices-i g c = omega (arith, c.loop-i-test.true, c.requires.rows)

pub offset_bounds-indices-i : goal.offset_bounds-indices-i
offset_bounds-indices-i g c = omega (arith, c.loop-i-test.true, c.requires.rows)

pub bounds-values-i : goal.bounds-values-i
bounds-values-i g c = omega (arith, c.loop-i-test.true, c.requires.rows, c.requires.values)

pub offset_bounds-values-i : goal.offset_bounds-values-i
offset_bounds-values-i g c = omega (arith, c.loop-i-test.true, c.requires.rows, c.requires.values)

pub bounds-siblings-i : goal.bounds-siblings-i
bounds-siblings-i g c = omega (arith, c.loop-i-test.true, c.requires.rows, c.requires.siblings)

pub offset_bounds-siblings-i : goal.offset_bounds-siblings-i
offset_bounds-siblings-i g c =
    omega (arith, c.loop-i-test.true, c.requires.rows, c.requires.siblings)

pub overflow_shr-indices : goal.overflow_shr-indices
overflow_shr-indices g c = omega (arith, c.requires.bits)

pub loop-i-preserved : goal.loop-i-preserved
loop-i-preserved g c =
    let T = g.row.T.Denot in
    let bits = c.args.bits in
    let qs = c.args.indices.now in
    let vs = c.args.values.now in
    let ss = c.args.siblings.now in
    let i = c.loop-i.i in
    let now = c.loop-i.rows in
    let before = c.args.rows.now in
    let old = opened_rows before in
    let pairs = asked_pairs bits qs vs ss in
    let f = λ (rs : List (List T)) (pair : List T). rs ++ pair ∷ [] in
    let new = pairwise f old pairs in
    let items : Vec T Global → List T = λ row. row.items in
    let entries : Vec (Vec T Global) Global → List (List T) = λ rows. map items rows.items in
    let held : length old ≡ length before = length-map before entries in
    let paired : length pairs ≡ length qs =
    length-asked_pairs bits qs vs ss c.requires.values c.requires.siblings in
    let long : length new ≡ length old =
    length-pairwise f old pairs (held ∙ c.requires.rows ∙ sym paired) in
    let of_queries : i < length qs = omega (arith, c.loop-i-test.true, c.requires.rows) in
    let here : i < length old = omega (arith, c.loop-i-test.true, held) in
    let r = c.index-rows-i.result in
    let row = c.in_ok-pair_row.field-0 in
    let v = c.index-values-i.result in
    let s = c.index-siblings-i.result in
    let place = slice_index_or qs i 0 / 2 ^ bits in
    let is_pair : row.items ≡ slice_index_or pairs i [] =
    c.in_ok-pair_row.ensures ∙ ap (λ x. pair_of place x s) c.index-values-i.is
    ∙ ap (pair_of place (slice_index_or vs i v)) c.index-siblings-i.is
    ∙ sym
    (asked_pairs-read bits qs vs ss c.requires.values c.requires.siblings i v s []
    of_queries) in
    let were : entries (slice_index_or now i r) ≡ slice_index_or old i [] =
    sym (get_or-map entries now i r [] (omega (arith, c.loop-i-test.true, c.loop-i.auto.rows)))
    ∙ ap (λ xs. slice_index_or xs i []) c.loop-i.invariant ∙ written-read i new old [] long in
    let made : entries c.push.new.self ≡ slice_index_or new i [] =
    ap (map items) c.in_ok-push.ensures.items ∙ map-append items (slice_index_or now i r).items
    (row ∷ [])
    ∙ ap (λ x. entries (slice_index_or now i r) ++ x ∷ []) is_pair
    ∙ ap (λ rs. f rs (slice_index_or pairs i [])) were
    ∙ sym (pairwise-read f old pairs i [] [] [] here (omega (arith, of_queries, paired))) in
    map-set entries now i c.push.new.self
    ∙ ap (λ xs. slice_set xs i (entries c.push.new.self)) c.loop-i.invariant
    ∙ ap (slice_set (written i new old) i) made
    ∙ written-more i new old [] long here

pub returns : goal.returns
returns g c =
    let T = g.row.T.Denot in
    let bits = c.args.bits in
    let qs = c.args.indices.now in
    let vs = c.args.values.now in
    let ss = c.args.siblings.now in
    let before = c.args.rows.now in
    let old = opened_rows before in
    let pairs = asked_pairs bits qs vs ss in
    let f = λ (rs : List (List T)) (pair : List T). rs ++ pair ∷ [] in
    let entries : Vec (Vec T Global) Global → List (List T) =
    λ rows. map (λ row. row.items) rows.items in
    let held : length old ≡ length before = length-map before entries in
    let paired : length pairs ≡ length qs =
    length-asked_pairs bits qs vs ss c.requires.values c.requires.siblings in
    let long : length (pairwise f old pairs) ≡ length old =
    length-pairwise f old pairs (held ∙ c.requires.rows ∙ sym paired) in
    c.loop-i.invariant ∙ written-all c.loop-i.i (pairwise f old pairs) old long
    (omega (arith, c.loop-i-test.false, held))
