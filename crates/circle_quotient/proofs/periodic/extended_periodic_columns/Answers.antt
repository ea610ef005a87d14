use Rattle.std.proofs.Common.{◌≡◌, ◌+◌, ◌++◌, ◌∙◌, [], ◌∷◌, List, ap, arith, get_or, length}
use Rattle.std.proofs.Common.{length-append, subst, sym}
use Rattle.std.proofs.lemmas.List.{length-map, map-append}
use Rattle.circle_commit.specs.Matrix.{IsPowerOfTwo}
use Rattle.circle_commit.specs.PeriodicLdeTable.{columns_of}
use Rattle.circle_plane.proofs.EachMore.{each-more, items-at}
use Rattle.circle_quotient.specs.Terms.{IsPeriodicColumn}
use Rattle.circle_quotient.proofs.periodic.extended_periodic_columns.Goals as goal

pub extended_column-requires-clause-power : goal.extended_column-requires-clause-power
extended_column-requires-clause-power g c =
    let column = c.column-item.result in
    subst (λ v. IsPowerOfTwo (length v.items)) (sym c.column-item.is)
    (c.requires.powers c.loop-column.column-index column c.loop-column-test.true)

pub loop-column-preserved : goal.loop-column-preserved
loop-column-preserved g c =
    let columns = c.args.columns.now in
    let all = columns_of columns in
    let i = c.loop-column.column-index in
    let done = c.loop-column.made.items in
    let made = c.in_ok-extended_column.field-0 in
    let P = IsPeriodicColumn g.F.Operations.ops g.F.ComplexExtendable.generators c.args.log_n
    c.args.log_num_chunks in
    let count : length done ≡ i = c.loop-column.invariant.count in
    let long : length (columns_of done) ≡ length done = length-map done (λ column. column.items) in
    let whole : length all ≡ length columns = length-map columns (λ column. column.items) in
    let items : c.push.new.self.items ≡ done ++ made ∷ [] = c.in_ok-push.ensures.items in
    let lists : columns_of c.push.new.self.items ≡ columns_of done ++ made.items ∷ [] =
    ap columns_of items ∙ map-append (λ column. column.items) done (made ∷ []) in
    let read : get_or all i [] ≡ c.column-item.result.items =
    items-at columns i c.column-item.result c.loop-column-test.true c.column-item.is in
    let here : P (get_or all (length (columns_of done)) []) made.items =
    subst (λ j. P (get_or all j []) made.items) (sym (long ∙ count))
    (subst (λ (column : List g.row.F.Denot). P column made.items) (sym read)
    c.in_ok-extended_column.ensures) in
    let more = each-more P all (columns_of done) [] [] made.items
    (omega (arith, c.loop-column-test.true, whole, long, count))
    (λ j lt. c.loop-column.invariant.each j (omega (arith, lt, long))) here in
    record {
      count = ap length items ∙ length-append done (made ∷ []) ∙ ap (λ n. n + 1) count;
      each = λ j lt.
          subst (λ (ys : List (List g.row.F.Denot)). P (get_or all j []) (get_or ys j []))
          (sym lists)
          (more j
          (omega (
            arith,
            lt,
            ap length items,
            length-append done (made ∷ []),
            length-append (columns_of done) (made.items ∷ []),
            long,
          )));
    }
