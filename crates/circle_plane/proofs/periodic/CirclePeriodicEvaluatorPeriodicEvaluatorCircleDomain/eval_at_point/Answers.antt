use Rattle.std.proofs.Common.{◌≡◌, ◌<◌, ◌+◌, ◌++◌, ◌∙◌, [], ◌∷◌, ℕ, List, sym, ap, subst, length}
use Rattle.std.proofs.Common.{map, arith, get_or, length-append}
use Rattle.std.proofs.lemmas.List.{length-map}
use Rattle.circle_point.specs.Projective.{from_line}
use Rattle.circle_domain.specs.Domain.{log_size}
use Rattle.circle_domain.specs.Periodic.{IsPeriodicValue}
use Rattle.circle_plane.specs.PeriodicColumns.{HasValueAt, columns_of}
use Rattle.circle_plane.proofs.EachMore.{each-more, items-at}
use Rattle.circle_plane.proofs.periodic.CirclePeriodicEvaluatorPeriodicEvaluatorCircleDomain.eval_at_point.Given as given
use Rattle.circle_plane.proofs.periodic.CirclePeriodicEvaluatorPeriodicEvaluatorCircleDomain.eval_at_point.Goals as goal
use Rattle.circle_plane.proofs.periodic.CirclePeriodicEvaluatorPeriodicEvaluatorCircleDomain.eval_at_point.Goals.{After-deref}

-- the column that is read
column-read : (g : given.Over) (c : After-deref g) →
    get_or (columns_of c.args.periodic_table.now) c.loop-column.column-index []
    ≡ c.deref.result.now
column-read g c =
    items-at c.args.periodic_table.now c.loop-column.column-index c.column-item.result
    c.loop-column-test.true c.column-item.is ∙ sym c.deref.ensures.value

-- has a value at the point
has-value : (g : given.Over) (c : After-deref g) → HasValueAt
    g.F.ComplexExtendable.CIRCLE_TWO_ADICITY g.F.Operations.ops g.F.ComplexExtendable.generators
    g.EF.Operations.ops g.EF.ExtensionField.embed c.args.trace_domain.now c.args.point
    c.deref.result.now
has-value g c =
    subst (HasValueAt g.F.ComplexExtendable.CIRCLE_TWO_ADICITY g.F.Operations.ops
    g.F.ComplexExtendable.generators g.EF.Operations.ops g.EF.ExtensionField.embed
    c.args.trace_domain.now c.args.point) (column-read g c)
    (c.requires c.loop-column.column-index c.loop-column-test.true)

pub
    evaluate_periodic_column_at-requires-clause-standard :
    goal.evaluate_periodic_column_at-requires-clause-standard
evaluate_periodic_column_at-requires-clause-standard g c = λ two. (has-value g c two).0

pub
    evaluate_periodic_column_at-requires-clause-power :
    goal.evaluate_periodic_column_at-requires-clause-power
evaluate_periodic_column_at-requires-clause-power g c = λ two. (has-value g c two).1

pub
    evaluate_periodic_column_at-requires-clause-at_most_size :
    goal.evaluate_periodic_column_at-requires-clause-at_most_size
evaluate_periodic_column_at-requires-clause-at_most_size g c = λ two. (has-value g c two).2

pub
    evaluate_periodic_column_at-requires-clause-finite :
    goal.evaluate_periodic_column_at-requires-clause-finite
evaluate_periodic_column_at-requires-clause-finite g c = λ two. (has-value g c two).3

pub
    evaluate_periodic_column_at-requires-clause-clear :
    goal.evaluate_periodic_column_at-requires-clause-clear
evaluate_periodic_column_at-requires-clause-clear g c = λ two. (has-value g c two).4

pub loop-column-init : goal.loop-column-init
loop-column-init g c =
    let none = c.in_ok-values.ensures.items in
    record {
      count = ap length none;
      each = λ j lt. absurd (omega (arith, lt, ap length none));
    }

pub loop-column-preserved : goal.loop-column-preserved
loop-column-preserved g c =
    let l = g.EF.Operations.ops in
    let columns = c.args.periodic_table.now in
    let all = map (λ column. column.items) columns in
    let i = c.loop-column.column-index in
    let done = c.loop-column.values.items in
    let x = c.in_ok-evaluate_periodic_column_at.field-0 in
    let within : i < length all =
    omega (arith, c.loop-column-test.true, length-map columns (λ column. column.items)) in
    let read = sym (column-read g (goal.at.loop-column-preserved g c).After-deref) in
    let P = λ (col : List g.row.F.Denot) (v : g.row.EF.Denot).
    IsPeriodicValue g.F.Operations.ops g.F.ComplexExtendable.generators l g.EF.ExtensionField.embed
    (log_size c.args.trace_domain.now) col (from_line l c.args.point) v in
    let count : length done ≡ i = c.loop-column.invariant.count in
    let items : c.push.new.self.items ≡ done ++ x ∷ [] = c.in_ok-push.ensures.items in
    let here : P (get_or all (length done) []) x =
    subst (λ j. P (get_or all j []) x) (sym count)
    (subst (λ col. P col x) read c.in_ok-evaluate_periodic_column_at.ensures) in
    record {
      count = ap length items ∙ length-append done (x ∷ []) ∙ ap (λ n. n + 1) count;
      each =
          subst (λ (ys : List g.row.EF.Denot). (j : ℕ) → j < length ys →
          P (get_or all j []) (get_or ys j l.zero)) (sym items)
          (each-more P all done [] l.zero x (omega (arith, within, count))
          c.loop-column.invariant.each here);
    }
