use Rattle.std.proofs.Common.{◌≡◌, ◌≢◌, ◌-◌, ◌*◌, ◌^◌, ◌≤◌, ◌∙◌, All, sym, ap, subst, length, map}
use Rattle.std.proofs.Common.{arith}
use Rattle.std.proofs.lemmas.Bool.{eqb-false, eqb-true}
use Rattle.std.proofs.lemmas.List.{length-map, nil_from_length}
use Rattle.std.proofs.lemmas.List.FromFn.{length-map-range_with_len}
use Rattle.std.proofs.lemmas.Nat.{pow_pos}
use Rattle.circle_commit.specs.Mmcs.{greatest}
use Rattle.circle_commit.specs.RowMajorMatrix.{rows, height_of, length-rows}
use Rattle.circle_domain.specs.Domain.{log_size, shift_of}
use Rattle.circle_plane.specs.PeriodicColumns.{columns_of, IsPeriod, IsFirstFault, IsRefusal}
use Rattle.circle_plane.specs.PeriodicRows.{AreExtended, table_row}
use Rattle.circle_plane.specs.declared.periodic.PeriodicError.TheVariants.{Memory}
use Rattle.circle_plane.proofs.Checked.{checked}
use Rattle.circle_plane.proofs.PeriodicTables.{columns-powers, constant-extended, extended-table}
use Rattle.circle_plane.proofs.PeriodicTables.{empty-table}
use Rattle.circle_plane.proofs.Periods.{greatest-positive, entries-counted}
use Rattle.circle_plane.proofs.Refused.{handed_on, fault-refusal}
use Rattle.circle_plane.proofs.periodic.CirclePeriodicEvaluatorPeriodicEvaluatorCircleDomain.eval_on_lde.Goals as goal

pub returns-then-is_empty-clause-table : goal.returns-then-is_empty-clause-table
returns-then-is_empty-clause-table g c =
    let columns = c.args.periodic_table.now in
    let none =
    nil_from_length (columns_of columns) (length-map columns (λ column. column.items)
    ∙ eqb-true (length columns) 0 (sym c.if-is_empty.ensures)) in
    empty-table g.F.Operations.ops g.F.ComplexExtendable.generators
    g.F.ComplexExtendable.CIRCLE_TWO_ADICITY (log_size c.args.trace_domain.now)
    (log_size c.args.lde_domain.now) (shift_of c.args.lde_domain.now) (columns_of columns)
    c.empty.result none c.empty.ensures.width c.empty.ensures.height

pub returns-in_err-period-clause-refusal : goal.returns-in_err-period-clause-refusal
returns-in_err-period-clause-refusal g c =
    let periods = map length (map (λ column. column.items) c.args.periodic_table.now) in
    let size = 2 ^ log_size c.args.trace_domain.now in
    let blowup = log_size c.args.lde_domain.now - log_size c.args.trace_domain.now in
    let e = c.in_err-period.field-0.0 in
    let fault : IsFirstFault size periods e =
    subst (λ n. IsFirstFault n periods e) c.size.ensures c.in_err-period.ensures.refusal in
    handed_on c.from_residual.result e (IsRefusal size periods blowup) c.from_residual.ensures.1
    (fault-refusal size periods blowup e fault)

pub checked_height-requires-clause-period : goal.checked_height-requires-clause-period
checked_height-requires-clause-period g c =
    let columns = c.args.periodic_table.now in
    let all = columns_of columns in
    let some : length columns ≢ 0 = eqb-false (length columns) 0 (sym c.if-is_empty.ensures) in
    let positive =
    greatest-positive c.size.result (map length all)
    (omega (arith, some, length-map columns (λ column. column.items), length-map all length))
    c.in_ok-period.ensures.fit in
    omega (arith, positive, c.in_ok-period.ensures.longest)

pub returns-in_err-height-clause-refusal : goal.returns-in_err-height-clause-refusal
returns-in_err-height-clause-refusal g c =
    let columns = c.args.periodic_table.now in
    let all = map (λ column. column.items) columns in
    let periods = map length all in
    let size = 2 ^ log_size c.args.trace_domain.now in
    let blowup = log_size c.args.lde_domain.now - log_size c.args.trace_domain.now in
    let total = entries-counted periods _ _ _ _ _ (length columns) c.in_ok-period.ensures.longest
    c.log_n.ensures c.log_n-2.ensures
    (sym (length-map all length ∙ length-map columns (λ column. column.items))) in
    let refused = c.in_err-height.ensures.refusal in
    handed_on c.from_residual-in_err-height.result c.in_err-height.field-0.0
    (IsRefusal size periods blowup) c.from_residual-in_err-height.ensures.1
    (subst (IsRefusal size periods blowup) (sym refused.0) (
      subst (λ n. All (IsPeriod n) periods) c.size.ensures c.in_ok-period.ensures.fit,
      omega (arith, refused.1, total),
    ))

pub repeated_rows-requires-clause-some : goal.repeated_rows-requires-clause-some
repeated_rows-requires-clause-some g c =
    omega (arith, eqb-false (length c.args.periodic_table.now) 0 (sym c.if-is_empty.ensures))

pub repeated_rows-requires-clause-powers : goal.repeated_rows-requires-clause-powers
repeated_rows-requires-clause-powers g c =
    columns-powers c.size.result (columns_of c.args.periodic_table.now) c.in_ok-period.ensures.fit

pub returns-in_err-constants-clause-refusal : goal.returns-in_err-constants-clause-refusal
returns-in_err-constants-clause-refusal g c =
    let columns = c.args.periodic_table.now in
    let n = log_size c.args.trace_domain.now in
    let m = log_size c.args.lde_domain.now in
    let known =
    checked columns n m _ _ _ _ _ (eqb-false (length columns) 0 (sym c.if-is_empty.ensures))
    c.size.ensures c.log_n.ensures c.log_n-2.ensures
    c.in_ok-period.ensures.fit c.in_ok-period.ensures.longest c.in_ok-height.ensures.height
    c.in_ok-height.ensures.counted in
    handed_on c.from_residual-in_err-constants.result Memory
    (IsRefusal (2 ^ n) (map length (columns_of columns)) (m - n))
    c.from_residual-in_err-constants.ensures.1 known.memory

pub returns-then-period-eq1-clause-table : goal.returns-then-period-eq1-clause-table
returns-then-period-eq1-clause-table g c =
    let k = g.F.Operations.ops in
    let gen = g.F.ComplexExtendable.generators in
    let bits = g.F.ComplexExtendable.CIRCLE_TWO_ADICITY in
    let columns = c.args.periodic_table.now in
    let n = log_size c.args.trace_domain.now in
    let m = log_size c.args.lde_domain.now in
    let known =
    checked columns n m _ _ _ _ _ (eqb-false (length columns) 0 (sym c.if-is_empty.ensures))
    c.size.ensures c.log_n.ensures c.log_n-2.ensures
    c.in_ok-period.ensures.fit c.in_ok-period.ensures.longest c.in_ok-height.ensures.height
    c.in_ok-height.ensures.counted in
    let all = columns_of columns in
    let s = shift_of c.args.lde_domain.now in
    let one : greatest (map length all) ≡ 1 = sym c.in_ok-period.ensures.longest
    ∙ c.if-period-eq1.true in
    let matrix = c.in_ok-constants.constants in
    let positive : 1 ≤ c.in_ok-height.height =
    omega (arith, known.tall, ap (λ l. l * 2 ^ (m - n)) one, pow_pos (m - n)) in
    let size : height_of matrix ≡ c.in_ok-height.height =
    sym (length-rows matrix) ∙ ap length c.in_ok-constants.ensures.rows
    ∙ length-map-range_with_len (table_row k.zero all) 0 c.in_ok-height.height in
    extended-table k gen bits n m s all c.new.result matrix c.new.ensures.width c.new.ensures.height
    c.new.ensures.rows known.some known.fit known.counted
    (c.in_ok-constants.ensures.width ∙ sym known.listed) (size ∙ known.tall)
    (constant-extended k gen bits n m s all (rows matrix) (2 ^ n) c.in_ok-height.height known.fit
    one positive c.in_ok-constants.ensures.rows)

pub extended_rows-requires-clause-some : goal.extended_rows-requires-clause-some
extended_rows-requires-clause-some g c =
    omega (arith, eqb-false (length c.args.periodic_table.now) 0 (sym c.if-is_empty.ensures))

pub extended_rows-requires-clause-fit : goal.extended_rows-requires-clause-fit
extended_rows-requires-clause-fit g c =
    let periods = map length (columns_of c.args.periodic_table.now) in
    subst (λ n. All (IsPeriod n) periods)
    (c.size.ensures ∙ ap (λ n. 2 ^ n) (sym c.log_n-trace_log_n.ensures))
    c.in_ok-period.ensures.fit

pub extended_rows-requires-clause-repeats : goal.extended_rows-requires-clause-repeats
extended_rows-requires-clause-repeats g c =
    let columns = c.args.periodic_table.now in
    let n = log_size c.args.trace_domain.now in
    let m = log_size c.args.lde_domain.now in
    let known =
    checked columns n m _ _ _ _ _ (eqb-false (length columns) 0 (sym c.if-is_empty.ensures))
    c.size.ensures c.log_n.ensures c.log_n-2.ensures
    c.in_ok-period.ensures.fit c.in_ok-period.ensures.longest c.in_ok-height.ensures.height
    c.in_ok-height.ensures.counted in
    omega (arith, known.positive, c.if-period-eq1.false)

pub extended_rows-requires-clause-height : goal.extended_rows-requires-clause-height
extended_rows-requires-clause-height g c =
    let period = c.in_ok-period.period in
    c.in_ok-height.ensures.height ∙ ap (λ i. period * 2 ^ (i - c.log_n-2.result)) c.log_n.ensures
    ∙ ap (λ i. period * 2 ^ (log_size c.args.lde_domain.now - i))
    (c.log_n-2.ensures ∙ sym c.log_n-trace_log_n.ensures)

pub returns-in_err-rows-clause-refusal : goal.returns-in_err-rows-clause-refusal
returns-in_err-rows-clause-refusal g c =
    let columns = c.args.periodic_table.now in
    let n = log_size c.args.trace_domain.now in
    let m = log_size c.args.lde_domain.now in
    let known =
    checked columns n m _ _ _ _ _ (eqb-false (length columns) 0 (sym c.if-is_empty.ensures))
    c.size.ensures c.log_n.ensures c.log_n-2.ensures
    c.in_ok-period.ensures.fit c.in_ok-period.ensures.longest c.in_ok-height.ensures.height
    c.in_ok-height.ensures.counted in
    handed_on c.from_residual-in_err-rows.result Memory
    (IsRefusal (2 ^ n) (map length (columns_of columns)) (m - n))
    c.from_residual-in_err-rows.ensures.1 known.memory

pub returns-clause-table : goal.returns-clause-table
returns-clause-table g c =
    let k = g.F.Operations.ops in
    let gen = g.F.ComplexExtendable.generators in
    let bits = g.F.ComplexExtendable.CIRCLE_TWO_ADICITY in
    let columns = c.args.periodic_table.now in
    let n = log_size c.args.trace_domain.now in
    let m = log_size c.args.lde_domain.now in
    let known =
    checked columns n m _ _ _ _ _ (eqb-false (length columns) 0 (sym c.if-is_empty.ensures))
    c.size.ensures c.log_n.ensures c.log_n-2.ensures
    c.in_ok-period.ensures.fit c.in_ok-period.ensures.longest c.in_ok-height.ensures.height
    c.in_ok-height.ensures.counted in
    let all = columns_of columns in
    let s = shift_of c.args.lde_domain.now in
    let matrix = c.in_ok-rows.rows in
    extended-table k gen bits n m s all c.new-2.result matrix c.new-2.ensures.width
    c.new-2.ensures.height c.new-2.ensures.rows known.some known.fit known.counted
    (c.in_ok-rows.ensures.width ∙ sym known.listed) (c.in_ok-rows.ensures.height ∙ known.tall)
    (subst (λ i. AreExtended k gen bits i m s all (rows matrix)) c.log_n-trace_log_n.ensures
    c.in_ok-rows.ensures.values)
