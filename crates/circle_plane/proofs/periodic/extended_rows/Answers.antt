use Rattle.std.proofs.Common.{◌≡◌, ◌*◌, ◌+◌, ◌-◌, ◌^◌, ◌<◌, ◌≤◌, ◌∙◌, sym, ap, subst, length, map}
use Rattle.std.proofs.Common.{arith}
use Rattle.std.specs.List.{range_with_len}
use Rattle.std.proofs.lemmas.List.{length-map}
use Rattle.std.proofs.lemmas.List.FromFn.{length-map-range_with_len}
use Rattle.std.proofs.lemmas.Nat.{pow-add}
use Rattle.std.proofs.lemmas.Result.{IfOk-weaker}
use Rattle.circle_field.specs.Circle.{times}
use Rattle.circle_commit.specs.RowMajorMatrix.{rows, length-rows}
use Rattle.circle_domain.specs.Values.{values_at}
use Rattle.circle_domain.specs.Domain.{log_size, shift_of}
use Rattle.circle_domain.specs.Order.{IsGenuine, natural_order}
use Rattle.circle_domain.specs.Ordering.{other_order}
use Rattle.circle_domain.proofs.PartLists.{length-natural_order}
use Rattle.circle_domain.proofs.StandardDomain.{standard-genuine}
use Rattle.circle_plane.specs.CircleEvaluations.{domain_of, cfft_values}
use Rattle.circle_plane.specs.PeriodicRows.{table_row}
use Rattle.circle_plane.proofs.NaturalRows.{natural-values-of}
use Rattle.circle_plane.proofs.PeriodicTables.{columns-powers, extended-values}
use Rattle.circle_plane.proofs.Periods.{log_period, log_positive, longest-power}
use Rattle.circle_plane.proofs.periodic.extended_rows.Goals as goal

pub log2_strict-log_period-requires : goal.log2_strict-log_period-requires
log2_strict-log_period-requires g c =
    longest-power (2 ^ c.args.trace_log_n) c.args.period
    (map (λ column. column.items) c.args.periodic_table.now)
    (omega (arith, c.requires.some, length-map c.args.periodic_table.now (λ column. column.items)))
    c.requires.fit c.requires.longest

pub overflow_sub-CIRCLE_TWO_ADICITY : goal.overflow_sub-CIRCLE_TWO_ADICITY
overflow_sub-CIRCLE_TWO_ADICITY g c =
    let h = log_period c.args.trace_log_n c.args.period c.log2_strict-log_period.result
    (map (λ column. column.items) c.args.periodic_table.now)
    (omega (arith, c.requires.some, length-map c.args.periodic_table.now (λ column. column.items)))
    c.requires.fit c.requires.longest c.log2_strict-log_period.ensures.power in
    omega (arith, h.1, c.requires.in_group, c.CIRCLE_TWO_ADICITY.ensures)

pub overflow_sub-trace_log_n : goal.overflow_sub-trace_log_n
overflow_sub-trace_log_n g c =
    let h = log_period c.args.trace_log_n c.args.period c.log2_strict-log_period.result
    (map (λ column. column.items) c.args.periodic_table.now)
    (omega (arith, c.requires.some, length-map c.args.periodic_table.now (λ column. column.items)))
    c.requires.fit c.requires.longest c.log2_strict-log_period.ensures.power in
    h.1

pub repeated_rows-requires-clause-powers : goal.repeated_rows-requires-clause-powers
repeated_rows-requires-clause-powers g c =
    columns-powers (2 ^ c.args.trace_log_n) (map (λ column. column.items) c.args.periodic_table.now)
    c.requires.fit

pub
    returns-then-log_blowup-CIRCLE_TWO_ADICITY-clause-height :
    goal.returns-then-log_blowup-CIRCLE_TWO_ADICITY-clause-height
returns-then-log_blowup-CIRCLE_TWO_ADICITY-clause-height g c =
    let columns = map (λ column. column.items) c.args.periodic_table.now in
    IfOk-weaker c.repeated_rows.result _ _
    (λ made is. sym (length-rows made) ∙ ap length is
    ∙ length-map-range_with_len (table_row g.F.Operations.ops.zero columns) 0 c.args.height)
    c.repeated_rows.ensures.rows

pub
    returns-then-log_blowup-CIRCLE_TWO_ADICITY-clause-values :
    goal.returns-then-log_blowup-CIRCLE_TWO_ADICITY-clause-values
returns-then-log_blowup-CIRCLE_TWO_ADICITY-clause-values g c =
    let h = log_period c.args.trace_log_n c.args.period c.log2_strict-log_period.result
    (map (λ column. column.items) c.args.periodic_table.now)
    (omega (arith, c.requires.some, length-map c.args.periodic_table.now (λ column. column.items)))
    c.requires.fit c.requires.longest c.log2_strict-log_period.ensures.power in
    IfOk-weaker c.repeated_rows.result _ _
    (λ made is. record {
      values =
          λ fits. absurd
          (omega (
            arith,
            fits,
            h.1,
            c.if-log_blowup-CIRCLE_TWO_ADICITY.true,
            c.CIRCLE_TWO_ADICITY.ensures,
            c.log_n.ensures,
          ));
    })
    c.repeated_rows.ensures.rows

pub repeated_rows-requires-2-clause-powers : goal.repeated_rows-requires-2-clause-powers
repeated_rows-requires-2-clause-powers g c =
    columns-powers (2 ^ c.args.trace_log_n) (map (λ column. column.items) c.args.periodic_table.now)
    c.requires.fit

pub standard-requires : goal.standard-requires
standard-requires g c =
    let h = log_period c.args.trace_log_n c.args.period c.log2_strict-log_period.result
    (map (λ column. column.items) c.args.periodic_table.now)
    (omega (arith, c.requires.some, length-map c.args.periodic_table.now (λ column. column.items)))
    c.requires.fit c.requires.longest c.log2_strict-log_period.ensures.power in
    omega (arith, h.1, c.requires.in_group)

pub from_natural_order-requires-clause-size : goal.from_natural_order-requires-clause-size
from_natural_order-requires-clause-size g c =
    let columns = map (λ column. column.items) c.args.periodic_table.now in
    let h = log_period c.args.trace_log_n c.args.period c.log2_strict-log_period.result columns
    (omega (arith, c.requires.some, length-map c.args.periodic_table.now (λ column. column.items)))
    c.requires.fit c.requires.longest c.log2_strict-log_period.ensures.power in
    sym (length-rows c.in_ok-repeated.repeated) ∙ ap length c.in_ok-repeated.ensures.rows
    ∙ length-map-range_with_len (table_row g.F.Operations.ops.zero columns) 0 c.args.period
    ∙ h.0 ∙ ap (λ j. 2 ^ j) (sym c.standard.ensures.size)

pub extrapolate-requires-clause-genuine : goal.extrapolate-requires-clause-genuine
extrapolate-requires-clause-genuine g c =
    let k = g.F.Operations.ops in
    let l = c.log2_strict-log_period.result in
    let h =
    log_period c.args.trace_log_n c.args.period l
    (map (λ column. column.items) c.args.periodic_table.now)
    (omega (arith, c.requires.some, length-map c.args.periodic_table.now (λ column. column.items)))
    c.requires.fit c.requires.longest c.log2_strict-log_period.ensures.power in
    let positive = log_positive c.args.period l h.0 c.requires.repeats in
    let genuine = standard-genuine g.F.Operations.laws g.met.F.ComplexExtendable.generators_law l
    positive (omega (arith, h.1, c.requires.in_group)) in
    subst (λ j. IsGenuine k j (shift_of (domain_of c.from_natural_order.result)))
    (sym (ap log_size c.from_natural_order.ensures.domain ∙ c.standard.ensures.size))
    (subst (IsGenuine k l)
    (sym (ap shift_of c.from_natural_order.ensures.domain ∙ c.standard.ensures.shift)) genuine)

pub extrapolate-requires-clause-larger : goal.extrapolate-requires-clause-larger
extrapolate-requires-clause-larger g c =
    omega (
      arith,
      ap log_size c.from_natural_order.ensures.domain ∙ c.standard.ensures.size,
      c.new-extension.ensures.size,
    )

pub extrapolate-requires-clause-in_group : goal.extrapolate-requires-clause-in_group
extrapolate-requires-clause-in_group g c =
    let h = log_period c.args.trace_log_n c.args.period c.log2_strict-log_period.result
    (map (λ column. column.items) c.args.periodic_table.now)
    (omega (arith, c.requires.some, length-map c.args.periodic_table.now (λ column. column.items)))
    c.requires.fit c.requires.longest c.log2_strict-log_period.ensures.power in
    omega (
      arith,
      h.1,
      c.requires.in_group,
      c.new-extension.ensures.size,
      c.if-log_blowup-CIRCLE_TWO_ADICITY.false,
      c.CIRCLE_TWO_ADICITY.ensures,
    )

pub returns-clause-width : goal.returns-clause-width
returns-clause-width g c =
    IfOk-weaker c.to_row_major_matrix.result _ _
    (λ made is. is ∙ c.to_natural_order.ensures.width ∙ c.in_ok-extended.ensures.width
    ∙ c.from_natural_order.ensures.width ∙ c.in_ok-repeated.ensures.width)
    c.to_row_major_matrix.ensures.width

pub returns-clause-height : goal.returns-clause-height
returns-clause-height g c =
    let k = g.F.Operations.ops in
    let h = log_period c.args.trace_log_n c.args.period c.log2_strict-log_period.result
    (map (λ column. column.items) c.args.periodic_table.now)
    (omega (arith, c.requires.some, length-map c.args.periodic_table.now (λ column. column.items)))
    c.requires.fit c.requires.longest c.log2_strict-log_period.ensures.power in
    let l = c.log2_strict-log_period.result in
    let b = log_size c.args.lde_domain - c.args.trace_log_n in
    let t = c.new-extension.result in
    let told = c.in_ok-extended.ensures.values in
    let size : log_size t ≡ l + b = c.new-extension.ensures.size
    ∙ ap (λ j. l + (j - c.args.trace_log_n)) c.log_n.ensures in
    let tall : length (natural_order k g.F.ComplexExtendable.generators (log_size t) (shift_of t)) ≡
    c.args.height =
    length-natural_order k g.F.ComplexExtendable.generators (log_size t) (shift_of t)
    (omega (arith, size, log_positive c.args.period l h.0 c.requires.repeats))
    ∙ ap (λ j. 2 ^ j) size ∙ pow-add 2 l b ∙ ap (λ p. p * 2 ^ b) (sym h.0)
    ∙ sym c.requires.height in
    IfOk-weaker c.to_row_major_matrix.result _ _
    (λ made is. sym (length-rows made) ∙ ap length is ∙ ap length c.to_natural_order.ensures.rows
    ∙ ap (λ d. length (other_order (log_size d) (rows (cfft_values c.in_ok-extended.extended))))
    c.in_ok-extended.ensures.domain
    ∙ ap length told.natural
    ∙ length-map (natural_order k g.F.ComplexExtendable.generators (log_size t) (shift_of t))
    (values_at k told.coeffs _) ∙ tall)
    c.to_row_major_matrix.ensures.rows

pub returns-clause-values : goal.returns-clause-values
returns-clause-values g c =
    let k = g.F.Operations.ops in
    let gen = g.F.ComplexExtendable.generators in
    let laws = g.F.Operations.laws in
    let gens = g.met.F.ComplexExtendable.generators_law in
    let columns = map (λ column. column.items) c.args.periodic_table.now in
    let listed : length columns ≡ length c.args.periodic_table.now =
    length-map c.args.periodic_table.now (λ column. column.items) in
    let n = c.args.trace_log_n in
    let m = log_size c.args.lde_domain in
    let s = shift_of c.args.lde_domain in
    let l = c.log2_strict-log_period.result in
    let h = log_period n c.args.period l columns (omega (arith, c.requires.some, listed))
    c.requires.fit c.requires.longest c.log2_strict-log_period.ensures.power in
    let positive : 1 ≤ l = log_positive c.args.period l h.0 c.requires.repeats in
    let small : l < g.F.ComplexExtendable.CIRCLE_TWO_ADICITY =
    omega (arith, h.1, c.requires.in_group) in
    let told = c.in_ok-extended.ensures.values in
    let coeffs = told.coeffs in
    let t = c.new-extension.result in
    let repeated = map (table_row k.zero columns) (range_with_len 0 (2 ^ l)) in
    let width = c.from_natural_order.ensures.width ∙ c.in_ok-repeated.ensures.width ∙ sym listed in
    let seen = c.from_natural_order.ensures.rows
    ∙ ap (λ i. other_order i (rows c.in_ok-repeated.repeated)) c.standard.ensures.size
    ∙ ap (other_order l)
    (c.in_ok-repeated.ensures.rows
    ∙ ap (λ p. map (table_row k.zero columns) (range_with_len 0 p)) h.0) in
    let values = natural-values-of laws.ring gens l (gen (l + 1)) positive (omega (arith, small))
    (length columns) coeffs repeated
    (length-map-range_with_len (table_row k.zero columns) 0 (2 ^ l)) _ _ _ _
    (ap log_size c.from_natural_order.ensures.domain ∙ c.standard.ensures.size)
    (ap shift_of c.from_natural_order.ensures.domain ∙ c.standard.ensures.shift) width seen
    told.told in
    let size : log_size t ≡ l + (m - n) = c.new-extension.ensures.size
    ∙ ap (λ j. l + (j - n)) c.log_n.ensures in
    let start : shift_of t ≡ times k (2 ^ (n - l)) s = c.new-extension.ensures.shift
    ∙ c.repeated_double-shift.ensures ∙ ap (times k (2 ^ (n - l))) c.shift.ensures in
    let there : map (values_at k coeffs (length columns))
    (natural_order k gen (log_size t) (shift_of t)) ≡ map (values_at k coeffs (length columns))
    (natural_order k gen (l + (m - n)) (times k (2 ^ (n - l)) s)) =
    ap (λ i. map (values_at k coeffs (length columns)) (natural_order k gen i (shift_of t))) size
    ∙ ap (λ q. map (values_at k coeffs (length columns)) (natural_order k gen (l + (m - n)) q))
    start in
    IfOk-weaker c.to_row_major_matrix.result _ _
    (λ made is.
    extended-values laws gens l positive small columns (2 ^ n) c.requires.fit
    (sym c.requires.longest ∙ h.0) coeffs
    (told.told.height ∙ ap (λ i. 2 ^ i) (ap log_size c.from_natural_order.ensures.domain
    ∙ c.standard.ensures.size))
    values n m s (rows made) h.1 c.requires.larger c.args.lde_domain.shift.on_circle
    (is ∙ c.to_natural_order.ensures.rows
    ∙ ap (λ d. other_order (log_size d) (rows (cfft_values c.in_ok-extended.extended)))
    c.in_ok-extended.ensures.domain
    ∙ told.natural
    ∙ ap (λ w. map (values_at k coeffs w) (natural_order k gen (log_size t) (shift_of t))) width
    ∙ there))
    c.to_row_major_matrix.ensures.rows
