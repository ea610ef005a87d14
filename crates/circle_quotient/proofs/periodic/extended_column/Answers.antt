use Rattle.std.proofs.Common.{◌+◌, [], ◌∷◌, ap, arith, subst}
use Rattle.circle_commit.specs.PeriodicLdeTable.{columns_of}
use Rattle.circle_domain.proofs.Results.{if_ok_both}
use Rattle.circle_plane.specs.PeriodicColumns.{IsPeriodicTable, IsTableOn}
use Rattle.circle_quotient.proofs.PeriodicTables.{column-refused, standard-table, table-column}
use Rattle.circle_quotient.proofs.periodic.extended_column.Goals as goal

pub out_of_memory-requires : goal.out_of_memory-requires
out_of_memory-requires g c =
    let column = c.args.column.now.items in
    let same = ap columns_of c.from_ref-columns.ensures.value in
    column-refused c.standard-trace_domain.result c.standard-quotient_domain.result c.args.log_n
    c.args.log_num_chunks c.standard-trace_domain.ensures.size
    c.standard-quotient_domain.ensures.size
    (omega (arith, c.requires.in_group, g.met.F.ComplexExtendable.at_most_62))
    (columns_of c.from_ref-columns.result.now) column same c.requires.power c.requires.period
    c.in-Err.error c.in-Err.ensures.refusal

pub returns-in-Ok : goal.returns-in-Ok
returns-in-Ok g c =
    let k = g.F.Operations.ops in
    let gen = g.F.ComplexExtendable.generators in
    let two = g.F.ComplexExtendable.CIRCLE_TWO_ADICITY in
    let n = c.args.log_n in
    let kk = c.args.log_num_chunks in
    let column = c.args.column.now.items in
    let same = ap columns_of c.from_ref-columns.ensures.value in
    let s = gen (n + kk + 1) in
    let table : IsPeriodicTable k gen two n (n + kk) s (column ∷ []) c.in-Ok.table =
    standard-table c.standard-trace_domain.result c.standard-quotient_domain.result n kk
    c.standard-trace_domain.ensures.size c.standard-quotient_domain.ensures.size
    c.standard-quotient_domain.ensures.shift
    (subst (λ cs. IsTableOn k gen two c.standard-trace_domain.result
    c.standard-quotient_domain.result cs c.in-Ok.table) same c.in-Ok.ensures.table) in
    if_ok_both _ _ _ c.first_column.result
    (λ made tall entries. table-column two n kk (omega (arith, c.requires.in_group)) column
    c.in-Ok.table table made.items tall entries)
    c.first_column.ensures.height c.first_column.ensures.entries
