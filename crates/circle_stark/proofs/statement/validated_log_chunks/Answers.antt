use Rattle.std.proofs.Common.{sym, ◌∙◌}
use Rattle.circle_stark.proofs.Passing.{provable}
use Rattle.circle_stark.proofs.statement.validated_log_chunks.Goals as goal

pub returns-clause-provable : goal.returns-clause-provable
returns-clause-provable g c =
    provable {Opening = g.row.E.Denot} g.F.ComplexExtendable.CIRCLE_TWO_ADICITY c.args.params.now _
    _ c.log_num_quotient_chunks-log_chunks.ensures
    (sym c.validate_statement.ensures ∙ c.in_ok-validate_statement.was)
