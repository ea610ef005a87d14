use Rattle.circle_json.proofs.Parameters.{short_written, whole_written, written_reads}
use Rattle.circle_json.proofs.claims.FriParametersUnitJsonForm.to_json.Goals as goal

pub returns-then-self-eq0-clause-written : goal.returns-then-self-eq0-clause-written
returns-then-self-eq0-clause-written c =
    short_written c.short_object.result c.args.self.now c.if-self-eq0.true c.short_object.ensures

pub returns-clause-written : goal.returns-clause-written
returns-clause-written c = whole_written c.whole_object.result c.args.self.now c.if-self-eq0.false
    c.whole_object.ensures

pub returns-then-self-eq0-clause-reads : goal.returns-then-self-eq0-clause-reads
returns-then-self-eq0-clause-reads c =
    written_reads c.short_object.result c.args.self.now
    (short_written c.short_object.result c.args.self.now c.if-self-eq0.true
    c.short_object.ensures)

pub returns-clause-reads : goal.returns-clause-reads
returns-clause-reads c =
    written_reads c.whole_object.result c.args.self.now
    (whole_written c.whole_object.result c.args.self.now c.if-self-eq0.false
    c.whole_object.ensures)
