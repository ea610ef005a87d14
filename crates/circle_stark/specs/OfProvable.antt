-- What a statement that can be proved over a scheme fixes, as clauses see it. What is known of the
-- scheme and its challengers is an argument of the statement's type.
use Rattle.std.specs.Prelude.{◌≡◌, ◌^◌}
use Rattle.circle_challenger.specs.Moves.{RunMoves}
use Rattle.circle_commit.specs.declared.matrix.RowMajorMatrix.{RowMajorMatrix}
use Rattle.circle_domain.specs.Selectors.{next_from}
use Rattle.circle_point.specs.Projective.{from_line, to_line}
use Rattle.circle_quotient.specs.Fit.{IsFit}
use Rattle.circle_relation.specs.Accepts.{Fields}
use Rattle.circle_stark.specs.Draw.{AreDrawn, Described, after_statement}
use Rattle.circle_stark.specs.Honest.{IsQuotientCommitted, IsTraceCommitted, IsTraceKept}
use Rattle.circle_stark.specs.Opened.{IsOpenedRun}
use Rattle.circle_stark.specs.Schemes.{Schemes, described}
use Rattle.circle_stark.specs.Statement.{OpenedValues, Statement, statement_of}
use Rattle.circle_stark.specs.Unproved.{IsUnopenedFor}
use Rattle.circle_stark.specs.declared.error.StarkError.{StarkError}
use Rattle.circle_stark.specs.declared.error.StarkProverError.{StarkProverError}
use Rattle.circle_stark.specs.declared.provable.ProvableStatement.{ProvableStatement}

-- the relation's members are in `relation`, those of the schemes in `over`
module _ {P E C Error F Proof S : Type 0} {relation over states : _}
    (t : ProvableStatement P E C Error F Proof S relation over states) where
  abbrev pub stated_by : Statement F
  stated_by = statement_of t.statement

  abbrev pub schemes_of : Schemes P C S F E
  schemes_of = over.schemes

  abbrev pub fields_of : Fields F E
  fields_of = over.schemes.fields

  -- what a challenger is to the transcript of the commitments
  abbrev pub own_of : RunMoves C S F E over.schemes.Commitment
  own_of = over.schemes.own

  -- what describes the statement to the transcript
  abbrev pub description : Described F
  description = described over.schemes stated_by

  -- the state once the run has begun: after the seed and the public values were absorbed
  abbrev pub begun : C → S
  begun old = after_statement own_of description (own_of.base.state old)

  -- a verifier accepts the proof, with the first challenger, and leaves the second
  abbrev pub Accepts : C → C → Proof → Type 0
  Accepts = relation.accepts t.pcs.now t.statement

  -- whatever it leaves
  abbrev pub Holds : C → Proof → Type 0
  Holds old proof = relation.holds t.pcs.now t.statement proof old

  -- or it refuses the proof
  abbrev pub Refuses : Proof → C → C → StarkError Error → Type 0
  Refuses proof = relation.refuses_seeded t.pcs.now t.statement proof t.log_chunks

  -- the proof, made with the challenger, opens the rows
  abbrev pub Opens : RowMajorMatrix F → C → Proof → Type 0
  Opens = relation.opens t.pcs.now t.statement

  -- a prover doesn't prove the rows, which satisfy the statement
  abbrev pub IsUnopened : RowMajorMatrix F → C → C → StarkProverError → Type 0
  IsUnopened = relation.unopened t.pcs.now t.statement

  -- of the commitments the transcript draws alpha and zeta
  abbrev pub Draws : over.schemes.Commitment → over.schemes.Commitment → C → E → E → C → Type 0
  Draws trace quotient old alpha zeta new =
      AreDrawn own_of description trace quotient (own_of.base.state old) alpha zeta
      (own_of.base.state new)

  -- the rows have this commitment, and a committer keeps the data
  abbrev pub CommitsTo :
      RowMajorMatrix F → over.schemes.Commitment → over.schemes.ProverData → Type 0
  CommitsTo x commitment trace =
      let o = over.schemes in
      IsTraceCommitted o.operations o.fields.field o.fields.gen (o.params t.pcs.now).log_blowup
      (o.Commits t.pcs.now) t.statement.log_n x commitment (o.kept trace)

  -- a committer keeps the data of some rows
  abbrev pub IsKept : over.schemes.ProverData → Type 0
  IsKept trace =
      let o = over.schemes in
      IsTraceKept o.operations o.fields.field o.fields.gen (o.params t.pcs.now).log_blowup
      t.statement.log_n stated_by.parts.width (o.kept trace)

  -- the quotient of the trace that is kept, under alpha, has this commitment, and a committer keeps
  -- the data
  abbrev pub CommitsToQuotient : over.schemes.ProverData → E → over.schemes.Commitment →
      over.schemes.ProverData → Type 0
  CommitsToQuotient trace alpha commitment quotient =
      let o = over.schemes in
      IsQuotientCommitted o.operations o.fields (o.params t.pcs.now).log_blowup
      (o.Commits t.pcs.now) own_of.base.coefficients own_of.base.degree stated_by t.log_chunks
      (o.kept trace) alpha commitment (o.kept quotient)

  -- zeta can be opened
  abbrev pub CanBeOpened : E → Type 0
  CanBeOpened = IsFit fields_of.extension fields_of.embed fields_of.gen t.statement.log_n

  -- the point after that of zeta, and its coordinate
  abbrev pub next_of : E → E
  next_of zeta =
      to_line fields_of.extension
      (next_from fields_of.extension fields_of.embed fields_of.gen t.statement.log_n zeta)

  -- that point is the one of its coordinate
  abbrev pub HasNext : E → Type 0
  HasNext zeta =
      from_line fields_of.extension (next_of zeta)
      ≡ next_from fields_of.extension fields_of.embed fields_of.gen t.statement.log_n zeta

  module _ (trace quotient : over.schemes.ProverData) (zeta : E) where
    -- nothing is opened of what is kept of the trace and of its quotient
    abbrev pub IsUnopenedAt : C → C → StarkProverError → Type 0
    IsUnopenedAt old new =
        IsUnopenedFor fields_of (over.schemes.RefusesToOpen t.pcs.now) t.statement.log_n
        (2 ^ t.log_chunks) trace quotient zeta (own_of.base.state old) (own_of.base.state new)

    -- or these values are, with this proof
    abbrev pub AreOpenedAt : OpenedValues E → over.schemes.Opening → C → C → Type 0
    AreOpenedAt v opening old new =
        IsOpenedRun (over.schemes.Gives t.pcs.now) (over.schemes.AreTrue t.pcs.now) trace quotient
        (2 ^ t.log_chunks) zeta (next_of zeta) v opening (own_of.base.state old)
        (own_of.base.state new)
