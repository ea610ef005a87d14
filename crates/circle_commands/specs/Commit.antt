-- What the command `commit` is given, and what it writes.
use Rattle.std.specs.Prelude.{ℕ, List, map, codes}
use Rattle.circle_json.specs.Form.{Form}
use Rattle.circle_json.specs.Values.{digest_written}
use Rattle.serde_json.specs.Data.{Data, array, member, no_members, object}
use Rattle.serde_json.specs.View.{items_of}
use Rattle.circle_commands.specs.Prove.{statement_form}
use Rattle.circle_commands.specs.Proved.{AreCommitments}
use Rattle.circle_commands.specs.Text.{IsJsonLine}
use Rattle.circle_commands.specs.declared.commit.Input.{Input}
use Rattle.circle_commands.specs.declared.prove.Input.{Input as Statement}

-- the form of what consists of this part, which is that of the part
abbrev pub part_form : {T P : Type 0} → (T → P) → Form P → Form T
part_form part form = record {
  same = λ x y. form.same (part x) (part y);
  written = λ x. form.written (part x);
  reads = λ value x. form.reads value (part x);
  refuses = form.refuses;
  reads_one = λ value x y. form.reads_one value (part x) (part y);
  writes_same = λ x y. form.writes_same (part x) (part y);
  refuses_others = λ value x. form.refuses_others value (part x);
}

-- the object of commitments
abbrev pub commitments_written : List (List ℕ) → Data
commitments_written commitments =
    object (member (codes "commitments") (array (items_of (map digest_written commitments)))
    no_members)

-- an input of `prove`
abbrev pub commit_form : Form Input
commit_form = part_form (λ i. i.statement) statement_form

-- the line is that of the commitments to the batches of an input of `prove`
pub record IsCommitLine (statement : Statement) (line : List ℕ) : Type 0 where
  pub commitments : List (List ℕ)
  pub are : AreCommitments statement commitments
  pub written : IsJsonLine (commitments_written commitments) line
