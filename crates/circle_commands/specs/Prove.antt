-- What the command `prove` is given.
use Rattle.std.specs.Prelude.{codes}
use Rattle.circle_json.specs.Claims.{parameters_form}
use Rattle.circle_json.specs.Form.{Form, list_form}
use Rattle.circle_json.specs.ObjectForm.{object_form}
use Rattle.circle_json.specs.Objects.{Fields, field, none_left}
use Rattle.circle_commands.specs.Forms.{element_form, rows_form}
use Rattle.circle_commands.specs.declared.prove.Input.{Input}
use Rattle.circle_commands.specs.declared.prove.Trace.{Trace}

-- the points and the rows
abbrev pub trace_fields : Fields Trace
trace_fields =
    field (codes "points") (λ t. t.points) (list_form element_form)
    (field (codes "rows") (λ t. t.rows) rows_form
    none_left)

abbrev pub trace_form : Form Trace
trace_form = object_form trace_fields

-- the batches of matrices and the parameters
abbrev pub input_fields : Fields Input
input_fields =
    field (codes "batches") (λ i. i.batches) (list_form (list_form trace_form))
    (field (codes "params") (λ i. i.params) parameters_form
    none_left)

abbrev pub statement_form : Form Input
statement_form = object_form input_fields
