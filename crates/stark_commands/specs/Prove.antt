-- What the command `prove` is given.
use Rattle.std.specs.Prelude.{codes}
use Rattle.circle_commands.specs.Forms.{row_form, rows_form}
use Rattle.circle_json.specs.Claims.{parameters_form}
use Rattle.circle_json.specs.Form.{Form}
use Rattle.circle_json.specs.ObjectForm.{object_form}
use Rattle.circle_json.specs.Objects.{Fields, field, none_left}
use Rattle.stark_commands.specs.Forms.{air_form}
use Rattle.stark_commands.specs.declared.prove.Input.{Input}

-- the AIR, the parameters, the public values and the rows
abbrev pub input_fields : Fields Input
input_fields =
    field (codes "air") (λ i. i.air) air_form
    (field (codes "params") (λ i. i.params) parameters_form
    (field (codes "public_values") (λ i. i.public_values) row_form
    (field (codes "rows") (λ i. i.rows) rows_form
    none_left)))

abbrev pub statement_form : Form Input
statement_form = object_form input_fields
