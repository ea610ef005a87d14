-- What the command `verify` is given.
use Rattle.std.specs.Prelude.{codes}
use Rattle.circle_commands.specs.Forms.{row_form}
use Rattle.circle_json.specs.Claims.{parameters_form}
use Rattle.circle_json.specs.Form.{Form, count_form}
use Rattle.circle_json.specs.ObjectForm.{object_form}
use Rattle.circle_json.specs.Objects.{Fields, field, none_left}
use Rattle.stark_commands.specs.Forms.{air_form, proof_form}
use Rattle.stark_commands.specs.declared.verify.Input.{Input}

-- the AIR, the logarithm of the number of rows, the parameters, the proof and the public values
abbrev pub input_fields : Fields Input
input_fields =
    field (codes "air") (λ i. i.air) air_form
    (field (codes "log_n") (λ i. i.log_n) count_form
    (field (codes "params") (λ i. i.params) parameters_form
    (field (codes "proof") (λ i. i.proof) proof_form
    (field (codes "public_values") (λ i. i.public_values) row_form
    none_left))))

abbrev pub claim_form : Form Input
claim_form = object_form input_fields
