-- What the command `verify` is given.
use Rattle.std.specs.Prelude.{codes}
use Rattle.circle_json.specs.Claims.{batch_fields, parameters_form}
use Rattle.circle_json.specs.Form.{Form, list_form}
use Rattle.circle_json.specs.ObjectForm.{object_form}
use Rattle.circle_json.specs.Objects.{Fields, field, none_left}
use Rattle.circle_json.specs.Proof.{proof_fields}
use Rattle.circle_commands.specs.Forms.{base_form, digest_form, digests_form, element_form}
use Rattle.circle_commands.specs.declared.verify.Input.{Input}

-- the claims, the parameters and the proof
abbrev pub input_fields : Fields Input
input_fields =
    field (codes "batches") (λ i. i.batches)
    (list_form (object_form (batch_fields element_form digest_form)))
    (field (codes "params") (λ i. i.params) parameters_form
    (field (codes "proof") (λ i. i.proof)
    (object_form
    (proof_fields base_form element_form base_form digests_form digest_form digests_form))
    none_left))

abbrev pub claims_form : Form Input
claims_form = object_form input_fields
