-- How an AIR and a proof stand in JSON.
use Rattle.circle_air.specs.declared.parts.AirParts.{AirParts}
use Rattle.circle_commands.specs.Forms.{base_form, digest_form, digests_form, element_form}
use Rattle.circle_field.specs.declared.mersenne31.Mersenne31.{Mersenne31}
use Rattle.circle_json.specs.Airs.{parts_fields}
use Rattle.circle_json.specs.Form.{Form}
use Rattle.circle_json.specs.ObjectForm.{object_form}
use Rattle.circle_stark.specs.Json.{stark_fields}
use Rattle.stark_commands.specs.Chosen.{stark}

abbrev pub air_form : Form (AirParts Mersenne31)
air_form = object_form (parts_fields base_form)

abbrev pub proof_form : Form stark.Proof
proof_form =
    object_form
    (stark_fields base_form element_form digest_form digests_form digest_form digests_form)
