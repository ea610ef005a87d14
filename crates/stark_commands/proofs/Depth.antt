-- How deep the JSON of a claim nests, and that it has no float.
use Rattle.std.proofs.Common.{arith, refl}
use Rattle.circle_air.specs.declared.node.Node.TheVariants.{Local, Next, Periodic, Public}
use Rattle.circle_air.specs.declared.node.Node.TheVariants.{Constant, Add, Sub, Mul, Neg}
use Rattle.circle_commands.proofs.Depth.{IsWithin, base, count, digest, element, list, more}
use Rattle.circle_commands.proofs.Depth.{object, parameters, proof}
use Rattle.circle_commands.specs.Forms.{base_form, digest_form, digests_form, element_form}
use Rattle.circle_commands.specs.Forms.{row_form}
use Rattle.circle_json.specs.Airs.{constraint_fields, node_form, parts_fields, place_form}
use Rattle.circle_json.specs.Claims.{parameters_form}
use Rattle.circle_json.specs.Form.{count_form, list_form}
use Rattle.circle_json.specs.ObjectForm.{object_form}
use Rattle.circle_stark.specs.Json.{stark_fields, value_fields}
use Rattle.stark_commands.specs.Forms.{air_form}
use Rattle.stark_commands.specs.Verify.{claim_form, input_fields}

node : IsWithin (node_form base_form) 2
node (Local c) = (omega arith, refl)
node (Next c) = (omega arith, refl)
node (Periodic i) = (omega arith, refl)
node (Public i) = (omega arith, refl)
node (Constant x) = (omega arith, refl)
node (Add a b) = (omega arith, refl)
node (Sub a b) = (omega arith, refl)
node (Mul a b) = (omega arith, refl)
node (Neg a) = (omega arith, refl)

place : IsWithin place_form 0
place p = (omega arith, refl)

air : IsWithin air_form 4
air =
    object (parts_fields base_form) 3 (
      more (list_form (object_form constraint_fields)) 2
          (list (object_form constraint_fields) 1
          (object constraint_fields 0 (count, (place, tt)))) 3 (omega arith),
      (
        list (node_form base_form) 2 node,
        (
          more count_form 0 count 3 (omega arith),
          (
            more (list_form row_form) 2 (list row_form 1 (list base_form 0 base)) 3 (omega arith),
            (more count_form 0 count 3 (omega arith), tt),
          ),
        ),
      ),
    )

-- of a proof: its opened values, what the scheme proves of them, and the commitments
values : IsWithin (object_form (value_fields element_form)) 4
values =
    object (value_fields element_form) 3 (
      list (list_form element_form) 2 (list element_form 1 element),
      (
        more (list_form element_form) 2 (list element_form 1 element) 3 (omega arith),
        (more (list_form element_form) 2 (list element_form 1 element) 3 (omega arith), tt),
      ),
    )

pub claim : IsWithin claim_form 10
claim =
    object input_fields 9 (
      more air_form 4 air 9 (omega arith),
      (
        more count_form 0 count 9 (omega arith),
        (
          more parameters_form 1 parameters 9 (omega arith),
          (
            object
                (stark_fields base_form element_form digest_form digests_form digest_form
                digests_form) 8 (
                  more (object_form (value_fields element_form)) 4 values 8 (omega arith),
                  (
                    proof base_form element_form base_form digests_form digest_form digests_form
                        base
                        element base (list digest_form 0 digest) digest (list digest_form 0 digest),
                    (
                      more digest_form 0 digest 8 (omega arith),
                      (more digest_form 0 digest 8 (omega arith), tt),
                    ),
                  ),
                ),
            (more row_form 1 (list base_form 0 base) 9 (omega arith), tt),
          ),
        ),
      ),
    )
