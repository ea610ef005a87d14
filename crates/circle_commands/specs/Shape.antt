-- What the command `shape` is given, and the shape that it is.
use Rattle.std.specs.Prelude.{ℕ, ◌<◌, ◌+◌, ◌-◌, List, length, codes}
use Rattle.hex.specs.Hex.{encode_lower}
use Rattle.circle_json.specs.Claims.{parameters_form}
use Rattle.circle_json.specs.Form.{Form, count_form, list_form}
use Rattle.circle_json.specs.ObjectForm.{object_form}
use Rattle.circle_json.specs.Objects.{Fields, field, none_left}
use Rattle.circle_json.specs.Values.{count_written}
use Rattle.circle_transcript.specs.Shape.{Shape, layout, steps_of, text_of}
use Rattle.circle_transcript.specs.declared.shape.CirclePcsShape.{CirclePcsShape}
use Rattle.serde_json.specs.Data.{Data, member, no_members, object, string}
use Rattle.circle_commands.specs.declared.shape.Input.{Input}

-- the degree of the extension that challenges are in
abbrev pub degree : ℕ
degree = 3

-- the greatest height's logarithm, the claims' numbers of columns and the parameters
abbrev pub input_fields : Fields Input
input_fields =
    field (codes "log_max_height") (λ i. i.log_max_height) count_form
    (field (codes "opened_widths") (λ i. i.opened_widths)
    (list_form (list_form (list_form count_form)))
    (field (codes "params") (λ i. i.params) parameters_form
    none_left))

abbrev pub shape_form : Form Input
shape_form = object_form input_fields

-- the greatest height is past the blowup and the final polynomial
abbrev pub HasRoom : Input → Type 0
HasRoom i = i.params.log_blowup + i.params.log_final_poly_len < i.log_max_height

-- the shape of a run with the input's numbers, and one bit of an index besides those that fold
abbrev pub shape_of_input : Input → CirclePcsShape
shape_of_input i = record {
  opened_widths = i.opened_widths;
  num_commit_rounds =
      i.log_max_height - 1 - i.params.log_blowup - i.params.log_final_poly_len;
  batch_pow_bits = i.params.batch_proof_of_work_bits;
  commit_pow_bits = i.params.commit_proof_of_work_bits;
  query_pow_bits = i.params.query_proof_of_work_bits;
  num_queries = i.params.num_queries;
  index_bits = i.log_max_height - 1 + 1;
  log_blowup = i.params.log_blowup;
  log_final_poly_len = i.params.log_final_poly_len;
}

-- the object of the number of bits of an index, the digits of the label that groups the claims, the
-- number of rounds, the digits of the seed's text, and the number of steps
abbrev pub shape_object : ℕ → List ℕ → ℕ → List ℕ → ℕ → Data
shape_object index_bits layout rounds seed steps =
    object (member (codes "index_bits") (count_written index_bits)
    (member (codes "layout") (string layout)
    (member (codes "num_commit_rounds") (count_written rounds)
    (member (codes "seed") (string seed)
    (member (codes "steps") (count_written steps)
    no_members)))))

-- that of a shape whose challenges are elements of an algebra of this degree
abbrev pub shape_written : ℕ → Shape → Data
shape_written degree s =
    shape_object s.index_bits (encode_lower (layout s.opened_widths)) s.num_commit_rounds
    (encode_lower (text_of degree s)) (length (steps_of degree s))
