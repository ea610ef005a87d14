-- The members of the objects that proofs and their parts are in JSON, by ascending key.
use Rattle.std.specs.Prelude.{codes}
use Rattle.circle_json.specs.Claims.{opening_fields}
use Rattle.circle_json.specs.Coefficients.{coefficients_form}
use Rattle.circle_json.specs.Form.{Form, list_form}
use Rattle.circle_json.specs.ObjectForm.{object_form}
use Rattle.circle_json.specs.Objects.{Fields, field, none_left}
use Rattle.circle_relation.specs.declared.proof.CircleCommitPhaseMultiStep.{CircleCommitPhaseMultiStep}
use Rattle.circle_relation.specs.declared.proof.CircleFriProof.{CircleFriProof}
use Rattle.circle_relation.specs.declared.proof.CircleInputProof.{CircleInputProof}
use Rattle.circle_relation.specs.declared.proof.CirclePcsProof.{CirclePcsProof}

-- the siblings in one round's word, by query, and the proof of its rows
abbrev pub step_fields : {E W WC WD WP WE : Type 0} → Form E → Form WP
    → Fields (CircleCommitPhaseMultiStep E W WC WD WP WE)
step_fields element proof =
    field (codes "opening_proof") (λ o. o.opening_proof) proof
    (field (codes "sibling_values") (λ o. o.sibling_values) (list_form (list_form element))
    none_left)

module _ {F E I W IC ID IP IE WC WD WP WE : Type 0} where
  -- the first layer, by query and height, and the openings of the batches
  abbrev pub input_fields : Form F → Form E → Form IP → Form WP
      → Fields (CircleInputProof F E I W IC ID IP IE WC WD WP WE)
  input_fields base element batch_proof word_proof =
      field (codes "first_layer_proof") (λ o. o.first_layer_proof) word_proof
      (field (codes "first_layer_siblings") (λ o. o.first_layer_siblings)
      (list_form (list_form element))
      (field (codes "input_openings") (λ o. o.input_openings)
      (list_form (object_form (opening_fields base batch_proof)))
      none_left))

module _ {E W Witness Input WC WD WP WE : Type 0} where
  -- the rounds' commitments, openings and witnesses, and where they end
  abbrev pub fri_fields : Form E → Form Witness → Form Input → Form WC → Form WP
      → Fields (CircleFriProof E W Witness Input WC WD WP WE)
  fri_fields element witness inputs commitment proof =
      field (codes "commit_phase_commits") (λ o. o.commit_phase_commits) (list_form commitment)
      (field (codes "commit_phase_openings") (λ o. o.commit_phase_openings)
      (list_form (object_form (step_fields element proof)))
      (field (codes "commit_pow_witnesses") (λ o. o.commit_pow_witnesses) (list_form witness)
      (field (codes "final_poly") (λ o. o.final_poly) (coefficients_form element)
      (field (codes "input_openings") (λ o. o.input_openings) inputs
      (field (codes "pow_witness") (λ o. o.pow_witness) witness
      none_left)))))

module _ {F E I W Witness IC ID IP IE WC WD WP WE : Type 0} where
  -- the first layer, its folding and the multiples of the vanishing polynomials
  abbrev pub proof_fields : Form F → Form E → Form Witness → Form IP → Form WC → Form WP
      → Fields (CirclePcsProof F E I W Witness IC ID IP IE WC WD WP WE)
  proof_fields base element witness batch_proof commitment word_proof =
      field (codes "batch_pow_witness") (λ o. o.batch_pow_witness) witness
      (field (codes "first_layer_commitment") (λ o. o.first_layer_commitment) commitment
      (field (codes "fri_proof") (λ o. o.fri_proof) (object_form (fri_fields element witness
      (object_form (input_fields base element batch_proof word_proof)) commitment word_proof))
      (field (codes "lambdas") (λ o. o.lambdas) (list_form element)
      none_left)))
