-- The members of the objects that a proof and its opened values are in JSON, by ascending key.
use Rattle.std.specs.Prelude.{codes}
use Rattle.circle_json.specs.Form.{Form, list_form}
use Rattle.circle_json.specs.ObjectForm.{object_form}
use Rattle.circle_json.specs.Objects.{Fields, field, none_left}
use Rattle.circle_json.specs.Proof.{proof_fields}
use Rattle.circle_stark.specs.declared.proof.StarkOpenedValues.{StarkOpenedValues}
use Rattle.circle_stark.specs.declared.proof.StarkProof.{StarkProof}

-- the chunks' values, and the trace's at both points
abbrev pub value_fields : {E : Type 0} → Form E → Fields (StarkOpenedValues E)
value_fields element =
    field (codes "quotient_chunks") (λ o. o.quotient_chunks) (list_form (list_form element))
    (field (codes "trace_local") (λ o. o.trace_local) (list_form element)
    (field (codes "trace_next") (λ o. o.trace_next) (list_form element)
    none_left))

module _ {F E I W IC ID IP IE WC WD WP WE : Type 0} where
  -- the opened values, their proof, and both commitments
  abbrev pub stark_fields : Form F → Form E → Form IC → Form IP → Form WC → Form WP
      → Fields (StarkProof F E I W IC ID IP IE WC WD WP WE)
  stark_fields base element commitment batch_proof word_commitment word_proof =
      field (codes "opened_values") (λ o. o.opened_values) (object_form (value_fields element))
      (field (codes "opening_proof") (λ o. o.opening_proof)
      (object_form (proof_fields base element base batch_proof word_commitment word_proof))
      (field (codes "quotient_commitment") (λ o. o.quotient_commitment) commitment
      (field (codes "trace_commitment") (λ o. o.trace_commitment) commitment
      none_left)))
