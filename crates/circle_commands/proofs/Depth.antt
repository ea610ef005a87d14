-- How deep the JSON of claims and a proof nests, and that it has no float.
use Rattle.std.proofs.Common.{◌≡◌, ℕ, zero, suc, ◌+◌, ◌≤◌, List, [], ◌∷◌, arith, false, refl}
use Rattle.std.specs.Bool.{⊤}
use Rattle.circle_json.specs.Coefficients.{coefficients_form, coefficients_written}
use Rattle.circle_json.specs.Form.{Form, count_form, list_form}
use Rattle.circle_json.specs.ObjectForm.{object_form}
use Rattle.circle_json.specs.Objects.{Fields, field, none_left, members_written}
use Rattle.circle_json.specs.Values.{coefficient_residues, count_written}
use Rattle.circle_json.specs.Claims.{batch_fields, matrix_fields, opening_fields, parameters_form}
use Rattle.circle_json.specs.Claims.{parameters_written, point_fields, short_fields, whole_fields}
use Rattle.circle_commit.specs.declared.params.FriParameters.{FriParameters}
use Rattle.circle_commit.specs.declared.pcs.BatchMultiOpening.{BatchMultiOpening}
use Rattle.circle_json.specs.Proof.{fri_fields, input_fields as inputs_fields, proof_fields}
use Rattle.circle_json.specs.Proof.{step_fields}
use Rattle.circle_relation.specs.declared.proof.CircleCommitPhaseMultiStep.{CircleCommitPhaseMultiStep}
use Rattle.circle_relation.specs.declared.proof.CircleFriProof.{CircleFriProof}
use Rattle.circle_relation.specs.declared.proof.CircleInputProof.{CircleInputProof}
use Rattle.circle_relation.specs.declared.proof.CirclePcsProof.{CirclePcsProof}
use Rattle.circle_commands.proofs.Texts.{items_within, looser, neither}
use Rattle.circle_commands.specs.Forms.{base_form, digest_form, digests_form, element_form}
use Rattle.circle_commands.specs.Text.{IsPlain}
use Rattle.circle_commands.specs.Verify.{claims_form, input_fields}
use Rattle.serde_json.specs.Data.{Data, members_depth}
use Rattle.serde_json.specs.Written.{members_have_float}

-- what the form writes nests no deeper than this, and has no float
abbrev pub IsWithin : {T : Type 0} → Form T → ℕ → Type 0
IsWithin {T} form n = (x : T) → IsPlain n (form.written x)

module _ {T : Type 0} (written : T → Data) (n : ℕ) (within : (x : T) → IsPlain n (written x)) where
  coefficients_within : (xs : List T) → IsPlain (n + 1) (coefficients_written written xs)
  coefficients_within [] = (omega arith, refl)
  coefficients_within (x ∷ []) = looser n (n + 1) (written x) (omega arith) (within x)
  coefficients_within (x ∷ y ∷ ys) =
      let a = items_within written n within (x ∷ y ∷ ys) in
      (omega (arith, a.0), a.1)

module _ {T : Type 0} (form : Form T) (n : ℕ) (within : IsWithin form n) where
  pub list : IsWithin (list_form form) (n + 1)
  list v = let a = items_within form.written n within v.items in (omega (arith, a.0), a.1)

  coefficients : IsWithin (coefficients_form form) (n + 1)
  coefficients v = coefficients_within form.written n within v.items

  pub more : (m : ℕ) → n ≤ m → IsWithin form m
  more m h x = looser n m (form.written x) h (within x)

module _ {T : Type 0} where
  -- each part nests no deeper
  abbrev pub AreWithin : Fields T → ℕ → Type 0
  AreWithin none_left n = Unit {0}
  AreWithin (field key part form others) n = IsWithin form n × AreWithin others n

  members_within : (fields : Fields T) (n : ℕ) → AreWithin fields n → (x : T) →
      (members_depth (members_written fields x) ≤ n)
      × (members_have_float (members_written fields x) ≡ false)
  members_within none_left n h x = (omega arith, refl)
  members_within (field key part form others) n h x =
      let a = h.0 (part x) in
      let b = members_within others n h.1 x in
      (omega (arith, a.0, b.0), neither _ _ a.1 b.1)

  pub object : (fields : Fields T) (n : ℕ) → AreWithin fields n → IsWithin
      (object_form fields) (n + 1)
  object fields n h x = let a = members_within fields n h x in (omega (arith, a.0), a.1)

pub count : IsWithin count_form 0
count n = (omega arith, refl)

parameters_within : (n : ℕ) (p : FriParameters ⊤) → IsPlain 1 (parameters_written n p)
parameters_within zero p =
    object short_fields 0 (count, (count, (count, (count, (count, (count, tt)))))) p
parameters_within (suc n) p =
    object whole_fields 0 (count, (count, (count, (count, (count, (count, (count, tt))))))) p

pub parameters : IsWithin parameters_form 1
parameters p = parameters_within p.log_final_poly_len p

module _ {E C : Type 0} (element : Form E) (commitment : Form C) (flat : IsWithin element 1)
    (text : IsWithin commitment 0) where
  point : IsWithin (object_form (point_fields element)) 3
  point =
      object (point_fields element) 2 (
        more element 1 flat 2 (omega arith),
        (list element 1 flat, tt),
      )

  matrix : IsWithin (object_form (matrix_fields element)) 5
  matrix =
      object (matrix_fields element) 4 (
        more count_form 0 count 4 (omega arith),
        (list (object_form (point_fields element)) 3 point, tt),
      )

  batches : IsWithin (list_form (object_form (batch_fields element commitment))) 8
  batches =
      list (object_form (batch_fields element commitment)) 7
      (object (batch_fields element commitment) 6 (
        more commitment 0 text 6 (omega arith),
        (list (object_form (matrix_fields element)) 5 matrix, tt),
      ))

module _ {E : Type 0} (element : Form E) (flat : IsWithin element 1) where
  siblings : IsWithin (list_form (list_form element)) 3
  siblings = list (list_form element) 2 (list element 1 flat)

module _ {F I IC ID IP IE : Type 0} (base : Form F) (batch_proof : Form IP) (number : IsWithin
    base 0) (path : IsWithin batch_proof 1) where
  opening : IsWithin
      {T = BatchMultiOpening F I IC ID IP IE} (object_form (opening_fields base batch_proof)) 4
  opening =
      object (opening_fields base batch_proof) 3 (
        list (list_form (list_form base)) 2 (list (list_form base) 1 (list base 0 number)),
        (more batch_proof 1 path 3 (omega arith), tt),
      )

module _ {E W WC WD WP WE : Type 0} (element : Form E) (word_proof : Form WP) (flat : IsWithin
    element 1) (word_path : IsWithin word_proof 1) where
  step : IsWithin
      {T = CircleCommitPhaseMultiStep E W WC WD WP WE}
      (object_form (step_fields element word_proof)) 4
  step = object (step_fields element word_proof) 3 (
    more word_proof 1 word_path 3 (omega arith),
    (siblings element flat, tt),
  )

module _ {F E I W IC ID IP IE WC WD WP WE : Type 0} (base : Form F) (element : Form E)
    (batch_proof : Form IP) (word_proof : Form WP) (number : IsWithin base 0) (flat : IsWithin
    element 1)
    (path : IsWithin batch_proof 1) (word_path : IsWithin word_proof 1)
  where
    inputs : IsWithin
        {T = CircleInputProof F E I W IC ID IP IE WC WD WP WE}
        (object_form (inputs_fields base element batch_proof word_proof)) 6
    inputs =
        object (inputs_fields base element batch_proof word_proof) 5 (
          more word_proof 1 word_path 5 (omega arith),
          (
            more (list_form (list_form element)) 3 (siblings element flat) 5 (omega arith),
            (
              list (object_form (opening_fields base batch_proof)) 4
                  (opening base batch_proof number path),
              tt,
            ),
          ),
        )

module _ {F E I W Witness IC ID IP IE WC WD WP WE : Type 0} (base : Form F) (element : Form E)
    (witness : Form Witness) (batch_proof : Form IP) (commitment : Form WC) (word_proof : Form WP)
    (number : IsWithin base 0) (flat : IsWithin element 1) (one : IsWithin witness 0)
    (path : IsWithin batch_proof 1) (text : IsWithin commitment 0) (word_path : IsWithin
    word_proof 1)
  where
    fri : IsWithin
        {T = CircleFriProof E W Witness (CircleInputProof F E I W IC ID IP IE WC WD WP WE) WC WD WP
        WE}
        (object_form
        (fri_fields element witness
        (object_form (inputs_fields base element batch_proof word_proof)) commitment
        word_proof)) 7
    fri =
        object
        (fri_fields element witness
        (object_form (inputs_fields base element batch_proof word_proof)) commitment word_proof)
        6 (
          more (list_form commitment) 1 (list commitment 0 text) 6 (omega arith),
          (
            more (list_form (object_form (step_fields element word_proof))) 5
                (list (object_form (step_fields element word_proof)) 4
                (step element word_proof flat word_path)) 6 (omega arith),
            (
              more (list_form witness) 1 (list witness 0 one) 6 (omega arith),
              (
                more (coefficients_form element) 2 (coefficients element 1 flat) 6 (omega arith),
                (
                  inputs base element batch_proof word_proof number flat path word_path,
                  (more witness 0 one 6 (omega arith), tt),
                ),
              ),
            ),
          ),
        )

    pub proof : IsWithin
        {T = CirclePcsProof F E I W Witness IC ID IP IE WC WD WP WE}
        (object_form (proof_fields base element witness batch_proof commitment word_proof)) 8
    proof =
        object (proof_fields base element witness batch_proof commitment word_proof) 7 (
          more witness 0 one 7 (omega arith),
          (
            more commitment 0 text 7 (omega arith),
            (fri, (more (list_form element) 2 (list element 1 flat) 7 (omega arith), tt)),
          ),
        )

pub base : IsWithin base_form 0
base x = (omega arith, refl)

pub element : IsWithin element_form 1
element x =
    let a = items_within count_written 0 (λ n. count n) (coefficient_residues x) in
    (omega (arith, a.0), a.1)

pub digest : IsWithin digest_form 0
digest x = (omega arith, refl)

pub claims : IsWithin claims_form 9
claims =
    object input_fields 8 (
      batches element_form digest_form element digest,
      (
        more parameters_form 1 parameters 8 (omega arith),
        (
          proof base_form element_form base_form digests_form digest_form digests_form base element
              base (list digest_form 0 digest) digest (list digest_form 0 digest),
          tt,
        ),
      ),
    )
