-- The members of the objects that openings, claims and parameters are in JSON, by ascending key.
use Rattle.std.specs.Prelude.{◌≡◌, ℕ, zero, suc, Option, Some, None, ⊤, codes}
use Rattle.std.proofs.Common.{◌∙◌, ap, sym, arith}
use Rattle.circle_json.specs.declared.error.JsonError.{JsonError}
use Rattle.circle_json.specs.declared.error.JsonError.TheVariants.{Memory}
use Rattle.circle_json.specs.Form.{Form, count_form, list_form}
use Rattle.circle_json.specs.ObjectForm.{object_form, fields_read_one, members_alike}
use Rattle.circle_json.specs.Objects.{Fields, field, none_left, ReadsObject, RefusesObject}
use Rattle.circle_json.specs.Objects.{SameFields, object_written}
use Rattle.circle_commit.specs.declared.params.FriParameters.{FriParameters}
use Rattle.circle_commit.specs.declared.pcs.BatchMultiOpening.{BatchMultiOpening}
use Rattle.circle_commit.specs.declared.pcs.CommitmentOpening.{CommitmentOpening}
use Rattle.circle_commit.specs.declared.pcs.MatrixOpening.{MatrixOpening}
use Rattle.circle_commit.specs.declared.pcs.PointOpening.{PointOpening}
use Rattle.serde_json.specs.Data.{Data, object}
use Rattle.serde_json.specs.Find.{get}

-- a point, and the values that are claimed there
abbrev pub point_fields : {E : Type 0} → Form E → Fields (PointOpening E)
point_fields element =
    field (codes "point") (λ o. o.point) element
    (field (codes "values") (λ o. o.values) (list_form element)
    none_left)

-- the binary logarithm of a domain's size, and the points that a matrix on it is opened at
abbrev pub matrix_fields : {E : Type 0} → Form E → Fields (MatrixOpening E ℕ)
matrix_fields element =
    field (codes "log_n") (λ o. o.domain) count_form
    (field (codes "points") (λ o. o.points) (list_form (object_form (point_fields element)))
    none_left)

-- a commitment, and the claims about each of its matrices
abbrev pub batch_fields : {E C : Type 0} → Form E → Form C → Fields (CommitmentOpening E C ℕ)
batch_fields element commitment =
    field (codes "commitment") (λ o. o.commitment) commitment
    (field (codes "matrices") (λ o. o.matrices) (list_form (object_form (matrix_fields element)))
    none_left)

-- rows, by query, matrix and column, and the proof of them all
abbrev pub opening_fields : {T M MC MD MP ME : Type 0} → Form T → Form MP
    → Fields (BatchMultiOpening T M MC MD MP ME)
opening_fields element proof =
    field (codes "opened_values") (λ o. o.opened_values) (list_form (list_form (list_form element)))
    (field (codes "opening_proof") (λ o. o.opening_proof) proof
    none_left)

-- the numbers of the parameters, where the final polynomial has one coefficient
abbrev pub short_fields : Fields (FriParameters ⊤)
short_fields =
    field (codes "batch_pow_bits") (λ p. p.batch_proof_of_work_bits) count_form
    (field (codes "commit_pow_bits") (λ p. p.commit_proof_of_work_bits) count_form
    (field (codes "log_blowup") (λ p. p.log_blowup) count_form
    (field (codes "max_log_arity") (λ p. p.max_log_arity) count_form
    (field (codes "num_queries") (λ p. p.num_queries) count_form
    (field (codes "query_pow_bits") (λ p. p.query_proof_of_work_bits) count_form
    none_left)))))

-- the numbers of the parameters
abbrev pub whole_fields : Fields (FriParameters ⊤)
whole_fields =
    field (codes "batch_pow_bits") (λ p. p.batch_proof_of_work_bits) count_form
    (field (codes "commit_pow_bits") (λ p. p.commit_proof_of_work_bits) count_form
    (field (codes "log_blowup") (λ p. p.log_blowup) count_form
    (field (codes "log_final_poly_len") (λ p. p.log_final_poly_len) count_form
    (field (codes "max_log_arity") (λ p. p.max_log_arity) count_form
    (field (codes "num_queries") (λ p. p.num_queries) count_form
    (field (codes "query_pow_bits") (λ p. p.query_proof_of_work_bits) count_form
    none_left))))))

-- the member of this key, if it is there
abbrev pub length_member : Data → Option Data
length_member value = get (codes "log_final_poly_len") value

-- the members of the short object where the key is missing, else those of the whole one
abbrev pub fields_at : Option Data → Fields (FriParameters ⊤)
fields_at None = short_fields
fields_at (Some _) = whole_fields

-- the length that a member stands for, which is 0 where it is missing
abbrev pub ReadsLength : Option Data → ℕ → Type 0
ReadsLength None n = n ≡ 0
ReadsLength (Some d) n = count_form.reads d n

abbrev pub RefusesLength : Option Data → JsonError → Type 0
RefusesLength None error = ⊥
RefusesLength (Some d) error = count_form.refuses d error

-- the short object where the key is missing, which means 0, else the whole one
abbrev pub ReadsParameters : Option Data → Data → FriParameters ⊤ → Type 0
ReadsParameters None value p = ReadsObject short_fields value p × (p.log_final_poly_len ≡ 0)
ReadsParameters (Some _) value p = ReadsObject whole_fields value p

abbrev pub RefusesParameters : Option Data → Data → JsonError → Type 0
RefusesParameters at value error = RefusesObject (fields_at at) value error

-- the short object where the number is 0
abbrev pub parameters_written : ℕ → FriParameters ⊤ → Data
parameters_written zero p = object_written short_fields p
parameters_written (suc _) p = object_written whole_fields p

pub parameters_read_one : (at : Option Data) (value : Data) (x y : FriParameters ⊤) →
    ReadsParameters at value x → ReadsParameters at value y → SameFields whole_fields x y
parameters_read_one None value x y p q =
    let same = fields_read_one short_fields value x y p.0.1 q.0.1 in
    (same.0, (same.1.0, (same.1.1.0, (p.1 ∙ sym q.1, same.1.1.1))))
parameters_read_one (Some _) value x y p q = fields_read_one whole_fields value x y p.1 q.1

pub parameters_alike : (m n : ℕ) (x y : FriParameters ⊤) → m ≡ n → SameFields whole_fields x y →
    parameters_written m x ≡ parameters_written n y
parameters_alike zero zero x y e same = ap object (members_alike short_fields x y
    (same.0, (same.1.0, (same.1.1.0, same.1.1.1.1))))
parameters_alike zero (suc _) x y e same = absurd (omega arith)
parameters_alike (suc _) zero x y e same = absurd (omega arith)
parameters_alike (suc _) (suc _) x y e same = ap object (members_alike whole_fields x y same)

pub parameters_refuse_others : (at : Option Data) (value : Data) (x : FriParameters ⊤)
    (error : JsonError) → ReadsParameters at value x → RefusesParameters at value error →
    error ≡ Memory
parameters_refuse_others None value x error p r =
    (object_form short_fields).refuses_others value x error p.0 r
parameters_refuse_others (Some _) value x error p r =
    (object_form whole_fields).refuses_others value x error p r

-- an object of the numbers; the one that may be missing is 0 then, and is written where it isn't 0
abbrev pub parameters_form : Form (FriParameters ⊤)
parameters_form = record {
  same = SameFields whole_fields;
  written = λ p. parameters_written p.log_final_poly_len p;
  reads = λ value p. ReadsParameters (length_member value) value p;
  refuses = λ value error. RefusesParameters (length_member value) value error;
  reads_one = λ value x y. parameters_read_one (length_member value) value x y;
  writes_same = λ x y same.
      parameters_alike x.log_final_poly_len y.log_final_poly_len x y same.1.1.1.0 same;
  refuses_others = λ value x error. parameters_refuse_others (length_member value) value x error;
}
