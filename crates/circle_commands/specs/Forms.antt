-- How elements, digests and rows stand in JSON.
use Rattle.std.specs.Prelude.{ℕ, List, Vec}
use Rattle.std.specs.declared.alloc.Global.{Global}
use Rattle.circle_field.specs.Mersenne31.{residue}
use Rattle.circle_field.specs.Mersenne31Laws.{same_residue}
use Rattle.circle_field.specs.declared.cubic.Cubic.{Cubic}
use Rattle.circle_field.specs.declared.mersenne31.Mersenne31.{Mersenne31}
use Rattle.circle_json.specs.Form.{Form, list_form, told_form}
use Rattle.circle_json.specs.FormFacts.{same_coefficients}
use Rattle.circle_json.specs.Values.{coefficient_residues, count_written, digest_of, digest_written}
use Rattle.circle_json.specs.Values.{residue_of, residues_of, residues_written}

-- an element of the field, and of the extension
abbrev pub base_form : Form Mersenne31
base_form = told_form residue_of residue count_written same_residue

abbrev pub element_form : Form Cubic
element_form = told_form residues_of coefficient_residues residues_written same_coefficients

-- a digest, and digests
abbrev pub digest_form : Form (List ℕ)
digest_form = told_form digest_of (λ digest. digest) digest_written (λ x y same. same)

abbrev pub digests_form : Form (Vec (List ℕ) Global)
digests_form = list_form digest_form

-- elements of the field, and rows of them
abbrev pub row_form : Form (Vec Mersenne31 Global)
row_form = list_form base_form

abbrev pub rows_form : Form (Vec (Vec Mersenne31 Global) Global)
rows_form = list_form row_form
