-- What the command `values` is given, and what it requires of that.
use Rattle.std.specs.Prelude.{◌≡◌, ℕ, ◌≤◌, ◌^◌, List, length, map, codes}
use Rattle.circle_field.specs.declared.mersenne31.Mersenne31.{Mersenne31}
use Rattle.circle_field.specs.Mersenne31.{operations, generators}
use Rattle.circle_field.specs.Circle.{Coordinates, at, IsOnCircle}
use Rattle.circle_commit.specs.Matrix.{IsPowerOfTwo}
use Rattle.circle_domain.specs.Order.{natural_order}
use Rattle.circle_domain.specs.Values.{values_at}
use Rattle.circle_json.specs.Form.{Form, count_form}
use Rattle.circle_json.specs.ObjectForm.{object_form}
use Rattle.circle_json.specs.Objects.{Fields, field, none_left}
use Rattle.circle_commands.specs.Forms.{rows_form}
use Rattle.circle_commands.specs.Json.{pair_form}
use Rattle.circle_commands.specs.Rows.{lists, IsRectangular, row_length}
use Rattle.circle_commands.specs.declared.values.Input.{Input}

-- the rows of coefficients
abbrev pub coefficients_of : Input → List (List Mersenne31)
coefficients_of input = lists input.coefficients.items

-- the coordinates of the first point
abbrev pub shift_of : Input → Coordinates Mersenne31
shift_of input = at input.shift.0 input.shift.1

-- from 2 to 2^24 points
abbrev pub HasFittingSize : Input → Type 0
HasFittingSize input = (1 ≤ input.log_n) × (input.log_n ≤ 24)

-- the shift is a point of the circle
abbrev pub HasPoint : Input → Type 0
HasPoint input = IsOnCircle operations (shift_of input)

-- all rows have one length, which isn't 0
abbrev pub HasRectangle : Input → Type 0
HasRectangle input = IsRectangular (coefficients_of input)

-- a number of rows that is a power of two, and at most 2^log_n
abbrev pub IsFittingHeight : ℕ → ℕ → Type 0
IsFittingHeight height log_n = IsPowerOfTwo height × (height ≤ 2 ^ log_n)

abbrev pub HasFittingHeight : Input → Type 0
HasFittingHeight input = IsFittingHeight (length (coefficients_of input)) input.log_n

-- the polynomials' values at each point of the domain, in natural order
abbrev pub values_of : Input → List (List Mersenne31)
values_of input =
    map (values_at operations (coefficients_of input) (row_length (coefficients_of input)))
    (natural_order operations generators input.log_n (shift_of input))

-- the coefficients, the logarithm and the shift
abbrev pub input_fields : Fields Input
input_fields =
    field (codes "coefficients") (λ i. i.coefficients) rows_form
    (field (codes "log_n") (λ i. i.log_n) count_form
    (field (codes "shift") (λ i. i.shift) pair_form
    none_left))

abbrev pub values_form : Form Input
values_form = object_form input_fields
