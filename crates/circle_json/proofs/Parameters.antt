-- The parameters in JSON, by whether the final polynomial's length is there.
use Rattle.std.proofs.Common.{IfOk, Result, Ok, Err, ◌≡◌, ℕ, zero, suc, Option, Some, None, inl}
use Rattle.std.proofs.Common.{inr, ⊎_elim, refl, sym, subst, ◌∙◌, arith, ap}
use Rattle.std.specs.Bool.{⊤}
use Rattle.circle_json.specs.Claims.{ReadsLength, ReadsParameters, RefusesLength}
use Rattle.circle_json.specs.Claims.{RefusesParameters, fields_at, length_member}
use Rattle.circle_json.specs.Claims.{parameters_written, short_fields, whole_fields}
use Rattle.circle_commit.specs.declared.params.FriParameters.{FriParameters}
use Rattle.circle_json.specs.Objects.{HasKeys, ReadsFields, RefusesFields, keys_of}
use Rattle.circle_json.specs.Objects.{object_written}
use Rattle.circle_json.specs.declared.error.JsonError.{JsonError}
use Rattle.serde_json.specs.Data.{Data}
use Rattle.serde_json.specs.View.{view}
use Rattle.serde_json.specs.declared.value.Value.{Value}
use Rattle.std.specs.declared.alloc.AllocError.{AllocError}

-- where the number isn't 0, the whole object is written
case_written : (n : ℕ) (p : FriParameters ⊤) → (n ≡ 0 → ⊥) → object_written whole_fields p
    ≡ parameters_written n p
case_written zero p positive = absurd (positive refl)
case_written (suc n) p positive = refl

pub whole_written : (r : Result Value AllocError) (p : FriParameters ⊤) →
    (p.log_final_poly_len ≡ 0 → ⊥) → IfOk r (λ value. view value ≡ object_written whole_fields p)
    → IfOk r (λ value. view value ≡ parameters_written p.log_final_poly_len p)
whole_written (Ok value) p positive is = is ∙ case_written p.log_final_poly_len p positive
whole_written (Err error) p positive is = tt

-- where the number is 0, the short object is
pub short_written : (r : Result Value AllocError) (p : FriParameters ⊤) → p.log_final_poly_len ≡ 0 →
    IfOk r (λ value. view value ≡ object_written short_fields p)
    → IfOk r (λ value. view value ≡ parameters_written p.log_final_poly_len p)
short_written (Ok value) p none is = is ∙ ap (λ n. parameters_written n p) (sym none)
short_written (Err error) p none is = tt

two_cases_read : (n : ℕ) (p : FriParameters ⊤) → p.log_final_poly_len ≡ n →
    ReadsParameters (length_member (parameters_written n p)) (parameters_written n p) p
two_cases_read zero p is = (
  (
    omega arith,
    (
      (_, refl, refl),
      (
        (_, refl, refl),
        ((_, refl, refl), ((_, refl, refl), ((_, refl, refl), ((_, refl, refl), tt)))),
      ),
    ),
  ),
  is,
)
two_cases_read (suc n) p is = (
  omega arith,
  (
    (_, refl, refl),
    (
      (_, refl, refl),
      (
        (_, refl, refl),
        ((_, refl, refl), ((_, refl, refl), ((_, refl, refl), ((_, refl, refl), tt)))),
      ),
    ),
  ),
)

-- what is written is read
pub written_reads : (r : Result Value AllocError) (p : FriParameters ⊤) →
    IfOk r (λ value. view value ≡ parameters_written p.log_final_poly_len p)
    → IfOk r (λ value. ReadsParameters (length_member (view value)) (view value) p)
written_reads (Ok value) p is = subst (λ (d : Data). ReadsParameters (length_member d) d p) (sym is)
    (two_cases_read p.log_final_poly_len p refl)
written_reads (Err error) p is = tt

-- the six numbers stand in both objects
whole_refuses : (value : Data) (error : JsonError) → RefusesFields short_fields value error →
    RefusesFields whole_fields value error
whole_refuses value error refused =
    ⊎_elim (λ a. inl a)
    (λ r. ⊎_elim (λ b. inr (inl b))
    (λ s. ⊎_elim (λ c. inr (inr (inl c))) (λ t. inr (inr (inr (inr t)))) s) r) refused

-- one of the six numbers is refused
pub number_refuses : (at : Option Data) (value : Data) (error : JsonError) →
    HasKeys (keys_of (fields_at at)) value → RefusesFields short_fields value error →
    RefusesParameters at value error
number_refuses None value error keys refused = inr (inr (keys, refused))
number_refuses (Some _) value error keys refused =
    inr (inr (keys, whole_refuses value error refused))

-- or the length is
pub length_refuses : (at : Option Data) (value : Data) (error : JsonError) →
    length_member value ≡ at → HasKeys (keys_of (fields_at at)) value → RefusesLength at error →
    RefusesParameters at value error
length_refuses None value error is keys refused = absurd refused
length_refuses (Some d) value error is keys refused =
    inr (inr (keys, inr (inr (inr (inl (inr (d, is, refused)))))))

-- the six numbers and the length are read
pub numbers_read : (at : Option Data) (value : Data) (p : FriParameters ⊤) →
    length_member value ≡ at → HasKeys (keys_of (fields_at at)) value →
    ReadsFields short_fields value p → ReadsLength at p.log_final_poly_len →
    ReadsParameters at value p
numbers_read None value p is keys numbers length = ((keys.no_more, numbers), length)
numbers_read (Some d) value p is keys numbers length = (
  keys.no_more,
  (
    numbers.0,
    (numbers.1.0, (numbers.1.1.0, ((d, is, length), numbers.1.1.1))),
  ),
)
