-- The input of `check` in JSON, by whether parameters are there.
use Rattle.std.proofs.Common.{◌≡◌, Option, Some, None, inl, inr, ⊎_elim}
use Rattle.circle_json.specs.Objects.{HasKeys, ReadsFields, RefusesFields, keys_of}
use Rattle.circle_json.specs.declared.error.JsonError.{JsonError}
use Rattle.serde_json.specs.Data.{Data}
use Rattle.stark_commands.specs.Check.{ReadsInput, ReadsParams, RefusesInput, RefusesParams}
use Rattle.stark_commands.specs.Check.{fields_at, params_member, short_fields, whole_fields}
use Rattle.stark_commands.specs.declared.check.Input.{Input}

-- the AIR, the public values and the rows stand in both objects
whole_refuses : (value : Data) (error : JsonError) → RefusesFields short_fields value error →
    RefusesFields whole_fields value error
whole_refuses value error refused = ⊎_elim (λ a. inl a) (λ r. inr (inr r)) refused

-- one of them is refused
pub member_refuses : (at : Option Data) (value : Data) (error : JsonError) →
    HasKeys (keys_of (fields_at at)) value → RefusesFields short_fields value error →
    RefusesInput at value error
member_refuses None value error keys refused = inr (inr (keys, refused))
member_refuses (Some _) value error keys refused =
    inr (inr (keys, whole_refuses value error refused))

-- or the parameters are
pub params_refuse : (at : Option Data) (value : Data) (error : JsonError) →
    params_member value ≡ at → HasKeys (keys_of (fields_at at)) value → RefusesParams at error →
    RefusesInput at value error
params_refuse None value error is keys refused = absurd refused
params_refuse (Some d) value error is keys refused =
    inr (inr (keys, inr (inl (inr (d, is, refused)))))

-- all are read
pub parts_read : (at : Option Data) (value : Data) (x : Input) → params_member value ≡ at →
    HasKeys (keys_of (fields_at at)) value → ReadsFields short_fields value x →
    ReadsParams at x.params → ReadsInput at value x
parts_read None value x is keys parts params = ((keys.no_more, parts), params)
parts_read (Some d) value x is keys parts params =
    (keys.no_more, (parts.0, ((d, is, params), parts.1)))
