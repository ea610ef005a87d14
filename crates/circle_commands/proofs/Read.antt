-- Objects of a few members stand for what their members stand for.
use Rattle.std.specs.Prelude.{◌≡◌, ℕ, ◌≤◌, List, Some}
use Rattle.std.proofs.Common.{subst, sym}
use Rattle.circle_json.specs.Objects.{HasAtMost, HasMember}
use Rattle.serde_json.specs.Data.{Data, Members, object}
use Rattle.serde_json.specs.Events.{members_len}
use Rattle.serde_json.specs.Find.{get}

-- an object of at most n members
pub at-most : (n : ℕ) (value : Data) (inside : Members) → value ≡ object inside →
    members_len inside ≤ n → HasAtMost n value
at-most n value inside is few = subst (HasAtMost n) (sym is) few

-- a member of an object
pub has-member : (Is : Data → Type 0) (key : List ℕ) (value part : Data) (inside : Members) →
    value ≡ object inside → get key (object inside) ≡ Some part → Is part → HasMember key value Is
has-member Is key value part inside is found so =
    (part, subst (λ (d : Data). get key d ≡ Some part) (sym is) found, so)
