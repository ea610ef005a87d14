-- Values that are written as objects of their parts.
use Rattle.std.proofs.Common.{◌≡◌, subst, sym}
use Rattle.circle_json.specs.Objects.{Fields, ReadsObject}
use Rattle.serde_json.specs.Data.{Data, Members, object}

-- what an object with these members stands for, the value stands for that is that object
pub read_of : {T : Type 0} (fields : Fields T) (x : T) (value : Data) (inside : Members) →
    value ≡ object inside → ReadsObject fields (object inside) x → ReadsObject fields value x
read_of fields x value inside is reads = subst (λ (d : Data). ReadsObject fields d x) (sym is) reads
