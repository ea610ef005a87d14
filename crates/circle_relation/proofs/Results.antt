-- What holds of a value, and of an error.
use Rattle.std.specs.Prelude.{Result, Ok, Err, OnOk, IfErr}

-- what holds where there is a value, of two facts, and of an error
pub on_both : {T E A B P : Type 0} (x : Result T E) → (A → B → P) → OnOk x A → OnOk x B → OnOk x P
on_both (Ok v) f a b = f a b
on_both (Err e) f a b = tt

pub on_one : {T E A P : Type 0} (x : Result T E) → (A → P) → OnOk x A → OnOk x P
on_one (Ok v) f a = f a
on_one (Err e) f a = tt

pub if_err : {T E : Type 0} (P Q : E → Type 0) (x : Result T E) → ((e : E) → P e → Q e) →
    IfErr x P → IfErr x Q
if_err P Q (Ok v) f h = tt
if_err P Q (Err e) f h = f e h
