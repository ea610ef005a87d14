-- What holds of a result that is Ok.
use Rattle.std.specs.Prelude.{Ok, Err, IfOk}
use Rattle.std.specs.declared.result.Result.{Result}

pub if_ok_both : {A E : Type 0} (P Q R : A → Type 0) (r : Result A E) →
    ((a : A) → P a → Q a → R a) → IfOk r P → IfOk r Q → IfOk r R
if_ok_both P Q R (Ok a) f p q = f a p q
if_ok_both P Q R (Err e) f p q = tt
