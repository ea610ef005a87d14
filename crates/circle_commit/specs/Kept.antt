-- What requests to open must satisfy.
use Rattle.std.specs.Prelude.{List, All}
use Rattle.circle_commit.specs.declared.pcs.OpeningRequest.{OpeningRequest}

-- each request's data were kept of some batch that was committed to
abbrev pub AreKept : {E B Com Data : Type 0} → (B → Com → Data → Type 0)
    → List (OpeningRequest Data E) → Type 0
AreKept {B = B} {Com = Com} commits requests =
    All (λ r. (batch : B) × (c : Com) × commits batch c r.prover_data.now) requests
