-- The steps of a STARK's transcript before the scheme's, and the text that seeds it.
use Rattle.std.specs.Prelude.{ℕ, ◌==◌, if◌then◌else◌, List, [], ◌∷◌, ◌++◌, codes}
use Rattle.circle_challenger.specs.Step.{Step, be64}
use Rattle.circle_challenger.specs.Played.{element_challenge, elements_message, opaque_message}
use Rattle.circle_challenger.specs.Separator.{Separator, separator, seed_text}

-- the public values, where there are any
abbrev pub public_steps : ℕ → List Step
public_steps count =
    if count == 0 then [] else elements_message 1 (codes "public_values") count ∷ []

-- the trace's commitment, and the challenge that puts the constraints together, of an algebra of
-- this degree
abbrev pub trace_steps : ℕ → List Step
trace_steps degree =
    opaque_message (codes "trace_commitment")
    ∷ element_challenge degree (codes "constraint_challenge") ∷ []

-- the quotient's commitment, and the point at which all is opened
abbrev pub quotient_steps : ℕ → List Step
quotient_steps degree =
    opaque_message (codes "quotient_commitment")
    ∷ element_challenge degree (codes "out_of_domain_point") ∷ []

abbrev pub steps_of : ℕ → ℕ → List Step
steps_of degree count = public_steps count ++ (trace_steps degree ++ quotient_steps degree)

-- what a run is seeded with: labels are the AIR's digest and the logarithm of the trace's height
abbrev pub separator_of : ℕ → ℕ → List ℕ → ℕ → Separator
separator_of degree count digest n =
    separator 1 (codes "circle-stark") (steps_of degree count) (digest ∷ be64 n ∷ [])

abbrev pub text_of : ℕ → ℕ → List ℕ → ℕ → List ℕ
text_of degree count digest n = seed_text (separator_of degree count digest n)
