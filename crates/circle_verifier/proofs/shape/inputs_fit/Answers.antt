use Rattle.std.proofs.Common.{rules, tests}
use Rattle.std.proofs.lemmas.Iterator.{YieldsList-from_slice, YieldsList-from_zip}
use Rattle.std.proofs.lemmas.Iterator.Search.{all_from_yields_List}
use Rattle.circle_verifier.specs.Shape.{opened_fit}
use Rattle.circle_verifier.proofs.Lengths.{after-same}
use Rattle.circle_verifier.proofs.shape.inputs_fit.Goals as goal

pub returns-then-inputs-claims : goal.returns-then-inputs-claims
returns-then-inputs-claims g c =
    after-same _ _ _ _ c.if-inputs-claims.true
    (all_from_yields_List
    (λ p. opened_fit c.args.num_queries p.0.matrices.items p.1.opened_values.items)
    c.all.new.self _ _ c.all.ensures.ran
    (YieldsList-from_zip (YieldsList-from_slice c.args.claims.now cc)
    (YieldsList-from_slice c.args.inputs.now cc)) (λ x b q k. search (rules, tests)))
