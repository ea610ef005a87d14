use Rattle.std.proofs.Common.{rules, tests}
use Rattle.std.proofs.lemmas.Iterator.{YieldsList-from_slice}
use Rattle.std.proofs.lemmas.Iterator.Search.{all_from_yields_List}
use Rattle.circle_verifier.specs.Shape.{rows_fit}
use Rattle.circle_verifier.proofs.Lengths.{after-same}
use Rattle.circle_verifier.proofs.shape.opened_fit.Goals as goal

pub returns-then-opened-num_queries : goal.returns-then-opened-num_queries
returns-then-opened-num_queries g c =
    after-same _ _ _ _ c.if-opened-num_queries.true
    (all_from_yields_List (λ rows. rows_fit c.args.matrices.now rows.items) _ _ _ c.all.ensures.ran
    (YieldsList-from_slice c.args.opened.now cc) (λ x b q k. search (rules, tests)))
