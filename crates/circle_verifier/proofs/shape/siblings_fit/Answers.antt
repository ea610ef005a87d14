use Rattle.std.proofs.Common.{rules, tests, ◌==◌, vec_len}
use Rattle.std.proofs.lemmas.Iterator.{YieldsList-from_slice}
use Rattle.std.proofs.lemmas.Iterator.Search.{all_from_yields_List}
use Rattle.circle_verifier.proofs.Lengths.{after-same}
use Rattle.circle_verifier.proofs.shape.siblings_fit.Goals as goal

pub returns-then-siblings-num_queries : goal.returns-then-siblings-num_queries
returns-then-siblings-num_queries g c =
    after-same _ _ _ _ c.if-siblings-num_queries.true
    (all_from_yields_List (λ s. vec_len s == c.args.count) _ _ _ c.all.ensures.ran
    (YieldsList-from_slice c.args.siblings.now cc) (λ x b q k. search (rules, tests)))
