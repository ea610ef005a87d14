use Rattle.std.proofs.Common.{rules, tests, vec_len}
use Rattle.std.proofs.lemmas.Iterator.{YieldsList-from_slice, YieldsList-from_zip}
use Rattle.std.proofs.lemmas.Iterator.Search.{all_from_yields_List}
use Rattle.circle_verifier.specs.Shape.{have_values}
use Rattle.circle_verifier.proofs.Lengths.{after-same}
use Rattle.circle_verifier.proofs.shape.rows_fit.Goals as goal

pub returns-then-rows-matrices : goal.returns-then-rows-matrices
returns-then-rows-matrices g c =
    after-same _ _ _ _ c.if-rows-matrices.true
    (all_from_yields_List (λ p. have_values p.0.points.items (vec_len p.1)) c.all.new.self _ _
    c.all.ensures.ran
    (YieldsList-from_zip (YieldsList-from_slice c.args.matrices.now cc)
    (YieldsList-from_slice c.args.rows.now cc)) (λ x b q k. search (rules, tests)))
