use Rattle.std.proofs.Common.{◌≡◌, ◌∙◌, ap, slice_index_or, length}
use Rattle.std.proofs.lemmas.List.{length-map}
use Rattle.circle_folding.proofs.Queries.{folds-read}
use Rattle.circle_folding.proofs.query.fold_query_values.Goals as goal

pub batch_multiplicative_inverse-requires : goal.batch_multiplicative_inverse-requires
batch_multiplicative_inverse-requires g c = c.requires.nonzero

pub
    fold_query_values_with_inv_twiddles-requires-clause-inverses :
    goal.fold_query_values_with_inv_twiddles-requires-clause-inverses
fold_query_values_with_inv_twiddles-requires-clause-inverses g c =
    ap length (c.deref.ensures.value ∙ c.in_ok-inverses.ensures)
    ∙ length-map c.args.twiddles.now g.F.Operations.ops.inv ∙ c.requires.twiddles

pub returns-clause-folded : goal.returns-clause-folded
returns-clause-folded g c =
    c.fold_query_values_with_inv_twiddles.ensures c.args.twiddles.now c.requires.nonzero
    (c.deref.ensures.value ∙ c.in_ok-inverses.ensures)

pub returns-clause-each : goal.returns-clause-each
returns-clause-each g c = λ i d within.
    ap (λ xs. slice_index_or xs i d) (returns-clause-folded g c)
    ∙ folds-read c.args.bits c.args.indices.now c.args.values.now c.args.siblings.now
    c.requires.values c.requires.siblings
    g.EF.Operations.ops c.args.beta g.EF.ExtensionField.embed c.args.twiddles.now i
    g.F.Operations.ops.zero d d d c.requires.twiddles within
