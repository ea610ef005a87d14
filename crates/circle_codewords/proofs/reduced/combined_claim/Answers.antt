use Rattle.std.proofs.Common.{◌∙◌, ap, arith, length, slice_index_or}
use Rattle.std.proofs.lemmas.List.FromFn.{get_or-map-range_with_len}
use Rattle.circle_field.specs.Field.{nth_power}
use Rattle.circle_codewords.proofs.reduced.combined_claim.Goals as goal

pub returns-clause-power : goal.returns-clause-power
returns-clause-power g c = λ alpha are.
    let w = length c.args.values.now in
    c.index-powers-values.is ∙ ap (λ ws. slice_index_or ws w c.index-powers-values.result) are
    ∙ get_or-map-range_with_len (nth_power g.EF.Operations.ops alpha) 0
    (length c.args.powers.now) w w c.index-powers-values.result c.requires (omega arith)
