use Rattle.std.proofs.Common.{[], ◌∷◌, ◌++◌, ◌∙◌, ap}
use Rattle.circle_codewords.proofs.ratios.push_parts.Goals as goal

pub returns-clause-real : goal.returns-clause-real
returns-clause-real g c = c.in_ok-push.ensures.items
    ∙ ap (λ y. c.args.real.now.items ++ y ∷ []) c.v_p-re.ensures.re

pub returns-clause-imaginary : goal.returns-clause-imaginary
returns-clause-imaginary g c = c.in_ok-push-2.ensures.items
    ∙ ap (λ y. c.args.imaginary.now.items ++ y ∷ []) c.v_p-re.ensures.im
