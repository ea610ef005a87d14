use Rattle.std.proofs.Common.{◌∙◌, sym, ap, [], ◌∷◌}
use Rattle.circle_field.specs.CubicOperations.{are_coefficients}
use Rattle.circle_field.specs.Mersenne31.{operations}
use Rattle.circle_field.proofs.cubic.CubicExtensionFieldMersenne31.times_base.Goals as goal

pub returns : goal.returns
returns c =
    let f = c.args.factor in
    are_coefficients.determined _ _
    (ap (λ a. a ∷ c.mul-2.result ∷ c.mul-3.result ∷ []) c.mul.ensures
    ∙ ap (λ a. operations.mul f c.args.self.c0 ∷ a ∷ c.mul-3.result ∷ []) c.mul-2.ensures
    ∙ ap (λ a. operations.mul f c.args.self.c0 ∷ operations.mul f c.args.self.c1 ∷ a ∷ [])
    c.mul-3.ensures
    ∙ sym (are_coefficients.of_multiple f c.args.self))
