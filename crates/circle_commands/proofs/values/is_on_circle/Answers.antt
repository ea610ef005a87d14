use Rattle.std.proofs.Common.{◌≡◌, ap, ◌∙◌, sym}
use Rattle.circle_field.specs.Mersenne31.{operations}
use Rattle.circle_field.specs.Mersenne31Laws.{equal_exactly}
use Rattle.circle_commands.proofs.values.is_on_circle.Goals as goal

pub returns : goal.returns
returns c =
    let x : c.square.result ≡ operations.mul c.args.x c.args.x = c.square.ensures in
    let y : c.square-2.result ≡ operations.mul c.args.y c.args.y = c.square-2.ensures in
    let s : c.add.result ≡ operations.add (operations.mul c.args.x c.args.x)
    (operations.mul c.args.y c.args.y) =
    c.add.ensures ∙ ap (λ a. operations.add a c.square-2.result) x
    ∙ ap (λ b. operations.add (operations.mul c.args.x c.args.x) b) y in
    let both = equal_exactly c.add.result operations.one in
    (λ h. sym s ∙ both.0 (sym c.eq.ensures ∙ h), λ h. c.eq.ensures ∙ both.1 (s ∙ h))
