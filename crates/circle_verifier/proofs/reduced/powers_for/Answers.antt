use Rattle.std.proofs.Common.{◌≡◌, ◌<◌, ◌≤◌, length, map, All, arith, Vec, Global}
use Rattle.std.specs.List.{range_with_len}
use Rattle.std.proofs.lemmas.Result.{IfOk-weaker}
use Rattle.std.proofs.lemmas.List.Elements.{All-weaker}
use Rattle.circle_field.specs.Field.{nth_power}
use Rattle.circle_folding.specs.Quotient.{ArePowers}
use Rattle.circle_folding.proofs.PowerLists.{length-powers, are-powers}
use Rattle.circle_verifier.proofs.reduced.powers_for.Goals as goal

pub returns-clause-powers : goal.returns-clause-powers
returns-clause-powers g c =
    let l = g.EF.Operations.ops in
    let n = c.saturating_add.result in
    let Of = λ (powers : Vec g.row.EF.Denot Global). powers.items
    ≡ map (λ i. nth_power l c.args.alpha i) (range_with_len 0 n) in
    IfOk-weaker c.powers.result Of (λ powers. ArePowers l c.args.alpha powers.items)
    (λ powers. are-powers l c.args.alpha n powers.items) c.powers.ensures

pub returns-clause-enough : goal.returns-clause-enough
returns-clause-enough g c =
    let l = g.EF.Operations.ops in
    let n = c.saturating_add.result in
    let claims = c.args.claims.now in
    let Of = λ (powers : Vec g.row.EF.Denot Global). powers.items
    ≡ map (λ i. nth_power l c.args.alpha i) (range_with_len 0 n) in
    IfOk-weaker c.powers.result Of
    (λ powers. All (λ d. length d.1.now < length powers.items) claims)
    (λ powers are. All-weaker (λ d. length d.1.now ≤ c.greatest_width.result)
    (λ d. length d.1.now < length powers.items)
    (λ d le. let long = length-powers l c.args.alpha n powers.items are in
    omega (arith, le, long, c.saturating_add.ensures, powers.ok.0, powers.small))
    claims c.greatest_width.ensures) c.powers.ensures
