use Rattle.std.proofs.Common.{refl, arith, rules}
use Rattle.std.proofs.lemmas.Nat.{pow_pos}
use Rattle.p3_circle.specs.Scheme.{HaveCommittedHeights}
use Rattle.test_allocations.proofs.without.openings.of_requests.Goals as goal

pub new-requires-clause-rows : goal.new-requires-clause-rows
new-requires-clause-rows g c =
    let powers : HaveCommittedHeights g.InputMmcs.Mmcs.matrices c.args.requests.now =
    c.have_heights_of_powers.ensures.yes (search rules) _ refl in
    λ i d lt j e lt'.
    let power = powers i d lt j e lt' in
    let is = power.1 in
    let positive = pow_pos power.0 in
    omega (arith, is, positive)

pub new-requires-clause-powers : goal.new-requires-clause-powers
new-requires-clause-powers g c =
    c.have_heights_of_powers.ensures.yes (search rules) _ refl
