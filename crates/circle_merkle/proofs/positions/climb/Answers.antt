use Rattle.std.proofs.Common.{◌≡◌, ◌+◌, ◌++◌, ◌∙◌, ℕ, append-nil, sym, ap, length, arith}
use Rattle.std.proofs.lemmas.List.{nil_from_length}
use Rattle.circle_merkle.specs.Walk.{parents_of, siblings_of}
use Rattle.circle_merkle.proofs.positions.climb.Goals as goal

with_none : (n : ℕ) → n ≡ n + 0
with_none n = omega arith

pub returns-clause-parents : goal.returns-clause-parents
returns-clause-parents c =
    let parents = c.loop-position.parents.items in
    let none = nil_from_length c.loop-position.rest.now c.in_default.ensures.cases in
    sym (append-nil parents) ∙ ap (λ ps. parents ++ parents_of ps) (sym none)
    ∙ c.loop-position.invariant.parents

pub returns-clause-missing : goal.returns-clause-missing
returns-clause-missing c =
    let count = c.loop-position.count in
    let none = nil_from_length c.loop-position.rest.now c.in_default.ensures.cases in
    with_none count ∙ ap (λ ps. count + length (siblings_of ps)) (sym none)
    ∙ c.loop-position.invariant.count
