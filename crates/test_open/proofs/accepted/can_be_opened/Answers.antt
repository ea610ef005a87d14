use Rattle.std.proofs.Common.{◌≤◌, List, length, All, Vec, Global, arith, subst}
use Rattle.std.proofs.lemmas.List.Elements.{All-map}
use Rattle.circle_field.specs.declared.cubic.Cubic.{Cubic}
use Rattle.test_open.proofs.accepted.can_be_opened.Goals as goal

pub returns-then-heights_match_domains-clause-points :
    goal.returns-then-heights_match_domains-clause-points
returns-then-heights_match_domains-clause-points c = λ yes. record {
  each = omega arith;
  some = All-map (λ (l : List Cubic). 1 ≤ length l) (λ (v : Vec Cubic Global). v.items)
      c.args.batch.now.points.items
      (subst (All (λ (v : Vec Cubic Global). 1 ≤ length v.items))
      c.deref-then-heights_match_domains.ensures.value (c.have_points.ensures yes));
}
