use Rattle.std.specs.Prelude.{codes}
use Rattle.std.proofs.Common.{refl, rules, arith}
use Rattle.circle_commands.proofs.Read.{at-most, has-member}
use Rattle.serde_json.specs.Data.{member, no_members}
use Rattle.serde_json.specs.View.{view}
use Rattle.serde_json.specs.declared.value.Value.{the_lemmas}
use Rattle.serde_json.specs.declared.value.Value.TheVariants.{Object}
use Rattle.circle_commands.proofs.prove.TraceJsonForm.to_json.Goals as goal

pub returns-in-Ok-json-4-clause-reads : goal.returns-in-Ok-json-4-clause-reads
returns-in-Ok-json-4-clause-reads c =
    let first = view c.in_ok-to_json.field-0 in
    let second = view c.in_ok-to_json-2.field-0 in
    let value = view (Object c.json-put-2.new.map) in
    let inside = member (codes "points") first (member (codes "rows") second no_members) in (
      at-most 2 value inside (search (rules, the_lemmas)) (omega arith),
      (
        has-member _ (codes "points") value first inside (search (rules, the_lemmas)) refl
            c.in_ok-to_json.ensures.reads,
        (
          has-member _ (codes "rows") value second inside (search (rules, the_lemmas)) refl
              c.in_ok-to_json-2.ensures.reads,
          tt,
        ),
      ),
    )
