use Rattle.circle_json.proofs.Choices.{fewer_than_two, more_than_two}
use Rattle.circle_json.proofs.airs.Tuple2UsizeUsizeJsonForm.from_json.Goals as goal

pub returns-in_default-clause-refuses : goal.returns-in_default-clause-refuses
returns-in_default-clause-refuses c =
    fewer_than_two _ c.in_ok-items.field-0.now c.in_ok-items.ensures c.in_default.len_below

pub returns-in_default-2-clause-refuses : goal.returns-in_default-2-clause-refuses
returns-in_default-2-clause-refuses c =
    more_than_two _ c.in_ok-items.field-0.now c.in_ok-items.ensures c.in_default.len_at_least
