use Rattle.test_cases.proofs.calls.transforms.evaluate_by_group.Goals as goal

pub evaluate_grouped-requires-clause-positive : goal.evaluate_grouped-requires-clause-positive
evaluate_grouped-requires-clause-positive c = c.in_ok-coefficients.ensures.domain.0

pub evaluate_grouped-requires-clause-in_group : goal.evaluate_grouped-requires-clause-in_group
evaluate_grouped-requires-clause-in_group c = c.in_ok-coefficients.ensures.domain.1
