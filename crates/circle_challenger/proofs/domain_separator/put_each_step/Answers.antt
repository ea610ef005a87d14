use Rattle.std.proofs.Common.{◌<◌, length, sym, arith}
use Rattle.std.proofs.lemmas.Grind.{common_steps}
use Rattle.std.proofs.lemmas.List.Elements.{All-more, All-map, All-same}
use Rattle.std.proofs.lemmas.List.{take_all}
use Rattle.circle_challenger.specs.declared.interaction.Interaction.{Interaction}
use Rattle.circle_challenger.specs.Step.{IsWritableStep}
use Rattle.circle_challenger.specs.Interaction.{step_of}
use Rattle.circle_challenger.proofs.domain_separator.put_each_step.Goals as goal

pub loop-step-preserved : goal.loop-step-preserved
loop-step-preserved c =
    let i = c.loop-step.step-index in
    let within : i < length c.args.steps.now = omega arith in
    record {
      written = grind (arith, common_steps);
      writable = All-more (λ (x : Interaction). IsWritableStep (step_of x)) c.args.steps.now i _
          within c.loop-step.invariant.writable c.in_ok-put_step.ensures.writable;
    }

pub returns-clause-writable : goal.returns-clause-writable
returns-clause-writable c =
    let all = take_all c.loop-step.step-index c.args.steps.now c.loop-step-test.false in
    All-map IsWritableStep step_of c.args.steps.now
    (All-same (λ (x : Interaction). IsWritableStep (step_of x)) c.args.steps.now _ (sym all)
    c.loop-step.invariant.writable)
