use Rattle.std.proofs.Common.{◌∙◌, ap, sym, subst, ℕ}
use Rattle.circle_codewords.proofs.Logs.{log_of-power}
use Rattle.circle_codewords.specs.Requests.{log_of}
use Rattle.circle_json.proofs.Objects.{is_not_true}
use Rattle.stark_commands.specs.Proved.{IsTooLarge}
use Rattle.stark_commands.proofs.prove.validate_rows.Goals as goal

pub returns-then-not-is_power_of_two : goal.returns-then-not-is_power_of_two
returns-then-not-is_power_of_two c = (
  c.is_rectangular.ensures.0 c.if-not-is_rectangular.false,
  λ power. is_not_true c.is_power_of_two.result c.if-not-is_power_of_two.true
      (c.is_power_of_two.ensures.1 power),
)

pub returns-then-is_too_large : goal.returns-then-is_too_large
returns-then-is_too_large c = (
  c.is_rectangular.ensures.0 c.if-not-is_rectangular.false,
  (
    (c.log2_strict-log_n.result, sym c.log2_strict-log_n.ensures.power),
    subst (λ (n : ℕ). IsTooLarge n c.args.log_blowup c.args.log_chunks)
        (sym (log_of-power c.log2_strict-log_n.result c.log2_strict-log_n.ensures.bound)
        ∙ ap log_of c.log2_strict-log_n.ensures.power)
        (c.is_too_large.ensures.0 c.if-is_too_large.true),
  ),
)

pub returns : goal.returns
returns c = record {
  rectangular = c.is_rectangular.ensures.0 c.if-not-is_rectangular.false;
  height = sym c.log2_strict-log_n.ensures.power;
  log =
      sym (log_of-power c.log2_strict-log_n.result c.log2_strict-log_n.ensures.bound)
      ∙ ap log_of c.log2_strict-log_n.ensures.power;
  small =
      λ large. is_not_true c.is_too_large.result c.if-is_too_large.false
      (c.is_too_large.ensures.1 large);
}
