use Rattle.std.proofs.Common.{◌+◌, ◌^◌, ◌∙◌, length, sym, ap, arith}
use Rattle.circle_field.specs.Mersenne31.{generators}
use Rattle.circle_commands.proofs.Proving.{log_fits}
use Rattle.circle_commands.proofs.prove.evaluation.Goals as goal

pub standard-domain-requires : goal.standard-domain-requires
standard-domain-requires c =
    let small = log_fits c.log2_strict.result (length c.args.rows.now) c.log2_strict.ensures.power
    c.requires.at_most in
    omega (arith, small)

pub returns : goal.returns
returns c = record {
  content = c.in_ok-matrix.ensures.content;
  height = c.in_ok-matrix.ensures.height ∙ sym c.log2_strict.ensures.power
      ∙ ap (λ n. 2 ^ n) (sym c.standard-domain.ensures.size);
  standard = c.standard-domain.ensures.shift
      ∙ ap (λ n. generators (n + 1)) (sym c.standard-domain.ensures.size);
}
