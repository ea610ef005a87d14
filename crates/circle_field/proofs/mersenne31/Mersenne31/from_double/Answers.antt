use Rattle.std.proofs.Common.{◌≡◌, ◌+◌, ◌/◌, ◌%◌, ◌^◌, ◌∙◌, ap, arith, bit_and}
use Rattle.std.proofs.lemmas.Nat.{and_mask}
use Rattle.circle_field.specs.Mersenne31.{order, element}
use Rattle.circle_field.specs.Mersenne31Laws.{same_residue}
use Rattle.circle_field.specs.Residues.{folded_bits}
use Rattle.circle_field.proofs.mersenne31.Mersenne31.from_double.Goals as goal

pub returns : goal.returns
returns c =
    let d = c.args.double in
    let n = d / 4294967296 + bit_and d 4294967295 / 2 in
    let words : n ≡ d / 2 % 2 ^ 31 + d / 2 / 2 ^ 31 = omega (arith, and_mask d 32) in
    let same : n % order ≡ d / 2 % order = ap (λ m. m % order) words ∙ folded_bits (d / 2) in
    c.from_sum.ensures ∙ same_residue (element n) (element (d / 2)) same
