use Rattle.circle_field.specs.Mersenne31Laws.{folded_of_nat}
use Rattle.circle_field.proofs.mersenne31.Mersenne31Field.from_u64.Goals as goal

pub returns : goal.returns
returns c = folded_of_nat c.args.int _ _ c.fold_bits.ensures c.from_product.ensures
