use Rattle.std.proofs.Common.{◌≡◌, length, take, All}
use Rattle.circle_codewords.proofs.matrix.have_width.Given as goal

abbrev pub invariant-loop-value : goal.invariant-loop-value
invariant-loop-value g l = All (λ v. length v.items ≡ l.width) (take l.value-index l.values)
