use Rattle.std.proofs.Common.{◌≡◌, All, map, take}
use Rattle.circle_domain.specs.Domain.{log_size, shift_of, points_of}
use Rattle.circle_domain.proofs.domain.CircleDomainPolynomialSpace.split_domains.Given as goal

abbrev pub invariant-loop-i : goal.invariant-loop-i
invariant-loop-i g l = record {
  sizes : All (λ part. log_size part ≡ l.log_n) l.parts.items;
  shifts : map shift_of l.parts.items ≡ take l.i
      (points_of g.F.Operations.ops g.F.ComplexExtendable.generators l.self);
}
