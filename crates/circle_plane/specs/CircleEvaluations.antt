-- What evaluations on a domain are to contracts: the domain, and the rows in the two orders.
use Rattle.std.specs.Prelude.{List}
use Rattle.circle_domain.specs.Domain.{log_size}
use Rattle.circle_domain.specs.Ordering.{other_order}
use Rattle.circle_domain.specs.declared.domain.CircleDomain.{CircleDomain}
use Rattle.circle_plane.specs.declared.cfft.CircleEvaluations.{CircleEvaluations}

module _ {F M : Type 0} {g h : _} where
  abbrev pub domain_of : CircleEvaluations F M g h → CircleDomain F g
  domain_of e = e.domain

  -- the rows in the transform's order
  abbrev pub cfft_values : CircleEvaluations F M g h → M
  cfft_values e = e.values

  -- the rows in natural order, where the first argument is what a matrix has for rows
  abbrev pub natural_rows : (M → List (List F)) → CircleEvaluations F M g h → List (List F)
  natural_rows rows_of e = other_order (log_size e.domain) (rows_of e.values)
