use Rattle.std.proofs.Common.{◌≡◌, ℕ, ◌+◌, ◌*◌, ◌%◌, ◌^◌, ◌<◌, ◌∙◌, sym, ap, arith, length, map}
use Rattle.std.proofs.Common.{All, take}
use Rattle.std.specs.Prelude.{slice_index_or}
use Rattle.std.proofs.lemmas.List.{length-map, length-take-le}
use Rattle.circle_field.specs.Circle.{Coordinates}
use Rattle.circle_commit.specs.RowMajorMatrix.{rows, width_of, length-rows}
use Rattle.circle_commit.specs.declared.matrix.RowMajorMatrix.{RowMajorMatrix}
use Rattle.circle_commit.proofs.Powers.{shifted}
use Rattle.circle_domain.specs.Domain.{log_size, shift_of, points_of}
use Rattle.circle_domain.specs.declared.domain.CircleDomain.{CircleDomain}
use Rattle.circle_domain.specs.Order.{natural_order}
use Rattle.circle_domain.specs.Splitting.{split_rows}
use Rattle.circle_domain.proofs.PartLists.{length-natural_order}
use Rattle.circle_domain.proofs.Twiddles.{map-map}
use Rattle.circle_quotient.proofs.PartSizes.{if_ok, all-of-map, part-size, part_room, length-split}
use Rattle.circle_quotient.proofs.chunks.quotient_chunks.Goals as goal

pub split_domains-requires-clause-power : goal.split_domains-requires-clause-power
split_domains-requires-clause-power g c =
    let k = c.args.log_num_chunks in
    let small : k < 64 =
    omega (arith, c.requires.in_group, g.met.F.ComplexExtendable.at_most_62) in
    let c_is : 1 * 2 ^ k % 2 ^ 64 ≡ 2 ^ k = shifted k small in
    (k, c_is)

pub split_domains-requires-clause-room : goal.split_domains-requires-clause-room
split_domains-requires-clause-room g c =
    let k = c.args.log_num_chunks in
    let small : k < 64 =
    omega (arith, c.requires.in_group, g.met.F.ComplexExtendable.at_most_62) in
    let c_is : 1 * 2 ^ k % 2 ^ 64 ≡ 2 ^ k = shifted k small in
    let n = c.args.log_n in
    let domain = c.standard-domain.result in
    let size : log_size domain ≡ n + k = c.standard-domain.ensures.size in
    omega (arith, c_is, ap (λ m. 2 ^ m) size, part_room n k c.requires.positive)

pub split_evals-requires-clause-room : goal.split_evals-requires-clause-room
split_evals-requires-clause-room g c =
    let k = c.args.log_num_chunks in
    let small : k < 64 =
    omega (arith, c.requires.in_group, g.met.F.ComplexExtendable.at_most_62) in
    let c_is : 1 * 2 ^ k % 2 ^ 64 ≡ 2 ^ k = shifted k small in
    let n = c.args.log_n in
    let domain = c.standard-domain.result in
    let size : log_size domain ≡ n + k = c.standard-domain.ensures.size in
    omega (arith, c_is, ap (λ m. 2 ^ m) size, part_room n k c.requires.positive)

pub split_evals-requires-clause-size : goal.split_evals-requires-clause-size
split_evals-requires-clause-size g c =
    let coefficients = g.EF.ExtensionField.coefficients in
    sym (length-rows c.in_ok-matrix.matrix) ∙ ap length c.in_ok-matrix.ensures.rows
    ∙ length-map c.deref.result.now coefficients ∙ ap length c.deref.ensures.value
    ∙ sym c.args.values.ok.0 ∙ c.requires.count
    ∙ ap (λ m. 2 ^ m) (sym c.standard-domain.ensures.size)

pub with_domains-requires : goal.with_domains-requires
with_domains-requires g c =
    let k = c.args.log_num_chunks in
    let small : k < 64 =
    omega (arith, c.requires.in_group, g.met.F.ComplexExtendable.at_most_62) in
    let c_is : 1 * 2 ^ k % 2 ^ 64 ≡ 2 ^ k = shifted k small in
    let n = c.args.log_n in
    let domain = c.standard-domain.result in
    let size : log_size domain ≡ n + k = c.standard-domain.ensures.size in
    let domains = c.in_ok-domains.domains in
    let parts = c.in_ok-parts.parts in
    let points = points_of g.F.Operations.ops g.F.ComplexExtendable.generators domain in
    let long : length points ≡ 2 ^ log_size domain =
    length-natural_order g.F.Operations.ops g.F.ComplexExtendable.generators (log_size domain)
    (shift_of domain) (omega (arith, size, c.requires.positive)) in
    let whole = part_room n k c.requires.positive in
    domains.ok.0 ∙ sym (length-map domains.items shift_of)
    ∙ ap length c.in_ok-domains.ensures.shifts
    ∙ length-take-le (1 * 2 ^ k % 2 ^ 64) points
    (omega (arith, long, c_is, ap (λ m. 2 ^ m) size, whole))
    ∙ sym (length-split (1 * 2 ^ k % 2 ^ 64) (2 ^ log_size domain) (rows c.in_ok-matrix.matrix))
    ∙ sym (ap length c.in_ok-parts.ensures.rows) ∙ length-map parts.items rows ∙ sym parts.ok.0

pub returns-clause-sizes : goal.returns-clause-sizes
returns-clause-sizes g c =
    let k = c.args.log_num_chunks in
    let small : k < 64 =
    omega (arith, c.requires.in_group, g.met.F.ComplexExtendable.at_most_62) in
    let c_is : 1 * 2 ^ k % 2 ^ 64 ≡ 2 ^ k = shifted k small in
    let n = c.args.log_n in
    let domain = c.standard-domain.result in
    let size : log_size domain ≡ n + k = c.standard-domain.ensures.size in
    let Pair : Type 0 =
    CircleDomain g.row.F.Denot g.F.Operations × RowMajorMatrix g.row.F.Denot in
    let first = λ (pair : Pair). pair.0 in
    let second = λ (pair : Pair). pair.1 in
    let domains = c.in_ok-domains.domains.items in
    if_ok (λ both. map first both.items ≡ domains)
    (λ chunks. All (λ c. log_size c.0 ≡ n) chunks.items)
    (λ both e. all-of-map first
    (λ (d : CircleDomain g.row.F.Denot g.F.Operations). log_size d ≡ n) both.items domains e
    (λ i d lt.
    let part = log_size (slice_index_or domains i d) in
    part-size part n k
    (ap (λ m. 2 ^ part * m) (sym c_is) ∙ c.in_ok-domains.ensures.sizes i d lt
    ∙ ap (λ m. 2 ^ m) size)))
    c.with_domains.result c.with_domains.ensures.domains

pub returns-clause-shifts : goal.returns-clause-shifts
returns-clause-shifts g c =
    let k = c.args.log_num_chunks in
    let small : k < 64 =
    omega (arith, c.requires.in_group, g.met.F.ComplexExtendable.at_most_62) in
    let c_is : 1 * 2 ^ k % 2 ^ 64 ≡ 2 ^ k = shifted k small in
    let n = c.args.log_n in
    let domain = c.standard-domain.result in
    let size : log_size domain ≡ n + k = c.standard-domain.ensures.size in
    let Pair : Type 0 =
    CircleDomain g.row.F.Denot g.F.Operations × RowMajorMatrix g.row.F.Denot in
    let first = λ (pair : Pair). pair.0 in
    let second = λ (pair : Pair). pair.1 in
    let field = g.F.Operations.ops in
    let gen = g.F.ComplexExtendable.generators in
    let domains = c.in_ok-domains.domains.items in
    let points = λ (m : ℕ) (s : Coordinates g.row.F.Denot). natural_order field gen m s in
    let shift = λ (d : CircleDomain g.row.F.Denot g.F.Operations). shift_of d in
    if_ok (λ both. map first both.items ≡ domains)
    (λ chunks. map (λ (c : Pair). shift_of c.0) chunks.items
    ≡ take (2 ^ k) (points (n + k) (gen (n + k + 1))))
    (λ both e. sym (map-map shift first both.items) ∙ ap (map shift) e
    ∙ c.in_ok-domains.ensures.shifts
    ∙ ap (λ count. take count (points (log_size domain) (shift_of domain))) c_is
    ∙ ap (λ m. take (2 ^ k) (points m (shift_of domain))) size
    ∙ ap (λ s. take (2 ^ k) (points (n + k) s)) c.standard-domain.ensures.shift)
    c.with_domains.result c.with_domains.ensures.domains

pub returns-clause-widths : goal.returns-clause-widths
returns-clause-widths g c =
    let Pair : Type 0 =
    CircleDomain g.row.F.Denot g.F.Operations × RowMajorMatrix g.row.F.Denot in
    let first = λ (pair : Pair). pair.0 in
    let second = λ (pair : Pair). pair.1 in
    let parts = c.in_ok-parts.parts.items in
    let degree = g.EF.ExtensionField.DEGREE in
    if_ok (λ both. map second both.items ≡ parts)
    (λ chunks. All (λ c. width_of c.1 ≡ degree) chunks.items)
    (λ both e. all-of-map second (λ (m : RowMajorMatrix g.row.F.Denot). width_of m ≡ degree)
    both.items parts e
    (λ i d lt. c.in_ok-parts.ensures.widths i d lt ∙ c.in_ok-matrix.ensures.width))
    c.with_domains.result c.with_domains.ensures.parts

pub returns-clause-rows : goal.returns-clause-rows
returns-clause-rows g c =
    let k = c.args.log_num_chunks in
    let small : k < 64 =
    omega (arith, c.requires.in_group, g.met.F.ComplexExtendable.at_most_62) in
    let c_is : 1 * 2 ^ k % 2 ^ 64 ≡ 2 ^ k = shifted k small in
    let n = c.args.log_n in
    let domain = c.standard-domain.result in
    let size : log_size domain ≡ n + k = c.standard-domain.ensures.size in
    let Pair : Type 0 =
    CircleDomain g.row.F.Denot g.F.Operations × RowMajorMatrix g.row.F.Denot in
    let first = λ (pair : Pair). pair.0 in
    let second = λ (pair : Pair). pair.1 in
    let coefficients = g.EF.ExtensionField.coefficients in
    let parts = c.in_ok-parts.parts.items in
    let matrix = rows c.in_ok-matrix.matrix in
    let all = map coefficients c.args.values.items in
    let its_rows = λ (m : RowMajorMatrix g.row.F.Denot). rows m in
    if_ok (λ both. map second both.items ≡ parts)
    (λ chunks. map (λ (c : Pair). rows c.1) chunks.items ≡ split_rows (2 ^ k) (2 ^ (n + k)) all)
    (λ both e. sym (map-map its_rows second both.items) ∙ ap (map its_rows) e
    ∙ c.in_ok-parts.ensures.rows
    ∙ ap (λ count. split_rows count (2 ^ log_size domain) matrix) c_is
    ∙ ap (λ m. split_rows (2 ^ k) (2 ^ m) matrix) size
    ∙ ap (split_rows (2 ^ k) (2 ^ (n + k)))
    (c.in_ok-matrix.ensures.rows ∙ ap (map coefficients) c.deref.ensures.value))
    c.with_domains.result c.with_domains.ensures.parts
