use Rattle.std.proofs.Common.{rules, ◌≡◌, ◌+◌, ◌-◌, ◌^◌, ◌<◌, ◌≤◌, ◌∙◌, [], sym, ap, subst, length}
use Rattle.std.proofs.Common.{map, arith, get_or, All}
use Rattle.std.proofs.lemmas.List.{length-map}
use Rattle.std.proofs.lemmas.List.Elements.{All-map}
use Rattle.circle_field.specs.Circle.{times}
use Rattle.circle_point.specs.Point.{coordinates}
use Rattle.circle_point.specs.Projective.{from_line}
use Rattle.circle_domain.specs.Clear.{IsClearOf}
use Rattle.circle_domain.specs.Domain.{log_size, shift_of}
use Rattle.circle_domain.specs.Order.{natural_order}
use Rattle.circle_domain.specs.Selectors.{IsFinite}
use Rattle.circle_domain.proofs.Powers.{pow_injective}
use Rattle.test_plane.proofs.periodic.four_at_point.Goals as goal

pub eval_at_point-requires : goal.eval_at_point-requires
eval_at_point-requires g c = λ i lt two.
    let k = g.F.Operations.ops in
    let gen = g.F.ComplexExtendable.generators in
    let l = g.EF.Operations.ops in
    let m = g.EF.ExtensionField.embed in
    let columns = c.args.columns.now in
    let all = map (λ column. column.items) columns in
    let fours : All (λ column. length column.items ≡ 4) columns = search rules in
    let within : i < length all = omega (arith, lt, length-map columns (λ column. column.items)) in
    let four : length (get_or all i []) ≡ 4 =
    All-map (λ column. length column ≡ 4) (λ column. column.items) columns fours i [] within in
    let size : log_size c.standard-2.result ≡ 4 = c.standard-2.ensures.size in
    let room : 5 ≤ g.F.ComplexExtendable.CIRCLE_TWO_ADICITY = search rules in
    let finite : IsFinite l c.args.t = search rules in
    let at : coordinates c.expect-at.result ≡ from_line l c.args.t = search rules in
    let doubled : coordinates c.repeated_double.result ≡ times l
    (2 ^ (log_size c.standard-2.result - 2)) (from_line l c.args.t) =
    c.repeated_double.ensures ∙ ap (times l (2 ^ 2)) at
    ∙ ap (λ n. times l (2 ^ (n - 2)) (from_line l c.args.t)) (sym size) in
    let clear : IsClearOf l m
    (natural_order k gen (log_size c.standard.result) (shift_of c.standard.result))
    (coordinates c.repeated_double.result) = c.is_clear_of.ensures.0 (search rules) in (
      (omega (arith, size, room), c.standard-2.ensures.shift ∙ ap (λ n. gen (n + 1)) (sym size)),
      (2, four),
      (let all_rows : 2 ^ log_size c.standard-2.result ≡ 16 = ap (λ n. 2 ^ n) size in
          omega (arith, four, all_rows)),
      finite,
      λ j positive e.
          let same : 2 ≡ j = pow_injective 2 j (sym four ∙ e) in
          subst
          (λ n. IsClearOf l m (natural_order k gen n (gen (n + 1)))
          (times l (2 ^ (log_size c.standard-2.result - n)) (from_line l c.args.t))) same
          (subst (λ q. IsClearOf l m (natural_order k gen 2 (gen 3)) q) doubled
          (subst
          (λ s. IsClearOf l m (natural_order k gen 2 s) (coordinates c.repeated_double.result))
          c.standard.ensures.shift
          (subst
          (λ n. IsClearOf l m (natural_order k gen n (shift_of c.standard.result))
          (coordinates c.repeated_double.result)) c.standard.ensures.size clear))),
    )
