use Rattle.std.proofs.Common.{◌≡◌, ◌≢◌, ◌+◌, ◌^◌, ◌<◌, ◌∙◌, All, sym, ap, subst, arith, length}
use Rattle.std.proofs.Common.{map}
use Rattle.std.proofs.lemmas.List.{length-map, with_items_is}
use Rattle.std.proofs.lemmas.Nat.{pow_pos}
use Rattle.circle_field.specs.Circle.{Coordinates}
use Rattle.circle_field.specs.Field.{sub}
use Rattle.circle_domain.specs.Domain.{points_of}
use Rattle.circle_domain.proofs.PartLists.{length-natural_order}
use Rattle.circle_quotient.specs.RowSelectors.{AreRowParts, quotient_points}
use Rattle.circle_quotient.proofs.QuotientPoints.{standard-points}
use Rattle.circle_quotient.proofs.RowSelectors.{apart-nonzero, length-period, parts-made}
use Rattle.circle_quotient.proofs.selectors.weights_and_heights.Goals as goal

pub batch_multiplicative_inverse-requires : goal.batch_multiplicative_inverse-requires
batch_multiplicative_inverse-requires g c =
    let k = g.F.Operations.ops in
    let gen = g.F.ComplexExtendable.generators in
    let n = c.args.log_n in
    let domain = c.standard-domain.result in
    let NonZero : g.row.F.Denot → Type 0 = λ v. v ≢ k.zero in
    let f = λ (x : g.row.F.Denot) (q : Coordinates g.row.F.Denot). sub k x q.x in
    let first : c.x-x.result ≡ (gen (n + 1)).x =
    c.x-x.ensures
    ∙ ap (λ (q : Coordinates g.row.F.Denot). q.x) (c.shift.ensures ∙ c.standard.ensures.shift) in
    let on = standard-points k gen domain (n + c.args.log_num_chunks)
    c.standard-domain.ensures.size c.standard-domain.ensures.shift in
    subst (All NonZero)
    (sym (c.deref.ensures.value ∙ c.in_ok-differences.ensures.differences
    ∙ ap (λ x. map (f x) (points_of k gen domain)) first ∙ ap (map (f (gen (n + 1)).x)) on))
    (apart-nonzero g.F.Operations.laws g.met.F.ComplexExtendable.generators_law n
    c.args.log_num_chunks c.requires.positive c.requires.some_chunks c.requires.in_group)

pub multiply_by_cycle-requires : goal.multiply_by_cycle-requires
multiply_by_cycle-requires g c =
    let kk = c.args.log_num_chunks in
    omega (
      arith,
      ap length c.requires.period,
      length-period g.F.Operations.laws g.met.F.ComplexExtendable.generators_law c.args.log_n kk
          c.requires.positive c.requires.some_chunks c.requires.in_group,
      pow_pos (kk + 1),
    )

pub returns-clause-weights : goal.returns-clause-weights
returns-clause-weights g c =
    let k = g.F.Operations.ops in
    let gen = g.F.ComplexExtendable.generators in
    let n = c.args.log_n + c.args.log_num_chunks in
    let domain = c.standard-domain.result in
    let f = λ (q : Coordinates g.row.F.Denot). sub k c.x-x.result q.x in
    let on = standard-points k gen domain n c.standard-domain.ensures.size
    c.standard-domain.ensures.shift in
    ap length (with_items_is c.in_ok-weights.weights c.multiply_by_cycle.new.values
    (c.multiply_by_cycle.auto.values ∙ c.as_mut_slice.ensures.len))
    ∙ c.multiply_by_cycle.auto.values
    ∙ ap length (c.as_mut_slice.ensures.value ∙ c.in_ok-weights.ensures)
    ∙ length-map c.deref.result.now k.inv
    ∙ ap length (c.deref.ensures.value ∙ c.in_ok-differences.ensures.differences)
    ∙ length-map (points_of k gen domain) f ∙ ap length on
    ∙ length-natural_order k gen n (gen (n + 1)) (omega (arith, c.requires.positive))

pub returns-clause-heights : goal.returns-clause-heights
returns-clause-heights g c =
    let k = g.F.Operations.ops in
    let gen = g.F.ComplexExtendable.generators in
    let n = c.args.log_n + c.args.log_num_chunks in
    let domain = c.standard-domain.result in
    let on = standard-points k gen domain n c.standard-domain.ensures.size
    c.standard-domain.ensures.shift in
    ap length c.in_ok-differences.ensures.heights
    ∙ length-map (points_of k gen domain) (λ (q : Coordinates g.row.F.Denot). q.y)
    ∙ ap length on
    ∙ length-natural_order k gen n (gen (n + 1)) (omega (arith, c.requires.positive))

pub returns-clause-parts : goal.returns-clause-parts
returns-clause-parts g c =
    let k = g.F.Operations.ops in
    let gen = g.F.ComplexExtendable.generators in
    let n = c.args.log_n in
    let kk = c.args.log_num_chunks in
    let domain = c.standard-domain.result in
    let new = c.multiply_by_cycle.new.values in
    let hs = c.in_ok-differences.heights.items in
    let f = λ (x : g.row.F.Denot) (q : Coordinates g.row.F.Denot). sub k x q.x in
    let first : c.x-x.result ≡ (gen (n + 1)).x =
    c.x-x.ensures
    ∙ ap (λ (q : Coordinates g.row.F.Denot). q.x) (c.shift.ensures ∙ c.standard.ensures.shift) in
    let on = standard-points k gen domain (n + kk) c.standard-domain.ensures.size
    c.standard-domain.ensures.shift in
    let written = with_items_is c.in_ok-weights.weights new
    (c.multiply_by_cycle.auto.values ∙ c.as_mut_slice.ensures.len) in
    let long : length new ≡ 2 ^ (n + kk) = sym (ap length written) ∙ returns-clause-weights g c in
    subst (λ ws. AreRowParts k gen n kk ws hs) (sym written)
    (parts-made g.F.Operations.laws g.met.F.ComplexExtendable.generators_law n kk
    c.requires.positive c.requires.some_chunks c.requires.in_group c.as_mut_slice.result.now hs
    c.args.period.now new
    (c.as_mut_slice.ensures.value ∙ c.in_ok-weights.ensures
    ∙ ap (map k.inv) (c.deref.ensures.value ∙ c.in_ok-differences.ensures.differences
    ∙ ap (λ x. map (f x) (points_of k gen domain)) first ∙ ap (map (f (gen (n + 1)).x)) on))
    (c.in_ok-differences.ensures.heights
    ∙ ap (map (λ (q : Coordinates g.row.F.Denot). q.y)) on)
    c.requires.period
    (λ i lt. c.multiply_by_cycle.ensures i (omega (arith, lt, long))))
