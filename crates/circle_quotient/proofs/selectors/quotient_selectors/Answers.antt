use Rattle.std.proofs.Common.{◌≡◌, ◌≢◌, ◌+◌, ◌^◌, ◌<◌, ◌∙◌, All, sym, ap, subst, arith, length}
use Rattle.std.proofs.Common.{map, take}
use Rattle.std.specs.Prelude.{IfSome}
use Rattle.std.proofs.lemmas.List.{length-map}
use Rattle.std.proofs.lemmas.Nat.{pow_pos}
use Rattle.circle_field.specs.Circle.{Coordinates, opposite}
use Rattle.circle_field.specs.Field.{sub}
use Rattle.circle_field.proofs.Inverses.{some_unless}
use Rattle.circle_commit.proofs.Powers.{shifted}
use Rattle.circle_point.specs.Basis.{vanishing}
use Rattle.circle_domain.specs.Selectors.{normaliser}
use Rattle.circle_domain.proofs.Reciprocals.{normaliser-nonzero}
use Rattle.circle_domain.proofs.StandardDomain.{standard-genuine}
use Rattle.circle_air.specs.Values.{entry}
use Rattle.circle_quotient.specs.RowSelectors.{AreRowParts, quotient_points, vanishing_period}
use Rattle.circle_quotient.proofs.RowSelectors.{first-listed, inverses-listed, last-listed}
use Rattle.circle_quotient.proofs.RowSelectors.{length-period, period-nonzero, period_room}
use Rattle.circle_quotient.proofs.RowSelectors.{transition-listed}
use Rattle.circle_quotient.proofs.selectors.quotient_selectors.Goals as goal

pub first_vanishing_values-requires-clause-count : goal.first_vanishing_values-requires-clause-count
first_vanishing_values-requires-clause-count g c =
    let kk = c.args.log_num_chunks in
    let small : kk + 1 < 64 =
    omega (arith, c.requires.in_group, g.met.F.ComplexExtendable.at_most_62) in
    omega (
      arith,
      shifted (kk + 1) small,
      period_room g.F.Operations.laws g.met.F.ComplexExtendable.generators_law c.args.log_n kk
          c.requires.positive c.requires.some_chunks c.requires.in_group,
    )

pub unwrap-scale-requires : goal.unwrap-scale-requires
unwrap-scale-requires g c =
    let k = g.F.Operations.ops in
    let gens = g.met.F.ComplexExtendable.generators_law in
    let n = c.args.log_n in
    let s = g.F.ComplexExtendable.generators (n + 1) in
    let fits : n < g.F.ComplexExtendable.CIRCLE_TWO_ADICITY =
    omega (arith, c.requires.in_group) in
    some_unless c.try_inverse.result
    (λ none.
    normaliser-nonzero g.F.Operations.laws n s
    (standard-genuine g.F.Operations.laws gens n c.requires.positive fits)
    (gens.on_circle (n + 1) (omega (arith, fits)))
    (ap (λ (q : Coordinates g.row.F.Denot). normaliser k n (opposite k q))
    (sym (c.shift-shift.ensures ∙ c.standard.ensures.shift))
    ∙ ap (normaliser k n) (sym c.neg-2.ensures.opposite) ∙ sym c.s_p_at_p.ensures
    ∙ c.try_inverse.ensures.none.0 none))

pub batch_multiplicative_inverse-requires : goal.batch_multiplicative_inverse-requires
batch_multiplicative_inverse-requires g c =
    let k = g.F.Operations.ops in
    let gen = g.F.ComplexExtendable.generators in
    let n = c.args.log_n in
    let kk = c.args.log_num_chunks in
    let NonZero : g.row.F.Denot → Type 0 = λ v. v ≢ k.zero in
    let small : kk + 1 < 64 =
    omega (arith, c.requires.in_group, g.met.F.ComplexExtendable.at_most_62) in
    subst (All NonZero)
    (sym (c.deref-4.ensures.value ∙ c.in_ok-period.ensures
    ∙ ap (λ m. map (vanishing k n) (take m (quotient_points k gen n kk)))
    (shifted (kk + 1) small)))
    (period-nonzero g.F.Operations.laws g.met.F.ComplexExtendable.generators_law n kk
    c.requires.positive c.requires.some_chunks c.requires.in_group)

pub repeated-requires : goal.repeated-requires
repeated-requires g c =
    let k = g.F.Operations.ops in
    let gen = g.F.ComplexExtendable.generators in
    let n = c.args.log_n in
    let kk = c.args.log_num_chunks in
    let small : kk + 1 < 64 =
    omega (arith, c.requires.in_group, g.met.F.ComplexExtendable.at_most_62) in
    let same : length c.deref-8.result.now ≡ length (vanishing_period k gen n kk) =
    ap length (c.deref-8.ensures.value ∙ c.in_ok-inverses.ensures)
    ∙ length-map c.deref-4.result.now k.inv
    ∙ ap length (c.deref-4.ensures.value ∙ c.in_ok-period.ensures
    ∙ ap (λ m. map (vanishing k n) (take m (quotient_points k gen n kk)))
    (shifted (kk + 1) small)) in
    omega (
      arith,
      same,
      length-period g.F.Operations.laws g.met.F.ComplexExtendable.generators_law n kk
          c.requires.positive c.requires.some_chunks c.requires.in_group,
      pow_pos (kk + 1),
    )

pub returns : goal.returns
returns g c =
    let k = g.F.Operations.ops in
    let laws = g.F.Operations.laws in
    let gen = g.F.ComplexExtendable.generators in
    let gens = g.met.F.ComplexExtendable.generators_law in
    let n = c.args.log_n in
    let kk = c.args.log_num_chunks in
    let positive = c.requires.positive in
    let some = c.requires.some_chunks in
    let fits = c.requires.in_group in
    let small : kk + 1 < 64 = omega (arith, fits, g.met.F.ComplexExtendable.at_most_62) in
    let small_size : n + kk < 64 = omega (arith, fits, g.met.F.ComplexExtendable.at_most_62) in
    let shift = c.shift-shift.ensures ∙ c.standard.ensures.shift in
    let height = λ (q : Coordinates g.row.F.Denot). q.y in
    let last_parts : AreRowParts k gen n kk c.deref-2.result.now c.deref-3.result.now =
    subst (λ ws. AreRowParts k gen n kk ws c.deref-3.result.now) (sym c.deref-2.ensures.value)
    (subst (λ hs. AreRowParts k gen n kk c.in_ok-weights.weights.items hs)
    (sym c.deref-3.ensures.value) c.in_ok-weights.ensures.parts) in
    let first_parts : AreRowParts k gen n kk c.deref-5.result.now c.deref-6.result.now =
    subst (λ ws. AreRowParts k gen n kk ws c.deref-6.result.now) (sym c.deref-5.ensures.value)
    (subst (λ hs. AreRowParts k gen n kk c.in_ok-weights.weights.items hs)
    (sym c.deref-6.ensures.value) c.in_ok-weights.ensures.parts) in
    let last_long : length c.deref-2.result.now ≡ 2 ^ (n + kk) =
    ap length c.deref-2.ensures.value ∙ c.in_ok-weights.ensures.weights in
    let first_long : length c.deref-5.result.now ≡ 2 ^ (n + kk) =
    ap length c.deref-5.ensures.value ∙ c.in_ok-weights.ensures.weights in
    let last_made = last-listed laws gens n kk positive some fits c.deref-2.result.now
    c.deref-3.result.now last_parts c.in_ok-is_last_row.is_last_row.items
    (c.in_ok-is_last_row.ensures.count ∙ last_long)
    (λ i lt. c.in_ok-is_last_row.ensures.values i (omega (arith, lt, last_long))
    ∙ ap
    (λ y. k.mul (entry k c.deref-2.result.now i) (k.add y (entry k c.deref-3.result.now i)))
    (c.y.ensures ∙ ap height (c.neg.ensures.opposite ∙ ap (opposite k) shift))) in
    let rows_long : length c.deref-7.result.now ≡ 2 ^ (n + kk) =
    ap length c.deref-7.ensures.value ∙ c.in_ok-is_last_row.ensures.count ∙ last_long in
    let scale : c.unwrap-scale.result ≡ k.inv (normaliser k n (opposite k (gen (n + 1)))) =
    subst (λ o. IfSome o (λ b. b ≡ k.inv c.s_p_at_p.result)) c.unwrap-scale.ensures
    c.try_inverse.ensures.inverse
    ∙ ap k.inv (c.s_p_at_p.ensures
    ∙ ap (normaliser k n) (c.neg-2.ensures.opposite ∙ ap (opposite k) shift)) in
    let period = c.deref-4.ensures.value ∙ c.in_ok-period.ensures
    ∙ ap (λ m. map (vanishing k n) (take m (quotient_points k gen n kk)))
    (shifted (kk + 1) small) in record {
      first = first-listed laws gens n kk positive some fits c.deref-5.result.now
          c.deref-6.result.now first_parts c.in_ok-row_selector.field-0.items
          (c.in_ok-row_selector.ensures.count ∙ first_long)
          (λ i lt. c.in_ok-row_selector.ensures.values i (omega (arith, lt, first_long))
          ∙ ap
          (λ y. k.mul (entry k c.deref-5.result.now i)
          (k.add y (entry k c.deref-6.result.now i)))
          (c.y-2.ensures ∙ ap height shift));
      last = last_made;
      transition = transition-listed laws gens n kk positive some fits
          c.in_ok-one_less_scaled.field-0.items c.deref-7.result.now
          (c.in_ok-one_less_scaled.ensures.count ∙ rows_long)
          (c.deref-7.ensures.value ∙ last_made)
          (λ i lt. c.in_ok-one_less_scaled.ensures.values i (omega (arith, lt, rows_long))
          ∙ ap (λ v. sub k k.one (k.mul (entry k c.deref-7.result.now i) v)) scale);
      inverses = inverses-listed laws gens n kk positive some fits
          c.in_ok-repeated.field-0.items c.deref-8.result.now
          (c.in_ok-repeated.ensures.count ∙ shifted (n + kk) small_size)
          (c.deref-8.ensures.value ∙ c.in_ok-inverses.ensures ∙ ap (map k.inv) period)
          (λ i lt. c.in_ok-repeated.ensures.values i
          (omega (arith, lt, shifted (n + kk) small_size)));
    }
