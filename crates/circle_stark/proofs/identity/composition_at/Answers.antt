use Rattle.std.proofs.Common.{◌≡◌, ◌<◌, ◌∙◌, ℕ, [], ap, arith, length, map, subst, sym}
use Rattle.std.proofs.Common.{slice_index_or, true}
use Rattle.std.proofs.lemmas.List.{length-map}
use Rattle.std.proofs.lemmas.Result.{IfOk-weaker}
use Rattle.std.specs.Prelude.{All}
use Rattle.std.specs.Int.{is_power_of_two}
use Rattle.circle_air.specs.Air.{air_of}
use Rattle.circle_air.specs.Valid.{valid}
use Rattle.circle_air.specs.Values.{Window, window}
use Rattle.circle_domain.specs.Clear.{IsClearOf}
use Rattle.circle_domain.specs.Domain.{log_size, shift_of}
use Rattle.circle_domain.specs.Order.{IsGenuine, natural_order}
use Rattle.circle_domain.specs.Periodic.{IsPeriodicValue}
use Rattle.circle_domain.proofs.StandardDomain.{standard-genuine}
use Rattle.circle_point.specs.Projective.{from_line}
use Rattle.circle_quotient.specs.Composition.{composition}
use Rattle.circle_stark.proofs.Selecting.{same-selectors}
use Rattle.circle_stark.proofs.identity.composition_at.Goals as goal

pub periodic_values-requires-clause-powers : goal.periodic_values-requires-clause-powers
periodic_values-requires-clause-powers g c =
    let air = c.args.statement.now.air.now in
    subst (λ columns. All (λ column. is_power_of_two (length column) ≡ true) columns)
    (sym c.periodic_columns.ensures) (valid (air_of air) air.valid).periods

pub selectors_at_point-selectors-requires-clause-genuine :
    goal.selectors_at_point-selectors-requires-clause-genuine
selectors_at_point-selectors-requires-clause-genuine g c =
    let k = g.F.Operations.ops in
    let n = c.args.statement.now.log_n in
    let d = c.standard.result in
    subst (λ m. IsGenuine k m (shift_of d)) (sym c.standard.ensures.size)
    (subst (λ s. IsGenuine k n s) (sym c.standard.ensures.shift)
    (standard-genuine g.F.Operations.laws g.met.F.ComplexExtendable.generators_law n
    (omega (arith, c.requires.domains.positive)) (omega (arith, c.requires.domains.in_group))))

pub selectors_at_point-selectors-requires-clause-clear :
    goal.selectors_at_point-selectors-requires-clause-clear
selectors_at_point-selectors-requires-clause-clear g c =
    let k = g.F.Operations.ops in
    let gen = g.F.ComplexExtendable.generators in
    let l = g.EF.Operations.ops in
    let n = c.args.statement.now.log_n in
    let d = c.standard.result in
    let Clear = λ (m : ℕ) (s : _). IsClearOf l g.EF.ExtensionField.embed (natural_order k gen m s)
    (from_line l c.args.drawn.zeta) in
    subst (λ m. Clear m (shift_of d)) (sym c.standard.ensures.size)
    (subst (Clear n) (sym c.standard.ensures.shift)
    (c.fit_is_clear.ensures.rows c.requires.fit))

pub returns : goal.returns
returns g c =
    let k = g.F.Operations.ops in
    let gen = g.F.ComplexExtendable.generators in
    let l = g.EF.Operations.ops in
    let m = g.EF.ExtensionField.embed in
    let n = c.args.statement.now.log_n in
    let p = air_of c.args.statement.now.air.now in
    let q = from_line l c.args.drawn.zeta in
    let columns = c.periodic_columns.result.now in
    let same = c.periodic_columns.ensures in
    let long : length columns ≡ length p.periodic_columns =
    sym (length-map columns (λ v. v.items)) ∙ ap length same in
    let count : length c.deref-3.result.now ≡ length p.periodic_columns =
    omega (arith, c.deref-3.ensures.len, c.in_ok-periodic.ensures.count, long) in
    let w : Window g.row.EF.Denot =
    window c.deref.result.now c.deref-2.result.now c.deref-3.result.now c.deref-4.result.now in
    IfOk-weaker c.composition.result _ _
    (λ value is. record {
      window = w;
      reads = record {
        local = c.deref.ensures.value;
        next = c.deref-2.ensures.value;
        periodic_count = count;
        periodic = λ i below.
            let there : i < length columns = omega (arith, below, long) in
            subst
            (λ cs. IsPeriodicValue k gen l m n (slice_index_or cs i []) q
            (slice_index_or c.deref-3.result.now i l.zero)) same
            (subst
            (λ vs. IsPeriodicValue k gen l m n (slice_index_or (map (λ v. v.items) columns) i []) q
            (slice_index_or vs i l.zero)) (sym c.deref-3.ensures.value)
            (c.in_ok-periodic.ensures.each i there));
        public = c.deref-4.ensures.value ∙ c.in_ok-public_values.ensures;
      };
      sum =
          is
          ∙ ap (λ s. composition l m p w s c.args.drawn.alpha)
          (same-selectors k gen l m n (log_size c.standard.result) (shift_of c.standard.result)
          c.standard.ensures.size c.standard.ensures.shift q c.selectors_at_point-selectors.result
          c.selectors_at_point-selectors.ensures.first c.selectors_at_point-selectors.ensures.last
          c.selectors_at_point-selectors.ensures.transition);
    })
    c.composition.ensures
