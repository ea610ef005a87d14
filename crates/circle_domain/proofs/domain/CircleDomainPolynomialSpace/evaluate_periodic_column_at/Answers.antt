use Rattle.std.proofs.Common.{◌≡◌, ℕ, ◌+◌, ◌-◌, ◌^◌, ◌≤◌, ◌∙◌, sym, ap, subst, arith, length, map}
use Rattle.std.proofs.Common.{List, slice_index_or}
use Rattle.circle_field.specs.Circle.{times}
use Rattle.circle_point.specs.Basis.{value}
use Rattle.circle_point.specs.Point.{coordinates}
use Rattle.circle_point.specs.Projective.{from_line}
use Rattle.circle_domain.specs.Clear.{IsClearOf}
use Rattle.circle_domain.specs.Domain.{log_size, shift_of}
use Rattle.circle_domain.specs.Order.{IsGenuine, natural_order}
use Rattle.circle_domain.specs.Values.{Interpolates}
use Rattle.circle_domain.proofs.Powers.{pow_order, pow_within}
use Rattle.circle_domain.proofs.Results.{if_ok_both}
use Rattle.circle_domain.proofs.StandardDomain.{standard-genuine}
use Rattle.circle_domain.proofs.domain.CircleDomainPolynomialSpace.evaluate_periodic_column_at.Goals as goal

pub returns-then-col-eq1 : goal.returns-then-col-eq1
returns-then-col-eq1 g c =
    let col = c.args.col.now in
    let one : length col ≡ 1 = omega (arith, c.if-col-eq1.true) in
    record {
      empty = λ none. absurd (omega (arith, one, ap length none));
      constant = λ x is. c.from_base.ensures
          ∙ ap g.Ext.ExtensionField.embed
          (c.index-col-0.is ∙ ap (λ xs. slice_index_or xs 0 c.index-col-0.result) is);
      of_period = λ j positive long. absurd (let low : 2 ^ 1 ≤ 2 ^ j = pow_within 1 j positive in
          omega (arith, one, long, low));
      only = λ j positive long. absurd (let low : 2 ^ 1 ≤ 2 ^ j = pow_within 1 j positive in
          omega (arith, one, long, low));
    }

pub log2_strict-log_period-requires : goal.log2_strict-log_period-requires
log2_strict-log_period-requires g c =
    c.requires.power (omega (arith, c.if-col-eq0.false, c.if-col-eq1.false))

pub overflow_sub-self : goal.overflow_sub-self
overflow_sub-self g c =
    let col = c.args.col.now in
    let r = c.log2_strict-log_period.result in
    let two : 2 ≤ length col = omega (arith, c.if-col-eq0.false, c.if-col-eq1.false) in
    pow_order r c.args.self.now.log_n
    (omega (arith, c.log2_strict-log_period.ensures.power, c.requires.at_most_size two))

pub standard-requires : goal.standard-requires
standard-requires g c =
    let col = c.args.col.now in
    let r = c.log2_strict-log_period.result in
    let two : 2 ≤ length col = omega (arith, c.if-col-eq0.false, c.if-col-eq1.false) in
    let within : r ≤ c.args.self.now.log_n =
    pow_order r c.args.self.now.log_n
    (omega (arith, c.log2_strict-log_period.ensures.power, c.requires.at_most_size two)) in
    omega (arith, within, (c.requires.standard two).0)

-- the length is the power of two, of at least one bit
pub value_off_domain-requires-clause-size : goal.value_off_domain-requires-clause-size
value_off_domain-requires-clause-size g c =
    let col = c.args.col.now in
    let r = c.log2_strict-log_period.result in
    sym c.log2_strict-log_period.ensures.power
    ∙ ap (λ j. 2 ^ j) (sym c.standard.ensures.size)

pub value_off_domain-requires-clause-genuine : goal.value_off_domain-requires-clause-genuine
value_off_domain-requires-clause-genuine g c =
    let col = c.args.col.now in
    let r = c.log2_strict-log_period.result in
    let n = c.args.self.now.log_n in
    let two : 2 ≤ length col = omega (arith, c.if-col-eq0.false, c.if-col-eq1.false) in
    let long : length col ≡ 2 ^ r = sym c.log2_strict-log_period.ensures.power in
    let positive : 1 ≤ r = pow_order 1 r (omega (arith, long, two)) in
    let within : r ≤ n = pow_order r n (omega (arith, long, c.requires.at_most_size two)) in
    let genuine = standard-genuine g.F.Operations.laws g.met.F.ComplexExtendable.generators_law r
    positive (omega (arith, within, (c.requires.standard two).0)) in
    subst (λ j. IsGenuine g.F.Operations.ops j (shift_of c.standard.result))
    (sym c.standard.ensures.size)
    (subst (IsGenuine g.F.Operations.ops r) (sym c.standard.ensures.shift) genuine)

pub value_off_domain-requires-clause-in_group : goal.value_off_domain-requires-clause-in_group
value_off_domain-requires-clause-in_group g c =
    let col = c.args.col.now in
    let r = c.log2_strict-log_period.result in
    let two : 2 ≤ length col = omega (arith, c.if-col-eq0.false, c.if-col-eq1.false) in
    let within : r ≤ c.args.self.now.log_n =
    pow_order r c.args.self.now.log_n
    (omega (arith, c.log2_strict-log_period.ensures.power, c.requires.at_most_size two)) in
    omega (arith, within, (c.requires.standard two).0, c.standard.ensures.size)

pub value_off_domain-requires-clause-clear : goal.value_off_domain-requires-clause-clear
value_off_domain-requires-clause-clear g c =
    let k = g.F.Operations.ops in
    let gen = g.F.ComplexExtendable.generators in
    let l = g.Ext.Operations.ops in
    let m = g.Ext.ExtensionField.embed in
    let col = c.args.col.now in
    let r = c.log2_strict-log_period.result in
    let n = c.args.self.now.log_n in
    let two : 2 ≤ length col = omega (arith, c.if-col-eq0.false, c.if-col-eq1.false) in
    let long : length col ≡ 2 ^ r = sym c.log2_strict-log_period.ensures.power in
    let positive : 1 ≤ r = pow_order 1 r (omega (arith, long, two)) in
    let at : coordinates c.repeated_double-doubled.result ≡ times l (2 ^ (n - r))
    (from_line l c.args.point) =
    c.repeated_double-doubled.ensures ∙ ap (times l (2 ^ (n - r))) c.finite_point.ensures in
    subst
    (λ q. IsClearOf l m
    (natural_order k gen (log_size c.standard.result) (shift_of c.standard.result)) q) (sym at)
    (subst
    (λ j. IsClearOf l m (natural_order k gen j (shift_of c.standard.result))
    (times l (2 ^ (n - r)) (from_line l c.args.point))) (sym c.standard.ensures.size)
    (subst
    (λ s. IsClearOf l m (natural_order k gen r s)
    (times l (2 ^ (n - r)) (from_line l c.args.point))) (sym c.standard.ensures.shift)
    (c.requires.clear two r positive long)))

pub returns : goal.returns
returns g c =
    let k = g.F.Operations.ops in
    let gen = g.F.ComplexExtendable.generators in
    let l = g.Ext.Operations.ops in
    let m = g.Ext.ExtensionField.embed in
    let col = c.args.col.now in
    let r = c.log2_strict-log_period.result in
    let n = c.args.self.now.log_n in
    let t = from_line l c.args.point in
    let two : 2 ≤ length col = omega (arith, c.if-col-eq0.false, c.if-col-eq1.false) in
    let long : length col ≡ 2 ^ r = sym c.log2_strict-log_period.ensures.power in
    let at : coordinates c.repeated_double-doubled.result ≡ times l (2 ^ (n - r)) t =
    c.repeated_double-doubled.ensures ∙ ap (times l (2 ^ (n - r))) c.finite_point.ensures in
    let shift : (j : ℕ) → j ≡ r → shift_of c.standard.result ≡ gen (j + 1) =
    λ j e. c.standard.ensures.shift ∙ ap (λ i. gen (i + 1)) (sym e) in
    let size : (j : ℕ) → j ≡ r → log_size c.standard.result ≡ j = λ j e. c.standard.ensures.size
    ∙ sym e in
    let there : (j : ℕ) (coeffs : List g.row.F.Denot) → j ≡ r →
    Interpolates k gen j (gen (j + 1)) coeffs col →
    Interpolates k gen (log_size c.standard.result) (shift_of c.standard.result) coeffs col =
    λ j coeffs e has. subst (λ i. Interpolates k gen i (shift_of c.standard.result) coeffs col)
    (sym (size j e)) (subst (λ s. Interpolates k gen j s coeffs col) (sym (shift j e)) has) in
    let back : (j : ℕ) (coeffs : List g.row.F.Denot) → j ≡ r →
    Interpolates k gen (log_size c.standard.result) (shift_of c.standard.result) coeffs col →
    Interpolates k gen j (gen (j + 1)) coeffs col =
    λ j coeffs e has. subst (λ s. Interpolates k gen j s coeffs col) (shift j e)
    (subst (λ i. Interpolates k gen i (shift_of c.standard.result) coeffs col) (size j e)
    has) in
    let same : (j : ℕ) (coeffs : List g.row.F.Denot) → j ≡ r →
    value l (map m coeffs) (coordinates c.repeated_double-doubled.result) ≡ value l
    (map m coeffs) (times l (2 ^ (n - j)) t) =
    λ j coeffs e. ap (value l (map m coeffs)) (at ∙ ap (λ i. times l (2 ^ (n - i)) t) (sym e)) in
    if_ok_both _ _ _ c.value_off_domain.result
    (λ v made only. record {
      empty = λ none. absurd (omega (arith, two, ap length none));
      constant = λ x is. absurd (omega (arith, two, ap length is));
      of_period = λ j positive e.
          let same_log : j ≡ r = sym (c.log2_strict-log_period.ensures.only j e) in
          (made.0, back j made.0 same_log made.1, made.2 ∙ same j made.0 same_log);
      only = λ j positive e coeffs has.
          let same_log : j ≡ r = sym (c.log2_strict-log_period.ensures.only j e) in
          only coeffs (there j coeffs same_log has) ∙ same j coeffs same_log;
    }) c.value_off_domain.ensures.value c.value_off_domain.ensures.only
