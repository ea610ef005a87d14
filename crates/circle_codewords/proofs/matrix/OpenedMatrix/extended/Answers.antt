use Rattle.std.proofs.Common.{◌≡◌, ◌-◌, ◌+◌, ◌^◌, ◌∙◌, sym, ap, subst, arith, length, map}
use Rattle.std.proofs.lemmas.List.{length-map}
use Rattle.circle_commit.specs.RowMajorMatrix.{rows, width_of, length-rows}
use Rattle.circle_domain.specs.Domain.{log_size, shift_of}
use Rattle.circle_domain.specs.Order.{IsGenuine, cfft_order}
use Rattle.circle_domain.specs.Values.{HasValues, values_at}
use Rattle.circle_codewords.specs.OfMatrices.{fields_in}
use Rattle.circle_codewords.specs.Ratios.{points_of_height}
use Rattle.circle_codewords.proofs.Lifts.{extended-entries}
use Rattle.circle_codewords.proofs.Opened.{if_ok}
use Rattle.circle_codewords.proofs.Prefix.{first-genuine}
use Rattle.circle_codewords.proofs.matrix.OpenedMatrix.extended.Goals as goal

pub from_cfft_order-given-requires-clause-size : goal.from_cfft_order-given-requires-clause-size
from_cfft_order-given-requires-clause-size g c =
    sym (length-rows c.in_ok-columns.columns) ∙ ap length c.in_ok-columns.ensures.rows
    ∙ length-map c.args.first.now g.EF.ExtensionField.coefficients ∙ c.requires.count
    ∙ ap (λ n. 2 ^ n) (sym c.first_domain-domain.ensures.size)

pub extrapolate-requires-clause-genuine : goal.extrapolate-requires-clause-genuine
extrapolate-requires-clause-genuine g c =
    let k = g.F.Operations.ops in
    let h = c.args.self.now.log_height in
    let n = h - c.args.log_blowup in
    let less = c.requires.blowup in
    subst (λ d. IsGenuine k (log_size d) (shift_of d)) (sym c.from_cfft_order-given.ensures.domain)
    (subst (λ m. IsGenuine k m (shift_of c.first_domain-domain.result))
    (sym c.first_domain-domain.ensures.size)
    (subst (IsGenuine k n) (sym c.first_domain-domain.ensures.shift)
    (first-genuine g.F.Operations.laws g.met.F.ComplexExtendable.generators_law n h
    (omega (arith, less)) (omega arith) c.args.self.now.openable.in_group)))

pub extrapolate-requires-clause-larger : goal.extrapolate-requires-clause-larger
extrapolate-requires-clause-larger g c =
    let size : log_size c.from_cfft_order-given.result.domain ≡ c.args.self.now.log_height -
    c.args.log_blowup =
    ap log_size c.from_cfft_order-given.ensures.domain ∙ c.first_domain-domain.ensures.size in
    omega (arith, size, c.standard.ensures.size)

pub extrapolate-requires-clause-in_group : goal.extrapolate-requires-clause-in_group
extrapolate-requires-clause-in_group g c =
    omega (arith, c.standard.ensures.size, c.args.self.now.openable.in_group)

pub word_of_rows-requires : goal.word_of_rows-requires
word_of_rows-requires g c = record {
  width = ap width_of c.to_cfft_order.ensures ∙ c.in_ok-made.ensures.width
      ∙ ap width_of c.from_cfft_order-given.ensures.values ∙ c.in_ok-columns.ensures.width;
}

pub returns : goal.returns
returns g c =
    let k = fields_in c.args.self.now in
    let h = c.args.self.now.log_height in
    let B = c.args.log_blowup in
    let degree = g.EF.ExtensionField.DEGREE in
    let coefficients = g.EF.ExtensionField.coefficients in
    let first = c.args.first.now in
    let given = c.from_cfft_order-given.result in
    let target = c.standard.result in
    let told = c.in_ok-made.ensures.values in
    let size : log_size given.domain ≡ h - B = ap log_size c.from_cfft_order-given.ensures.domain
    ∙ c.first_domain-domain.ensures.size in
    let shift : shift_of given.domain ≡ k.gen (h + 1) =
    ap shift_of c.from_cfft_order-given.ensures.domain ∙ c.first_domain-domain.ensures.shift in
    let wide : width_of given.values ≡ degree = ap width_of c.from_cfft_order-given.ensures.values
    ∙ c.in_ok-columns.ensures.width in
    let are : rows given.values ≡ map coefficients first =
    ap rows c.from_cfft_order-given.ensures.values ∙ c.in_ok-columns.ensures.rows in
    let has : HasValues k.field k.gen (h - B) (k.gen (h + 1)) degree told.coeffs
    (map coefficients first) =
    subst (HasValues k.field k.gen (h - B) (k.gen (h + 1)) degree told.coeffs) are
    (subst (λ w. HasValues k.field k.gen (h - B) (k.gen (h + 1)) w told.coeffs (rows given.values))
    wide
    (subst
    (λ s. HasValues k.field k.gen (h - B) s (width_of given.values) told.coeffs
    (rows given.values)) shift
    (subst (λ n. HasValues k.field k.gen n (shift_of given.domain) (width_of given.values)
    told.coeffs (rows given.values)) size told.told))) in
    let there : cfft_order k.field k.gen (log_size target) (shift_of target) ≡ points_of_height
    k.field k.gen h =
    ap (λ n. cfft_order k.field k.gen n (shift_of target)) c.standard.ensures.size
    ∙ ap (cfft_order k.field k.gen h) c.standard.ensures.shift in
    let values : rows c.to_cfft_order.result ≡ map (values_at k.field told.coeffs degree)
    (points_of_height k.field k.gen h) =
    ap rows c.to_cfft_order.ensures ∙ told.cfft
    ∙ ap
    (λ w. map (values_at k.field told.coeffs w)
    (cfft_order k.field k.gen (log_size target) (shift_of target))) wide
    ∙ ap (map (values_at k.field told.coeffs degree)) there in
    if_ok c.word_of_rows.result _ _ (λ word is.
    extended-entries k g.F.Operations.laws g.met.F.ComplexExtendable.generators_law B h
    c.requires.blowup c.args.self.now.openable.in_group
    g.EF.Operations.laws g.met.EF.ExtensionField.are_coefficients first word.items told.coeffs has
    (is ∙ values))
    c.word_of_rows.ensures
