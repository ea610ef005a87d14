use Rattle.std.proofs.Common.{◌≡◌, ◌<◌, ◌∙◌, List, sym, ap, arith, length, map}
use Rattle.std.proofs.Common.{slice_index_or}
use Rattle.std.specs.Vec.{with_items}
use Rattle.std.proofs.lemmas.List.{length-map, with_items_is}
use Rattle.std.proofs.lemmas.Option.{get_or_from_slice_get}
use Rattle.circle_commit.proofs.Written.{written-all, length-pairwise, partnered-read}
use Rattle.circle_commit.proofs.Written.{partnered-more}
use Rattle.circle_commit.specs.DotProduct.{pairwise, with_multiple}
use Rattle.circle_quotient.proofs.LaneLists.{vec-each}
use Rattle.circle_quotient.proofs.sums.add_weighted.Goals as goal

pub add_multiple-requires : goal.add_multiple-requires
add_multiple-requires g c =
    let k = g.F.Operations.ops in
    let elements = c.args.elements.now in
    let f = λ (s : List g.row.F.Denot) (w : g.row.F.Denot). with_multiple k (λ x. x) w s elements in
    let i = c.loop-i.i in
    let v = c.index-coefficients-i.result in
    let old = c.args.coefficients.now in
    let weights = g.EF.ExtensionField.coefficients c.args.weight in
    let paired : length old ≡ length weights =
    c.requires.all ∙ sym (g.met.EF.ExtensionField.are_coefficients.count c.args.weight) in
    let here : i < length old =
    omega (arith, c.loop-i-test.true, c.DEGREE-i-end.ensures, c.requires.all) in
    ap length (c.deref_mut.ensures.value ∙ partnered-read (λ s. s.items) f i old
    c.loop-i.coefficients weights v paired here c.loop-i.auto.coefficients c.loop-i.invariant)
    ∙ vec-each (λ (xs : List g.row.F.Denot). length xs ≡ length elements) old c.requires.each i v
    here

pub loop-i-preserved : goal.loop-i-preserved
loop-i-preserved g c =
    let k = g.F.Operations.ops in
    let elements = c.args.elements.now in
    let f = λ (s : List g.row.F.Denot) (w : g.row.F.Denot). with_multiple k (λ x. x) w s elements in
    let i = c.loop-i.i in
    let v = c.index-coefficients-i.result in
    let old = c.args.coefficients.now in
    let now = c.loop-i.coefficients in
    let weights = g.EF.ExtensionField.coefficients c.args.weight in
    let w = c.coefficient.result in
    let new = c.add_multiple.new.sums in
    let paired : length old ≡ length weights =
    c.requires.all ∙ sym (g.met.EF.ExtensionField.are_coefficients.count c.args.weight) in
    let here : i < length old =
    omega (arith, c.loop-i-test.true, c.DEGREE-i-end.ensures, c.requires.all) in
    let whole : (with_items (slice_index_or now i v) new).items ≡ new =
    with_items_is (slice_index_or now i v) new
    (c.add_multiple.auto.sums ∙ c.deref_mut.ensures.len) in
    partnered-more (λ s. s.items) f i old now weights v paired here c.loop-i.auto.coefficients
    c.loop-i.invariant w (with_items (slice_index_or now i v) new)
    (sym (get_or_from_slice_get weights i w w c.coefficient.ensures))
    (whole ∙ c.add_multiple.ensures ∙ ap (λ s. f s w) c.deref_mut.ensures.value)

pub returns : goal.returns
returns g c =
    let k = g.F.Operations.ops in
    let f =
    λ (s : List g.row.F.Denot) (w : g.row.F.Denot). with_multiple k (λ x. x) w s
    c.args.elements.now in
    let old = map (λ s. s.items) c.args.coefficients.now in
    let weights = g.EF.ExtensionField.coefficients c.args.weight in
    let listed : length old ≡ length c.args.coefficients.now =
    length-map c.args.coefficients.now (λ s. s.items) in
    let paired : length old ≡ length weights =
    listed ∙ c.requires.all
    ∙ sym (g.met.EF.ExtensionField.are_coefficients.count c.args.weight) in
    c.loop-i.invariant
    ∙ written-all c.loop-i.i (pairwise f old weights) old (length-pairwise f old weights paired)
    (omega (arith, c.loop-i-test.false, c.DEGREE-i-end.ensures, c.requires.all, listed))
