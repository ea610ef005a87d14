use Rattle.std.specs.Prelude.{Vec}
use Rattle.std.specs.declared.alloc.Global.{Global}
use Rattle.std.proofs.Common.{◌≡◌, ◌*◌, ◌^◌, ◌-◌, ◌∙◌, refl, sym, ap, subst, length, arith}
use Rattle.std.proofs.Common.{IfOk}
use Rattle.circle_commit.specs.RowMajorMatrix.{height_of, length-values, values_of, width_of}
use Rattle.circle_domain.specs.Layers.{copies}
use Rattle.circle_domain.proofs.Powers.{pow_injective, pow_order}
use Rattle.circle_domain.proofs.Results.{if_ok_both}
use Rattle.circle_plane.proofs.AllLayers.{copied-long, shifted}
use Rattle.circle_plane.proofs.cfft.copied_entries.Goals as goal

pub overflow_sub-log_n : goal.overflow_sub-log_n
overflow_sub-log_n g c =
    let tall = c.log2_strict-log_height.ensures.power ∙ c.height.ensures in
    pow_order c.log2_strict-log_height.result c.args.log_n
    (omega (arith, tall, c.requires.at_most_size))

pub returns-clause-copies : goal.returns-clause-copies
returns-clause-copies g c h tall =
    let n = c.args.log_n in
    let order = c.log2_strict-log_height.result in
    let stored = values_of c.args.coeffs in
    let same : order ≡ h = pow_injective order h
    (c.log2_strict-log_height.ensures.power ∙ c.height.ensures ∙ tall) in
    subst (λ xs. IfOk c.repeat.result (λ (v : Vec g.row.F.Denot Global). v.items ≡ xs))
    (ap (λ t. copies t c.into_values.result.items) (shifted n n order refl c.requires.small)
    ∙ ap (copies (2 ^ (n - order))) c.into_values.ensures
    ∙ ap (λ i. copies (2 ^ (n - i)) stored) same) c.repeat.ensures

pub returns-clause-length : goal.returns-clause-length
returns-clause-length g c =
    let n = c.args.log_n in
    let order = c.log2_strict-log_height.result in
    let coeffs = c.args.coeffs in
    let stored = values_of coeffs in
    let width = width_of coeffs in
    let tall : height_of coeffs ≡ 2 ^ order =
    sym (c.log2_strict-log_height.ensures.power ∙ c.height.ensures) in
    let le = pow_order order n (omega (arith, tall, c.requires.at_most_size)) in
    let made = returns-clause-copies g c order tall in
    if_ok_both _ _ (λ (v : Vec g.row.F.Denot Global). length v.items ≡ 2 ^ n * width)
    c.repeat.result
    (λ v is _. ap length is
    ∙ copied-long n order width stored le (length-values coeffs ∙ ap (λ t. t * width) tall))
    made made
