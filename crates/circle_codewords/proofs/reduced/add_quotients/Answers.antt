use Rattle.std.proofs.Common.{◌≡◌, ◌<◌, ◌∙◌, sym, ap, length, slice_index_or, slice_set, arith}
use Rattle.circle_field.specs.Field.{sub}
use Rattle.circle_commit.proofs.Written.{written, written-read, written-more, written-all}
use Rattle.circle_commit.proofs.Written.{length-pairwise, pairwise-read}
use Rattle.circle_commit.specs.DotProduct.{pairwise}
use Rattle.circle_codewords.proofs.reduced.add_quotients.Goals as goal

pub loop-i-preserved : goal.loop-i-preserved
loop-i-preserved g c =
    let l = g.EF.Operations.ops in
    let i = c.loop-i.i in
    let old = c.args.sums.now in
    let ts = c.args.ratios.now in
    let cs = c.args.combined.now in
    let q = λ (t d : g.row.EF.Denot). l.mul (sub l c.args.half (l.mul c.args.top t))
    (sub l d c.args.claimed) in
    let qs = pairwise q ts cs in
    let counted : length qs ≡ length ts =
    length-pairwise q ts cs (c.requires.ratios ∙ sym c.requires.combined) in
    let new = pairwise l.add old qs in
    let long : length new ≡ length old =
    length-pairwise l.add old qs (sym (counted ∙ c.requires.ratios)) in
    let here : i < length old = c.loop-i-test.true in
    let t = c.index-ratios-i.result in
    let d = c.index-combined-i.result in
    let a = c.index-sums-i.result in
    let v = c.add.result in
    let read : slice_index_or c.loop-i.sums i a ≡ slice_index_or old i a =
    ap (λ vs. slice_index_or vs i a) c.loop-i.invariant ∙ written-read i new old a long in
    let at_ts : i < length ts = omega (arith, here, c.requires.ratios) in
    let at_cs : i < length cs = omega (arith, here, c.requires.combined) in
    let amount : c.mul-in-loop-i.result ≡ slice_index_or qs i c.mul-in-loop-i.result =
    g.met.EF.Field.mul_law _ _ _ c.mul-in-loop-i.ensures
    ∙ ap (λ x. l.mul x c.sub-in-loop-i.result) (g.met.EF.Field.sub_law _ _ _ c.sub.ensures
    ∙ ap (sub l c.args.half) (g.met.EF.Field.mul_law _ _ _ c.mul.ensures))
    ∙ ap (l.mul (sub l c.args.half (l.mul c.args.top t)))
    (g.met.EF.Field.sub_law _ _ _ c.sub-in-loop-i.ensures)
    ∙ ap (λ x. q x d) c.index-ratios-i.is ∙ ap (q (slice_index_or ts i t)) c.index-combined-i.is
    ∙ sym (pairwise-read q ts cs i t d c.mul-in-loop-i.result at_ts at_cs) in
    let made : v ≡ slice_index_or new i v =
    g.met.EF.Field.add_law _ _ _ c.add.ensures ∙ ap (λ s. l.add s c.mul-in-loop-i.result) read
    ∙ ap (l.add (slice_index_or old i a)) amount
    ∙ sym
    (pairwise-read l.add old qs i a c.mul-in-loop-i.result v here
    (omega (arith, at_ts, counted))) in
    ap (λ vs. slice_set vs i v) c.loop-i.invariant ∙ ap (slice_set (written i new old) i) made
    ∙ written-more i new old v long here

pub returns : goal.returns
returns g c =
    let l = g.EF.Operations.ops in
    let old = c.args.sums.now in
    let ts = c.args.ratios.now in
    let cs = c.args.combined.now in
    let q = λ (t d : g.row.EF.Denot). l.mul (sub l c.args.half (l.mul c.args.top t))
    (sub l d c.args.claimed) in
    let qs = pairwise q ts cs in
    let counted : length qs ≡ length ts =
    length-pairwise q ts cs (c.requires.ratios ∙ sym c.requires.combined) in
    let new = pairwise l.add old qs in
    let long : length new ≡ length old =
    length-pairwise l.add old qs (sym (counted ∙ c.requires.ratios)) in
    c.loop-i.invariant ∙ written-all c.loop-i.i new old long c.loop-i-test.false
