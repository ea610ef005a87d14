use Rattle.std.proofs.Common.{◌≡◌, ◌+◌, ◌^◌, ◌<◌, ◌≤◌, ◌++◌, [], ◌∷◌, ◌∙◌, length, take, sym, ap}
use Rattle.std.proofs.Common.{arith, suc}
use Rattle.std.proofs.lemmas.List.{length_push, take_all}
use Rattle.circle_point.specs.Basis.{doubled_x}
use Rattle.circle_cfft.specs.Twiddles.{layers_from}
use Rattle.circle_cfft.proofs.TwiddleParts.{layers-more, length-layers}
use Rattle.circle_cfft.proofs.twiddles.append_layers.Goals as goal

pub loop-i-preserved : goal.loop-i-preserved
loop-i-preserved g c =
    let k = g.F.Operations.ops in
    let old = c.args.factors.now.items in
    let made = c.loop-i.factors.items in
    let i = c.loop-i.i in
    let d = c.index.result.now in
    let x = c.sub-doubled.result in
    let step : x ≡ doubled_x k d =
    g.met.F.Field.sub_law _ _ x c.sub-doubled.ensures
    ∙ ap (λ a. k.add a (k.neg c.ONE.result))
    (c.double.ensures ∙ ap (λ a. k.add a a) c.square.ensures)
    ∙ ap (λ a. k.add (k.add (k.mul d d) (k.mul d d)) (k.neg a))
    (c.ONE.ensures ∙ g.met.F.Field.one_law) in
    record {
      long = ap length c.in_ok-push.ensures.items ∙ length_push made x
          ∙ omega (arith, c.loop-i.invariant.long);
      layers = λ m e.
          let s : m + 1 ≡ suc m = omega arith in
          let here : i + 1 < 2 ^ m =
          omega (arith, c.loop-i-test.true, c.len-i-end.ensures, c.args.factors.now.ok.0, e) in
          c.in_ok-push.ensures.items
          ∙ ap (λ y. made ++ y ∷ []) (step ∙ ap (doubled_x k) c.index.ensures)
          ∙ layers-more k m old made i d e here
          (c.loop-i.invariant.layers m e ∙ ap (λ n. take (2 ^ m + i) (layers_from k n old)) s)
          ∙ ap (λ n. take (2 ^ m + (i + 1)) (layers_from k n old)) (sym s);
    }

pub returns : goal.returns
returns g c = λ m e.
    let k = g.F.Operations.ops in
    let old = c.args.factors.now.items in
    let i = c.loop-i.i in
    let s : m + 1 ≡ suc m = omega arith in
    let long : length (layers_from k (m + 1) old) + 1 ≡ 2 ^ m + 2 ^ m =
    ap (λ n. length (layers_from k n old) + 1) s ∙ length-layers k m old e in
    let end : length (layers_from k (m + 1) old) ≤ 2 ^ m + i =
    omega (
      arith,
      long,
      c.loop-i-test.false,
      c.len-i-end.ensures,
      c.args.factors.now.ok.0,
      e,
      c.requires,
    ) in
    c.loop-i.invariant.layers m e ∙ take_all (2 ^ m + i) (layers_from k (m + 1) old) end
