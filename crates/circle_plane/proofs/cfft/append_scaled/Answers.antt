use Rattle.std.proofs.Common.{◌≡◌, ◌<◌, ◌≤◌, ◌++◌, [], ◌∷◌, ◌∙◌, sym, ap, map, take, slice_index_or}
use Rattle.std.proofs.Common.{length, arith, append_assoc}
use Rattle.std.proofs.lemmas.List.{take_more, take_all, map-append, get_or_append_left}
use Rattle.circle_plane.proofs.cfft.append_scaled.Goals as goal

pub loop-i-preserved : goal.loop-i-preserved
loop-i-preserved g c =
    let f = λ (b : g.row.F.Denot). g.F.Operations.ops.mul b c.args.factor in
    let before = c.args.entries.now.items in
    let i = c.loop-i.i in
    let x = c.index.result.now in
    let y = c.mul-scaled.result in
    let here : i < length before =
    omega (arith, c.loop-i-test.true, c.len-i-end.ensures, c.args.entries.now.ok.0) in
    let read : x ≡ slice_index_or before i x =
    c.index.ensures ∙ ap (λ xs. slice_index_or xs i x) c.loop-i.invariant.appended
    ∙ get_or_append_left before (map f (take i before)) x i here in
    record {
      appended =
          c.in_ok-push.ensures.items
          ∙ ap (λ xs. xs ++ y ∷ []) c.loop-i.invariant.appended
          ∙ append_assoc before (map f (take i before)) (y ∷ [])
          ∙ ap (λ z. before ++ (map f (take i before) ++ z ∷ []))
          (g.met.F.Field.mul_law _ _ _ c.mul-scaled.ensures ∙ ap f read)
          ∙ ap (λ xs. before ++ xs)
          (sym (map-append f (take i before) (slice_index_or before i x ∷ []))
          ∙ ap (map f) (sym (take_more before i x here)));
      long = omega arith;
    }

pub returns : goal.returns
returns g c =
    let f = λ (b : g.row.F.Denot). g.F.Operations.ops.mul b c.args.factor in
    let before = c.args.entries.now.items in
    let end : length before ≤ c.loop-i.i =
    omega (arith, c.loop-i-test.false, c.len-i-end.ensures, c.args.entries.now.ok.0) in
    c.loop-i.invariant.appended ∙ ap (λ xs. before ++ map f xs) (take_all c.loop-i.i before end)
