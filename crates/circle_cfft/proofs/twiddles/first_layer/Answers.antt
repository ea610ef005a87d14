use Rattle.std.proofs.Common.{◌≡◌, ◌<◌, ◌≤◌, ◌+◌, ◌*◌, ◌++◌, ◌∷◌, ◌∙◌, sym, ap, drop, length}
use Rattle.std.proofs.Common.{slice_index_or, arith, append-nil}
use Rattle.std.proofs.lemmas.List.{drop_all}
use Rattle.circle_cfft.specs.Twiddles.{first_of_second}
use Rattle.circle_cfft.proofs.TwiddleRows.{pushed_four, drop_pair}
use Rattle.circle_cfft.proofs.twiddles.first_layer.Goals as goal

pub loop-i-init : goal.loop-i-init
loop-i-init g c =
    let rest = first_of_second g.F.Operations.ops (g.F.ComplexExtendable.generators 2).y
    c.args.second.now in
    ap (λ ys. ys ++ rest) c.in_ok-first.ensures.items

pub loop-i-preserved : goal.loop-i-preserved
loop-i-preserved g c =
    let k = g.F.Operations.ops in
    let e = (g.F.ComplexExtendable.generators 2).y in
    let made_of = first_of_second k e in
    let xs = c.args.second.now in
    let i = c.loop-i.i in
    let made = c.loop-i.first.items in
    let x = c.index-second-i.result in
    let z = c.index-second-i-in-loop-i.result in
    let u = c.turned-x.result in
    let v = c.turned-z.result in
    let rest = drop (2 * (i + 1)) xs in
    let here : 2 * i + 1 < length xs = omega (arith, c.loop-i-test.true, c.requires.pairs) in
    let opposite = g.met.F.Field.neg_law in
    let first : u ≡ k.mul e x = c.turned-x.ensures in
    let second : v ≡ k.mul e z = c.turned-z.ensures in
    let less : c.neg.result ≡ k.neg (k.mul e z) = opposite _ c.neg.result c.neg.ensures
    ∙ ap k.neg second in
    let last : c.neg-in-loop-i.result ≡ k.neg (k.mul e x) =
    opposite _ c.neg-in-loop-i.result c.neg-in-loop-i.ensures ∙ ap k.neg first in
    pushed_four made (made_of rest) _ _ _ _ c.neg.result v u c.neg-in-loop-i.result
    c.in_ok-push.ensures.items c.in_ok-push-2.ensures.items c.in_ok-push-3.ensures.items
    c.in_ok-push-4.ensures.items
    ∙ ap (λ a. made ++ (a ∷ v ∷ u ∷ c.neg-in-loop-i.result ∷ made_of rest)) less
    ∙ ap (λ a. made ++ (k.neg (k.mul e z) ∷ a ∷ u ∷ c.neg-in-loop-i.result ∷ made_of rest)) second
    ∙ ap (λ a. made ++ (k.neg (k.mul e z) ∷ k.mul e z ∷ a ∷ c.neg-in-loop-i.result ∷ made_of rest))
    first
    ∙ ap (λ a. made ++ (k.neg (k.mul e z) ∷ k.mul e z ∷ k.mul e x ∷ a ∷ made_of rest)) last
    ∙ ap (λ a. made ++ made_of (a ∷ z ∷ rest)) c.index-second-i.is
    ∙ ap (λ a. made ++ made_of (slice_index_or xs (2 * i) x ∷ a ∷ rest))
    c.index-second-i-in-loop-i.is
    ∙ ap (λ ys. made ++ made_of ys) (sym (drop_pair xs i x z here))
    ∙ c.loop-i.invariant

pub neg-requires : goal.neg-requires
neg-requires g c = g.met.F.Field.can_neg_law _

pub neg-requires-in-loop-i : goal.neg-requires-in-loop-i
neg-requires-in-loop-i g c = g.met.F.Field.can_neg_law _

pub returns : goal.returns
returns g c =
    let made_of = first_of_second g.F.Operations.ops (g.F.ComplexExtendable.generators 2).y in
    let xs = c.args.second.now in
    let made = c.loop-i.first.items in
    let end : length xs ≤ 2 * c.loop-i.i = omega (arith, c.loop-i-test.false, c.requires.pairs) in
    sym (append-nil made) ∙ ap (λ ys. made ++ made_of ys) (sym (drop_all (2 * c.loop-i.i) xs end))
    ∙ c.loop-i.invariant
