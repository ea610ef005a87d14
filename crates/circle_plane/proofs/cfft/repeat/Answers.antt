use Rattle.std.proofs.Common.{◌≡◌, ◌++◌, ◌∙◌, sym, ap, arith, append-nil}
use Rattle.circle_domain.specs.Layers.{copies}
use Rattle.circle_domain.proofs.Twiddles.{copies-last}
use Rattle.circle_plane.proofs.cfft.repeat.Goals as goal

pub loop-preserved : goal.loop-preserved
loop-preserved g c =
    let xs = c.args.entries.items in
    c.in_ok-extend_from_slice.ensures.items
    ∙ ap (λ done. done ++ c.deref.result.now) c.loop.invariant
    ∙ ap (λ more. copies c.loop.counter xs ++ more) c.deref.ensures.value
    ∙ copies-last c.loop.counter xs

pub returns-then-count-eq1 : goal.returns-then-count-eq1
returns-then-count-eq1 g c =
    let xs = c.args.entries.items in
    sym (append-nil xs) ∙ ap (λ n. copies n xs) (sym c.if-count-eq1.true)

pub returns : goal.returns
returns g c =
    let end : c.loop.counter ≡ c.args.count = omega arith in
    c.loop.invariant ∙ ap (λ n. copies n c.args.entries.items) end
