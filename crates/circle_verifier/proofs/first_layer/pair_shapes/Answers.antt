use Rattle.std.proofs.Common.{◌≡◌, ◌-◌, ◌+◌, ◌^◌, ◌<◌, ◌∙◌, ℕ, List, [], ◌∷◌, ◌++◌, length}
use Rattle.std.proofs.Common.{slice_index_or, sym, ap, map, take, arith}
use Rattle.std.proofs.lemmas.Nat.{one_shl}
use Rattle.std.proofs.lemmas.List.{take_all, map_more}
use Rattle.circle_commit.specs.declared.matrix.Dimensions.{Dimensions}
use Rattle.circle_verifier.specs.FirstLayer.{pair_shape}
use Rattle.circle_verifier.proofs.first_layer.pair_shapes.Goals as goal

shapes-more : (heights : List ℕ) (i : ℕ) (shapes : List Dimensions) (height : ℕ) →
    i < length heights → shapes ≡ map pair_shape (take i heights)
    → height ≡ 2 ^ (slice_index_or heights i 0 - 1) →
    shapes ++ (record { width = 2; height = height }) ∷ []
    ≡ map pair_shape (take (i + 1) heights)
shapes-more heights i shapes height within before high =
    let shape : ℕ → Dimensions = λ n. record { width = 2; height = n } in
    ap (λ ss. ss ++ shape height ∷ []) before
    ∙ ap (λ n. map pair_shape (take i heights) ++ shape n ∷ []) high
    ∙ sym (map_more pair_shape heights i 0 within)

pub overflow_sub-log_height : goal.overflow_sub-log_height
overflow_sub-log_height c =
    (c.requires c.loop-log_height.log_height-index 0 c.loop-log_height-test.true).0

pub overflow_shl-log_height : goal.overflow_shl-log_height
overflow_shl-log_height c =
    omega (arith, (c.requires c.loop-log_height.log_height-index 0 c.loop-log_height-test.true).1)

pub loop-log_height-preserved : goal.loop-log_height-preserved
loop-log_height-preserved c =
    let heights = c.args.heights.now in
    let i = c.loop-log_height.log_height-index in
    let within = c.loop-log_height-test.true in
    let bounds = c.requires i 0 within in
    let small : slice_index_or heights i 0 - 1 < 64 = omega (arith, bounds.1) in
    c.in_ok-push.ensures.items ∙ shapes-more heights i c.loop-log_height.shapes.items _ within
    c.loop-log_height.invariant (one_shl (slice_index_or heights i 0 - 1) 64 small)

pub returns : goal.returns
returns c =
    c.loop-log_height.invariant
    ∙ ap (map pair_shape)
    (take_all c.loop-log_height.log_height-index c.args.heights.now
    c.loop-log_height-test.false)
