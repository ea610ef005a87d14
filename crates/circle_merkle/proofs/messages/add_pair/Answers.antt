use Rattle.std.proofs.Common.{◌≡◌, ◌++◌, ◌∷◌, [], ◌∙◌, ap, arith}
use Rattle.std.proofs.lemmas.Result.{IfOk-weaker}
use Rattle.sha2.specs.Sha256.{padded_message, padding}
use Rattle.circle_merkle.proofs.Padded.{pair-added}
use Rattle.circle_merkle.proofs.messages.add_pair.Goals as goal

pub returns : goal.returns
returns c =
    let old = c.args.messages.now.items in
    let left = c.args.left.now in
    let right = c.args.right.now in
    let new = c.add_padding.new.messages.items in
    let parts : c.extend_from_slice-2.new.self.items ≡ ((old ++ c.args.first ∷ []) ++ left) ++
    right =
    c.in_ok-extend_from_slice-2.ensures.items
    ∙ ap (λ xs. xs ++ right) (c.in_ok-extend_from_slice.ensures.items
    ∙ ap (λ xs. xs ++ left) c.in_ok-push.ensures.items) in
    IfOk-weaker c.add_padding.result (λ _. new ≡ c.extend_from_slice-2.new.self.items ++ padding 65)
    (λ _. new ≡ old ++ padded_message ((c.args.first ∷ left) ++ right))
    (λ _ e. e ∙ ap (λ xs. xs ++ padding 65) parts
    ∙ pair-added old left right c.args.first (omega arith) (omega arith)) c.add_padding.ensures
