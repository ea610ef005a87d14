use Rattle.std.proofs.Common.{◌≡◌, ◌*◌, ◌/◌, ◌∙◌, ℕ, List, [], length, take, drop, get_or, sym, ap}
use Rattle.std.proofs.Common.{arith}
use Rattle.std.proofs.lemmas.List.Elements.{All-get_or}
use Rattle.sha2.specs.Sha256.{compress, hash_after, initial_hash_256, padded_message}
use Rattle.sha2.proofs.Absorbing256.{hash_after_next}
use Rattle.circle_merkle.proofs.Sixteen.{block-at}
use Rattle.circle_merkle.proofs.lanes.hash_values.Goals as goal

pub loop-n-init : goal.loop-n-init
unfolding hash_after
loop-n-init c messages sixteen all whole i lt = c.initial-state.ensures i lt

pub loop-n-preserved : goal.loop-n-preserved
loop-n-preserved c messages sixteen all whole i lt =
    let n = c.loop-n.n in
    let p : List ℕ = padded_message (get_or messages i []) in
    let block : List ℕ = take 64 (drop (n * 64) p) in
    let is = block-at padded_message messages c.args.bytes.now (64 * c.args.blocks) n i whole all
    (omega arith) (omega arith) in
    c.compress.ensures i block lt is
    ∙ ap (λ h. compress h block) (c.loop-n.invariant messages sixteen all whole i lt)
    ∙ sym (hash_after_next initial_hash_256 p n)

pub returns : goal.returns
returns c messages sixteen all whole i lt =
    let p : List ℕ = padded_message (get_or messages i []) in
    let long : length p ≡ 64 * c.args.blocks =
    All-get_or (λ m. length (padded_message m) ≡ 64 * c.args.blocks) messages i [] (omega arith)
    all in
    let end : c.loop-n.n ≡ length p / 64 = omega arith in
    c.loop-n.invariant messages sixteen all whole i lt ∙ ap (hash_after initial_hash_256 p) end
