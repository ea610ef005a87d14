use Rattle.std.proofs.Common.{◌≡◌, ◌+◌, ◌-◌, ◌*◌, ◌∷◌, [], ◌∙◌, ap, get_or, length, map}
use Rattle.std.proofs.Common.{length-append, arith}
use Rattle.std.specs.List.{range_with_len}
use Rattle.std.proofs.lemmas.List.FromFn.{length-map-range_with_len}
use Rattle.std.proofs.lemmas.Simd.{map-map}
use Rattle.sha2.specs.Sha256.{padded_message, sha256}
use Rattle.circle_merkle.specs.Messages.{pair_message}
use Rattle.circle_merkle.proofs.Padded.{length-padded, messages-length, messages-more, sixteen-at}
use Rattle.circle_merkle.proofs.messages.sixteen_pairs.Goals as goal

pub loop-i-preserved : goal.loop-i-preserved
loop-i-preserved c =
    let i = c.loop-i.i in
    let from = c.args.from in
    let pairs = c.args.pairs.now in
    let m = pair_message c.args.first pairs i in
    let left = get_or pairs (2 * i) [] in
    let right = get_or pairs (2 * i + 1) [] in
    let wide : length m ≡ 65 =
    omega (
      arith,
      length-append (c.args.first ∷ left) right,
      c.told-pairs (2 * i) (omega arith),
      c.told-pairs (2 * i + 1) (omega arith),
    ) in
    let long : length (padded_message m) ≡ 128 = omega (arith, length-padded m) in
    messages-more (pair_message c.args.first pairs) 128 from i (i - from) (i + 1 - from)
    c.loop-i.messages.items c.add_pair.new.messages.items
    (omega arith) (omega arith) c.loop-i.invariant c.in_ok-add_pair.ensures long

pub digests-requires : goal.digests-requires
digests-requires c =
    let f = pair_message c.args.first c.args.pairs.now in
    let held = sixteen-at f 128 c.args.from c.loop-i.i c.loop-i.messages.items (omega arith)
    c.loop-i.invariant in
    record {
      lanes = ap length c.deref.ensures.value
          ∙ messages-length f 128 c.args.from 16 c.loop-i.messages.items held;
    }

pub returns : goal.returns
returns c =
    let f = pair_message c.args.first c.args.pairs.now in
    let held = sixteen-at f 128 c.args.from c.loop-i.i c.loop-i.messages.items (omega arith)
    c.loop-i.invariant in
    let messages = map f (range_with_len c.args.from 16) in
    c.digests.ensures messages (length-map-range_with_len f c.args.from 16) held.1
    (c.deref.ensures.value ∙ held.0)
    ∙ map-map sha256 f (range_with_len c.args.from 16)
