use Rattle.std.proofs.Common.{◌≡◌, ◌+◌, ◌-◌, ◌*◌, ◌∷◌, ◌∙◌, ℕ, List, All, ap, sym, subst, length}
use Rattle.std.proofs.Common.{map, suc, arith}
use Rattle.std.specs.List.{range_with_len}
use Rattle.std.proofs.lemmas.List.FromFn.{length-map-range_with_len}
use Rattle.std.proofs.lemmas.Simd.{map-map}
use Rattle.sha2.specs.Sha256.{padded_message, sha256}
use Rattle.circle_merkle.specs.RowBytes.{matrix_bytes}
use Rattle.circle_merkle.proofs.Levels.{rows-alike}
use Rattle.circle_merkle.proofs.Padded.{messages-length, messages-more, padded-alike, padded-blocks}
use Rattle.circle_merkle.proofs.Padded.{sixteen-at}
use Rattle.circle_merkle.proofs.messages.sixteen_rows.Goals as goal

pub loop-i-preserved : goal.loop-i-preserved
loop-i-preserved g c =
    let i = c.loop-i.i in
    let from = c.args.from in
    let f : ℕ → List ℕ =
    λ i. 0 ∷ matrix_bytes g.T.ElementBytes.bytes c.args.height i c.args.matrices.now in
    let alike = rows-alike g.T.ElementBytes.bytes g.T.ElementBytes.BYTES g.met.T.ElementBytes.count
    c.args.matrices.now c.args.height i from (omega arith) (omega arith) in
    messages-more f (length (padded_message (f from))) from i (i - from) (i + 1 - from)
    c.loop-i.messages.items c.add_rows.new.messages.items
    (omega arith) (omega arith) c.loop-i.invariant c.in_ok-add_rows.ensures
    (padded-alike (f i) (f from) (ap suc alike))

pub digests-requires : goal.digests-requires
digests-requires g c =
    let from = c.args.from in
    let f : ℕ → List ℕ =
    λ i. 0 ∷ matrix_bytes g.T.ElementBytes.bytes c.args.height i c.args.matrices.now in
    let s = length (padded_message (f from)) in
    let held = sixteen-at f s from c.loop-i.i c.loop-i.messages.items (omega arith)
    c.loop-i.invariant in
    let all : length c.loop-i.messages.items ≡ 16 * s =
    messages-length f s from 16 c.loop-i.messages.items held in
    let blocks =
    padded-blocks (f from) c.len.result
    (omega (arith, all, c.len.ensures, c.loop-i.messages.ok.0)) in
    record { lanes = omega (arith, ap length c.deref.ensures.value, all, blocks) }

pub returns : goal.returns
returns g c =
    let from = c.args.from in
    let f : ℕ → List ℕ =
    λ i. 0 ∷ matrix_bytes g.T.ElementBytes.bytes c.args.height i c.args.matrices.now in
    let s = length (padded_message (f from)) in
    let held = sixteen-at f s from c.loop-i.i c.loop-i.messages.items (omega arith)
    c.loop-i.invariant in
    let all : length c.loop-i.messages.items ≡ 16 * s =
    messages-length f s from 16 c.loop-i.messages.items held in
    let blocks =
    padded-blocks (f from) c.len.result
    (omega (arith, all, c.len.ensures, c.loop-i.messages.ok.0)) in
    let messages = map f (range_with_len from 16) in
    c.digests.ensures messages (length-map-range_with_len f from 16)
    (subst (λ n. All (λ m. length (padded_message m) ≡ n) messages) (sym blocks) held.1)
    (c.deref.ensures.value ∙ held.0)
    ∙ map-map sha256 f (range_with_len from 16)
