use Rattle.std.proofs.Common.{rules, sym, ap, ◌∙◌, ◌≡◌, refl, arith}
use Rattle.std.proofs.lemmas.List.{take_all}
use Rattle.std.proofs.lemmas.Slice.{overwrites}
use Rattle.std.specs.Int.{to_be_bytes, w32}
use Rattle.sha2.specs.Sha256.{digest_bytes}
use Rattle.sha2.proofs.Absorbing256.{digest_more}
use Rattle.circle_merkle.specs.Lanes.{lane}
use Rattle.circle_merkle.proofs.Sixteen.{lane-at}
use Rattle.circle_merkle.proofs.lanes.digest.Goals as goal

pub loop-j-init : goal.loop-j-init
unfolding digest_bytes
loop-j-init c = (refl, refl)

pub loop-j-preserved : goal.loop-j-preserved
loop-j-preserved c = (
  search (rules, overwrites),
  digest_more c.loop-j.digest (lane c.args.i c.args.state.now) _ c.loop-j.j _ c.loop-j.invariant.1
      (omega arith)
      (c.copy_from_slice.ensures.after ∙ c.to_be_bytes.ensures
      ∙ ap (to_be_bytes w32) (sym (lane-at c.args.i c.loop-j.j c.args.state.now))),
)

pub returns : goal.returns
returns c =
    let done : c.loop-j.j ≡ 8 = omega arith in
    sym (take_all 32 c.loop-j.digest (omega arith)) ∙ rw done at c.loop-j.invariant.1
