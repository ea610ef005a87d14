use Rattle.std.proofs.Common.{[], ◌∷◌, refl}
use Rattle.std.proofs.lemmas.Result.{IfErr-weaker, on_ok_weaker}
use Rattle.circle_air.specs.Air.{air_of}
use Rattle.circle_callers.proofs.Claimed.{held, proved, stated}
use Rattle.circle_challenger.specs.Sha256Challenger.{state_of}
use Rattle.circle_callers.proofs.verifier.verify_sum.Goals as goal

pub returns-clause-accepted : goal.returns-clause-accepted
returns-clause-accepted c =
    let claim = c.args.claim in
    on_ok_weaker c.verify.result
    (proved c.args.pcs.now claim c.args.proof.now _ (state_of c.new.result)
    (stated claim (air_of c.in-Ok.air) claim.log_n (claim.first ∷ claim.second ∷ claim.last ∷ [])
    c.in-Ok.ensures.parts refl refl) c.new.ensures (state_of c.verify.new.challenger))
    c.verify.ensures.accepted

pub returns-clause-complete : goal.returns-clause-complete
returns-clause-complete c =
    let claim = c.args.claim in
    IfErr-weaker c.verify.result _ _
    (λ e complete is. complete
    (held c.args.pcs.now claim c.args.proof.now _ (state_of c.new.result)
    (stated claim (air_of c.in-Ok.air) claim.log_n (claim.first ∷ claim.second ∷ claim.last ∷ [])
    c.in-Ok.ensures.parts refl refl) c.new.ensures is)) c.verify.ensures.complete
