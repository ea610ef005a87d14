use Rattle.std.proofs.Common.{◌∙◌, sym, ap, map, true≢false}
use Rattle.std.proofs.lemmas.Result.{IfOk-from_err}
use Rattle.circle_commit.specs.Mmcs.{opened_rows}
use Rattle.circle_commit.specs.declared.error.FriError.TheVariants.{Memory}
use Rattle.circle_relation.specs.Reasons.{IsReason}
use Rattle.circle_verifier.specs.OfRun.{Refuses}
use Rattle.circle_relation.proofs.Shown.{moved}
use Rattle.circle_verifier.specs.FirstLayer.{pair_shape}
use Rattle.circle_verifier.proofs.FirstLayerRun.{heights-fit, layer-asked}
use Rattle.circle_verifier.proofs.ReducedValues.{handed_on}
use Rattle.circle_verifier.proofs.first_layer.FirstLayer.authenticate_first_layer.Goals as goal

pub pair_shapes-requires : goal.pair_shapes-requires
pair_shapes-requires g c =
    let checked = c.args.self.now.run.now in
    heights-fit checked.opened c.deref.result.now g.met.Val.ComplexExtendable.at_most_62
    (c.deref.ensures.value ∙ checked.claimed)

pub returns-in_err-dimensions-clause-shown : goal.returns-in_err-dimensions-clause-shown
returns-in_err-dimensions-clause-shown g c =
    IfOk-from_err c.from_residual.result _ c.from_residual.ensures.0

pub returns-in_err-dimensions-clause-refused : goal.returns-in_err-dimensions-clause-refused
unfolding IsReason
returns-in_err-dimensions-clause-refused g c =
    handed_on c.from_residual.result Memory
    (Refuses c.args.self.now.run.now.run) c.from_residual.ensures.1 tt

pub returns-in_err-places-clause-shown : goal.returns-in_err-places-clause-shown
returns-in_err-places-clause-shown g c =
    IfOk-from_err c.from_residual-in_err-places.result _ c.from_residual-in_err-places.ensures.0

pub returns-in_err-places-clause-refused : goal.returns-in_err-places-clause-refused
unfolding IsReason
returns-in_err-places-clause-refused g c =
    handed_on c.from_residual-in_err-places.result Memory
    (Refuses c.args.self.now.run.now.run) c.from_residual-in_err-places.ensures.1
    tt

pub returns-in-Ok-clause-shown : goal.returns-in-Ok-clause-shown
returns-in-Ok-clause-shown g c =
    let checked = c.args.self.now.run.now in
    let run = checked.run in
    moved (g.FriMmcs.Mmcs.authenticates run.params.now.mmcs) run.proof.now.first_layer_commitment
    run.proof.now.fri_proof.input_openings.first_layer_proof _ _ _ _ _ _
    (c.deref-2.ensures.value ∙ c.in_ok-dimensions.ensures
    ∙ ap (map pair_shape) (c.deref.ensures.value ∙ checked.claimed))
    (c.deref-3.ensures.value ∙ c.in_ok-places.ensures)
    (ap opened_rows c.deref-4.ensures.value ∙ c.args.self.now.asked) c.in-Ok.ensures.accepted

pub returns-in-Err-clause-refused : goal.returns-in-Err-clause-refused
unfolding IsReason
returns-in-Err-clause-refused g c = tt

pub returns-clause-refused : goal.returns-clause-refused
unfolding IsReason
returns-clause-refused g c = (
  sym c.is_memory.ensures ∙ c.if-is_memory.false,
  λ held.
      let checked = c.args.self.now.run.now in
      let memory =
      c.in-Err.ensures.refused
      (layer-asked checked.opened
      (g.FriMmcs.Mmcs.authenticates checked.run.params.now.mmcs) c.deref-2.result.now
      c.deref-3.result.now _
      (c.deref-2.ensures.value ∙ c.in_ok-dimensions.ensures
      ∙ ap (map pair_shape) (c.deref.ensures.value ∙ checked.claimed))
      (c.deref-3.ensures.value ∙ c.in_ok-places.ensures)
      (ap opened_rows c.deref-4.ensures.value ∙ c.args.self.now.asked) held) in
      absurd (true≢false (sym (c.is_memory.ensures ∙ memory) ∙ c.if-is_memory.false)),
)
