use Rattle.std.proofs.Common.{◌≡◌, ◌<◌, ◌++◌, ◌∙◌, List, Vec, Global, refl, sym, ap, subst, length}
use Rattle.std.proofs.Common.{map, take, drop, arith}
use Rattle.std.specs.Prelude.{All}
use Rattle.std.specs.Vec.{with_items}
use Rattle.std.proofs.lemmas.List.{length-map}
use Rattle.std.proofs.lemmas.Result.{IfOk-from_err}
use Rattle.circle_field.proofs.Inverses.{take-whole}
use Rattle.circle_point.specs.Point.{coordinates}
use Rattle.circle_commit.specs.Mmcs.{opened_rows}
use Rattle.circle_folding.specs.Chain.{first_layer_twiddle}
use Rattle.circle_folding.proofs.FirstLayer.{first_layer_twiddles-nonzero}
use Rattle.circle_verifier.specs.FirstLayer.{with_pairs}
use Rattle.circle_verifier.proofs.FirstLayerRun.{claimed, height-within, height-large, lambda-there}
use Rattle.circle_verifier.proofs.FirstLayerRun.{siblings-there, siblings-read, counted}
use Rattle.circle_verifier.proofs.FirstLayerRun.{values-made, pairs-made, folds-made}
use Rattle.circle_verifier.proofs.checked.CheckedRun.fold_word.Goals as goal

pub entries_at-requires : goal.entries_at-requires
entries_at-requires g c =
    let w = claimed c.args.self.now.run c.args.self.now.opened c.args.place _ c.requires.place in
    let Within : List (Vec g.row.EF.Denot Global) → Type 0 =
    λ lists. All (λ list. c.args.place < length list.items) lists in
    subst Within (sym c.deref.ensures.value) (siblings-there w)

pub returns-in_err-siblings-clause-pairs : goal.returns-in_err-siblings-clause-pairs
returns-in_err-siblings-clause-pairs g c =
    IfOk-from_err c.from_residual.result _ c.from_residual.ensures.0

pub returns-in_err-siblings-clause-folded : goal.returns-in_err-siblings-clause-folded
returns-in_err-siblings-clause-folded g c =
    IfOk-from_err c.from_residual.result _ c.from_residual.ensures.0

pub overflow_sub-degree : goal.overflow_sub-degree
overflow_sub-degree g c =
    let w = claimed c.args.self.now.run c.args.self.now.opened c.args.place _ c.requires.place in
    omega (arith, height-large w)

pub index-requires : goal.index-requires
index-requires g c =
    let w = claimed c.args.self.now.run c.args.self.now.opened c.args.place _ c.requires.place in
    omega (arith, lambda-there w, c.args.self.now.run.proof.now.lambdas.ok.0)

pub subtract_vanishing-requires-clause-points : goal.subtract_vanishing-requires-clause-points
subtract_vanishing-requires-clause-points g c =
    let w = claimed c.args.self.now.run c.args.self.now.opened c.args.place _ c.requires.place in
    let points = c.args.word.points.items in
    ap length c.deref-2.ensures.value ∙ sym (length-map points coordinates)
    ∙ counted w (map coordinates points) _ (ap (λ p. p.1.0) c.requires.word)
    ∙ sym (ap length c.deref_mut.ensures.value
    ∙ counted w c.args.word.values.items _ (ap (λ p. p.1.1) c.requires.word))

pub subtract_vanishing-requires-clause-positive : goal.subtract_vanishing-requires-clause-positive
subtract_vanishing-requires-clause-positive g c =
    let w = claimed c.args.self.now.run c.args.self.now.opened c.args.place _ c.requires.place in
    omega (arith, height-large w)

pub overflow_sub-bits : goal.overflow_sub-bits
overflow_sub-bits g c =
    let w = claimed c.args.self.now.run c.args.self.now.opened c.args.place _ c.requires.place in
    height-within w

pub push_query_pairs-requires-clause-rows : goal.push_query_pairs-requires-clause-rows
push_query_pairs-requires-clause-rows g c = c.requires.rows

pub push_query_pairs-requires-clause-values : goal.push_query_pairs-requires-clause-values
push_query_pairs-requires-clause-values g c =
    let w = claimed c.args.self.now.run c.args.self.now.opened c.args.place _ c.requires.place in
    let old = c.args.word.values in
    let new = c.subtract_vanishing.new.values in
    let same : length new ≡ length old.items = c.subtract_vanishing.auto.values
    ∙ ap length c.deref_mut.ensures.value in
    ap length (c.deref-3.ensures.value ∙ take-whole old.len new old.items old.ok.0 same)
    ∙ same ∙ counted w old.items _ (ap (λ p. p.1.1) c.requires.word)

pub push_query_pairs-requires-clause-siblings : goal.push_query_pairs-requires-clause-siblings
push_query_pairs-requires-clause-siblings g c =
    let w = claimed c.args.self.now.run c.args.self.now.opened c.args.place _ c.requires.place in
    counted w c.deref-4.result.now _
    (siblings-read w c.deref-4.ensures.value c.in_ok-siblings.ensures c.deref.ensures.value)

pub push_query_pairs-requires-clause-bits : goal.push_query_pairs-requires-clause-bits
push_query_pairs-requires-clause-bits g c =
    omega (arith, c.args.self.now.run.drawn.in_group, g.met.Val.ComplexExtendable.at_most_62)

pub returns-in_err-push_query_pairs-clause-pairs : goal.returns-in_err-push_query_pairs-clause-pairs
returns-in_err-push_query_pairs-clause-pairs g c =
    IfOk-from_err c.from_residual-in_err-push_query_pairs.result _
    c.from_residual-in_err-push_query_pairs.ensures.0

pub
    returns-in_err-push_query_pairs-clause-folded :
    goal.returns-in_err-push_query_pairs-clause-folded
returns-in_err-push_query_pairs-clause-folded g c =
    IfOk-from_err c.from_residual-in_err-push_query_pairs.result _
    c.from_residual-in_err-push_query_pairs.ensures.0

pub
    fold_query_values_with_inv_twiddles-requires-clause-inverses :
    goal.fold_query_values_with_inv_twiddles-requires-clause-inverses
fold_query_values_with_inv_twiddles-requires-clause-inverses g c =
    let o = c.args.self.now.run in
    let k = g.Val.Operations.ops in
    let twiddle = first_layer_twiddle k g.Val.ComplexExtendable.generators c.args.word.log_height
    o.log_max_height in
    ap length c.requires.inverses ∙ length-map (map twiddle o.indices.now) k.inv
    ∙ length-map o.indices.now twiddle

pub
    fold_query_values_with_inv_twiddles-requires-clause-values :
    goal.fold_query_values_with_inv_twiddles-requires-clause-values
fold_query_values_with_inv_twiddles-requires-clause-values g c =
    let w = claimed c.args.self.now.run c.args.self.now.opened c.args.place _ c.requires.place in
    let old = c.args.word.values in
    let new = c.subtract_vanishing.new.values in
    let same : length new ≡ length old.items = c.subtract_vanishing.auto.values
    ∙ ap length c.deref_mut.ensures.value in
    ap length (c.deref_mut-2.ensures.value ∙ take-whole old.len new old.items old.ok.0 same)
    ∙ same ∙ counted w old.items _ (ap (λ p. p.1.1) c.requires.word)

pub
    fold_query_values_with_inv_twiddles-requires-clause-siblings :
    goal.fold_query_values_with_inv_twiddles-requires-clause-siblings
fold_query_values_with_inv_twiddles-requires-clause-siblings g c =
    let w = claimed c.args.self.now.run c.args.self.now.opened c.args.place _ c.requires.place in
    counted w c.deref-5.result.now _
    (siblings-read w c.deref-5.ensures.value c.in_ok-siblings.ensures c.deref.ensures.value)

pub
    fold_query_values_with_inv_twiddles-requires-clause-bits :
    goal.fold_query_values_with_inv_twiddles-requires-clause-bits
fold_query_values_with_inv_twiddles-requires-clause-bits g c =
    omega (arith, c.args.self.now.run.drawn.in_group, g.met.Val.ComplexExtendable.at_most_62)

pub returns-clause-pairs : goal.returns-clause-pairs
returns-clause-pairs g c =
    let w = claimed c.args.self.now.run c.args.self.now.opened c.args.place _ c.requires.place in
    let old = c.args.word.values in
    let new = c.subtract_vanishing.new.values in
    let same : length new ≡ length old.items = c.subtract_vanishing.auto.values
    ∙ ap length c.deref_mut.ensures.value in
    let made =
    pairs-made w
    (c.deref-3.ensures.value ∙ take-whole old.len new old.items old.ok.0 same
    ∙ values-made w c.requires.word (ap (map coordinates) c.deref-2.ensures.value)
    c.deref_mut.ensures.value c.index.ensures c.subtract_vanishing.ensures)
    (siblings-read w c.deref-4.ensures.value c.in_ok-siblings.ensures c.deref.ensures.value) in
    c.in_ok-push_query_pairs.ensures ∙ ap (with_pairs (opened_rows c.args.rows.now)) made

pub returns-clause-folded : goal.returns-clause-folded
returns-clause-folded g c =
    let w = claimed c.args.self.now.run c.args.self.now.opened c.args.place _ c.requires.place in
    let old = c.args.word.values in
    let new = c.subtract_vanishing.new.values in
    let same : length new ≡ length old.items = c.subtract_vanishing.auto.values
    ∙ ap length c.deref_mut.ensures.value in
    let made =
    pairs-made w
    (c.deref_mut-2.ensures.value ∙ take-whole old.len new old.items old.ok.0 same
    ∙ values-made w c.requires.word (ap (map coordinates) c.deref-2.ensures.value)
    c.deref_mut.ensures.value c.index.ensures c.subtract_vanishing.ensures)
    (siblings-read w c.deref-5.ensures.value c.in_ok-siblings.ensures c.deref.ensures.value) in
    let folds = c.fold_query_values_with_inv_twiddles.new.values in
    let changed = with_items old new in
    let kept : take changed.len (folds ++ drop (length folds) changed.items) ≡ folds =
    take-whole changed.len folds changed.items changed.ok.0
    (c.fold_query_values_with_inv_twiddles.auto.values
    ∙ ap length c.deref_mut-2.ensures.value) in
    let run = c.args.self.now.run in
    let within = height-within w in
    let twiddles =
    map
    (first_layer_twiddle g.Val.Operations.ops g.Val.ComplexExtendable.generators
    c.args.word.log_height run.log_max_height) run.indices.now in
    let nonzero =
    first_layer_twiddles-nonzero g.Val.Operations.laws g.met.Val.ComplexExtendable.generators_law
    c.args.word.log_height run.log_max_height run.indices.now
    (omega (arith, height-large w)) within
    (omega (arith, within, run.drawn.in_group)) run.drawn.below in
    let folds-are =
    c.fold_query_values_with_inv_twiddles.ensures twiddles nonzero c.requires.inverses in
    ap (λ xs. (c.args.word.log_height, xs)) (kept ∙ folds-are ∙ folds-made w refl made)
