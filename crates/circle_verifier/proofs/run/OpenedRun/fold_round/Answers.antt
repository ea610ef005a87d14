use Rattle.std.proofs.Common.{◌≡◌, ◌∙◌, ℕ, ◌+◌, ◌<◌, ◌≤◌, Fits, w64, Vec, Global, refl, sym, ap}
use Rattle.std.proofs.Common.{subst, length, map, slice_index_or, arith}
use Rattle.std.proofs.lemmas.List.{get_or_default, length-map}
use Rattle.std.specs.List.{All}
use Rattle.std.proofs.lemmas.Result.{IfOk-from_err}
use Rattle.circle_commit.specs.declared.error.FriError.TheVariants.{Memory}
use Rattle.circle_folding.specs.Chain.{round_twiddle, round_twiddles}
use Rattle.circle_folding.proofs.Queries.{round_twiddles-nonzero}
use Rattle.circle_verifier.specs.OfRun.{Refuses}
use Rattle.circle_relation.specs.Reasons.{IsReason}
use Rattle.circle_verifier.proofs.RoundsValues.{length-values_in, length-siblings_in, folds-of}
use Rattle.circle_verifier.proofs.RoundsValues.{round-within}
use Rattle.circle_verifier.proofs.RoundsOpened.{of-steps, one-sibling, siblings-are}
use Rattle.circle_verifier.proofs.ReducedValues.{handed_on}
use Rattle.circle_verifier.proofs.run.OpenedRun.fold_round.Goals as goal

module _ (n top two : ℕ) (deep : n + 3 ≤ top) (below : top < two) (few : two ≤ 62) where
  one-fits : Fits w64 (n + 1)
  one-fits = omega arith

  one-low : n + 1 < 63
  one-low = omega arith

pub index-opening-requires : goal.index-opening-requires
index-opening-requires g c =
    omega (
      arith,
      of-steps c.args.self.now c.args.round c.requires.round,
      c.args.self.now.proof.now.fri_proof.commit_phase_openings.ok.0,
    )

pub first_entries-requires : goal.first_entries-requires
first_entries-requires g c =
    subst (λ rows. All (λ row. length row ≡ 1) (map (λ row. row.items) rows))
    (sym c.deref.ensures.value)
    (one-sibling c.args.self.now c.args.round c.requires.round
    c.index-opening.result.now c.index-opening.ensures)

pub returns-in_err-siblings-clause-folded : goal.returns-in_err-siblings-clause-folded
returns-in_err-siblings-clause-folded g c =
    IfOk-from_err c.from_residual.result _ c.from_residual.ensures.0

pub returns-in_err-siblings-clause-shown : goal.returns-in_err-siblings-clause-shown
returns-in_err-siblings-clause-shown g c =
    IfOk-from_err c.from_residual.result _ c.from_residual.ensures.0

pub returns-in_err-siblings-clause-refused : goal.returns-in_err-siblings-clause-refused
unfolding IsReason
returns-in_err-siblings-clause-refused g c =
    handed_on c.from_residual.result Memory
    (Refuses c.args.self.now) c.from_residual.ensures.1 tt

pub authenticate_round-requires-clause-round : goal.authenticate_round-requires-clause-round
authenticate_round-requires-clause-round g c = c.requires.round

pub authenticate_round-requires-clause-values : goal.authenticate_round-requires-clause-values
authenticate_round-requires-clause-values g c = c.requires.values

pub authenticate_round-requires-clause-siblings : goal.authenticate_round-requires-clause-siblings
authenticate_round-requires-clause-siblings g c =
    let head : Vec g.row.EF.Denot Global → g.row.EF.Denot =
    λ row. slice_index_or row.items 0 g.EF.Operations.ops.zero in
    let o = c.args.self.now in
    let are = c.in_ok-siblings.ensures ∙ ap (map head) c.deref.ensures.value
    ∙ siblings-are o c.args.round c.requires.round
    c.index-opening.result.now c.index-opening.ensures in
    c.deref-2.ensures.value ∙ are

pub
    returns-in_err-authenticate_round-clause-folded :
    goal.returns-in_err-authenticate_round-clause-folded
returns-in_err-authenticate_round-clause-folded g c =
    IfOk-from_err c.from_residual-in_err-authenticate_round.result _
    c.from_residual-in_err-authenticate_round.ensures.0

pub
    returns-in_err-authenticate_round-clause-shown :
    goal.returns-in_err-authenticate_round-clause-shown
returns-in_err-authenticate_round-clause-shown g c =
    IfOk-from_err c.from_residual-in_err-authenticate_round.result _
    c.from_residual-in_err-authenticate_round.ensures.0

pub
    returns-in_err-authenticate_round-clause-refused :
    goal.returns-in_err-authenticate_round-clause-refused
returns-in_err-authenticate_round-clause-refused g c =
    handed_on c.from_residual-in_err-authenticate_round.result c.in_err-authenticate_round.field-0.0
    (Refuses c.args.self.now)
    c.from_residual-in_err-authenticate_round.ensures.1 c.in_err-authenticate_round.ensures.refused

pub overflow_add-bits : goal.overflow_add-bits
overflow_add-bits g c =
    let o = c.args.self.now in
    one-fits c.args.round o.log_max_height g.Val.ComplexExtendable.CIRCLE_TWO_ADICITY
    (round-within o c.args.round c.requires.round)
    o.drawn.in_group g.met.Val.ComplexExtendable.at_most_62

pub
    fold_query_values_with_inv_twiddles-requires-clause-inverses :
    goal.fold_query_values_with_inv_twiddles-requires-clause-inverses
fold_query_values_with_inv_twiddles-requires-clause-inverses g c =
    let o = c.args.self.now in
    let k = g.Val.Operations.ops in
    let twiddle = round_twiddle k g.Val.ComplexExtendable.generators o.log_max_height
    c.args.round in
    ap length c.requires.inverses ∙ length-map (map twiddle o.indices.now) k.inv
    ∙ length-map o.indices.now twiddle

pub
    fold_query_values_with_inv_twiddles-requires-clause-values :
    goal.fold_query_values_with_inv_twiddles-requires-clause-values
fold_query_values_with_inv_twiddles-requires-clause-values g c = ap length c.requires.values
    ∙ length-values_in c.args.self.now c.args.round

pub
    fold_query_values_with_inv_twiddles-requires-clause-siblings :
    goal.fold_query_values_with_inv_twiddles-requires-clause-siblings
fold_query_values_with_inv_twiddles-requires-clause-siblings g c =
    let head : Vec g.row.EF.Denot Global → g.row.EF.Denot =
    λ row. slice_index_or row.items 0 g.EF.Operations.ops.zero in
    let o = c.args.self.now in
    let are = c.in_ok-siblings.ensures ∙ ap (map head) c.deref.ensures.value
    ∙ siblings-are o c.args.round c.requires.round
    c.index-opening.result.now c.index-opening.ensures in
    ap length (c.deref-3.ensures.value ∙ are) ∙ length-siblings_in o c.args.round

pub
    fold_query_values_with_inv_twiddles-requires-clause-bits :
    goal.fold_query_values_with_inv_twiddles-requires-clause-bits
fold_query_values_with_inv_twiddles-requires-clause-bits g c =
    let o = c.args.self.now in
    one-low c.args.round o.log_max_height g.Val.ComplexExtendable.CIRCLE_TWO_ADICITY
    (round-within o c.args.round c.requires.round)
    o.drawn.in_group g.met.Val.ComplexExtendable.at_most_62

pub returns-clause-folded : goal.returns-clause-folded
returns-clause-folded g c =
    let head : Vec g.row.EF.Denot Global → g.row.EF.Denot =
    λ row. slice_index_or row.items 0 g.EF.Operations.ops.zero in
    let o = c.args.self.now in
    let are = c.in_ok-siblings.ensures ∙ ap (map head) c.deref.ensures.value
    ∙ siblings-are o c.args.round c.requires.round
    c.index-opening.result.now c.index-opening.ensures in
    let beta = c.index-self-round.result in
    let enough = round-within o c.args.round c.requires.round in
    let twiddles = round_twiddles g.Val.Operations.ops g.Val.ComplexExtendable.generators
    o.log_max_height c.args.round o.indices.now in
    let nonzero =
    round_twiddles-nonzero g.Val.Operations.laws g.met.Val.ComplexExtendable.generators_law
    o.log_max_height c.args.round o.indices.now (omega (arith, enough))
    o.drawn.in_group o.drawn.below in
    c.fold_query_values_with_inv_twiddles.ensures twiddles nonzero c.requires.inverses
    ∙ folds-of o c.args.round (slice_index_or o.betas.now c.args.round beta) twiddles
    c.args.values.now c.deref-3.result.now
    (get_or_default o.betas.now c.args.round beta g.EF.Operations.ops.zero c.requires.round) refl
    c.requires.values (c.deref-3.ensures.value ∙ are)

pub returns-clause-shown : goal.returns-clause-shown
returns-clause-shown g c = c.in_ok-authenticate_round.ensures.shown
