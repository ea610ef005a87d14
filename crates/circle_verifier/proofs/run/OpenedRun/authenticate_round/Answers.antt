use Rattle.std.proofs.Common.{◌≡◌, ◌∙◌, ℕ, ◌+◌, ◌-◌, ◌<◌, ◌≤◌, Fits, w64, sym, ap, true, true≢false}
use Rattle.std.proofs.Common.{length, arith}
use Rattle.std.proofs.lemmas.Result.{IfOk-from_err}
use Rattle.circle_commit.specs.Mmcs.{opened_rows}
use Rattle.circle_commit.specs.declared.error.FriError.TheVariants.{Memory}
use Rattle.circle_relation.specs.Reasons.{IsReason}
use Rattle.circle_verifier.specs.OfRun.{Refuses}
use Rattle.circle_verifier.proofs.RoundsValues.{length-values_in, length-siblings_in, asked-rows}
use Rattle.circle_verifier.proofs.RoundsValues.{round-within}
use Rattle.circle_verifier.proofs.RoundsOpened.{shifted-one, of-steps, shown-round, round-shown}
use Rattle.circle_verifier.proofs.RoundsOpened.{of-commits}
use Rattle.circle_verifier.proofs.ReducedValues.{handed_on}
use Rattle.circle_verifier.proofs.run.OpenedRun.authenticate_round.Goals as goal

-- what a round below the greatest height fits into
module _ (n top two : ℕ) (deep : n + 3 ≤ top) (below : top < two) (few : two ≤ 62) where
  one-fits : Fits w64 (n + 1)
  one-fits = omega arith

  two-fits : Fits w64 (n + 2)
  two-fits = omega arith

  one-low : n + 1 < 63
  one-low = omega arith

  two-low : n + 2 < 64
  two-low = omega arith

  shift-low : top - 2 - n < 64
  shift-low = omega arith

pub overflow_add-round : goal.overflow_add-round
overflow_add-round g c =
    let o = c.args.self.now in
    one-fits c.args.round o.log_max_height g.Val.ComplexExtendable.CIRCLE_TWO_ADICITY
    (round-within o c.args.round c.requires.round)
    o.drawn.in_group g.met.Val.ComplexExtendable.at_most_62

pub query_pairs-requires-clause-values : goal.query_pairs-requires-clause-values
query_pairs-requires-clause-values g c = ap length c.requires.values ∙ length-values_in
    c.args.self.now c.args.round

pub query_pairs-requires-clause-siblings : goal.query_pairs-requires-clause-siblings
query_pairs-requires-clause-siblings g c = ap length c.requires.siblings ∙ length-siblings_in
    c.args.self.now c.args.round

pub query_pairs-requires-clause-bits : goal.query_pairs-requires-clause-bits
query_pairs-requires-clause-bits g c =
    let o = c.args.self.now in
    one-low c.args.round o.log_max_height g.Val.ComplexExtendable.CIRCLE_TWO_ADICITY
    (round-within o c.args.round c.requires.round)
    o.drawn.in_group g.met.Val.ComplexExtendable.at_most_62

pub returns-in_err-pairs-clause-shown : goal.returns-in_err-pairs-clause-shown
returns-in_err-pairs-clause-shown g c =
    IfOk-from_err c.from_residual.result _ c.from_residual.ensures.0

pub returns-in_err-pairs-clause-refused : goal.returns-in_err-pairs-clause-refused
unfolding IsReason
returns-in_err-pairs-clause-refused g c =
    handed_on c.from_residual.result Memory
    (Refuses c.args.self.now) c.from_residual.ensures.1 tt

pub overflow_add-round-2 : goal.overflow_add-round-2
overflow_add-round-2 g c =
    let o = c.args.self.now in
    two-fits c.args.round o.log_max_height g.Val.ComplexExtendable.CIRCLE_TWO_ADICITY
    (round-within o c.args.round c.requires.round)
    o.drawn.in_group g.met.Val.ComplexExtendable.at_most_62

pub without_bits-requires : goal.without_bits-requires
without_bits-requires g c =
    let o = c.args.self.now in
    two-low c.args.round o.log_max_height g.Val.ComplexExtendable.CIRCLE_TWO_ADICITY
    (round-within o c.args.round c.requires.round)
    o.drawn.in_group g.met.Val.ComplexExtendable.at_most_62

pub returns-in_err-places-clause-shown : goal.returns-in_err-places-clause-shown
returns-in_err-places-clause-shown g c =
    IfOk-from_err c.from_residual-in_err-places.result _ c.from_residual-in_err-places.ensures.0

pub returns-in_err-places-clause-refused : goal.returns-in_err-places-clause-refused
unfolding IsReason
returns-in_err-places-clause-refused g c =
    handed_on c.from_residual-in_err-places.result Memory
    (Refuses c.args.self.now) c.from_residual-in_err-places.ensures.1 tt

pub overflow_sub-shape : goal.overflow_sub-shape
overflow_sub-shape g c =
    omega (
      arith,
      round-within
          c.args.self.now c.args.round c.requires.round,
    )

pub overflow_sub-shape-2 : goal.overflow_sub-shape-2
overflow_sub-shape-2 g c =
    omega (
      arith,
      round-within
          c.args.self.now c.args.round c.requires.round,
    )

pub overflow_shl-shape : goal.overflow_shl-shape
overflow_shl-shape g c =
    let o = c.args.self.now in
    shift-low c.args.round o.log_max_height g.Val.ComplexExtendable.CIRCLE_TWO_ADICITY
    (round-within o c.args.round c.requires.round)
    o.drawn.in_group g.met.Val.ComplexExtendable.at_most_62

pub index-commitment-requires : goal.index-commitment-requires
index-commitment-requires g c =
    let o = c.args.self.now in
    omega (
      arith,
      of-commits o c.args.round c.requires.round,
      o.proof.now.fri_proof.commit_phase_commits.ok.0,
    )

pub index-requires : goal.index-requires
index-requires g c =
    let o = c.args.self.now in
    omega (
      arith,
      of-steps o c.args.round c.requires.round,
      o.proof.now.fri_proof.commit_phase_openings.ok.0,
    )

pub returns-in-Ok-clause-shown : goal.returns-in-Ok-clause-shown
returns-in-Ok-clause-shown g c =
    let o = c.args.self.now in
    let n = c.args.round in
    let rows = c.in_ok-pairs.ensures ∙ asked-rows o n c.args.values.now c.args.siblings.now
    c.requires.values c.requires.siblings in
    shown-round o n c.requires.round c.index-commitment.result.now
    c.index.result.now c.index-commitment.ensures c.index.ensures
    _ c.deref.result.now (opened_rows c.deref-2.result.now)
    (shifted-one (o.log_max_height - 2 - n)
    (omega (arith, o.drawn.in_group, g.met.Val.ComplexExtendable.at_most_62)))
    (c.deref.ensures.value ∙ c.in_ok-places.ensures) (ap opened_rows c.deref-2.ensures.value
    ∙ rows)
    c.in-Ok.ensures.accepted

pub returns-clause-refused : goal.returns-clause-refused
unfolding IsReason
returns-clause-refused g c = (
  sym c.is_memory.ensures ∙ c.if-is_memory.false,
  λ all.
      let o = c.args.self.now in
      let n = c.args.round in
      let rows = c.in_ok-pairs.ensures ∙ asked-rows o n c.args.values.now c.args.siblings.now
      c.requires.values c.requires.siblings in
      let told = round-shown o n c.requires.round c.index-commitment.result.now
      c.index.result.now c.index-commitment.ensures c.index.ensures
      _ c.deref.result.now (opened_rows c.deref-2.result.now)
      (shifted-one (o.log_max_height - 2 - n)
      (omega (arith, o.drawn.in_group, g.met.Val.ComplexExtendable.at_most_62)))
      (c.deref.ensures.value ∙ c.in_ok-places.ensures) (ap opened_rows c.deref-2.ensures.value
      ∙ rows)
      all in
      let memory : c.is_memory.result ≡ true = c.is_memory.ensures
      ∙ c.in-Err.ensures.refused told in
      absurd (true≢false (sym memory ∙ c.if-is_memory.false)),
)
