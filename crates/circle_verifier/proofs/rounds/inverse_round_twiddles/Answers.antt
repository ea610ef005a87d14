use Rattle.std.proofs.Common.{◌≢◌, ◌+◌, ◌≤◌, ◌++◌, ◌∙◌, sym, ap, subst, length, arith, le_antisymm}
use Rattle.std.proofs.Common.{◌≡◌, map}
use Rattle.std.specs.Prelude.{All, IfOk}
use Rattle.std.proofs.lemmas.List.Elements.{All-append, All-nil}
use Rattle.std.proofs.lemmas.List.{length-map}
use Rattle.circle_field.proofs.Inverses.{take-whole}
use Rattle.circle_folding.specs.Chain.{round_twiddles, round_twiddle}
use Rattle.circle_folding.proofs.Queries.{round_twiddles-nonzero}
use Rattle.circle_verifier.specs.Rounds.{twiddles_from, inverses_from}
use Rattle.circle_verifier.proofs.Twiddles.{rounds-more}
use Rattle.circle_verifier.proofs.rounds.inverse_round_twiddles.Goals as goal

pub first_x_twiddles-requires-clause-height : goal.first_x_twiddles-requires-clause-height
first_x_twiddles-requires-clause-height g c = omega (arith, c.requires.rounds)

pub first_x_twiddles-requires-clause-in_group : goal.first_x_twiddles-requires-clause-in_group
first_x_twiddles-requires-clause-in_group g c = c.requires.in_group

pub first_x_twiddles-requires-clause-in_range : goal.first_x_twiddles-requires-clause-in_range
first_x_twiddles-requires-clause-in_range g c = c.requires.in_range

pub loop-round-init : goal.loop-round-init
loop-round-init g c =
    let nonzero = λ (t : g.row.F.Denot). t ≢ g.F.Operations.ops.zero in
    record {
      twiddles = c.in_ok-twiddles.ensures.items;
      of_round = c.in_ok-of_round.ensures;
      nonzero = subst (All nonzero) (sym c.in_ok-twiddles.ensures.items) (All-nil nonzero);
    }

pub next_x_twiddles-requires-clause-count : goal.next_x_twiddles-requires-clause-count
next_x_twiddles-requires-clause-count g c =
    let twiddle = round_twiddle g.F.Operations.ops g.F.ComplexExtendable.generators
    c.args.log_max_height c.loop-round.round in
    ap length (c.deref_mut.ensures.value ∙ c.loop-round.invariant.of_round)
    ∙ length-map c.args.indices.now twiddle

pub next_x_twiddles-requires-clause-round : goal.next_x_twiddles-requires-clause-round
next_x_twiddles-requires-clause-round g c =
    omega (
      arith,
      c.loop-round-test.true,
      c.requires.rounds,
      c.requires.in_group,
      g.met.F.ComplexExtendable.at_most_62,
    )

pub loop-round-preserved : goal.loop-round-preserved
loop-round-preserved g c =
    let k = g.F.Operations.ops in
    let gen = g.F.ComplexExtendable.generators in
    let h = c.args.log_max_height in
    let qs = c.args.indices.now in
    let n = c.loop-round.round in
    let now = c.loop-round.invariant in
    let was = c.loop-round.of_round in
    let next = c.next_x_twiddles.new.twiddles in
    let enough : n + 3 ≤ h = omega (arith, c.loop-round-test.true, c.requires.rounds) in
    let read = c.deref.ensures.value ∙ now.of_round in
    let longer = c.in_ok-extend_from_slice.ensures.items in
    let whole =
    take-whole was.len next was.items was.ok.0 (c.next_x_twiddles.auto.twiddles
    ∙ ap length c.deref_mut.ensures.value) in
    let others =
    subst (All (λ t. t ≢ k.zero)) (sym read)
    (round_twiddles-nonzero g.F.Operations.laws g.met.F.ComplexExtendable.generators_law h n qs
    (omega (arith, enough)) c.requires.in_group c.requires.in_range) in
    record {
      twiddles =
          longer ∙ ap (λ xs. xs ++ c.deref.result.now) now.twiddles
          ∙ ap (λ xs. twiddles_from k gen h qs 0 n ++ xs) read
          ∙ rounds-more (λ r. round_twiddles k gen h r qs) n;
      of_round = whole ∙ c.next_x_twiddles.ensures h enough c.requires.in_group c.requires.in_range
          (c.deref_mut.ensures.value ∙ now.of_round);
      nonzero =
          subst (All (λ t. t ≢ k.zero)) (sym longer)
          (All-append (λ t. t ≢ k.zero) c.loop-round.twiddles.items c.deref.result.now now.nonzero
          others);
    }

pub batch_multiplicative_inverse-requires : goal.batch_multiplicative_inverse-requires
batch_multiplicative_inverse-requires g c =
    subst (All (λ (t : g.row.F.Denot). t ≢ g.F.Operations.ops.zero)) (sym c.deref-2.ensures.value)
    c.loop-round.invariant.nonzero

pub returns : goal.returns
returns g c =
    let k = g.F.Operations.ops in
    let inverses = inverses_from k g.F.ComplexExtendable.generators c.args.log_max_height
    c.args.indices.now 0 in
    let last : c.loop-round.round ≡ c.args.rounds =
    le_antisymm c.loop-round.auto.round-end c.loop-round-test.false in
    subst (λ ts. IfOk c.batch_multiplicative_inverse.result (λ r. r.items ≡ ts))
    (ap (map k.inv) (c.deref-2.ensures.value ∙ c.loop-round.invariant.twiddles)
    ∙ ap inverses last)
    c.batch_multiplicative_inverse.ensures
