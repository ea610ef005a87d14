use Rattle.std.proofs.Common.{ℕ, ◌≡◌, ◌+◌, ◌/◌, ◌^◌, ◌<◌, ◌∙◌, sym, ap, length, slice_index_or}
use Rattle.std.proofs.Common.{slice_set, arith}
use Rattle.circle_field.specs.Field.{sub}
use Rattle.circle_point.specs.Basis.{doubled_x}
use Rattle.circle_commit.proofs.Written.{written, written-read, written-more, written-all}
use Rattle.circle_commit.proofs.Written.{length-pairwise, pairwise-read}
use Rattle.circle_commit.specs.DotProduct.{pairwise}
use Rattle.circle_folding.proofs.Queries.{signed, signed-even, signed-odd, next-twiddles}
use Rattle.circle_folding.proofs.query.next_x_twiddles.Goals as goal
use Rattle.circle_folding.proofs.query.next_x_twiddles.Goals.{then-pair-eq0, else-pair-eq0}

pub bounds-indices-i : goal.bounds-indices-i
bounds-indices-i g c = omega (arith, c.loop-i-test.true, c.requires.count)

pub offset_bounds-indices-i : goal.offset_bounds-indices-i
offset_bounds-indices-i g c = omega (arith, c.loop-i-test.true, c.requires.count)

pub overflow_shr-pair : goal.overflow_shr-pair
overflow_shr-pair g c = omega (arith, c.requires.round)

pub loop-i-preserved : goal.loop-i-preserved
loop-i-preserved g c =
    let k = g.F.Operations.ops in
    let qs = c.args.indices.now in
    let ts = c.args.twiddles.now in
    let i = c.loop-i.i in
    let t = c.index-twiddles-i.result in
    let v = c.if-pair-eq0.twiddle in
    let step = λ (q : ℕ) (t : g.row.F.Denot). signed k (q / 2 ^ (c.args.round + 2))
    (doubled_x k t) in
    let new = pairwise step qs ts in
    let of_queries : i < length qs = omega (arith, c.loop-i-test.true, c.requires.count) in
    let long : length new ≡ length ts = length-pairwise step qs ts (sym c.requires.count)
    ∙ sym c.requires.count in
    let read : slice_index_or ts i t ≡ t =
    sym (c.index-twiddles-i.is ∙ ap (λ xs. slice_index_or xs i t) c.loop-i.invariant
    ∙ written-read i new ts t long) in
    let pair = slice_index_or qs i 0 / 2 ^ (c.args.round + 2) in
    let doubled : c.sub-doubled.result ≡ doubled_x k t =
    g.met.F.Field.sub_law _ _ _ c.sub-doubled.ensures
    ∙ ap (λ x. sub k x c.ONE.result)
    (c.double.ensures
    ∙ ap (λ x. k.add x x) (c.square.ensures ∙ ap (λ x. k.mul x x) (sym c.index-twiddles-i.is)))
    ∙ ap (sub k (k.add (k.mul t t) (k.mul t t))) (c.ONE.ensures ∙ g.met.F.Field.one_law) in
    let made : v ≡ signed k pair (doubled_x k t) =
    elim c.if-pair-eq0.branch [
      | then-pair-eq0 w ↦ w.twiddle-is ∙ doubled
          ∙ sym (signed-even k pair (doubled_x k t) w.if-pair-eq0.true)
      | else-pair-eq0 w ↦ w.twiddle-is ∙ g.met.F.Field.neg_law _ _ w.neg.ensures ∙ ap k.neg doubled
          ∙ sym (signed-odd k pair (doubled_x k t) w.if-pair-eq0.false)
    ] in
    ap (λ xs. slice_set xs i v) c.loop-i.invariant
    ∙ ap (slice_set (written i new ts) i) (made ∙ ap (λ x. signed k pair (doubled_x k x)) (sym read)
    ∙ sym (pairwise-read step qs ts i 0 t v of_queries c.loop-i-test.true))
    ∙ written-more i new ts v long c.loop-i-test.true

pub returns : goal.returns
returns g c = λ h enough fits below before.
    let k = g.F.Operations.ops in
    let gen = g.F.ComplexExtendable.generators in
    let qs = c.args.indices.now in
    let ts = c.args.twiddles.now in
    let step = λ (q : ℕ) (t : g.row.F.Denot). signed k (q / 2 ^ (c.args.round + 2))
    (doubled_x k t) in
    let new = pairwise step qs ts in
    let long : length new ≡ length ts = length-pairwise step qs ts (sym c.requires.count)
    ∙ sym c.requires.count in
    c.loop-i.invariant ∙ written-all c.loop-i.i new ts long c.loop-i-test.false
    ∙ ap (pairwise step qs) before
    ∙ next-twiddles g.F.Operations.laws.ring g.met.F.ComplexExtendable.generators_law h
    c.args.round qs enough fits below
