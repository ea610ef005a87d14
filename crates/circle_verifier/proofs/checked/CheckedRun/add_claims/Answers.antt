use Rattle.std.proofs.Common.{◌≡◌, ◌<◌, ◌≤◌, ◌∙◌, length, map, refl, sym, ap, subst, arith}
use Rattle.std.proofs.Common.{slice_index_or}
use Rattle.std.proofs.lemmas.List.{length-map, length_push}
use Rattle.std.proofs.lemmas.List.FromFn.{get_or-map-range_with_len}
use Rattle.circle_field.specs.Field.{nth_power}
use Rattle.circle_verifier.proofs.ReducedClaims.{IsRead, read, counted, all_claims, IsSummed}
use Rattle.circle_verifier.proofs.ReducedClaims.{summed-none, summed-more, summed-other}
use Rattle.circle_verifier.proofs.ReducedClaims.{meets-read, apart-all, adds-all}
use Rattle.circle_verifier.proofs.Rows.{turn-at, turns-end}
use Rattle.circle_verifier.proofs.checked.CheckedRun.add_claims.Given.{Over}
use Rattle.circle_verifier.proofs.checked.CheckedRun.add_claims.Goals as goal
use Rattle.circle_verifier.proofs.checked.CheckedRun.add_claims.Goals.{In-Some, In-None}

-- this turn's claim, and where its rows are
turn-here : (g : Over) (c : In-Some g) →
    let points = c.args.self.now.run.claimed_points.now in
    let rows = c.args.rows.now in
    let i = length c.loop-claim.yielded in
    (i < length points) × (i < length rows)
    × (c.in-Some.claim.now ≡ slice_index_or points i c.in-Some.claim.now)
    × (c.in-Some.place.now ≡ slice_index_or rows i c.in-Some.place.now)
turn-here g c =
    turn-at c.loop-claim.yielded _ c.next.new.self
    c.into_iter-claim-iterator.ensures.into_iter_gives c.zip-claim-items.ensures.first
    c.iter.ensures.rest c.zip-claim-items.ensures.second.0 c.loop-claim.yielded_by c.in-Some.is
    c.next.ensures.steps

read-here : (g : Over) (c : In-Some g) →
    IsRead c.args.self.now c.in-Some.claim.now c.in-Some.place.now (length c.loop-claim.yielded)
read-here g c =
    let turn = turn-here g c in
    read c.args.self.now c.in-Some.claim.now c.in-Some.place.now (length c.loop-claim.yielded)
    c.args.rows.now c.requires.rows turn.0 turn.1 turn.2 turn.3

enough-here : (g : Over) (c : In-Some g) →
    length c.in-Some.claim.now.1.now < length c.args.word.now.powers.now
enough-here g c =
    let turn = turn-here g c in
    subst (λ d. length d.1.now < length c.args.word.now.powers.now) (sym turn.2)
    (c.requires.enough (length c.loop-claim.yielded) c.in-Some.claim.now turn.0)

all-done : (g : Over) (c : In-None g) →
    length (all_claims c.args.self.now) ≤ length c.loop-claim.yielded
all-done g c =
    let last = turns-end c.loop-claim.yielded _ c.next.new.self
    c.into_iter-claim-iterator.ensures.into_iter_gives c.zip-claim-items.ensures.first
    c.iter.ensures.rest c.zip-claim-items.ensures.second.0 c.loop-claim.yielded_by c.in-None.is
    c.next.ensures.steps in
    let long = counted c.args.self.now c.args.rows.now c.requires.rows in
    omega (arith, last, long.0, long.1)

pub loop-claim-init : goal.loop-claim-init
loop-claim-init g c =
    summed-none c.args.self.now c.args.word.now c.ONE-offset.result c.args.sums.now
    (c.ONE-offset.ensures ∙ g.met.EF.Field.one_law)

pub add_quotients-requires-clause-points : goal.add_quotients-requires-clause-points
add_quotients-requires-clause-points g c = c.requires.points ∙ sym c.loop-claim.invariant.counted

pub add_quotients-requires-clause-opened : goal.add_quotients-requires-clause-opened
add_quotients-requires-clause-opened g c =
    let here = read-here g (goal.at.add_quotients-requires-clause-opened g c).In-Some in
    sym (length-map c.in-Some.place.now.opened.now (λ rs. map (λ row. row.items) rs.items))
    ∙ here.fits.0 ∙ c.requires.queries ∙ sym c.loop-claim.invariant.counted

pub add_quotients-requires-clause-rows : goal.add_quotients-requires-clause-rows
add_quotients-requires-clause-rows g c =
    (read-here g (goal.at.add_quotients-requires-clause-rows g c).In-Some).fits.1

pub add_quotients-requires-clause-enough : goal.add_quotients-requires-clause-enough
add_quotients-requires-clause-enough g c =
    enough-here g (goal.at.add_quotients-requires-clause-enough g c).In-Some

pub returns-in_err-add_quotients-clause-none : goal.returns-in_err-add_quotients-clause-none
returns-in_err-add_quotients-clause-none g c = λ none.
    meets-read c.args.self.now c.args.word.now
    (read-here g (goal.at.returns-in_err-add_quotients-clause-none g c).In-Some)
    c.if-place-word.true (c.in_err-add_quotients.ensures.none refl)

pub bounds-word-values : goal.bounds-word-values
bounds-word-values g c = enough-here g (goal.at.bounds-word-values g c).In-Some

pub mul-requires : goal.mul-requires
mul-requires g c = g.met.EF.Field.can_mul_law c.loop-claim.offset
    (slice_index_or c.args.word.now.powers.now (length c.in-Some.claim.now.1.now)
    c.index-word-values.result)

pub mul-offset-requires : goal.mul-offset-requires
mul-offset-requires g c = g.met.EF.Field.can_mul_law c.mul.result
    (slice_index_or c.args.word.now.powers.now (length c.in-Some.claim.now.1.now)
    c.index-word-values.result)

pub loop-claim-preserved-then-place-word : goal.loop-claim-preserved-then-place-word
loop-claim-preserved-then-place-word g c =
    let o = c.args.self.now in
    let l = g.EF.Operations.ops in
    let powers = c.args.word.now.powers.now in
    let in_some = (goal.at.loop-claim-preserved-then-place-word g c).In-Some in
    let w = length c.in-Some.claim.now.1.now in
    let p = c.index-word-values.result in
    let power : p ≡ nth_power l o.run.alpha w =
    c.index-word-values.is ∙ ap (λ ws. slice_index_or ws w p) c.requires.powers
    ∙ get_or-map-range_with_len (nth_power l o.run.alpha) 0 (length powers) w w p
    (enough-here g in_some) (omega arith) in
    let after : c.mul-offset.result ≡ l.mul (l.mul c.loop-claim.offset p) p =
    g.met.EF.Field.mul_law _ _ _ c.mul-offset.ensures
    ∙ ap (l.mul c.mul.result) (sym c.index-word-values.is)
    ∙ ap (λ o. l.mul o p) (g.met.EF.Field.mul_law _ _ _ c.mul.ensures
    ∙ ap (l.mul c.loop-claim.offset) (sym c.index-word-values.is)) in
    subst (λ k. IsSummed o c.args.word.now k c.mul-offset.result c.args.sums.now
    c.add_quotients.new.sums)
    (sym (length_push c.loop-claim.yielded (c.in-Some.claim, c.in-Some.place)))
    (summed-more o c.args.word.now (read-here g in_some) c.loop-claim.offset c.args.sums.now
    c.loop-claim.sums c.loop-claim.invariant p c.mul-offset.result c.add_quotients.new.sums
    g.EF.Operations.laws.ring c.if-place-word.true c.in_ok-add_quotients.ensures.apart power after
    c.requires.points c.requires.queries
    (c.in_ok-add_quotients.ensures.sums o.run.alpha c.requires.powers)
    c.add_quotients.auto.sums)

pub loop-claim-preserved : goal.loop-claim-preserved
loop-claim-preserved g c =
    let o = c.args.self.now in
    subst
    (λ k. IsSummed o c.args.word.now k c.loop-claim.offset c.args.sums.now c.loop-claim.sums)
    (sym (length_push c.loop-claim.yielded (c.in-Some.claim, c.in-Some.place)))
    (summed-other o c.args.word.now (read-here g (goal.at.loop-claim-preserved g c).In-Some)
    c.loop-claim.offset c.args.sums.now c.loop-claim.sums c.loop-claim.invariant
    c.if-place-word.false)

pub returns-clause-apart : goal.returns-clause-apart
returns-clause-apart g c =
    apart-all c.args.self.now c.args.word.now (length c.loop-claim.yielded) c.loop-claim.offset
    c.args.sums.now c.loop-claim.sums (all-done g (goal.at.returns-clause-apart g c).In-None)
    c.loop-claim.invariant

pub returns-clause-sums : goal.returns-clause-sums
returns-clause-sums g c =
    adds-all c.args.self.now c.args.word.now (length c.loop-claim.yielded) c.loop-claim.offset
    c.args.sums.now c.loop-claim.sums (all-done g (goal.at.returns-clause-sums g c).In-None)
    c.requires.queries c.loop-claim.invariant
