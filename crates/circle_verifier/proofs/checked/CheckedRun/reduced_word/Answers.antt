use Rattle.std.proofs.Common.{◌≡◌, ℕ, ◌<◌, ◌∙◌, refl, sym, ap, subst, length, map, arith}
use Rattle.std.proofs.Common.{slice_index_or, replicate, lt_of_le_of_lt, le_trans, le_of_lt}
use Rattle.std.specs.Prelude.{zip}
use Rattle.std.specs.Vec.{with_items}
use Rattle.std.proofs.lemmas.List.{length-map, length-replicate, get_or-replicate, with_items_is}
use Rattle.std.proofs.lemmas.Result.{IfOk-from_err}
use Rattle.circle_field.specs.Circle.{origin}
use Rattle.circle_point.specs.Point.{coordinates}
use Rattle.circle_commit.specs.declared.error.FriError.TheVariants.{Memory}
use Rattle.circle_folding.specs.Queries.{query_point}
use Rattle.circle_relation.specs.Statement.{all_matrices}
use Rattle.circle_relation.specs.Accepts.{top, at_queries, point_among}
use Rattle.circle_relation.specs.Reasons.{IsReason}
use Rattle.circle_verifier.specs.OfRun.{fields_of, run_of, Refuses}
use Rattle.circle_relation.specs.Sums.{all_claims_at, AreApartAt, Adds}
use Rattle.circle_relation.proofs.ReducedSums.{adds-all}
use Rattle.circle_verifier.proofs.ReducedValues.{handed_on, points-at, sums-at, apart-at}
use Rattle.circle_verifier.proofs.checked.CheckedRun.reduced_word.Given.{Over}
use Rattle.circle_verifier.proofs.checked.CheckedRun.reduced_word.Goals as goal
use Rattle.circle_verifier.proofs.checked.CheckedRun.reduced_word.Goals.{After-deref_mut}

-- the points are those of the queries, and the sums begin as zeros
points-are : (g : Over) (c : After-deref_mut g) →
    let run = c.args.self.now.run in
    let k = fields_of run in
    map coordinates c.in_ok-points.points.items
    ≡ map (query_point k.field k.gen c.args.log_height (top k run.params.now (run_of run)))
    run.indices.now
points-are g c =
    let run = c.args.self.now.run in
    let k = fields_of run in
    c.in_ok-points.ensures
    ∙ ap (λ n. map (query_point k.field k.gen c.args.log_height n) run.indices.now) run.drawn.top

listed : (g : Over) (c : After-deref_mut g) →
    let run = c.args.self.now.run in
    let k = fields_of run in
    map coordinates c.deref.result.now
    ≡ map (query_point k.field k.gen c.args.log_height (top k run.params.now (run_of run)))
    run.indices.now
listed g c = ap (map coordinates) c.deref.ensures.value ∙ points-are g c

zeros : (g : Over) (c : After-deref_mut g) →
    c.deref_mut.result.now ≡ replicate (length c.args.self.now.run.indices.now) c.ZERO.result
zeros g c =
    c.deref_mut.ensures.value
    ∙ c.in_ok-values.ensures.items_if_clones_equal (λ y same. g.met.EF.Field.clone_law _ _ same)

counted : (g : Over) (c : After-deref_mut g) →
    length c.deref_mut.result.now ≡ length c.args.self.now.run.indices.now
counted g c =
    ap length (zeros g c) ∙ length-replicate (length c.args.self.now.run.indices.now) c.ZERO.result

pub query_points-requires-clause-positive : goal.query_points-requires-clause-positive
query_points-requires-clause-positive g c = c.requires.positive

pub query_points-requires-clause-within : goal.query_points-requires-clause-within
query_points-requires-clause-within g c = c.requires.within

pub query_points-requires-clause-in_group : goal.query_points-requires-clause-in_group
query_points-requires-clause-in_group g c = lt_of_le_of_lt c.requires.within
    c.args.self.now.run.drawn.in_group

pub query_points-requires-clause-small : goal.query_points-requires-clause-small
query_points-requires-clause-small g c =
    le_trans (le_of_lt c.args.self.now.run.drawn.in_group) g.met.Val.ComplexExtendable.at_most_62

pub query_points-requires-clause-below : goal.query_points-requires-clause-below
query_points-requires-clause-below g c = c.args.self.now.run.drawn.below

pub returns-in_err-points-clause-word : goal.returns-in_err-points-clause-word
returns-in_err-points-clause-word g c =
    IfOk-from_err c.from_residual.result _ c.from_residual.ensures.0

pub returns-in_err-points-clause-apart : goal.returns-in_err-points-clause-apart
returns-in_err-points-clause-apart g c =
    IfOk-from_err c.from_residual.result _ c.from_residual.ensures.0

pub returns-in_err-points-clause-refused : goal.returns-in_err-points-clause-refused
unfolding IsReason
returns-in_err-points-clause-refused g c =
    handed_on c.from_residual.result Memory
    (Refuses c.args.self.now.run) c.from_residual.ensures.1 tt

pub returns-in_err-values-clause-word : goal.returns-in_err-values-clause-word
returns-in_err-values-clause-word g c =
    IfOk-from_err c.from_residual-in_err-values.result _ c.from_residual-in_err-values.ensures.0

pub returns-in_err-values-clause-apart : goal.returns-in_err-values-clause-apart
returns-in_err-values-clause-apart g c =
    IfOk-from_err c.from_residual-in_err-values.result _ c.from_residual-in_err-values.ensures.0

pub returns-in_err-values-clause-refused : goal.returns-in_err-values-clause-refused
unfolding IsReason
returns-in_err-values-clause-refused g c =
    handed_on c.from_residual-in_err-values.result Memory
    (Refuses c.args.self.now.run) c.from_residual-in_err-values.ensures.1
    tt

pub add_claims-requires-clause-points : goal.add_claims-requires-clause-points
add_claims-requires-clause-points g c =
    let run = c.args.self.now.run in
    let k = fields_of run in
    let at = (goal.at.add_claims-requires-clause-points g c).After-deref_mut in
    sym (length-map c.deref.result.now coordinates) ∙ ap length (listed g at)
    ∙ length-map run.indices.now
    (query_point k.field k.gen c.args.log_height (top k run.params.now (run_of run)))
    ∙ sym (counted g at)

pub add_claims-requires-clause-queries : goal.add_claims-requires-clause-queries
add_claims-requires-clause-queries g c =
    sym (counted g (goal.at.add_claims-requires-clause-queries g c).After-deref_mut)

pub returns-in-Some-clause-word : goal.returns-in-Some-clause-word
returns-in-Some-clause-word g c =
    let at = (goal.at.returns-in-Some-clause-word g c).After-deref_mut in
    let run = c.args.self.now.run in
    let k = fields_of run in
    let r = run_of run in
    let h = c.args.log_height in
    let queries = run.indices.now in
    let l = k.extension in
    let old = c.deref_mut.result.now in
    let new = c.add_claims.new.sums in
    let points = map coordinates c.deref.result.now in
    let none = origin g.Val.Operations.ops in
    let claims =
    all_claims_at run.params.now.log_blowup h (zip r.batches r.proof.inputs) in
    let added = c.in-Some.ensures.sums in
    let adds : Adds l k.embed run.alpha points none claims l.one added.0 old new = added.1 in
    let long : length old ≡ length queries = counted g at in
    let zero : (j : ℕ) → j < length queries → slice_index_or old j l.zero ≡ l.zero =
    λ j lt. ap (λ xs. slice_index_or xs j l.zero) (zeros g at)
    ∙ get_or-replicate (length queries) j c.ZERO.result l.zero lt ∙ c.ZERO.ensures
    ∙ g.met.EF.Field.zero_law in
    let sums = sums-at k run.params.now r h new points none (adds.counted ∙ long) (listed g at)
    (λ j lt. adds-all g.EF.Operations.laws.ring k.embed run.alpha points none claims added.0 old new
    adds j (omega (arith, lt, adds.counted)) (zero j (omega (arith, lt, adds.counted, long)))) in
    let stored : (with_items c.in_ok-values.values new).items ≡ new =
    with_items_is c.in_ok-values.values new
    (omega (arith, adds.counted, c.deref_mut.ensures.len)) in
    ap (λ xs. (h, (map coordinates c.in_ok-points.points.items, xs))) stored
    ∙ ap (λ xs. (h, (xs, new))) (points-are g at ∙ sym (points-at k run.params.now r h))
    ∙ ap
    (λ ss. (
      h,
      (
        at_queries k run.params.now r
            (λ j q. point_among k run.params.now r j q h),
        ss,
      ),
    )) sums

pub returns-in-Some-clause-apart : goal.returns-in-Some-clause-apart
returns-in-Some-clause-apart g c =
    let run = c.args.self.now.run in
    let k = fields_of run in
    subst (λ xs. AreApartAt k.extension k.embed run.params.now.log_blowup c.args.log_height xs
    (all_matrices (run_of run).batches))
    (listed g (goal.at.returns-in-Some-clause-apart g c).After-deref_mut) c.in-Some.ensures.apart

pub returns-in-None-clause-refused : goal.returns-in-None-clause-refused
unfolding IsReason
returns-in-None-clause-refused g c = λ apart.
    let run = c.args.self.now.run in
    let k = fields_of run in
    let r = run_of run in
    let h = c.args.log_height in
    c.in-None.ensures.none refl
    (subst (λ xs. AreApartAt k.extension k.embed run.params.now.log_blowup h xs
    (all_matrices r.batches))
    (sym (listed g (goal.at.returns-in-None-clause-refused g c).After-deref_mut))
    (apart-at k run.params.now r h apart))
