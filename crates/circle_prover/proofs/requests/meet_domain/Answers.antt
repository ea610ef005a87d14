use Rattle.std.proofs.Common.{Bool, Vec, length, sym, ◌∙◌, subst, ap, arith}
use Rattle.std.specs.Prelude.{◌≡◌, All, zip, true, false}
use Rattle.std.specs.declared.alloc.Global.{Global}
use Rattle.std.proofs.lemmas.List.{length_push}
use Rattle.std.proofs.lemmas.Slice.Zip.{zip_turn, zip_end, length-zip}
use Rattle.circle_commit.specs.declared.matrix.RowMajorMatrix.{RowMajorMatrix}
use Rattle.circle_domain.specs.Selectors.{IsFinite}
use Rattle.circle_relation.proofs.Pairs.{pair-sources}
use Rattle.circle_prover.specs.Requesting.{HasDomain, some_on_standard}
use Rattle.circle_prover.proofs.CommittedHeights.{at-item}
use Rattle.circle_prover.proofs.RequestLists.{any-more, any-here, any-end, pair-at, pairs-within}
use Rattle.circle_prover.proofs.requests.meet_domain.Given.{Over}
use Rattle.circle_prover.proofs.requests.meet_domain.Goals as goal

-- whether a matrix is to be opened on its domain
abbrev meets : (g : Over) → RowMajorMatrix g.row.F.Denot × Vec g.row.EF.Denot Global → Bool
meets g asked =
    some_on_standard g.F.Operations.ops g.F.ComplexExtendable.generators g.EF.Operations.ops
    g.EF.ExtensionField.embed g.EF.PartialEq.eq asked.0 asked.1.items

pub is_on_domain-requires-clause-domain : goal.is_on_domain-requires-clause-domain
is_on_domain-requires-clause-domain g c =
    let ms = c.args.matrices.now in
    let vs = c.args.points.now in
    let from = pair-sources c.into_iter-matrix-iterator.ensures.into_iter_gives
    c.zip-matrix-items.ensures.first c.iter.ensures.rest c.zip-matrix-items.ensures.second.0 in
    let turn = zip_turn ms vs c.loop-matrix.yielded _ _ c.next.new.self _ from.0 from.1
    c.loop-matrix.yielded_by _ c.in-Some.is c.next.ensures.steps in
    let m = c.in-Some.matrix.now in
    at-item (HasDomain g.F.ComplexExtendable.CIRCLE_TWO_ADICITY) ms (length c.loop-matrix.yielded) m
    c.requires.domains turn.0 (turn.2 m)

pub is_on_domain-requires-clause-finite : goal.is_on_domain-requires-clause-finite
is_on_domain-requires-clause-finite g c =
    let ms = c.args.matrices.now in
    let vs = c.args.points.now in
    let from = pair-sources c.into_iter-matrix-iterator.ensures.into_iter_gives
    c.zip-matrix-items.ensures.first c.iter.ensures.rest c.zip-matrix-items.ensures.second.0 in
    let turn = zip_turn ms vs c.loop-matrix.yielded _ _ c.next.new.self _ from.0 from.1
    c.loop-matrix.yielded_by _ c.in-Some.is c.next.ensures.steps in
    let v = c.in-Some.points.now in
    let finite = IsFinite g.EF.Operations.ops in
    subst (All finite) (sym c.deref.ensures.value)
    (at-item (λ w. All finite w.items) vs (length c.loop-matrix.yielded) v c.requires.finite turn.1
    (turn.3 v))

pub returns-then-is_on_domain : goal.returns-then-is_on_domain
returns-then-is_on_domain g c =
    let ms = c.args.matrices.now in
    let vs = c.args.points.now in
    let from = pair-sources c.into_iter-matrix-iterator.ensures.into_iter_gives
    c.zip-matrix-items.ensures.first c.iter.ensures.rest c.zip-matrix-items.ensures.second.0 in
    let turn = zip_turn ms vs c.loop-matrix.yielded _ _ c.next.new.self _ from.0 from.1
    c.loop-matrix.yielded_by _ c.in-Some.is c.next.ensures.steps in
    let m = c.in-Some.matrix.now in
    let v = c.in-Some.points.now in
    let i = length c.loop-matrix.yielded in
    let test = meets g in
    let passes : test (m, v) ≡ true =
    ap
    (some_on_standard g.F.Operations.ops g.F.ComplexExtendable.generators g.EF.Operations.ops
    g.EF.ExtensionField.embed g.EF.PartialEq.eq m) (sym c.deref.ensures.value)
    ∙ sym c.is_on_domain.ensures ∙ c.if-is_on_domain.true in
    sym
    (any-here test (zip ms vs) i (m, v) (pairs-within ms vs i turn.0 turn.1)
    (pair-at ms vs i m v turn.0 turn.1 (turn.2 m) (turn.3 v)) passes)

pub loop-matrix-preserved : goal.loop-matrix-preserved
loop-matrix-preserved g c =
    let ms = c.args.matrices.now in
    let vs = c.args.points.now in
    let from = pair-sources c.into_iter-matrix-iterator.ensures.into_iter_gives
    c.zip-matrix-items.ensures.first c.iter.ensures.rest c.zip-matrix-items.ensures.second.0 in
    let turn = zip_turn ms vs c.loop-matrix.yielded _ _ c.next.new.self _ from.0 from.1
    c.loop-matrix.yielded_by _ c.in-Some.is c.next.ensures.steps in
    let m = c.in-Some.matrix.now in
    let v = c.in-Some.points.now in
    let i = length c.loop-matrix.yielded in
    let test = meets g in
    let fails : test (m, v) ≡ false =
    ap
    (some_on_standard g.F.Operations.ops g.F.ComplexExtendable.generators g.EF.Operations.ops
    g.EF.ExtensionField.embed g.EF.PartialEq.eq m) (sym c.deref.ensures.value)
    ∙ sym c.is_on_domain.ensures ∙ c.if-is_on_domain.false in
    any-more test (zip ms vs) i _ (m, v) (pairs-within ms vs i turn.0 turn.1)
    (pair-at ms vs i m v turn.0 turn.1 (turn.2 m) (turn.3 v))
    (length_push c.loop-matrix.yielded (c.in-Some.matrix, c.in-Some.points)) c.loop-matrix.invariant
    fails

pub returns : goal.returns
returns g c =
    let ms = c.args.matrices.now in
    let vs = c.args.points.now in
    let from = pair-sources c.into_iter-matrix-iterator.ensures.into_iter_gives
    c.zip-matrix-items.ensures.first c.iter.ensures.rest c.zip-matrix-items.ensures.second.0 in
    let last = zip_end ms vs c.loop-matrix.yielded _ _ c.next.new.self _ from.0 from.1
    c.loop-matrix.yielded_by c.in-None.is c.next.ensures.steps in
    let test = meets g in
    sym
    (any-end test (zip ms vs) (length c.loop-matrix.yielded)
    (omega (arith, last, length-zip ms vs)) c.loop-matrix.invariant)
