use Rattle.std.proofs.Common.{◌≡◌, ◌^◌, ◌∙◌, sym, subst, length}
use Rattle.std.proofs.lemmas.List.{map-id}
use Rattle.std.proofs.lemmas.Iterator.Adapters.{YieldsList-from_vec}
use Rattle.std.proofs.lemmas.Iterator.Consumers.{YieldsList-turn, YieldsList-end}
use Rattle.circle_commit.specs.RowMajorMatrix.{height_of}
use Rattle.circle_commit.specs.declared.matrix.RowMajorMatrix.{RowMajorMatrix}
use Rattle.circle_domain.specs.Domain.{log_size}
use Rattle.circle_domain.specs.declared.domain.CircleDomain.{CircleDomain}
use Rattle.p3_circle.specs.Committing.{AreExtensions, IsExtendable, IsExtension}
use Rattle.p3_circle.proofs.Extended.{AllZip-more}
use Rattle.circle_prover.proofs.CommittedHeights.{at-item}
use Rattle.p3_circle.proofs.commit.extensions.Goals as goal

pub extension-requires-clause-rows : goal.extension-requires-clause-rows
extension-requires-clause-rows g c =
    let given = c.into_iter-domain-iterator.ensures.into_iter_gives in
    let es = c.args.evaluations.items in
    let all = YieldsList-from_vec es given.0 (given.1 ∙ c.args.evaluations.ok.0) in
    let e : CircleDomain g.row.F.Denot g.F.Operations × RowMajorMatrix g.row.F.Denot =
    (c.in-Some.domain, c.in-Some.matrix) in
    let t = YieldsList-turn all c.loop-domain.yielded _ c.loop-domain.yielded_by _ c.next.new.self e
    c.in-Some.is c.next.ensures.steps in
    at-item (λ e. height_of e.1 ≡ 2 ^ log_size e.0) es (length c.loop-domain.yielded) e
    c.requires.rows t.0 t.1

pub extension-requires-clause-extendable : goal.extension-requires-clause-extendable
extension-requires-clause-extendable g c =
    let given = c.into_iter-domain-iterator.ensures.into_iter_gives in
    let es = c.args.evaluations.items in
    let all = YieldsList-from_vec es given.0 (given.1 ∙ c.args.evaluations.ok.0) in
    let e : CircleDomain g.row.F.Denot g.F.Operations × RowMajorMatrix g.row.F.Denot =
    (c.in-Some.domain, c.in-Some.matrix) in
    let t = YieldsList-turn all c.loop-domain.yielded _ c.loop-domain.yielded_by _ c.next.new.self e
    c.in-Some.is c.next.ensures.steps in
    at-item
    (λ e. IsExtendable g.F.Operations.ops g.F.ComplexExtendable.CIRCLE_TWO_ADICITY
    c.args.log_blowup e.0) es (length c.loop-domain.yielded) e c.requires.extendable t.0 t.1

pub loop-domain-preserved : goal.loop-domain-preserved
loop-domain-preserved g c =
    let k = g.F.Operations.ops in
    let gen = g.F.ComplexExtendable.generators in
    subst (AreExtensions k gen c.args.log_blowup _) (sym c.in_ok-push.ensures.items)
    (AllZip-more (λ rows matrix. IsExtension k gen c.args.log_blowup rows.0 rows.1 matrix)
    c.loop-domain.yielded c.loop-domain.made.items (c.in-Some.domain, c.in-Some.matrix)
    c.in_ok-extension.field-0
    c.loop-domain.invariant c.in_ok-extension.ensures)

pub returns : goal.returns
returns g c =
    let given = c.into_iter-domain-iterator.ensures.into_iter_gives in
    let es = c.args.evaluations.items in
    let all = YieldsList-from_vec es given.0 (given.1 ∙ c.args.evaluations.ok.0) in
    let last = YieldsList-end all c.loop-domain.yielded _ c.loop-domain.yielded_by _ c.next.new.self
    c.in-None.is c.next.ensures.steps in
    subst (λ es. AreExtensions g.F.Operations.ops g.F.ComplexExtendable.generators c.args.log_blowup
    es c.loop-domain.made.items)
    (sym (map-id c.loop-domain.yielded) ∙ last.0) c.loop-domain.invariant
