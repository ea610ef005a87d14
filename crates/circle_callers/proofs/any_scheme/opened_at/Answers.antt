use Rattle.std.proofs.Common.{◌∙◌, [], ◌∷◌, IsTrue, ap, refl, subst, sym}
use Rattle.circle_callers.proofs.OneMatrix.{answered, first-is, is-one-row, kept-one, one-point}
use Rattle.circle_callers.proofs.OneMatrix.{refusal-is, some, true-row}
use Rattle.circle_commit.specs.Pcs.{openings}
use Rattle.circle_callers.proofs.any_scheme.opened_at.Goals as goal

pub open-requires : goal.open-requires
open-requires g c =
    let pcs = c.args.pcs.now in
    let commits = g.P.Pcs.commits pcs in
    let requests = c.in_ok-one-4.field-0.items in
    g.met.P.Pcs.kept_asks pcs requests
    (kept-one commits requests _ c.in_ok-one.field-0.items c.in-Ok.committed.0
    c.in_ok-one-4.ensures c.in-Ok.ensures.committed)

pub index-requires : goal.index-requires
index-requires g c =
    let pcs = c.args.pcs.now in
    let opened = c.in-Ok-open.opened.0 in
    let state = g.C.ChallengerState.state in
    let shape =
    is-one-row c.args.point opened c.in_ok-one-4.field-0.items _ c.in_ok-one-4.ensures
    (g.met.P.Pcs.each_point pcs c.in_ok-one-4.field-0.items (openings opened.items)
    c.in-Ok-open.opened.1 (state c.args.prover.now) (state c.open.new.challenger)
    c.in-Ok-open.ensures.opened)
    (one-point c.in_ok-one-3.field-0 c.in_ok-one-2.field-0 c.args.point c.in_ok-one-3.ensures
    c.in_ok-one-2.ensures) in
    some opened shape.batch shape.of_all

pub index-requires-2 : goal.index-requires-2
index-requires-2 g c =
    let pcs = c.args.pcs.now in
    let opened = c.in-Ok-open.opened.0 in
    let state = g.C.ChallengerState.state in
    let shape =
    is-one-row c.args.point opened c.in_ok-one-4.field-0.items _ c.in_ok-one-4.ensures
    (g.met.P.Pcs.each_point pcs c.in_ok-one-4.field-0.items (openings opened.items)
    c.in-Ok-open.opened.1 (state c.args.prover.now) (state c.open.new.challenger)
    c.in-Ok-open.ensures.opened)
    (one-point c.in_ok-one-3.field-0 c.in_ok-one-2.field-0 c.args.point c.in_ok-one-3.ensures
    c.in_ok-one-2.ensures) in
    let first = first-is opened.items shape.batch c.index.result.now shape.of_all c.index.ensures in
    some c.index.result.now shape.matrix (ap (λ v. v.items) first ∙ shape.of_batch)

pub index-requires-3 : goal.index-requires-3
index-requires-3 g c =
    let pcs = c.args.pcs.now in
    let opened = c.in-Ok-open.opened.0 in
    let state = g.C.ChallengerState.state in
    let shape =
    is-one-row c.args.point opened c.in_ok-one-4.field-0.items _ c.in_ok-one-4.ensures
    (g.met.P.Pcs.each_point pcs c.in_ok-one-4.field-0.items (openings opened.items)
    c.in-Ok-open.opened.1 (state c.args.prover.now) (state c.open.new.challenger)
    c.in-Ok-open.ensures.opened)
    (one-point c.in_ok-one-3.field-0 c.in_ok-one-2.field-0 c.args.point c.in_ok-one-3.ensures
    c.in_ok-one-2.ensures) in
    let first = first-is opened.items shape.batch c.index.result.now shape.of_all c.index.ensures in
    let next =
    first-is c.index.result.now.items shape.matrix c.index-2.result.now
    (ap (λ v. v.items) first ∙ shape.of_batch) c.index-2.ensures in
    some c.index-2.result.now shape.row (ap (λ v. v.items) next ∙ shape.of_matrix)

pub returns-in-Ok-verify-clause-values : goal.returns-in-Ok-verify-clause-values
returns-in-Ok-verify-clause-values g c =
    let pcs = c.args.pcs.now in
    let commits = g.P.Pcs.commits pcs in
    let opened = c.in-Ok-open.opened.0 in
    let proof = c.in-Ok-open.opened.1 in
    let requests = c.in_ok-one-4.field-0.items in
    let state = g.C.ChallengerState.state in
    let asked =
    one-point c.in_ok-one-3.field-0 c.in_ok-one-2.field-0 c.args.point c.in_ok-one-3.ensures
    c.in_ok-one-2.ensures in
    let shape =
    is-one-row c.args.point opened requests _ c.in_ok-one-4.ensures
    (g.met.P.Pcs.each_point pcs requests (openings opened.items) proof (state c.args.prover.now)
    (state c.open.new.challenger) c.in-Ok-open.ensures.opened) asked in
    let first = first-is opened.items shape.batch c.index.result.now shape.of_all c.index.ensures in
    let next =
    first-is c.index.result.now.items shape.matrix c.index-2.result.now
    (ap (λ v. v.items) first ∙ shape.of_batch) c.index-2.ensures in
    let last =
    first-is c.index-2.result.now.items shape.row c.index-3.result.now
    (ap (λ v. v.items) next ∙ shape.of_matrix) c.index-3.ensures in
    let copied =
    c.in_ok-values.ensures.items ∙ c.deref.ensures.value ∙ ap (λ v. v.items) last in
    subst
    (λ row. g.P.Pcs.values_of pcs (c.args.given ∷ []) ((c.args.point ∷ []) ∷ [])
    ((row ∷ []) ∷ [])) (sym copied)
    (true-row commits c.args.given c.args.point c.in_ok-one.field-0 c.in-Ok.committed.0
    c.in-Ok.committed.1 requests _ c.in_ok-one-4.ensures c.in_ok-one.ensures
    c.in-Ok.ensures.committed refl asked (g.P.Pcs.values_of pcs) (openings opened.items)
    shape.row.items shape.values
    (g.met.P.Pcs.true_values pcs requests (openings opened.items) proof
    (state c.args.prover.now) (state c.open.new.challenger) c.in-Ok-open.ensures.opened))

pub returns-clause-believed : goal.returns-clause-believed
returns-clause-believed g c =
    let pcs = c.args.pcs.now in
    let commits = g.P.Pcs.commits pcs in
    let opened = c.in-Ok-open.opened.0 in
    let proof = c.in-Ok-open.opened.1 in
    let requests = c.in_ok-one-4.field-0.items in
    let claims = c.in_ok-claims.claims.items in
    let size = g.P.Domain.PolynomialSpace.size in
    let state = g.C.ChallengerState.state in
    let new = state c.open.new.challenger in
    let given = c.in-Ok-open.ensures.opened in
    let asked =
    one-point c.in_ok-one-3.field-0 c.in_ok-one-2.field-0 c.args.point c.in_ok-one-3.ensures
    c.in_ok-one-2.ensures in
    let points =
    one-point c.in_ok-one-7.field-0 c.in_ok-one-6.field-0 c.args.point c.in_ok-one-7.ensures
    c.in_ok-one-6.ensures in
    let have =
    g.met.P.Pcs.each_point pcs requests (openings opened.items) proof (state c.args.prover.now) new
    given in
    let answers =
    answered commits c.args.given c.args.point c.in_ok-one.field-0 _ c.in-Ok.committed.1 _
    c.in_ok-one.ensures c.in-Ok.ensures.committed c.in_ok-one-5.ensures points refl asked size
    (openings opened.items) claims requests c.in_ok-one-8.field-0.items c.in_ok-one-4.ensures
    c.in_ok-one-8.ensures have c.in_ok-claims.ensures in
    let accepted =
    subst (λ s. g.P.Pcs.verify_accepts pcs claims proof s new) c.requires.same
    (g.met.P.Pcs.complete pcs requests (openings opened.items) proof _ new given claims answers) in
    λ why same.
    subst (λ e. IsTrue (g.P.Pcs.is_memory e)) (refusal-is c.in-Err-verify.error why same)
    (c.in-Err-verify.ensures.refused new accepted)
