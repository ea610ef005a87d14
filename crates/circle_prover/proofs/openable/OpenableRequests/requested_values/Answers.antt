use Rattle.std.proofs.Common.{[], ◌∷◌, ◌+◌, ◌∙◌, ◌<◌, List, Vec, Global, All, map, take, sym}
use Rattle.std.proofs.Common.{ap, subst, arith}
use Rattle.std.specs.List.{AllZip}
use Rattle.std.proofs.lemmas.List.{map-append, take_all}
use Rattle.std.proofs.lemmas.List.Elements.{All-drop, All-take}
use Rattle.circle_commit.specs.Mmcs.{opened_rows}
use Rattle.circle_commit.specs.Pcs.{openings}
use Rattle.circle_codewords.specs.Requests.{AreAnswers}
use Rattle.circle_codewords.specs.declared.matrix.MatrixAtPoints.{MatrixAtPoints}
use Rattle.circle_prover.specs.OfRequests.{AreValued, asked_of, fields_of}
use Rattle.circle_prover.proofs.KnownRequests.{batch-fits, batch-front, batch-left}
use Rattle.circle_prover.proofs.KnownRequests.{divided, request-answered}
use Rattle.circle_prover.proofs.Requested.{pushed-more}
use Rattle.circle_prover.proofs.openable.OpenableRequests.requested_values.Goals as goal

pub split_at-requires : goal.split_at-requires
split_at-requires g c = c.loop-request.invariant.within

pub split_at-requires-in-loop-request : goal.split_at-requires-in-loop-request
split_at-requires-in-loop-request g c =
    let o = c.args.self.now in
    let i = c.loop-request.request-index in
    let r = c.request-item.result in
    let rest = c.split_at.result.1.now in
    let left = ap (map asked_of) c.split_at.ensures.back ∙ c.loop-request.invariant.left in
    batch-fits o rest i c.len.result r c.loop-request-test.true c.request-item.is c.len.ensures left

pub batch_values-requires : goal.batch_values-requires
batch_values-requires g c =
    let IsHigh : MatrixAtPoints g.row.Val.Denot g.row.EF.Denot _ g.EF.Operations → Type 0 =
    λ m. c.args.self.now.params.now.log_blowup < m.log_height in
    subst (All IsHigh) (sym c.split_at-in-loop-request.ensures.front)
    (All-take IsHigh c.len.result c.split_at.result.1.now
    (subst (All IsHigh) (sym c.split_at.ensures.back)
    (All-drop IsHigh c.loop-request.done c.args.matrices.now c.requires.high)))

pub loop-request-preserved : goal.loop-request-preserved
loop-request-preserved g c =
    let o = c.args.self.now in
    let i = c.loop-request.request-index in
    let r = c.request-item.result in
    let rest = c.split_at.result.1.now in
    let left = ap (map asked_of) c.split_at.ensures.back ∙ c.loop-request.invariant.left in
    let kept = g.InputMmcs.Mmcs.matrices in
    let R = AreAnswers kept (fields_of o) o.params.now.log_blowup in
    let made = c.in_ok-batch_values.field-0 in
    let old = c.loop-request.values.items in
    let rows : Vec (Vec (Vec g.row.EF.Denot Global) Global) Global →
    List (List (List g.row.EF.Denot)) = λ b. opened_rows b.items in
    let here = request-answered o i r (rows made) c.loop-request-test.true c.request-item.is
    (subst (λ a. AreValued o a (rows made))
    (ap (map asked_of) c.split_at-in-loop-request.ensures.front
    ∙ batch-front o rest i c.len.result r c.loop-request-test.true c.request-item.is c.len.ensures
    left) c.in_ok-batch_values.ensures) in
    record {
      values = subst (AllZip R (take (i + 1) o.requests.now))
          (sym (ap openings c.in_ok-push.ensures.items ∙ map-append rows old (made ∷ [])))
          (pushed-more R o.requests.now i r (openings old) (rows made) c.loop-request-test.true
          c.request-item.is c.loop-request.invariant.values here);
      within = omega (
        arith,
        c.split_at.ensures.back_len,
        c.split_at-in-loop-request.ensures.front_len,
        c.split_at-in-loop-request.ensures.back_len,
      );
      left = divided c.args.matrices.now c.loop-request.done c.len.result _ rest
          c.split_at-in-loop-request.ensures.front_len c.split_at.ensures.back
          ∙ batch-left o rest i c.len.result r c.loop-request-test.true c.request-item.is
          c.len.ensures left;
    }

pub returns : goal.returns
returns g c =
    let o = c.args.self.now in
    subst
    (λ rs. AllZip (AreAnswers g.InputMmcs.Mmcs.matrices (fields_of o) o.params.now.log_blowup) rs
    (openings c.loop-request.values.items))
    (take_all c.loop-request.request-index o.requests.now c.loop-request-test.false)
    c.loop-request.invariant.values
