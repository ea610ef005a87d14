use Rattle.std.proofs.Common.{◌≡◌, ◌-◌, ◌+◌, ◌^◌, length, sym, ap, ◌∙◌, subst}
use Rattle.std.proofs.Common.{arith, inl, inr, refl}
use Rattle.std.proofs.lemmas.List.{append-nil}
use Rattle.circle_domain.specs.Spans.{HasXValues, XSpan}
use Rattle.circle_transcript.specs.Numbers.{indices_steps}
use Rattle.circle_transcript.specs.Transcript.{numbers, run_of, state_of}
use Rattle.circle_transcript.proofs.Playing.{handed_on}
use Rattle.circle_transcript.proofs.Runs.{indices_due}
use Rattle.circle_prover.specs.Folding.{IsFoldFailure, fold_of, folding_steps, rounds_due, word_of}
use Rattle.circle_prover.specs.OfFoldable.{fields_of, round_count}
use Rattle.circle_prover.proofs.Begun.{at-hand}
use Rattle.circle_prover.proofs.Stuck.{stuck-moved}
use Rattle.circle_prover.proofs.TallMatrices.{top-is, top-low, top-tall}
use Rattle.circle_prover.proofs.Tops.{rounds-alike}
use Rattle.circle_prover.proofs.foldable.FoldableMatrices.fold_rounds.Goals as goal

pub overflow_add-log_points : goal.overflow_add-log_points
overflow_add-log_points g c =
    let tall = top-tall c.args.self.now in
    let low = top-low c.args.self.now in
    omega (arith, tall, low, g.met.F.ComplexExtendable.at_most_62)

pub overflow_sub-log_max_height : goal.overflow_sub-log_max_height
overflow_sub-log_max_height g c =
    let tall = top-tall c.args.self.now in
    omega (arith, tall, (c.greatest_height-log_max_height.ensures ∙ top-is c.args.self.now))

pub overflow_sub-log_max_height-2 : goal.overflow_sub-log_max_height-2
overflow_sub-log_max_height-2 g c =
    let tall = top-tall c.args.self.now in
    omega (arith, tall, (c.greatest_height-log_max_height.ensures ∙ top-is c.args.self.now))

pub overflow_sub-log_max_height-3 : goal.overflow_sub-log_max_height-3
overflow_sub-log_max_height-3 g c =
    let tall = top-tall c.args.self.now in
    omega (arith, tall, (c.greatest_height-log_max_height.ensures ∙ top-is c.args.self.now))

pub play_rounds-requires-clause-next : goal.play_rounds-requires-clause-next
play_rounds-requires-clause-next g c =
    let p = c.args.self.now.params.now in
    let n = numbers c.args.transcript.now in
    let count : round_count c.args.self.now
    ≡ c.greatest_height-log_max_height.result - 1 - (p.log_blowup + p.log_final_poly_len) =
    omega (arith, c.greatest_height-log_max_height.ensures) in (
      indices_steps g.EF.ExtensionField.DEGREE n,
      c.requires.next ∙ ap (λ k. folding_steps g.EF.ExtensionField.DEGREE k n) count,
    )

pub play_rounds-requires-clause-first : goal.play_rounds-requires-clause-first
play_rounds-requires-clause-first g c =
    let o = c.args.self.now in
    let first = c.args.first.now in
    let hand = at-hand o g.M.Mmcs.commits g.M.Mmcs.matrices first c.args.tallest.items
    c.requires.layer c.deref.result.now c.len.result c.greatest_height-log_max_height.result
    c.deref-2.result.now c.deref.ensures.value (c.len.ensures ∙ first.layer.heights.ok.0)
    c.deref-2.ensures.value c.greatest_height-log_max_height.ensures in
    hand.first

pub play_rounds-requires-clause-words : goal.play_rounds-requires-clause-words
play_rounds-requires-clause-words g c =
    let o = c.args.self.now in
    let first = c.args.first.now in
    let hand = at-hand o g.M.Mmcs.commits g.M.Mmcs.matrices first c.args.tallest.items
    c.requires.layer c.deref.result.now c.len.result c.greatest_height-log_max_height.result
    c.deref-2.result.now c.deref.ensures.value (c.len.ensures ∙ first.layer.heights.ok.0)
    c.deref-2.ensures.value c.greatest_height-log_max_height.ensures in
    hand.lengths

pub play_rounds-requires-clause-in_group : goal.play_rounds-requires-clause-in_group
play_rounds-requires-clause-in_group g c =
    let tall = top-tall c.args.self.now in
    let low = top-low c.args.self.now in
    omega (
      arith,
      tall,
      low,
      (c.greatest_height-log_max_height.ensures ∙ top-is c.args.self.now),
    )

pub final_coefficients-requires-clause-length : goal.final_coefficients-requires-clause-length
final_coefficients-requires-clause-length g c =
    let p = c.args.self.now.params.now in
    let tall = top-tall c.args.self.now in
    let top = c.greatest_height-log_max_height.result in
    let b = p.log_blowup + p.log_final_poly_len in
    let left : top - 1 - (top - 1 - b) ≡ b =
    omega (arith, tall, (c.greatest_height-log_max_height.ensures ∙ top-is c.args.self.now)) in
    ap length c.deref-3.ensures.value ∙ c.in_ok-rounds.ensures.length ∙ ap (λ n. 2 ^ n) left

pub final_coefficients-requires-clause-in_group : goal.final_coefficients-requires-clause-in_group
final_coefficients-requires-clause-in_group g c =
    let tall = top-tall c.args.self.now in
    let low = top-low c.args.self.now in
    omega (arith, tall, low)

pub returns-in_err-rounds-clause-failure : goal.returns-in_err-rounds-clause-failure
returns-in_err-rounds-clause-failure g c =
    let o = c.args.self.now in
    let p = o.params.now in
    let first = c.args.first.now in
    let r = run_of c.args.transcript.now in
    let n = numbers c.args.transcript.now in
    let s = state_of c.args.transcript.now in
    let hand = at-hand o g.M.Mmcs.commits g.M.Mmcs.matrices first c.args.tallest.items
    c.requires.layer c.deref.result.now c.len.result c.greatest_height-log_max_height.result
    c.deref-2.result.now c.deref.ensures.value (c.len.ensures ∙ first.layer.heights.ok.0)
    c.deref-2.ensures.value c.greatest_height-log_max_height.ensures in
    handed_on c.from_residual.result c.in_err-rounds.field-0.0
    (IsFoldFailure o r g.M.Mmcs.commits first c.args.transcript.now)
    c.from_residual.ensures.1
    (elim c.in_err-rounds.ensures.failure [
      | inl refused ↦ inl refused
      | inr stuck ↦
          inr (inr (
            stuck.0,
            stuck-moved r (g.M.Mmcs.commits p.mmcs) n n s s _ _ _ _ refl refl hand.count hand.alike
                (stuck.1 (fold_of o first) hand.are),
          ))
    ])

pub returns-in_err-final_poly-clause-failure : goal.returns-in_err-final_poly-clause-failure
returns-in_err-final_poly-clause-failure g c =
    let o = c.args.self.now in
    let p = o.params.now in
    let k = fields_of o in
    let b = p.log_blowup + p.log_final_poly_len in
    let first = c.args.first.now in
    let hand = at-hand o g.M.Mmcs.commits g.M.Mmcs.matrices first c.args.tallest.items
    c.requires.layer c.deref.result.now c.len.result c.greatest_height-log_max_height.result
    c.deref-2.result.now c.deref.ensures.value (c.len.ensures ∙ first.layer.heights.ok.0)
    c.deref-2.ensures.value c.greatest_height-log_max_height.ensures in
    let betas = c.in_ok-rounds.rounds.betas.items in
    let is_last : c.deref-3.result.now ≡ word_of o first betas (rounds_due o) =
    c.deref-3.ensures.value ∙ c.in_ok-rounds.ensures.word (fold_of o first) hand.are
    ∙ hand.alike betas _ ∙ ap (word_of o first betas) hand.count in
    handed_on c.from_residual-in_err-final_poly.result c.in_err-final_poly.field-0.0
    (IsFoldFailure o (run_of c.args.transcript.now) g.M.Mmcs.commits first c.args.transcript.now)
    c.from_residual-in_err-final_poly.ensures.1
    (elim c.in_err-final_poly.ensures.failure [
      | inl refused ↦ inl refused
      | inr long ↦
          inr (inl (
            long.0,
            record {
              alpha = first.alpha;
              bivariate = first.bivariate;
              betas = betas;
              none =
                  λ span. long.1
                  (subst (XSpan k.field k.gen k.extension k.embed p.log_final_poly_len b)
                  (sym is_last) span);
            },
          ))
    ])

pub returns-clause-due : goal.returns-clause-due
returns-clause-due g c =
    let p = c.args.self.now.params.now in
    let n = numbers c.args.transcript.now in
    let degree = g.EF.ExtensionField.DEGREE in
    let rounds = c.greatest_height-log_max_height.result - 1
    - (p.log_blowup + p.log_final_poly_len) in
    let count : round_count c.args.self.now ≡ rounds =
    omega (arith, c.greatest_height-log_max_height.ensures) in
    indices_due degree rounds n n _ _ _ refl c.play_rounds.ensures.same.shape
    (c.requires.next ∙ ap (λ k. folding_steps degree k n) count) c.in_ok-rounds.ensures.due
    ∙ append-nil (indices_steps degree (numbers c.play_rounds.new.transcript))

pub returns-clause-rounds : goal.returns-clause-rounds
returns-clause-rounds g c =
    let o = c.args.self.now in
    let p = o.params.now in
    let k = fields_of o in
    let b = p.log_blowup + p.log_final_poly_len in
    let first = c.args.first.now in
    let hand = at-hand o g.M.Mmcs.commits g.M.Mmcs.matrices first c.args.tallest.items
    c.requires.layer c.deref.result.now c.len.result c.greatest_height-log_max_height.result
    c.deref-2.result.now c.deref.ensures.value (c.len.ensures ∙ first.layer.heights.ok.0)
    c.deref-2.ensures.value c.greatest_height-log_max_height.ensures in
    let betas = c.in_ok-rounds.rounds.betas.items in
    record {
      count = c.in_ok-rounds.ensures.commitments ∙ hand.count;
      witnesses = c.in_ok-rounds.ensures.witnesses ∙ hand.count;
      committed = rounds-alike (g.M.Mmcs.commits p.mmcs) g.M.Mmcs.matrices _
          (word_of o first betas) c.in_ok-rounds.rounds.kept.items
          c.in_ok-rounds.rounds.commitments.items (hand.alike betas)
          (c.in_ok-rounds.ensures.committed (fold_of o first) hand.are);
      final_poly =
          subst
          (λ w. HasXValues k.field k.gen k.extension k.embed p.log_final_poly_len b w
          c.in_ok-final_poly.final_poly.items)
          (c.deref-3.ensures.value ∙ c.in_ok-rounds.ensures.word (fold_of o first) hand.are
          ∙ hand.alike betas _ ∙ ap (word_of o first betas) hand.count)
          c.in_ok-final_poly.ensures.values;
    }
