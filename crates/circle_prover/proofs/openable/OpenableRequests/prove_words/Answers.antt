use Rattle.std.proofs.Common.{◌≡◌, ◌<◌, ◌≤◌, ◌-◌, ◌+◌, ◌^◌, ◌∷◌, [], ◌∙◌, List, All, length, map}
use Rattle.std.proofs.Common.{Some, sym, ap, subst, arith}
use Rattle.std.specs.Prelude.{slice_get}
use Rattle.std.proofs.lemmas.List.{length-map}
use Rattle.std.proofs.lemmas.Option.{slice_get_within}
use Rattle.circle_prover.specs.OfRequests.{fields_of}
use Rattle.circle_codewords.specs.Words.{HaveHeights}
use Rattle.circle_relation.specs.RunOf.{opened_round}
use Rattle.circle_relation.specs.Statement.{Opened}
use Rattle.circle_codewords.specs.Openings.{OpensSiblings}
use Rattle.circle_prover.specs.Words.{heights_of}
use Rattle.circle_prover.proofs.Held.{first-greatest, read-map, round-shape, slice_get_at}
use Rattle.circle_prover.proofs.Tops.{all-low, top-known}
use Rattle.circle_prover.proofs.openable.OpenableRequests.prove_words.Goals as goal

pub open_inputs-requires-clause-below : goal.open_inputs-requires-clause-below
open_inputs-requires-clause-below g c =
    subst (All (λ q. q < 2 ^ c.args.words.log_max_height)) (sym c.deref.ensures.value)
    c.requires.below

pub open_siblings-requires-clause-below : goal.open_siblings-requires-clause-below
open_siblings-requires-clause-below g c =
    subst (All (λ q. q < 2 ^ c.args.words.log_max_height)) (sym c.deref-3.ensures.value)
    c.requires.below

pub open_siblings-requires-clause-bits : goal.open_siblings-requires-clause-bits
open_siblings-requires-clause-bits g c =
    let known = c.requires.words in
    let p = c.args.self.now.params.now in
    let tall =
    top-known known.0 (λ h. p.log_blowup + p.log_final_poly_len + 2 ≤ h) known.1.0 known.1.1 in
    omega (arith, tall, known.2.top)

pub open_siblings-requires-clause-heights : goal.open_siblings-requires-clause-heights
open_siblings-requires-clause-heights g c =
    let known = c.requires.words in
    subst (λ hs. All (λ h. h ≤ c.args.words.log_max_height) hs)
    (sym (c.deref-2.ensures.value ∙ known.2.heights))
    (subst (λ t. All (λ h. h ≤ t) (heights_of known.0)) (sym known.2.top) (all-low known.0))

pub open_siblings-requires-clause-shapes : goal.open_siblings-requires-clause-shapes
open_siblings-requires-clause-shapes g c =
    let known = c.requires.words in
    subst (λ hs. HaveHeights hs (g.FriMmcs.Mmcs.matrices c.args.words.first_kept))
    (sym (c.deref-2.ensures.value ∙ known.2.heights)) known.2.shapes

pub open_siblings-requires-clause-greatest : goal.open_siblings-requires-clause-greatest
open_siblings-requires-clause-greatest g c =
    let known = c.requires.words in
    first-greatest known.0 (g.FriMmcs.Mmcs.matrices c.args.words.first_kept) known.1.0
    known.2.shapes ∙ ap (λ t. 2 ^ (t - 1)) (sym known.2.top)

pub open_rounds-requires-clause-below : goal.open_rounds-requires-clause-below
open_rounds-requires-clause-below g c =
    subst (All (λ q. q < 2 ^ c.args.words.log_max_height)) (sym c.deref-4.ensures.value)
    c.requires.below

pub open_rounds-requires-clause-rounds : goal.open_rounds-requires-clause-rounds
open_rounds-requires-clause-rounds g c =
    let known = c.requires.words in
    let p = c.args.self.now.params.now in
    let tall =
    top-known known.0 (λ h. p.log_blowup + p.log_final_poly_len + 2 ≤ h) known.1.0 known.1.1 in
    let long : length c.deref-5.result.now ≡ length c.args.words.kept.items =
    ap length c.deref-5.ensures.value in
    omega (
      arith,
      tall,
      long,
      known.2.rounds.count,
      known.2.count,
      known.2.top,
      c.args.self.now.fit.blowup,
    )

pub open_rounds-requires-clause-words : goal.open_rounds-requires-clause-words
open_rounds-requires-clause-words g c = λ n d at.
    let p = c.args.self.now.params.now in
    let known = c.requires.words in
    let w = c.args.words in
    let here : slice_get w.kept.items n ≡ Some d =
    subst (λ xs. slice_get xs n ≡ Some d) c.deref-5.ensures.value at in
    subst (λ t. HaveHeights ((t - 1 - n) ∷ []) (g.FriMmcs.Mmcs.matrices d)) (sym known.2.top)
    (round-shape (fields_of c.args.self.now) p.log_blowup p.log_final_poly_len
    (g.FriMmcs.Mmcs.commits p.mmcs) g.FriMmcs.Mmcs.matrices known.0 w known.1.0
    (λ i m lt. let tall = known.1.1 i m lt in omega (arith, tall)) known.2 n d here)

pub returns-clause-words : goal.returns-clause-words
returns-clause-words g c = λ matrices known easy.
    let w = c.args.words in
    let zero = g.EF.Operations.ops.zero in
    let Commits = g.FriMmcs.Mmcs.commits c.args.self.now.params.now.mmcs in
    let authenticates = g.FriMmcs.Mmcs.authenticates c.args.self.now.params.now.mmcs in
    let kept_of = g.FriMmcs.Mmcs.matrices in
    let queries = w.draws.indices.items in
    let steps = c.in_ok-commit_phase_openings.commit_phase_openings.items in
    let siblings = map (λ s. s.items) c.in_ok-first_layer_siblings.first_layer_siblings.items in
    let many : length steps ≡ length w.commitments.items =
    c.in_ok-commit_phase_openings.ensures.count ∙ ap length c.deref-5.ensures.value
    ∙ known.rounds.count in
    let first =
    subst
    (λ t. OpensSiblings Commits authenticates (kept_of w.first_kept) zero t
    (heights_of matrices) 1 queries siblings c.in_ok-first_layer_siblings.first_layer_proof)
    known.top
    (subst (λ hs. OpensSiblings Commits authenticates (kept_of w.first_kept) zero w.log_max_height
    hs 1 queries siblings c.in_ok-first_layer_siblings.first_layer_proof)
    (c.deref-2.ensures.value ∙ known.heights)
    (subst (λ qs. OpensSiblings Commits authenticates (kept_of w.first_kept) zero w.log_max_height
    c.deref-2.result.now 1 qs siblings c.in_ok-first_layer_siblings.first_layer_proof)
    c.deref-3.ensures.value c.in_ok-first_layer_siblings.ensures)) in
    record {
      lambdas = known.lambdas;
      first_layer =
          record { kept = kept_of w.first_kept; committed = known.first_layer; opened = first };
      count = known.count;
      opened = length-map steps opened_round ∙ many;
      rounds = λ n commitment o at_commitment at_opening.
          let found = read-map opened_round steps n o at_opening in
          let within = slice_get_within w.commitments.items n commitment at_commitment in
          let d = slice_get_at w.kept.items n (omega (arith, within, known.rounds.count)) in
          let there : slice_get c.deref-5.result.now n ≡ Some d.0 =
          subst (λ xs. slice_get xs n ≡ Some d.0) (sym c.deref-5.ensures.value) d.1 in
          let opens = c.in_ok-commit_phase_openings.ensures.opened n d.0 found.0 there found.1 in
          record {
            kept = kept_of d.0;
            committed = known.rounds.each n d.0 commitment d.1 at_commitment;
            opened =
                subst
                (λ t. OpensSiblings Commits authenticates (kept_of d.0) zero t
                ((t - 1 - n) ∷ []) (n + 2) queries o.entries o.proof) known.top
                (subst
                (λ (v : Opened (List g.row.EF.Denot) g.row.FriMmcs-MultiProof.Denot).
                OpensSiblings Commits authenticates (kept_of d.0) zero w.log_max_height
                ((w.log_max_height - 1 - n) ∷ []) (n + 2) queries v.entries v.proof) found.2
                (subst
                (λ qs. OpensSiblings Commits authenticates (kept_of d.0) zero w.log_max_height
                ((w.log_max_height - 1 - n) ∷ []) (n + 2) qs (opened_round found.0).entries
                (opened_round found.0).proof) c.deref-4.ensures.value opens));
          };
      final_poly = known.final_poly;
      witnesses = known.witnesses;
      batch_zero = easy.batch;
      rounds_zero = easy.rounds;
      query_zero = easy.query;
    }
