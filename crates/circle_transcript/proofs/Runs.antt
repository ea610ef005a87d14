-- Rounds one after another.
use Rattle.std.specs.Prelude.{zip, true, Result, Ok, Err}
use Rattle.std.proofs.Common.{◌≡◌, ℕ, suc, ◌+◌, ◌-◌, ◌<◌, ◌≤◌, List, [], ◌∷◌, ◌++◌, length, take}
use Rattle.std.proofs.Common.{drop, get_or, slice_get, refl, sym, ap, ◌∙◌, subst, arith}
use Rattle.std.proofs.Common.{append_assoc}
use Rattle.std.proofs.lemmas.List.{append-nil, length-take, take-append-drop}
use Rattle.std.proofs.lemmas.Option.{slice_get_read}
use Rattle.circle_challenger.specs.Step.{Step}
use Rattle.circle_challenger.specs.Due.{HasPlayed}
use Rattle.circle_transcript.specs.Shape.{round_steps, rounds_steps}
use Rattle.circle_transcript.specs.declared.transcript.CircleTranscript.{CircleTranscript}
use Rattle.circle_transcript.specs.declared.transcript.Numbers.{Numbers}
use Rattle.circle_transcript.specs.Numbers.{indices_steps}
use Rattle.circle_transcript.specs.Runs.{NonePasses, HasStuckRound}
use Rattle.circle_transcript.specs.Transcript.{IsSame}
use Rattle.circle_transcript.proofs.Playing.{take_read}
use Rattle.circle_challenger.specs.Moves.{RunMoves}
use Rattle.circle_commit.specs.declared.params.PowPhase.{PowPhase}
use Rattle.circle_transcript.specs.Draw.{after_rounds, rounds_pass, and_then, commit_round}
use Rattle.circle_transcript.specs.Draw.{play_rounds}

-- lists beside lists, one after another
pub zip-append : {A B : Type 0} (us cs : List A) (vs ds : List B) → length us ≡ length vs →
    zip (us ++ cs) (vs ++ ds) ≡ zip us vs ++ zip cs ds
zip-append [] cs [] ds same = refl
zip-append [] cs (b ∷ vs) ds same = absurd (omega arith)
zip-append (a ∷ us) cs [] ds same = absurd (omega arith)
zip-append (a ∷ us) cs (b ∷ vs) ds same =
    ap (λ v. (a, b) ∷ v) (zip-append us cs vs ds (omega arith))

-- a list beside a shorter one is its front beside that
pub zip_front : {A B : Type 0} (us : List A) (vs : List B) → length vs ≤ length us →
    zip us vs ≡ zip (take (length vs) us) vs
zip_front [] [] few = refl
zip_front [] (b ∷ vs) few = absurd (omega arith)
zip_front (a ∷ us) [] few = refl
zip_front (a ∷ us) (b ∷ vs) few = ap (λ v. (a, b) ∷ v) (zip_front us vs (omega arith))

module _ {C S F E Com : Type 0} (r : RunMoves C S F E Com) (bits : ℕ) where
  -- challenges before others
  abbrev before : List F → List (List F) × S → Result (List (List F) × S) PowPhase
  before y rest = Ok (y ∷ rest.0, rest.1)

  abbrev joined : List (List F) → List (List F) × S → Result (List (List F) × S) PowPhase
  joined ys rest = Ok (ys ++ rest.0, rest.1)

  -- rounds, and what follows them
  abbrev then_rounds : List (Com × F) → Result (List (List F) × S) PowPhase
      → Result (List (List F) × S) PowPhase
  then_rounds vs t = and_then t (λ a. and_then (play_rounds r bits a.1 vs) (joined a.0))

  after_none : (t : Result (List (List F) × S) PowPhase) → t ≡ and_then t (joined [])
  after_none (Ok a) = refl
  after_none (Err phase) = refl

  after_inner : (y : List F) (ys : List (List F)) (t : Result (List (List F) × S) PowPhase) →
      and_then (and_then t (joined ys)) (before y) ≡ and_then t (joined (y ∷ ys))
  after_inner y ys (Ok a) = refl
  after_inner y ys (Err phase) = refl

  after_step : (y : List F) (t : Result (List (List F) × S) PowPhase) (vs : List (Com × F)) →
      and_then (then_rounds vs t) (before y) ≡ then_rounds vs (and_then t (before y))
  after_step y (Ok a) vs = after_inner y a.0 (play_rounds r bits a.1 vs)
  after_step y (Err phase) vs = refl

  after_first : (t : Result (List F × S) PowPhase) (us vs : List (Com × F)) →
      ((s : S) → play_rounds r bits s (us ++ vs) ≡ then_rounds vs (play_rounds r bits s us)) →
      and_then t (λ first. and_then (play_rounds r bits first.1 (us ++ vs)) (before first.0))
      ≡ then_rounds vs
      (and_then t (λ first. and_then (play_rounds r bits first.1 us) (before first.0)))
  after_first (Ok a) us vs rest =
      ap (λ t. and_then t (before a.0)) (rest a.1) ∙ after_step a.0 (play_rounds r bits a.1 us) vs
  after_first (Err phase) us vs rest = refl

  rounds-append : (s : S) (us vs : List (Com × F)) →
      play_rounds r bits s (us ++ vs) ≡ then_rounds vs (play_rounds r bits s us)
  unfolding play_rounds
  rounds-append s [] vs = after_none (play_rounds r bits s vs)
  rounds-append s (a ∷ us) vs =
      after_first (commit_round r bits s a.0 a.1) us vs (λ t. rounds-append t us vs)

  -- one more round, at a difficulty that is the same
  module _ (begun now : S) (rounds : List (Com × F)) (ys : List (List F)) (x : Com × F) (b : ℕ)
      (same : b ≡ bits) (so_far : play_rounds r bits begun rounds ≡ Ok (ys, now)) where
    pub rounds_more : (next : List (Com × F)) (zs : List (List F)) (y : List F) (after : S) →
        next ≡ rounds ++ x ∷ [] → commit_round r b now x.0 x.1 ≡ Ok (y, after) → zs ≡ ys ++ y ∷ []
        → play_rounds r bits begun next ≡ Ok (zs, after)
    unfolding play_rounds
    rounds_more next zs y after more drawn pushed =
        ap (play_rounds r bits begun) more ∙ rounds-append begun rounds (x ∷ [])
        ∙ ap (then_rounds (x ∷ [])) so_far
        ∙ ap (λ t. and_then (and_then t (λ first. Ok (first.0 ∷ [], first.1))) (joined ys))
        (subst (λ k. commit_round r k now x.0 x.1 ≡ Ok (y, after)) same drawn)
        ∙ ap (λ v. Ok (v, after)) (sym pushed)

    -- where it fails all the rounds do
    pub rounds_missed : (all rest : List (Com × F)) (phase : PowPhase) →
        all ≡ (rounds ++ x ∷ []) ++ rest → commit_round r b now x.0 x.1 ≡ Err phase →
        play_rounds r bits begun all ≡ Err phase
    unfolding play_rounds
    rounds_missed all rest phase split missed =
        ap (play_rounds r bits begun) (split ∙ append_assoc rounds (x ∷ []) rest)
        ∙ rounds-append begun rounds (x ∷ rest) ∙ ap (then_rounds (x ∷ rest)) so_far
        ∙ ap
        (λ t. and_then
        (and_then t (λ first. and_then (play_rounds r bits first.1 rest) (before first.0)))
        (joined ys)) (subst (λ k. commit_round r k now x.0 x.1 ≡ Err phase) same missed)

-- one more value of two lists of one length
pub zip_more : {A B : Type 0} (us : List A) (vs : List B) (i : ℕ) (a : A) (b : B) → i < length us →
    length vs ≡ length us → a ≡ get_or us i a → b ≡ get_or vs i b
    → zip (take (i + 1) us) (take (i + 1) vs) ≡ zip (take i us) (take i vs) ++ (a, b) ∷ []
zip_more us vs i a b within same is_a is_b =
    let within_b : i < length vs = omega arith in
    let counted : length (take i us) ≡ length (take i vs) = length-take i us ∙ omega arith
    ∙ sym (length-take i vs) in
    ap (λ v. zip v (take (i + 1) vs)) (take_read us i a within is_a)
    ∙ ap (zip (take i us ++ a ∷ [])) (take_read vs i b within_b is_b)
    ∙ zip-append (take i us) (a ∷ []) (take i vs) (b ∷ []) counted

-- the values up to an index, and the others
pub zip_split : {A B : Type 0} (us : List A) (vs : List B) (i : ℕ) → i ≤ length us →
    length vs ≡ length us
    → zip us vs ≡ zip (take i us) (take i vs) ++ zip (drop i us) (drop i vs)
zip_split us vs i within same =
    let counted : length (take i us) ≡ length (take i vs) = length-take i us ∙ omega arith
    ∙ sym (length-take i vs) in
    ap (λ v. zip v vs) (sym (take-append-drop i us))
    ∙ ap (zip (take i us ++ drop i us)) (sym (take-append-drop i vs))
    ∙ zip-append (take i us) (drop i us) (take i vs) (drop i vs) counted

-- the first of the rounds that are due
rounds_first : (degree bits n i : ℕ) (rest : List Step) → i < n → rounds_steps degree bits (n - i)
    ++ rest ≡ round_steps degree bits ++ (rounds_steps degree bits (n - (i + 1)) ++ rest)
unfolding rounds_steps
rounds_first degree bits n i rest within =
    let e : n - i ≡ suc (n - (i + 1)) = omega arith in
    ap (λ k. rounds_steps degree bits k ++ rest) e
    ∙ append_assoc (round_steps degree bits) (rounds_steps degree bits (n - (i + 1))) rest

-- the same at a difficulty that is the same
pub next_round : (degree bits b n i : ℕ) (rest left : List Step) → b ≡ bits → i < n →
    left ≡ rounds_steps degree bits (n - i) ++ rest
    → left ≡ round_steps degree b ++ (rounds_steps degree bits (n - (i + 1)) ++ rest)
next_round degree bits b n i rest left same within is =
    is ∙ rounds_first degree bits n i rest within
    ∙ ap (λ k. round_steps degree k ++ (rounds_steps degree bits (n - (i + 1)) ++ rest)) (sym same)

-- all rounds are due
pub rounds_all : (degree bits n : ℕ) (rest left : List Step) → left ≡ rounds_steps degree bits n
    ++ rest → left ≡ rounds_steps degree bits (n - 0) ++ rest
rounds_all degree bits n rest left is =
    let e : n - 0 ≡ n = omega arith in
    is ∙ ap (λ k. rounds_steps degree bits k ++ rest) (sym e)

-- no rounds are due
pub rounds_none : (degree bits n i : ℕ) (rest : List Step) → n ≤ i →
    rounds_steps degree bits (n - i) ++ rest ≡ rest
unfolding rounds_steps
rounds_none degree bits n i rest within =
    let e : n - i ≡ 0 = omega arith in
    ap (λ k. rounds_steps degree bits k ++ rest) e

-- one more value beside one that is pushed
pub zip_pushed : {A B : Type 0} (us : List A) (vs ws : List B) (i : ℕ) (a : A) (b : B) →
    i < length us → length vs ≡ i → a ≡ get_or us i a → ws ≡ vs ++ b ∷ []
    → zip (take (i + 1) us) ws ≡ zip (take i us) vs ++ (a, b) ∷ []
zip_pushed us vs ws i a b within same is_a pushed =
    let counted : length (take i us) ≡ length vs = length-take i us ∙ omega arith in
    ap (λ v. zip v ws) (take_read us i a within is_a)
    ∙ ap (zip (take i us ++ a ∷ [])) pushed
    ∙ zip-append (take i us) (a ∷ []) vs (b ∷ []) counted

-- where a run is stuck after rounds that were played
pub stuck_here : {C S F E Com : Type 0} (r : RunMoves C S F E Com) (bits : ℕ) (begun now : S)
    (commitments : List Com) (witnesses : List F) (commitment : Com) (i b : ℕ)
    → length witnesses ≡ i → i < length commitments → commitment ≡ get_or commitments i commitment →
    b ≡ bits
    → rounds_pass r bits begun (zip (take i commitments) witnesses) ≡ true →
    now ≡ after_rounds r bits begun (zip (take i commitments) witnesses)
    → NonePasses r.base (r.after_commitment now commitment) b →
    HasStuckRound r bits begun commitments
stuck_here r bits begun now commitments witnesses commitment i b count within
    is same passed state none =
    let few : length witnesses ≤ length commitments = omega arith in
    let front : zip (take i commitments) witnesses ≡ zip commitments witnesses =
    ap (λ k. zip (take k commitments) witnesses) (sym count)
    ∙ sym (zip_front commitments witnesses few) in
    record {
      witnesses = witnesses;
      commitment = commitment;
      next = ap (slice_get commitments) count ∙ slice_get_read commitments (length commitments) i
          commitment refl within is;
      passed = subst (λ v. rounds_pass r bits begun v ≡ true) front passed;
      none =
          subst
          (λ k. NonePasses r.base
          (r.after_commitment (after_rounds r bits begun (zip commitments witnesses)) commitment) k)
          same
          (subst (λ t. NonePasses r.base (r.after_commitment t commitment) b)
          (state ∙ ap (after_rounds r bits begun) front) none);
    }

-- after the rounds the steps of the indices are due
pub indices_due : (degree rounds : ℕ) (n m k : Numbers) (due left : List Step) → m ≡ n → k ≡ m →
    due ≡ rounds_steps degree n.commit_pow_bits rounds ++ indices_steps degree n
    → HasPlayed (rounds_steps degree m.commit_pow_bits rounds) due left →
    left ≡ indices_steps degree k ++ []
indices_due degree rounds n m k due left same same_too is played =
    played (indices_steps degree n)
    (is
    ∙ ap (λ (v : Numbers). rounds_steps degree v.commit_pow_bits rounds
    ++ indices_steps degree n) (sym same))
    ∙ ap (indices_steps degree) (sym (same_too ∙ same)) ∙ sym (append-nil (indices_steps degree k))

-- what two calls after one another leave the same
pub same_on : {C F E Com Side S : Type 0} {g d : _} {t u v : CircleTranscript C F E Com Side S g d}
    → IsSame t u → IsSame u v → IsSame t v
same_on one other = record {
  challenger = other.challenger ∙ one.challenger;
  shape = other.shape ∙ one.shape;
}
