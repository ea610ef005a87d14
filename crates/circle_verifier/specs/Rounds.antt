-- A run between two rounds, as contracts see it, and the twiddles of all rounds.
use Rattle.std.specs.Prelude.{ℕ, ◌<◌, List, length, map, zip, slice_index_or}
use Rattle.std.specs.List.{filter, flat_map, range_with_len}
use Rattle.circle_field.specs.Field.{FieldOps}
use Rattle.circle_field.specs.Circle.{Coordinates}
use Rattle.circle_folding.specs.Fold.{fold_pair}
use Rattle.circle_folding.specs.Chain.{round_twiddle, round_twiddles}
use Rattle.circle_relation.specs.Statement.{Opened}
use Rattle.circle_verifier.specs.declared.run.OpenedRun.{OpenedRun}
use Rattle.circle_relation.specs.Accepts.{top, is_claimed, at_queries}
use Rattle.circle_relation.specs.Accepts.{folded, sibling_in, round_value, round_pair}
use Rattle.circle_relation.specs.Accepts.{RoundAuthenticates}
use Rattle.circle_verifier.specs.OfRun.{fields_of, run_of}

-- the queries' twiddles of `count` rounds from round n on, one round after another, for queries
-- below 2^h, and their inverses
module _ {F : Type 0} (k : FieldOps F) (gen : ℕ → Coordinates F) (h : ℕ) (queries : List ℕ) where
  abbrev pub twiddles_from : ℕ → ℕ → List F
  twiddles_from n count = flat_map (λ r. round_twiddles k gen h r queries) (range_with_len n count)

  abbrev pub inverses_from : ℕ → ℕ → List F
  inverses_from n count = map k.inv (twiddles_from n count)

module _ {F E I W IC ID IP IE WC WD WP WE : Type 0} {g ext over inputs ic ip ie words wc wp we : _}
    (o : OpenedRun F E I W IC ID IP IE WC WD WP WE g ext over inputs ic ip ie words wc wp we) where
  -- the queries' values in the codeword of a round, their siblings there, and the folds of their
  -- pairs
  abbrev pub values_in : ℕ → List E
  values_in n =
      let k = fields_of o in
      let r = run_of o in
      at_queries k o.params.now r (λ j q. round_value k o.params.now r j q n)

  abbrev pub siblings_in : ℕ → List E
  siblings_in n =
      let k = fields_of o in
      let r = run_of o in
      at_queries k o.params.now r (λ j q. sibling_in k o.params.now r j q n)

  abbrev pub folds_in : ℕ → List E
  folds_in n =
      let k = fields_of o in
      let r = run_of o in
      let beta = slice_index_or r.drawn.betas n k.extension.zero in
      let twiddle = λ (q : ℕ). k.embed (round_twiddle k.field k.gen (top k o.params.now r) n q) in
      let pair = λ (j q : ℕ). round_pair k o.params.now r j q n in
      at_queries k o.params.now r (λ j q. fold_pair k.extension beta (twiddle q) (pair j q))

  -- for each claimed height below 2^b the queries' values that join there
  abbrev pub words_below : ℕ → List (ℕ × List E)
  words_below b =
      let k = fields_of o in
      let r = run_of o in
      map (λ h. (h, at_queries k o.params.now r (λ j q. folded k o.params.now r j q h)))
      (filter (is_claimed k o.params.now r) (range_with_len 0 b))

  -- the pairs of a round authenticate
  abbrev pub HasRound : ℕ → Type 0
  HasRound n =
      let k = fields_of o in
      let r = run_of o in
      let opened = zip r.proof.commitments r.proof.rounds_opened in
      let rounds = zip (range_with_len 0 (length opened)) opened in
      (d : ℕ × (WC × Opened (List E) WP)) → n < length rounds →
      RoundAuthenticates k o.params.now r (words.authenticates o.params.now.mmcs)
      (slice_index_or rounds n d)
