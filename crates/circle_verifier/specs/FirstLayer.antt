-- Of one height that is claimed: the queries' twiddles, the queries' pairs, and what these fold
-- into.
use Rattle.std.specs.Prelude.{ℕ, ◌-◌, ◌^◌, List, [], ◌∷◌, ◌++◌, map}
use Rattle.circle_commit.specs.declared.matrix.Dimensions.{Dimensions}
use Rattle.circle_commit.specs.DotProduct.{pairwise}
use Rattle.circle_folding.specs.Chain.{first_layer_twiddle}
use Rattle.circle_verifier.specs.declared.run.OpenedRun.{OpenedRun}
use Rattle.circle_relation.specs.Accepts.{at_queries, first_pair, folded}
use Rattle.circle_verifier.specs.OfRun.{fields_of, run_of}

module _ {F E I W IC ID IP IE WC WD WP WE : Type 0} {g ext over inputs ic ip ie words wc wp we : _}
    (o : OpenedRun F E I W IC ID IP IE WC WD WP WE g ext over inputs ic ip ie words wc wp we)
    (h : ℕ) where
  abbrev pub twiddles_of : List F
  twiddles_of =
      let k = fields_of o in
      map (first_layer_twiddle k.field k.gen h o.log_max_height) o.indices.now

  abbrev pub pairs_of : List (List E)
  pairs_of =
      let k = fields_of o in
      let r = run_of o in
      at_queries k o.params.now r (λ j q. first_pair k o.params.now r j q h)

  abbrev pub folded_word : ℕ × List E
  folded_word =
      let k = fields_of o in
      let r = run_of o in
      (h, at_queries k o.params.now r (λ j q. folded k o.params.now r j q h))

-- the shape of a codeword of 2^h entries, by pairs
abbrev pub pair_shape : ℕ → Dimensions
pair_shape h = record { width = 2; height = 2 ^ (h - 1) }

-- the rows of each query with one pair more
abbrev pub with_pairs : {E : Type 0} → List (List (List E)) → List (List E) → List (List (List E))
with_pairs rows pairs = pairwise (λ row pair. row ++ pair ∷ []) rows pairs
