use Rattle.std.proofs.Common.{◌-◌, ◌∙◌, ℕ, List, ap, subst}
use Rattle.circle_commit.specs.Mmcs.{max_height, rows_at, opened_rows, IsShownOf}
use Rattle.circle_commit.specs.DotProduct.{pairwise}
use Rattle.circle_codewords.specs.Openings.{places_of, siblings_at}
use Rattle.circle_prover.proofs.OpenedPairs.{queries-below, places-left, powers-of, opened-counts}
use Rattle.circle_prover.proofs.OpenedPairs.{opened-pairs, pairwise-made}
use Rattle.circle_prover.proofs.openings.open_siblings.Goals as goal

pub open_rows-requires-clause-powers : goal.open_rows-requires-clause-powers
open_rows-requires-clause-powers g c =
    powers-of c.args.heights.now (g.M.Mmcs.matrices c.args.kept.now) c.requires.shapes

pub open_rows-requires-clause-below : goal.open_rows-requires-clause-below
open_rows-requires-clause-below g c =
    queries-below c.args.log_max_height c.args.bits (max_height (g.M.Mmcs.matrices c.args.kept.now))
    c.args.indices.now c.requires.bits c.requires.greatest c.requires.below

pub all_siblings-requires-clause-count : goal.all_siblings-requires-clause-count
all_siblings-requires-clause-count g c =
    let ms = g.M.Mmcs.matrices c.args.kept.now in
    let queries = c.args.indices.now in
    let bits = c.args.bits in
    let left = c.args.log_max_height - bits in
    let low = places-left c.args.log_max_height bits queries c.requires.bits c.requires.below in
    opened-counts c.args.heights.now ms c.requires.shapes left c.requires.greatest
    (places_of bits queries) low c.deref.result.now
    (ap opened_rows c.deref.ensures.value ∙ c.in_ok-rows.ensures.rows)

pub all_siblings-requires-clause-pairs : goal.all_siblings-requires-clause-pairs
all_siblings-requires-clause-pairs g c =
    let ms = g.M.Mmcs.matrices c.args.kept.now in
    let queries = c.args.indices.now in
    let bits = c.args.bits in
    let left = c.args.log_max_height - bits in
    let low = places-left c.args.log_max_height bits queries c.requires.bits c.requires.below in
    opened-pairs c.args.heights.now ms c.requires.shapes left c.requires.greatest
    (places_of bits queries) low c.deref.result.now
    (ap opened_rows c.deref.ensures.value ∙ c.in_ok-rows.ensures.rows)

pub returns : goal.returns
returns g c =
    let ms = g.M.Mmcs.matrices c.args.kept.now in
    let queries = c.args.indices.now in
    let bits = c.args.bits in
    let places = places_of bits queries in
    let f : ℕ → List (List g.row.EF.Denot) → List g.row.EF.Denot =
    siblings_at g.EF.Operations.ops.zero c.args.log_max_height c.args.heights.now in
    let opened = c.in_ok-rows.ensures in
    record {
      entries = c.in_ok-siblings.ensures
          ∙ ap (pairwise f queries) (ap opened_rows c.deref.ensures.value ∙ opened.rows)
          ∙ pairwise-made f (rows_at ms) bits queries;
      shown =
          subst
          (λ (rs : List (List (List g.row.EF.Denot))). IsShownOf (g.M.Mmcs.commits c.args.mmcs.now)
          (g.M.Mmcs.authenticates c.args.mmcs.now) ms places rs c.in_ok-rows.proof) opened.rows
          opened.shown;
    }
